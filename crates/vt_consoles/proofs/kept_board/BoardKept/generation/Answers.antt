use Rattle.std.proofs.Common.{sym}
use Rattle.vt_consoles.proofs.RunLemmas.{no_generation}
use Rattle.vt_consoles.proofs.kept_board.BoardKept.generation.Goals as goal

pub returns : goal.returns
returns c = sym (no_generation c.args.self.now.entries)
