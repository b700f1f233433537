use Rattle.std.proofs.Common.{rules}
use Rattle.vt_print.proofs.consoles.is_key_to.Goals as goal

pub returns-in-Key : goal.returns-in-Key
returns-in-Key c = search rules steps 100000
