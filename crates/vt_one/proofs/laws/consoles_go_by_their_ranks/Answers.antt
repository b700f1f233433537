use Rattle.vt_one.proofs.Ranking.{console_turns}
use Rattle.vt_one.proofs.laws.consoles_go_by_their_ranks.Goals as goal

pub returns : goal.returns
returns c = console_turns
