use Rattle.further_asked.proofs.Passing.{asks_no_more}
use Rattle.further_asked.proofs.laws.what_is_passed_asks_no_more.Goals as goal

pub returns : goal.returns
returns c = asks_no_more
