use Rattle.passed_calls.proofs.Names.{names_stay}
use Rattle.passed_calls.proofs.numbers_stay.Goals as goal

pub returns : goal.returns
returns c = names_stay
