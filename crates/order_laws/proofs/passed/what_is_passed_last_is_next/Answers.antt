use Rattle.order_laws.proofs.Nexts.{next_begun, next_passed, none_left}
use Rattle.order_laws.proofs.passed.what_is_passed_last_is_next.Goals as goal

pub returns : goal.returns
returns c = record { begun = next_begun; passed = next_passed; none = none_left }
