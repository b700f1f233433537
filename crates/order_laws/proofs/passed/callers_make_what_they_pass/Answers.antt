use Rattle.order_laws.proofs.Made.{made_at_first, made_in_turn, made_by_call, made_same}
use Rattle.order_laws.proofs.passed.callers_make_what_they_pass.Goals as goal

pub returns : goal.returns
returns c = record { first = made_at_first; turn = made_in_turn; call = made_by_call; last = made_same }
