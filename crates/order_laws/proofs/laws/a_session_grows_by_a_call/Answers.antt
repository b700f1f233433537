use Rattle.order_laws.proofs.Adding.{grew, others_stay}
use Rattle.order_laws.proofs.laws.a_session_grows_by_a_call.Goals as goal

pub returns-clause-grew : goal.returns-clause-grew
returns-clause-grew c = grew

pub returns-clause-others : goal.returns-clause-others
returns-clause-others c p k session later name n h other = others_stay p k session later name n h other
