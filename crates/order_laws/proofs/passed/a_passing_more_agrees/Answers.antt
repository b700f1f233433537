use Rattle.order_laws.proofs.PassedGrowing.{grew, agrees_then}
use Rattle.order_laws.proofs.passed.a_passing_more_agrees.Goals as goal

pub returns : goal.returns
returns c = record { grew = grew; agrees = agrees_then }
