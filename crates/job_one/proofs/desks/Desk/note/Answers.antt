use Rattle.std.proofs.Common.{arith, refl}
use Rattle.std.proofs.lemmas.Grind.{common_steps}
use Rattle.job_one.proofs.desks.Desk.note.Goals as goal

pub invariant_of-self : goal.invariant_of-self
invariant_of-self c = c.add_event.ensures.own c.self.inside.number refl c.self.invariant

pub returns-clause-ok : goal.returns-clause-ok
returns-clause-ok c = grind (arith, common_steps) steps 1000000
