use Rattle.std.proofs.Common.{refl}
use Rattle.modem_one.proofs.desks.Desk.note.Goals as goal

pub invariant_of-self : goal.invariant_of-self
invariant_of-self c = c.add_event.ensures.own c.self.inside.number refl c.self.invariant
