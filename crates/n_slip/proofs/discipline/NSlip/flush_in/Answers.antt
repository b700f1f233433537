use Rattle.std.proofs.Common.{rules}
use Rattle.n_slip.specs.Discipline.{Slip}
use Rattle.n_slip.specs.History.{HasSeen}
use Rattle.n_slip.proofs.Happenings.{HasSeen-flush}
use Rattle.n_slip.proofs.discipline.NSlip.flush_in.Goals as goal

pub returns-clause-seen : goal.returns-clause-seen
returns-clause-seen c events h =
    let slip : Slip = record { piece = c.self.inside.decoder.piece; packets = c.self.inside.queue } in
    let seen : HasSeen slip events = rw c.self.view_is h in
    rw c.clear.ensures (HasSeen-flush slip events seen)

pub returns-clause-after : goal.returns-clause-after
returns-clause-after c = search rules steps 100000
