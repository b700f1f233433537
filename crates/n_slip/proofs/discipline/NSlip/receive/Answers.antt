use Rattle.n_slip.proofs.Happenings.{HasSeen-character}
use Rattle.n_slip.proofs.discipline.NSlip.receive.Goals as goal

pub returns-clause-seen : goal.returns-clause-seen
returns-clause-seen c events h = rw c.step.ensures.after (HasSeen-character c.args.self.now events c.args.c h)
