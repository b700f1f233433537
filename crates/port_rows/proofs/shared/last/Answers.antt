use Rattle.std.proofs.Common.{[], subst, zero-add}
use Rattle.tty_port.specs.Shared.{IsHere, AreHere}
use Rattle.tty_port.proofs.Seating.{here_front}
use Rattle.port_rows.proofs.shared.last.Goals as goal

pub returns-clause-seat : goal.returns-clause-seat
returns-clause-seat c =
    let p = c.args.shared.now in
    let seat = c.in-Some.seat in
    let front = here_front p [] 0 c.pop.new.self.items seat
    (subst (λ ss. AreHere p [] 0 ss) c.in-Some.ensures.items c.requires.0) in
    (subst (λ n. IsHere p n seat) (zero-add _) front.1.0, front.1.1)

pub returns-clause-others : goal.returns-clause-others
returns-clause-others c =
    let p = c.args.shared.now in
    (here_front p [] 0 c.pop.new.self.items c.in-Some.seat
    (subst (λ ss. AreHere p [] 0 ss) c.in-Some.ensures.items c.requires.0)).0
