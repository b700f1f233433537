use Rattle.std.proofs.Common.{◌≡◌, ap}
use Rattle.port_cell.specs.Entries.{generation_of, AddsBy}
use Rattle.tty_port.specs.Histories.{history_in, seat_of}
use Rattle.tty_port.specs.PhaseEvents.{maker_of}
use Rattle.tty_port.proofs.Attempting.{denied_same, denied_full}
use Rattle.tty_port.proofs.Turning.{adds_by, adds_nothing}
use Rattle.tty_port.proofs.Entering.{event_enters, event_leaves, event_can_happen}
use Rattle.tty_port.proofs.Outcomes.{each_err, on_ok, either_on}
use Rattle.tty_port.proofs.kept_port.KeptPort.happen.Goals as goal

pub happen-requires : goal.happen-requires
happen-requires c = rw c.deref_mut-port.ensures.value (event_can_happen c.args.self.now.callers
    c.args.self.now.port.value c.args.event (rw (← c.deref_mut-port.ensures.value) c.known.ensures.port) c.requires)

pub returns-clause-ok : goal.returns-clause-ok
returns-clause-ok c =
    on_ok c.happen.result _ _
    (λ h. event_enters c.args.self.now.callers c.args.self.now.port.value c.happen.new.port c.args.event
    (rw (← c.deref_mut-port.ensures.value) c.known.ensures.port) h)
    (rw (← c.deref_mut-port.ensures.value) c.happen.ensures.ok)

pub returns-clause-full : goal.returns-clause-full
returns-clause-full c =
    each_err c.happen.result _ _
    (λ d h. denied_full c.args.self.now.callers d c.args.self.now.port.value c.happen.new.port h)
    (rw (← c.deref_mut-port.ensures.value) c.happen.ensures.err)

pub returns-clause-by : goal.returns-clause-by
returns-clause-by c =
    let m = c.args.self.now.callers in
    let v = c.args.self.now.port.value in
    let w = c.happen.new.port in
    let n = seat_of m (maker_of c.args.event) in
    either_on c.happen.result _ _ (AddsBy n (history_in m v) (history_in m w))
    (λ h. adds_by n _ (history_in m v) (history_in m w) (λ x is. is.seat)
    (event_enters m v w c.args.event (rw (← c.deref_mut-port.ensures.value) c.known.ensures.port) h))
    (λ d h. adds_nothing n (history_in m v) (history_in m w) (denied_same m d v w h))
    (rw (← c.deref_mut-port.ensures.value) c.happen.ensures.ok)
    (rw (← c.deref_mut-port.ensures.value) c.happen.ensures.err)

pub returns-clause-generation : goal.returns-clause-generation
returns-clause-generation c =
    let m = c.args.self.now.callers in
    let v = c.args.self.now.port.value in
    let w = c.happen.new.port in
    either_on c.happen.result _ _ (generation_of (history_in m w) ≡ generation_of (history_in m v))
    (λ h. event_leaves m v w c.args.event (rw (← c.deref_mut-port.ensures.value) c.known.ensures.port) h)
    (λ d h. ap generation_of (denied_same m d v w h))
    (rw (← c.deref_mut-port.ensures.value) c.happen.ensures.ok)
    (rw (← c.deref_mut-port.ensures.value) c.happen.ensures.err)
