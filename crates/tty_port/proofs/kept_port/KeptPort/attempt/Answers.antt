use Rattle.std.proofs.Common.{ap, arith}
use Rattle.tty_calls.specs.Plain.{call_of, changes}
use Rattle.port_core.specs.Ports.{IsPort}
use Rattle.port_core.specs.Attempts.{tried_of, Raises}
use Rattle.port_cell.specs.Entries.{generation_of, AddsBy}
use Rattle.tty_port.specs.Histories.{history_in}
use Rattle.tty_port.proofs.Histories.{port_generation, is_history}
use Rattle.tty_port.proofs.Attempting.{is_ready, tries, raises_of, denied_same, denied_full}
use Rattle.tty_port.proofs.Turning.{adds_nothing}
use Rattle.tty_port.proofs.Outcomes.{each_ok, each_err, either_way, either_on, tries_by, raises_none}
use Rattle.tty_port.proofs.kept_port.KeptPort.attempt.Goals as goal

pub attempt-tried-requires : goal.attempt-tried-requires
attempt-tried-requires c =
    rw c.deref_mut-port.ensures.value (is_ready c.args.self.now.callers c.args.self.now.port.value c.args.caller
    c.args.step (call_of c.args.call.now) (rw (← c.deref_mut-port.ensures.value) c.known.ensures.port)
    c.requires.known c.requires.number c.requires.bytes c.requires.ready)

pub returns-clause-tried : goal.returns-clause-tried
returns-clause-tried c =
    let m = c.args.self.now.callers in
    let v = c.args.self.now.port.value in
    let call = call_of c.args.call.now in
    let p : IsPort v = rw (← c.deref_mut-port.ensures.value) c.known.ensures.port in
    let r = is_ready m v c.args.caller c.args.step call p c.requires.known
    c.requires.number c.requires.bytes c.requires.ready in
    each_ok c.attempt-tried.result _ _
    (λ x h. tries m v c.attempt-tried.new.self c.args.caller c.args.step call (tried_of x) p r c.requires.ready h)
    (rw (← c.deref_mut-port.ensures.value) c.attempt-tried.ensures.tried)

pub returns-clause-full : goal.returns-clause-full
returns-clause-full c =
    each_err c.attempt-tried.result _ _
    (λ d h. denied_full c.args.self.now.callers d c.args.self.now.port.value c.attempt-tried.new.self h)
    (rw (← c.deref_mut-port.ensures.value) c.attempt-tried.ensures.err)

pub returns-clause-by : goal.returns-clause-by
returns-clause-by c =
    let m = c.args.self.now.callers in
    let v = c.args.self.now.port.value in
    let w = c.attempt-tried.new.self in
    let call = call_of c.args.call.now in
    let p : IsPort v = rw (← c.deref_mut-port.ensures.value) c.known.ensures.port in
    let r = is_ready m v c.args.caller c.args.step call p c.requires.known
    c.requires.number c.requires.bytes c.requires.ready in
    either_way c.attempt-tried.result _ _ (AddsBy c.args.caller (history_in m v) (history_in m w))
    (λ x h. tries_by c.args.caller c.args.step call (history_in m v) (history_in m w) (tried_of x)
    (tries m v w c.args.caller c.args.step call (tried_of x) p r c.requires.ready h))
    (λ d h. adds_nothing c.args.caller (history_in m v) (history_in m w) (denied_same m d v w h))
    (rw (← c.deref_mut-port.ensures.value) c.attempt-tried.ensures.tried)
    (rw (← c.deref_mut-port.ensures.value) c.attempt-tried.ensures.err)

pub returns-clause-generation : goal.returns-clause-generation
returns-clause-generation c =
    let m = c.args.self.now.callers in
    let v = c.args.self.now.port.value in
    let w = c.attempt-tried.new.self in
    let b = changes (call_of c.args.call.now) in
    either_on c.attempt-tried.result _ _ (Raises b (generation_of (history_in m v)) (generation_of (history_in m w)))
    (λ h. raises_of m b v w (rw (← c.deref_mut-port.ensures.value) c.known.ensures.port)
    c.known-2.ensures.port h)
    (λ d h. raises_none b _ _ (ap generation_of (denied_same m d v w h)))
    (rw (← c.deref_mut-port.ensures.value) c.attempt-tried.ensures.generation)
    (rw (← c.deref_mut-port.ensures.value) c.attempt-tried.ensures.err)

pub returns-clause-few : goal.returns-clause-few
returns-clause-few c =
    let same = port_generation c.args.self.now.callers c.attempt-tried.new.self c.known-2.ensures.port in
    omega (arith, c.generation.ensures.value, c.generation.ensures.few)

pub returns-clause-history : goal.returns-clause-history
returns-clause-history c = is_history c.args.self.now.callers c.attempt-tried.new.self c.known-2.ensures.port
