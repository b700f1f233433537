use Rattle.std.proofs.Common.{◌≡◌, ◌+◌, ap}
use Rattle.port_cell.specs.Entries.{generation_of, AddsBy}
use Rattle.tty_port.specs.Histories.{history_in}
use Rattle.tty_port.proofs.Attempting.{denied_same, denied_full}
use Rattle.tty_port.proofs.Turning.{adds_by, adds_nothing}
use Rattle.tty_port.proofs.Entering.{line_ends, line_ends_same, line_open, line_sent}
use Rattle.tty_port.proofs.Outcomes.{each_err, on_ok, either_on}
use Rattle.tty_port.proofs.kept_port.KeptPort.line_end.Goals as goal

pub line_end-requires-clause-not_over : goal.line_end-requires-clause-not_over
line_end-requires-clause-not_over c = rw c.deref_mut-port.ensures.value (line_open c.args.self.now.callers
    c.args.self.now.port.value (rw (← c.deref_mut-port.ensures.value) c.known.ensures.port)
    c.requires.not_over)

pub line_end-requires-clause-sent : goal.line_end-requires-clause-sent
line_end-requires-clause-sent c = rw c.deref_mut-port.ensures.value (line_sent c.args.self.now.callers _
    c.args.self.now.port.value (rw (← c.deref_mut-port.ensures.value) c.known.ensures.port) c.requires.sent)

pub returns-clause-ok : goal.returns-clause-ok
returns-clause-ok c =
    on_ok c.line_end.result _ _
    (λ h. line_ends c.args.self.now.callers c.args.self.now.port.value c.line_end.new.self c.args.putter.now
    c.line_end.new.putter (rw (← c.deref_mut-port.ensures.value) c.known.ensures.port) h)
    (rw (← c.deref_mut-port.ensures.value) c.line_end.ensures.ok)

pub returns-clause-full : goal.returns-clause-full
returns-clause-full c =
    each_err c.line_end.result _ _
    (λ d h. denied_full c.args.self.now.callers d c.args.self.now.port.value c.line_end.new.self h)
    (rw (← c.deref_mut-port.ensures.value) c.line_end.ensures.err)

pub returns-clause-by : goal.returns-clause-by
returns-clause-by c =
    let m = c.args.self.now.callers in
    let v = c.args.self.now.port.value in
    let w = c.line_end.new.self in
    let n = m + 1 in
    either_on c.line_end.result _ _ (AddsBy n (history_in m v) (history_in m w))
    (λ h. adds_by n _ (history_in m v) (history_in m w) (λ x is. is.entry.seat)
    (line_ends m v w c.args.putter.now c.line_end.new.putter
    (rw (← c.deref_mut-port.ensures.value) c.known.ensures.port) h))
    (λ d h. adds_nothing n (history_in m v) (history_in m w) (denied_same m d v w h))
    (rw (← c.deref_mut-port.ensures.value) c.line_end.ensures.ok)
    (rw (← c.deref_mut-port.ensures.value) c.line_end.ensures.err)

pub returns-clause-generation : goal.returns-clause-generation
returns-clause-generation c =
    let m = c.args.self.now.callers in
    let v = c.args.self.now.port.value in
    let w = c.line_end.new.self in
    either_on c.line_end.result _ _ (generation_of (history_in m w) ≡ generation_of (history_in m v))
    (λ h. line_ends_same m v w c.args.putter.now c.line_end.new.putter
    (rw (← c.deref_mut-port.ensures.value) c.known.ensures.port) h)
    (λ d h. ap generation_of (denied_same m d v w h))
    (rw (← c.deref_mut-port.ensures.value) c.line_end.ensures.ok)
    (rw (← c.deref_mut-port.ensures.value) c.line_end.ensures.err)
