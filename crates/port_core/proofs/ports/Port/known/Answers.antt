use Rattle.std.proofs.Common.{◌≡◌, ◌+◌, ◌≤◌, IsTrue, length, subst}
use Rattle.tty_terminal.specs.Terminals.{caller_at}
use Rattle.tty_terminal.specs.Standing.{standing_of, standing_in, at_first}
use Rattle.tty_terminal.specs.Marks.{marks_of, marks_in, no_marks}
use Rattle.tty_terminal.proofs.StandingLaws.{run_stands}
use Rattle.tty_terminal.proofs.MarkLaws.{run_marks}
use Rattle.port_core.specs.Ports.{PortValue, call_in}
use Rattle.port_core.specs.Inside.{value_of}
use Rattle.port_core.proofs.GoingOn.{port_taken, port_capacity, port_within, port_in_line}
use Rattle.port_core.proofs.ports.Port.known.Goals as goal

pub returns-clause-callers : goal.returns-clause-callers
returns-clause-callers c = λ n.
    let v = value_of c.self.inside in
    subst (λ (w : PortValue). standing_of (caller_at w.terminal n) ≡ standing_in n w.journal at_first) c.self.view_is
    (run_stands (call_in v.kept) v.counts v.flip.capacity v.journal v.terminal c.self.invariant.port.run n)

pub returns-clause-marks : goal.returns-clause-marks
returns-clause-marks c =
    let v = value_of c.self.inside in
    subst (λ (w : PortValue). marks_of w.terminal ≡ marks_in w.journal no_marks) c.self.view_is
    (run_marks (call_in v.kept) v.counts v.flip.capacity v.journal v.terminal c.self.invariant.port.run)

pub returns-clause-taken : goal.returns-clause-taken
returns-clause-taken c = subst (λ (w : PortValue). w.terminal.taken ≡ length w.flip.taken) c.self.view_is
    (port_taken (value_of c.self.inside) c.self.invariant.port)

pub returns-clause-capacity : goal.returns-clause-capacity
returns-clause-capacity c = subst (λ (w : PortValue). w.terminal.capacity ≡ w.flip.capacity) c.self.view_is
    (port_capacity (value_of c.self.inside) c.self.invariant.port)

pub returns-clause-within : goal.returns-clause-within
returns-clause-within c = subst (λ (w : PortValue). w.terminal.sent ≤ length w.flip.taken + w.flip.capacity)
    c.self.view_is (port_within (value_of c.self.inside) c.self.invariant.port)

pub returns-clause-line : goal.returns-clause-line
returns-clause-line c = subst (λ (w : PortValue). IsTrue w.terminal.line_over → length w.flip.taken ≤ w.terminal.sent)
    c.self.view_is (port_in_line (value_of c.self.inside) c.self.invariant.port)
