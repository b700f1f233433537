use Rattle.std.proofs.Common.{ℕ, Option, subst}
use Rattle.tty_calls.specs.Plain.{PlainCall}
use Rattle.tty_terminal.specs.Runs.{KnowsMore, AgreesOn, IsRun}
use Rattle.port_core.specs.Ports.{PortValue, call_in}
use Rattle.port_core.specs.Inside.{value_of}
use Rattle.port_core.proofs.GoingOn.{run_of_session, run_of_agreeing}
use Rattle.port_core.proofs.ports.Port.into_journal.Goals as goal

pub returns-clause-run : goal.returns-clause-run
returns-clause-run c =
    subst (λ (w : PortValue).
    (session : ℕ → ℕ → Option PlainCall)
    → KnowsMore (call_in w.kept) session
    → IsRun session w.counts w.flip.capacity w.journal w.terminal) c.self.view_is
    (run_of_session (value_of c.self.inside) c.self.invariant.port)

pub returns-clause-agrees : goal.returns-clause-agrees
returns-clause-agrees c =
    subst (λ (w : PortValue).
    (session : ℕ → ℕ → Option PlainCall)
    → AgreesOn (call_in w.kept) session w.journal
    → IsRun session w.counts w.flip.capacity w.journal w.terminal) c.self.view_is
    (run_of_agreeing (value_of c.self.inside) c.self.invariant.port)
