-- The runs of all ports of a session, each of them legal.
use Rattle.std.specs.Prelude.{◌≡◌, ℕ, List, Some, slice_get}
use Rattle.tty_calls.specs.declared.journals.PortRun.{PortRun}
use Rattle.tty_calls.specs.Sessions.{PlainSession}
use Rattle.legal_runs.specs.Legal.{IsLegalOn}

-- a fact of the run of a port; a port that has none has it
abbrev pub OfRun : List PortRun → ℕ → (PortRun → Type 0) → Type 0
OfRun runs p P = (run : PortRun) → slice_get runs p ≡ Some run → P run

abbrev pub IsLegalAt : PlainSession → List PortRun → ℕ → Type 0
IsLegalAt session runs p = OfRun runs p (IsLegalOn p session)

-- each port's run is legal
pub record AreLegal (session : PlainSession) (runs : List PortRun) : Type 0 where
  pub each : (p : ℕ) → IsLegalAt session runs p
