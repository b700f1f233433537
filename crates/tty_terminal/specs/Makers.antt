-- Who makes which entries.
use Rattle.std.specs.Prelude.{◌≡◌, ◌<◌, ℕ, Option, Some}
use Rattle.tty_calls.specs.declared.journals.Who.{Who}
use Rattle.tty_calls.specs.declared.journals.Who.TheVariants.{Caller, Flusher, Line, Clock, Session}
use Rattle.tty_calls.specs.Plain.{PlainCall, PlainEvent, answered, parted, waited, flushed, ticked}
use Rattle.tty_calls.specs.Plain.{line_ended, clock_ended, caller_ended, phase_ended, hung_up}

-- a caller of this number, one of so many, and its call of this step
pub record IsOfCall (calls : ℕ → ℕ → Option PlainCall) (callers : ℕ) (who : Who) (step : ℕ) : Type 0 where
  pub caller : ℕ
  pub call : PlainCall
  pub by_caller : who ≡ Caller caller
  pub known : caller < callers
  pub called : calls caller step ≡ Some call

pub record IsOfCaller (callers : ℕ) (who : Who) : Type 0 where
  pub caller : ℕ
  pub by_caller : who ≡ Caller caller
  pub known : caller < callers

-- each entry is by the one whose part it is
abbrev pub IsByItsMaker : (ℕ → ℕ → Option PlainCall) → ℕ → Who → ℕ → PlainEvent → Type 0
IsByItsMaker calls callers who step (answered a dropped) = IsOfCall calls callers who step
IsByItsMaker calls callers who step (parted n) = IsOfCall calls callers who step
IsByItsMaker calls callers who step waited = IsOfCall calls callers who step
IsByItsMaker calls callers who step (flushed chars) = who ≡ Flusher
IsByItsMaker calls callers who step ticked = who ≡ Clock
IsByItsMaker calls callers who step (line_ended n) = who ≡ Line
IsByItsMaker calls callers who step clock_ended = who ≡ Clock
IsByItsMaker calls callers who step caller_ended = IsOfCaller callers who
IsByItsMaker calls callers who step phase_ended = who ≡ Session
IsByItsMaker calls callers who step (hung_up dropped) = who ≡ Session
