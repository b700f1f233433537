-- What is passed down by one event more of a log.
use Rattle.std.specs.Prelude.{ℕ, Option, List, [], ◌∷◌}
use Rattle.tty_calls.specs.Plain.{hangs_up}
use Rattle.passed_calls.specs.Derived.{Passing}
use Rattle.job_text.specs.Events.{JobEvent, own, passed, passed_down, sent, JobLog, events_on}
use Rattle.job_text.specs.Sessions.{JobCall}
use Rattle.job_steps.specs.Derived.{plain_call}

-- the latest step that was answered without the port
abbrev pub latest_after : (latest : ℕ) → List JobEvent → ℕ
latest_after latest [] = latest
latest_after latest (own c step answer ∷ es) = latest_after step es
latest_after latest (passed c step answer ∷ es) = latest_after latest es
latest_after latest (passed_down c h ∷ es) = latest_after latest es
latest_after latest (sent signal target ∷ es) = latest_after latest es

abbrev pub latest_on : JobLog → ℕ → ℕ
latest_on log p = latest_after 0 (events_on p log)

-- what an event passes down
abbrev pub passings_by : (calls : ℕ → ℕ → Option JobCall) → (latest : ℕ) → JobEvent → List Passing
passings_by calls latest (own c step answer) = []
passings_by calls latest (passed c step answer) =
    record { caller = c; step = step; calls = plain_call (calls c step) } ∷ []
passings_by calls latest (passed_down c h) = record { caller = c; step = latest; calls = hangs_up h ∷ [] } ∷ []
passings_by calls latest (sent signal target) = []
