-- The session that the ports were played: the calls that were passed down, and the hangups of processes that ended.
use Rattle.std.specs.Prelude.{ℕ, ◌+◌, ◌≤◌, ◌<◌, ◌==◌, Option, Some, List, [], ◌∷◌, map, filter, flat_map}
use Rattle.std.specs.Prelude.{length, take, slice_get}
use Rattle.tty_calls.specs.Plain.{PlainCall, hangs_up}
use Rattle.tty_calls.specs.Sessions.{PlainSession}
use Rattle.passed_calls.specs.Blocks.{names_on}
use Rattle.passed_calls.specs.Scripts.{CallerScript, plain, calls_named, numbered_call}
use Rattle.passed_calls.specs.Derived.{Passing, BlockPhase, passed_phases}
use Rattle.job_text.specs.Events.{JobEvent, own, passed, passed_down, sent, JobLog, events_on}
use Rattle.job_text.specs.Sessions.{JobCall, JobsSession, block_phase_of, blocks_in}

abbrev pub block_phases : JobsSession → List BlockPhase
block_phases session = map block_phase_of session.phases

abbrev pub scripts_over : ℕ → JobsSession → List (CallerScript JobCall)
scripts_over p session = flat_map (λ phase. filter (λ s. s.port == p) phase.callers) session.phases

abbrev pub job_call_at : ℕ → JobsSession → (caller step : ℕ) → Option JobCall
job_call_at p session c step = numbered_call (names_on p (blocks_in session)) (scripts_over p session) c step

-- how many calls a caller of a port has before phase k, which is its first step there
abbrev pub steps_before : ℕ → JobsSession → (k c : ℕ) → ℕ
steps_before p session k c =
    length (calls_named (slice_get (names_on p (blocks_in session)) c)
    (scripts_over p (record session { phases = take k session.phases })))

-- the step of a caller is of one of its calls in phase k
pub record IsStepIn (p : ℕ) (session : JobsSession) (k c step : ℕ) : Type 0 where
  pub from : steps_before p session k c ≤ step
  pub to : step < steps_before p session (k + 1) c

abbrev pub plain_call : Option JobCall → List PlainCall
plain_call (Some (plain call)) = call ∷ []
plain_call other = []

-- What a port was passed: its callers' calls, and for a process that ended the hangup, at the step of its end. That
-- is the latest step that was answered without the port, since nothing but signals comes between.
abbrev pub passings_from : (calls : ℕ → ℕ → Option JobCall) → (latest : ℕ) → List JobEvent → List Passing
passings_from calls latest [] = []
passings_from calls latest (own c step answer ∷ es) = passings_from calls step es
passings_from calls latest (passed c step answer ∷ es) =
    record { caller = c; step = step; calls = plain_call (calls c step) } ∷ passings_from calls latest es
passings_from calls latest (passed_down c h ∷ es) =
    record { caller = c; step = latest; calls = hangs_up h ∷ [] } ∷ passings_from calls latest es
passings_from calls latest (sent signal target ∷ es) = passings_from calls latest es

abbrev pub passings_on : JobsSession → JobLog → ℕ → List Passing
passings_on session log p = passings_from (job_call_at p session) 0 (events_on p log)

abbrev pub derived : JobsSession → JobLog → PlainSession
derived session log = record {
  version = session.version;
  ports = session.ports;
  flips = session.flips;
  phases = passed_phases (passings_on session log) (block_phases session);
}
