-- The session that ports were played: of each port what it was passed and has answered, and behind it what it has
-- begun.
use Rattle.std.specs.Prelude.{◌≡◌, ◌≢◌, ℕ, Bool, List, [], ◌∷◌, Some, if◌then◌else◌, flat_map, length}
use Rattle.std.specs.Prelude.{option_map, slice_get, sum, unwrap_or}
use Rattle.std.specs.List.{range_with_len}
use Rattle.tty_base.specs.Sizes.{MOST_ENTRIES}
use Rattle.tty_calls.specs.declared.journals.PortRun.{PortRun}
use Rattle.tty_calls.specs.Plain.{PlainCall, PlainEntry}
use Rattle.tty_calls.specs.Sessions.{PlainSession, call_at, counts_on}
use Rattle.tty_terminal.specs.Terminals.{opening}
use Rattle.tty_terminal.specs.Standing.{Standing, standing_in, at_first}
use Rattle.passed_calls.specs.Derived.{Passing, Passed, BlockPhase, passed_phases}
use Rattle.passed_calls.specs.Journals.{Journal}
use Rattle.legal_runs.specs.Legal.{flip_on}

-- a session by the blocks of its callers
pub record BlockSession : Type 0 where
  pub version : ℕ
  pub ports : ℕ
  pub flips : List ℕ
  pub phases : List BlockPhase

-- the session that its ports were played, where they were passed this
abbrev pub played_session : BlockSession → Passed → PlainSession
played_session session passed = record {
  version = session.version;
  ports = session.ports;
  flips = session.flips;
  phases = passed_phases passed session.phases;
}

-- how many calls of a caller these events answer
abbrev pub answer_count : {E : Type 0} → (is_answer_to : (caller : ℕ) → E → Bool) → (caller : ℕ) → List E → ℕ
answer_count is_answer_to c events = sum (flat_map (λ e. if is_answer_to c e then 1 ∷ [] else []) events)

-- the call of a caller that its port has begun and not answered: so many were answered before, and these are its calls
abbrev pub begun_call : (answered : ℕ → ℕ) → (calls : (caller step : ℕ) → List PlainCall) → (caller : ℕ) → Standing
    → List Passing
begun_call answered calls c q =
    if q.begun then record { caller = c; step = answered c; calls = calls c (answered c) } ∷ [] else []

-- .. of each of the first callers
abbrev pub begun_calls : (answered : ℕ → ℕ) → (calls : (caller step : ℕ) → List PlainCall) → (callers : ℕ)
    → List PlainEntry → List Passing
begun_calls answered calls n journal =
    flat_map (λ c. begun_call answered calls c (standing_in c journal at_first)) (range_with_len 0 n)

-- the entries of a port of this session, with its calls
abbrev pub journal_in : (p : ℕ) → PlainSession → List PlainEntry → Journal
journal_in p played entries = record {
  entries = entries;
  calls = call_at p played;
  opening = opening (sum (counts_on p played)) (flip_on p played);
}

-- the entries of a port
abbrev pub journal_on : List PortRun → ℕ → List PlainEntry
journal_on runs p = unwrap_or (option_map (λ run. run.journal.items) (slice_get runs p)) []

-- no journal is full
abbrev pub AreNotFull : List PortRun → Type 0
AreNotFull runs = (p : ℕ) (run : PortRun) → slice_get runs p ≡ Some run → length run.journal.items ≢ MOST_ENTRIES
