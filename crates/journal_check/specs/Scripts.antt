-- Which scripts each caller has in a phase.
use Rattle.std.specs.Prelude.{◌≡◌, ◌==◌, ℕ, ◌+◌, ◌<◌, ◌≤◌, List, [], Option, None, Some, MatchBool}
use Rattle.std.specs.Prelude.{if◌then◌else◌, filter, length, take, drop, slice_index_or, slice_set}
use Rattle.tty_calls.specs.Plain.{PlainCall}
use Rattle.tty_calls.specs.Sessions.{PlainScript, PlainSession, scripts_over, names_of, calls_of}
use Rattle.journal_check.specs.declared.turns.Turn.{Turn}
use Rattle.legal_runs.specs.Legal.{phase_at, name_at, has_script, first_step}

abbrev pub no_turn : Turn
no_turn = record { begun = 0; first = 0; steps = 0; script = 0 }

-- a turn with so many calls more in this phase: the caller's first ones there, by the script at this place, or further
-- ones
abbrev pub turn_then : Turn → (phase steps place : ℕ) → Turn
turn_then t phase steps place =
    if t.begun == phase + 1
    then record { begun = t.begun; first = t.first; steps = t.steps + steps; script = t.script }
    else record { begun = phase + 1; first = t.first + t.steps; steps = steps; script = place }

abbrev pub turns_with_next : List Turn → Option ℕ → (phase steps place : ℕ) → List Turn
turns_with_next turns None phase steps place = turns
turns_with_next turns (Some c) phase steps place =
    slice_set turns c (turn_then (slice_index_or turns c no_turn) phase steps place)

abbrev pub scripts_for : ℕ → List PlainScript → List PlainScript
scripts_for p scripts = filter (λ s. s.port == p) scripts

-- the caller's turn is of this phase, and has its calls among these scripts of the port, of which none stands before
-- the turn's place
pub record IsTurnOfPhase (p : ℕ) (session : PlainSession) (k : ℕ) (scripts : List PlainScript) (c : ℕ)
    (t : Turn) : Type 0 where
  pub begun : t.begun ≡ k + 1
  pub first : t.first ≡ first_step p session k c
  pub steps : t.steps ≡ length (calls_of scripts (name_at p session c))
  pub none : calls_of (scripts_for p (take t.script (phase_at session k).callers)) (name_at p session c) ≡ []

-- it is of an earlier phase, if of any
pub record IsIdle (p : ℕ) (session : PlainSession) (k c : ℕ) (t : Turn) : Type 0 where
  pub begun : t.begun ≤ k
  pub first : t.first + t.steps ≡ first_step p session k c

-- a caller's turn is of phase k exactly where it has a script among these of the port
abbrev pub IsTurnBy : ℕ → PlainSession → ℕ → List PlainScript → ℕ → Turn → Type 0
IsTurnBy p session k scripts c t =
    MatchBool (has_script scripts (name_at p session c)) (IsTurnOfPhase p session k scripts c t)
    (IsIdle p session k c t)

-- the turns where these are the first scripts of the phase
pub record AreTurnsAmong (p : ℕ) (session : PlainSession) (k : ℕ) (scripts : List PlainScript)
    (turns : List Turn) : Type 0 where
  pub many : length (names_of (scripts_over p session.phases)) ≤ length turns
  pub each : (c : ℕ)
      → c < length turns
      → IsTurnBy p session k (scripts_for p scripts) c (slice_index_or turns c no_turn)

-- the turns of phase k
abbrev pub AreTurns : ℕ → PlainSession → ℕ → List Turn → Type 0
AreTurns p session k turns = AreTurnsAmong p session k (phase_at session k).callers turns

-- the turns before phase k
pub record AreIdle (p : ℕ) (session : PlainSession) (k : ℕ) (turns : List Turn) : Type 0 where
  pub many : length (names_of (scripts_over p session.phases)) ≤ length turns
  pub each : (c : ℕ) → c < length turns → IsIdle p session k c (slice_index_or turns c no_turn)

-- the calls under a name among a port's scripts from this place on
abbrev pub calls_from : ℕ → List PlainScript → ℕ → List ℕ → List PlainCall
calls_from p scripts from name = calls_of (scripts_for p (drop from scripts)) (Some name)
