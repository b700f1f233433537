-- The callers of a port, and their processes.
use Rattle.std.specs.Prelude.{◌≡◌, ◌<◌, ℕ, List, Option, None, Some, length}
use Rattle.std.specs.Prelude.{slice_get, slice_index_or, slice_set, unwrap_or}
use Rattle.tty_calls.specs.Sessions.{number_in}
use Rattle.job_control.specs.declared.processes.Proc.{Proc}
use Rattle.job_steps.specs.Steps.{proc_named}

-- the process of a caller of this name, by its place; who is none stands past the last
abbrev pub caller_of : List Proc → Option (List ℕ) → ℕ
caller_of procs name = unwrap_or (proc_named procs name) (length procs)

-- those of the first of these names
pub record AreCallers (procs : List Proc) (names : List (List ℕ)) (count : ℕ) (callers : List ℕ) : Type 0 where
  pub many : length callers ≡ count
  pub each : (c : ℕ) → c < count → slice_index_or callers c 0 ≡ caller_of procs (slice_get names c)

-- each name stands once
abbrev pub StandOnce : List (List ℕ) → Type 0
StandOnce names = (c : ℕ) (name : List ℕ) → slice_get names c ≡ Some name → number_in names name ≡ Some c

-- a process is that of the caller of its name
abbrev pub with_proc : (callers : List ℕ) → (number : Option ℕ) → (place : ℕ) → List ℕ
with_proc callers None place = callers
with_proc callers (Some c) place = slice_set callers c place
