-- The scripts of a phase with the calls of another session of the same callers.
use Rattle.std.specs.Prelude.{◌≡◌, ◌<◌, ◌==◌, ℕ, List, [], ◌∷◌, if◌then◌else◌, length, slice_index_or}
use Rattle.tty_calls.specs.declared.sessions.Script.{Script}
use Rattle.tty_calls.specs.Plain.{PlainCall}
use Rattle.tty_calls.specs.Sessions.{PlainScript, scripts_on}
use Rattle.tty_terminal.specs.Terminals.{Terminal, caller_at}
use Rattle.legal_runs.specs.Legal.{phase_at}
use Rattle.play_base.specs.Roles.{Scene}

abbrev pub with_calls : Script → List PlainCall → Script
with_calls s calls = record s { calls = record { items = calls } }

abbrev pub first_calls : List PlainScript → List PlainCall
first_calls [] = []
first_calls (s ∷ ss) = s.calls

abbrev pub later_scripts : List PlainScript → List PlainScript
later_scripts [] = []
later_scripts (s ∷ ss) = ss

-- of the port's callers, in order, these scripts' calls
abbrev pub filled : ℕ → List Script → List PlainScript → List Script
filled p [] scripts = []
filled p (c ∷ cs) scripts =
    (if c.port == p then with_calls c (first_calls scripts) else c)
    ∷ filled p cs (if c.port == p then later_scripts scripts else scripts)

-- the scripts of phase k, with the calls of a scene
abbrev pub scripts_in : ℕ → List Script → (k : ℕ) → Scene → List Script
scripts_in p callers k s = filled p callers (scripts_on p (phase_at s.session k))

-- the next steps of the first callers of a terminal
pub record AreNextSteps (t : Terminal) (count : ℕ) (steps : List ℕ) : Type 0 where
  pub many : length steps ≡ count
  pub each : (c : ℕ) → c < count → slice_index_or steps c 0 ≡ (caller_at t c).next
