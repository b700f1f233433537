-- How the roles of a phase are found.
use Rattle.std.specs.Prelude.{◌≡◌, ◌==◌, ◌+◌, ℕ, List, [], ◌∷◌, Option, None, Some, All, IsSome}
use Rattle.std.specs.Prelude.{length, map, filter, slice_get, slice_index_or, slice_set}
use Rattle.tty_calls.specs.declared.sessions.Script.{Script}
use Rattle.tty_calls.specs.declared.sessions.Phase.{Phase}
use Rattle.tty_calls.specs.declared.sessions.Session.{Session}
use Rattle.tty_calls.specs.Sessions.{PlainScript, number_in}
use Rattle.play_base.specs.Roles.{PlainRole}

-- the scripts of a phase, on all ports
abbrev pub scripts_in : Option Phase → List Script
scripts_in None = []
scripts_in (Some phase) = phase.callers.items

abbrev pub scripts_at : Session → ℕ → List Script
scripts_at session k = scripts_in (slice_get session.phases.items k)

abbrev pub number_or : Option ℕ → ℕ
number_or None = 0
number_or (Some n) = n

-- a script but for its calls, and scripts of the same callers, in order
abbrev pub caller_in : Script → PlainScript
caller_in s = record { port = s.port; name = s.name.bytes; calls = [] }

abbrev pub HaveSameCallers : List Script → List Script → Type 0
HaveSameCallers others scripts = map caller_in others ≡ map caller_in scripts

-- the role of a script, where its name has a number
abbrev pub role_for : List (List ℕ) → List ℕ → PlainScript → PlainRole
role_for names steps s =
    record {
      number = number_or (number_in names s.name);
      first = slice_index_or steps (number_or (number_in names s.name)) 0;
      calls = s.calls;
    }

abbrev pub IsNumbered : List (List ℕ) → PlainScript → Type 0
IsNumbered names s = IsSome (number_in names s.name)

-- those of a port
abbrev pub own_scripts : ℕ → List PlainScript → List PlainScript
own_scripts port scripts = filter (λ s. s.port == port) scripts

abbrev pub cast_of : List (List ℕ) → List ℕ → ℕ → List PlainScript → List PlainRole
cast_of names steps port scripts = map (role_for names steps) (own_scripts port scripts)

abbrev pub AreNumbered : List (List ℕ) → ℕ → List PlainScript → Type 0
AreNumbered names port scripts = All (IsNumbered names) (own_scripts port scripts)

-- the next steps of callers once those of these roles have made their calls
abbrev pub steps_after : List PlainRole → List ℕ → List ℕ
steps_after [] steps = steps
steps_after (r ∷ rs) steps = steps_after rs (slice_set steps r.number (r.first + length r.calls))
