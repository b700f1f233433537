-- Scripts whose calls are not all for the port.
use Rattle.std.specs.Prelude.{ℕ, ◌+◌, ◌-◌, ◌==◌, not, Option, None, Some, unwrap_or, List, [], ◌∷◌, ◌++◌, drop}
use Rattle.std.specs.Prelude.{flat_map, length, map, position, slice_get, slice_index_or, take, if◌then◌else◌}
use Rattle.std.specs.Str.{bytes_eq}
use Rattle.tty_calls.specs.Plain.{PlainCall}
use Rattle.tty_calls.specs.Sessions.{PlainScript, PlainPhase}
use Rattle.passed_calls.specs.declared.placed.PlacedCall.{PlacedCall}
use Rattle.passed_calls.specs.Blocks.{Block}

-- one caller's calls in a phase, of any kind
pub record CallerScript (C : Type 0) : Type 0 where
  pub port : ℕ
  pub name : List ℕ
  pub calls : List C

abbrev pub block_of : {C : Type 0} → CallerScript C → Block
block_of s = record { port = s.port; name = s.name; steps = length s.calls }

-- the calls under a name
abbrev pub calls_named : {C : Type 0} → Option (List ℕ) → List (CallerScript C) → List C
calls_named None scripts = []
calls_named (Some name) scripts = flat_map (λ s. if bytes_eq s.name name then s.calls else []) scripts

-- the call of a step by the caller of a number, among the scripts of a port with these names
abbrev pub numbered_call : {C : Type 0} → (names : List (List ℕ)) → List (CallerScript C) → (caller step : ℕ) → Option C
numbered_call names scripts c step = slice_get (calls_named (slice_get names c) scripts) step

-- ---- scripts for the port, and what they have beside

-- a call that is for the port, or one that the port never sees
pub data AnyCall (C : Type 0) : Type 0 where
  plain : (call : PlainCall) → AnyCall C
  further : (call : C) → AnyCall C

-- a script's calls from a place on: those for the port, and the others at their places
abbrev pub mixed : {C : Type 0} → (place : ℕ) → List PlainCall → List (PlacedCall C) → List (AnyCall C)
mixed n calls [] = map plain calls
mixed n calls (o ∷ os) =
    map plain (take (o.place - n) calls) ++ further o.call ∷ mixed (o.place + 1) (drop (o.place - n) calls) os

-- how many of these calls stand in a script: they are sorted by their scripts
abbrev pub count_in : {C : Type 0} → (script : ℕ) → List (PlacedCall C) → ℕ
count_in k placed = unwrap_or (position (λ o. not (o.script == k)) placed) (length placed)

-- the scripts of a phase, from one on
abbrev pub mixed_scripts : {C : Type 0} → (script : ℕ) → List PlainScript → List (PlacedCall C)
    → List (CallerScript (AnyCall C))
mixed_scripts k [] placed = []
mixed_scripts k (s ∷ ss) placed =
    record { port = s.port; name = s.name; calls = mixed 0 s.calls (take (count_in k placed) placed) }
    ∷ mixed_scripts (k + 1) ss (drop (count_in k placed) placed)

-- the phases from this place on, each with what it has beside, which is nothing where no more is said
abbrev pub phases_with : {P Q : Type 0} → (PlainPhase → P → Q) → (nothing : P) → List P → (place : ℕ) → List PlainPhase
    → List Q
phases_with with_part nothing parts n [] = []
phases_with with_part nothing parts n (phase ∷ phases) =
    with_part phase (slice_index_or parts n nothing) ∷ phases_with with_part nothing parts (n + 1) phases
