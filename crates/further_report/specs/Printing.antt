-- How the printer goes on: for private functions alone.
use Rattle.std.specs.Prelude.{ℕ, ◌+◌, ◌==◌, List, [], ◌∷◌, ◌++◌, Option, None, Some}
use Rattle.std.specs.Prelude.{if◌then◌else◌, length, map, slice_index, slice_index_or, slice_set}
use Rattle.tty_base.specs.Contents.{Contents}
use Rattle.tty_calls.specs.Sessions.{PlainPhase, PlainScript, number_in, with_name}
use Rattle.passed_calls.specs.declared.placed.PlacedCall.{PlacedCall}
use Rattle.passed_calls.specs.Scripts.{AnyCall, mixed_scripts, CallerScript}
use Rattle.modem_text.specs.declared.items.OwnCall.{OwnCall}
use Rattle.modem_text.specs.declared.sessions.ModemPart.{ModemPart}
use Rattle.modem_text.specs.Sessions.{carrier_name}
use Rattle.further_report.specs.Calls.{ToldAnswer, verb_in, lines_from}

-- what callers were answered, each by itself: of lists of bytes
abbrev pub bytes_of : List (Contents ℕ) → List (List ℕ)
bytes_of texts = map (λ text. text.items) texts

-- .. after one answer more, and after these
abbrev pub answers_to : List (List (List ℕ)) → (c : ℕ) → List (List ℕ)
answers_to answers c = slice_index_or answers c []

abbrev pub noted : List (List (List ℕ)) → ToldAnswer → List (List (List ℕ))
noted answers t = slice_set answers t.caller (answers_to answers t.caller ++ t.text ∷ [])

abbrev pub all_noted : List (List (List ℕ)) → List ToldAnswer → List (List (List ℕ))
all_noted answers [] = answers
all_noted answers (t ∷ told) = all_noted (noted answers t) told

-- the lines of a script by each caller's next step, and the next steps after it
abbrev pub script_text : {C : Type 0} → (C → List ℕ) → (p : ℕ) → List (List (List ℕ)) → (steps : List ℕ)
    → CallerScript (AnyCall C) → Option ℕ → List ℕ
script_text verb p answers steps s None = []
script_text verb p answers steps s (Some c) =
    lines_from p s.name (answers_to answers c) (slice_index steps c) (map (verb_in verb) s.calls)

abbrev pub steps_then : {C : Type 0} → (steps : List ℕ) → CallerScript (AnyCall C) → Option ℕ → List ℕ
steps_then steps s None = steps
steps_then steps s (Some c) = slice_set steps c (slice_index steps c + length s.calls)

-- those of the port among scripts, one after the other
abbrev pub scripts_text : {C : Type 0} → (C → List ℕ) → (p : ℕ) → (names : List (List ℕ)) → List (List (List ℕ))
    → (steps : List ℕ) → List (CallerScript (AnyCall C)) → List ℕ
scripts_text verb p names answers steps [] = []
scripts_text verb p names answers steps (s ∷ ss) =
    if s.port == p
    then script_text verb p answers steps s (number_in names s.name)
    ++ scripts_text verb p names answers (steps_then steps s (number_in names s.name)) ss
    else scripts_text verb p names answers steps ss

abbrev pub steps_after : {C : Type 0} → (p : ℕ) → (names : List (List ℕ)) → (steps : List ℕ)
    → List (CallerScript (AnyCall C)) → List ℕ
steps_after p names steps [] = steps
steps_after p names steps (s ∷ ss) =
    if s.port == p
    then steps_after p names (steps_then steps s (number_in names s.name)) ss
    else steps_after p names steps ss

-- the calls that a part of a session of modem lines has beside
abbrev pub own_in : ModemPart → List (PlacedCall OwnCall)
own_in part = part.own.items

-- the scripts of phases from a place on, with the calls that these have beside
abbrev pub scripts_beside : {C : Type 0} → List (List (PlacedCall C)) → (place : ℕ) → List PlainPhase
    → List (CallerScript (AnyCall C))
scripts_beside parts n [] = []
scripts_beside parts n (phase ∷ phases) =
    mixed_scripts 0 phase.callers (slice_index_or parts n []) ++ scripts_beside parts (n + 1) phases

-- names after those of a port's scripts
abbrev pub learned : (names : List (List ℕ)) → (p : ℕ) → List PlainScript → List (List ℕ)
learned names p [] = names
learned names p (s ∷ ss) = learned (if s.port == p then with_name names s.name else names) p ss

-- .. of all phases, and where each phase has the caller that hangs the port up
abbrev pub learned_over : (names : List (List ℕ)) → (p : ℕ) → List PlainPhase → List (List ℕ)
learned_over names p [] = names
learned_over names p (phase ∷ phases) = learned_over (learned names p phase.callers) p phases

abbrev pub learned_with_carrier : (names : List (List ℕ)) → (p : ℕ) → List PlainPhase → List (List ℕ)
learned_with_carrier names p [] = names
learned_with_carrier names p (phase ∷ phases) =
    learned_with_carrier (with_name (learned names p phase.callers) carrier_name) p phases
