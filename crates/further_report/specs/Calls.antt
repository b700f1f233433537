-- The lines of a report that tell the calls of a port, of which the port never saw some: what each was answered.
use Rattle.std.specs.Prelude.{ℕ, ◌+◌, ◌==◌, Bool, false, List, [], ◌∷◌, ◌++◌, Option, None, Some}
use Rattle.std.specs.Prelude.{codes, decimal, filter, flat_map, length, map, slice_get, if◌then◌else◌}
use Rattle.tty_calls.specs.Sessions.{number_in}
use Rattle.session_print.specs.Lines.{newline}
use Rattle.session_print.specs.Words.{verb_of}
use Rattle.passed_calls.specs.Scripts.{AnyCall, plain, further, CallerScript}

-- what a caller was answered, as a report says it
pub record ToldAnswer : Type 0 where
  pub caller : ℕ
  pub text : List ℕ

-- what one caller was answered, in order
abbrev pub texts_to : (caller : ℕ) → List ToldAnswer → List (List ℕ)
texts_to c told = flat_map (λ t. if t.caller == c then t.text ∷ [] else []) told

-- what a call is written as
abbrev pub verb_in : {C : Type 0} → (C → List ℕ) → AnyCall C → List ℕ
verb_in verb (plain call) = verb_of call
verb_in verb (further call) = verb call

-- PORT.NAME.STEP VERB ANSWER
abbrev pub call_line : (p : ℕ) → (name : List ℕ) → (step : ℕ) → (verb answer : List ℕ) → List ℕ
call_line p name step verb answer =
    decimal p
    ++ (codes "."
    ++ (name ++ (codes "." ++ (decimal step ++ (codes " " ++ (verb ++ (codes " " ++ (answer ++ newline))))))))

-- the line of a call that was answered
abbrev pub answered_line : (p : ℕ) → (name : List ℕ) → (step : ℕ) → (verb : List ℕ) → Option (List ℕ) → List ℕ
answered_line p name step verb None = []
answered_line p name step verb (Some answer) = call_line p name step verb answer

-- the lines of calls that are written so, from this step on: a caller's steps are answered in their order
abbrev pub lines_from : (p : ℕ) → (name : List ℕ) → (answers : List (List ℕ)) → (step : ℕ) → (verbs : List (List ℕ))
    → List ℕ
lines_from p name answers step [] = []
lines_from p name answers step (verb ∷ verbs) =
    answered_line p name step verb (slice_get answers step) ++ lines_from p name answers (step + 1) verbs

abbrev pub is_number : Option ℕ → (c : ℕ) → Bool
is_number None c = false
is_number (Some n) c = n == c

-- the calls of the caller of a number
abbrev pub calls_by : {C : Type 0} → (names : List (List ℕ)) → (c : ℕ) → List (CallerScript C) → List C
calls_by names c scripts = flat_map (λ s. if is_number (number_in names s.name) c then s.calls else []) scripts

-- the lines of a caller's script, where these scripts came before: a caller's steps go on over its scripts
abbrev pub script_lines : {C : Type 0} → (C → List ℕ) → (p : ℕ) → (answers : ℕ → List (List ℕ))
    → (before : ℕ → List (AnyCall C)) → CallerScript (AnyCall C) → Option ℕ → List ℕ
script_lines verb p answers before s None = []
script_lines verb p answers before s (Some c) =
    lines_from p s.name (answers c) (length (before c)) (map (verb_in verb) s.calls)

abbrev pub scripts_lines : {C : Type 0} → (C → List ℕ) → (p : ℕ) → (names : List (List ℕ))
    → (answers : ℕ → List (List ℕ)) → (before scripts : List (CallerScript (AnyCall C))) → List ℕ
scripts_lines verb p names answers before [] = []
scripts_lines verb p names answers before (s ∷ ss) =
    script_lines verb p answers (λ c. calls_by names c before) s (number_in names s.name)
    ++ scripts_lines verb p names answers (before ++ s ∷ []) ss

-- the lines of a port's calls, script by script, by the names of its callers and what they were answered
abbrev pub calls_text : {C : Type 0} → (C → List ℕ) → (p : ℕ) → (names : List (List ℕ)) → List ToldAnswer
    → List (CallerScript (AnyCall C)) → List ℕ
calls_text verb p names told scripts =
    scripts_lines verb p names (λ c. texts_to c told) [] (filter (λ s. s.port == p) scripts)
