-- The session of a number keeps the limits of every session.
use Rattle.std.proofs.Common.{◌≡◌, ℕ, zero, suc, ◌+◌, ◌-◌, ◌*◌, ◌<◌, ◌≤◌, Bool, true, false, cond, if◌then◌else◌}
use Rattle.std.proofs.Common.{◌==◌, map, replicate, List, [], ◌∷◌, length, refl, sym, ap, ◌∙◌, arith}
use Rattle.std.specs.Prelude.{All, IsTrue, filter, sum_by, slice_index_or}
use Rattle.std.specs.List.{range_with_len}
use Rattle.std.proofs.lemmas.Bool.{ne_eqb}
use Rattle.std.proofs.lemmas.List.Elements.{All-nil, All-cons, All-replicate}
use Rattle.std.proofs.lemmas.List.Sums.{sum_by-cons}
use Rattle.tty_base.specs.Lines.{arrival_count, is_step}
use Rattle.tty_base.specs.declared.lines.LineStep.{LineStep}
use Rattle.tty_calls.specs.Plain.{PlainCall, opens, reads, sets_modes, sets_disc, handle_of}
use Rattle.tty_calls.specs.Sessions.{PlainScript, PlainPhase, line_on, ticks_on, scripts_on, names_of}
use Rattle.tty_calls.specs.Limits.{byte_count, IsCallWithin, IsScriptWithin, IsPhaseWithin}
use Rattle.tty_calls.specs.Limits.{call_count, character_count, tick_count, IsWithinLimits}
use Rattle.tty_modes.specs.declared.words.Word.TheVariants.{Raw}
use Rattle.tty_calls.specs.declared.calls.Access.TheVariants.{Rw}
use Rattle.tty_calls.specs.declared.calls.When.TheVariants.{Now}
use Rattle.session_gen.specs.Draws.{draw, rx, drawn_line}
use Rattle.session_gen.specs.Generated.{caller_script, opening_calls, opening_phase, changes_twice}
use Rattle.session_gen.specs.Generated.{reading_calls, reading_phase, generated_session}

-- ---- what holds of each item that is made from a number

all_made : {X : Type 0} (P : X → Type 0) (f : ℕ → X) → ((k : ℕ) → P (f k)) → (ks : List ℕ) → All P (map f ks)
all_made P f each [] = All-nil P
all_made P f each (k ∷ ks) = All-cons P (f k) (map f ks) (each k) (all_made P f each ks)

sum_most : {X : Type 0} (f : X → ℕ) (g : ℕ → X) (most : ℕ)
    → ((k : ℕ) → f (g k) ≤ most)
    → (ks : List ℕ)
    → sum_by f (map g ks) ≤ sum_by (λ _. most) ks
sum_most f g most few [] = omega arith
sum_most f g most few (k ∷ ks) =
    let first = sum_by-cons f (g k) (map g ks) in
    let bound = sum_by-cons (λ (_ : ℕ). most) k ks in
    let here = few k in
    let rest = sum_most f g most few ks in
    omega (arith, first, bound, here, rest)

-- ---- lines

abbrev AreSteps : List LineStep → Type 0
AreSteps line = All (λ step. IsTrue (is_step step)) line

drawn_steps : (number first count : ℕ) → AreSteps (drawn_line number first count)
unfolding drawn_line
drawn_steps number first count =
    all_made (λ step. IsTrue (is_step step)) (λ k. rx (draw number k)) (λ k. refl) (range_with_len first count)

drawn_arrivals : (number first count : ℕ) → arrival_count (drawn_line number first count) ≡ count
unfolding drawn_line
drawn_arrivals number first zero = refl
drawn_arrivals number first (suc count) = let rest = drawn_arrivals number (first + 1) count in omega (arith, rest)

line_most : (f : ℕ → List LineStep)
    → ((k : ℕ) → arrival_count (f k) ≤ 4000)
    → (ks : List ℕ) (p : ℕ)
    → arrival_count (slice_index_or (map f ks) p []) ≤ 4000
line_most f few [] zero = omega arith
line_most f few [] (suc p) = omega arith
line_most f few (k ∷ ks) zero = few k
line_most f few (k ∷ ks) (suc p) = line_most f few ks p

no_line : (p : ℕ) → arrival_count (line_on p opening_phase) ≡ 0
no_line zero = refl
no_line (suc zero) = refl
no_line (suc (suc zero)) = refl
no_line (suc (suc (suc zero))) = refl
no_line (suc (suc (suc (suc p)))) = refl

no_ticks : (p : ℕ) → ticks_on p opening_phase ≡ 0
no_ticks zero = refl
no_ticks (suc zero) = refl
no_ticks (suc (suc zero)) = refl
no_ticks (suc (suc (suc zero))) = refl
no_ticks (suc (suc (suc (suc p)))) = refl

-- ---- callers

call_within : (call : PlainCall) → handle_of call ≡ 0 → byte_count call ≡ 0 → IsCallWithin call
call_within call first none = record { handle = omega (arith, first); bytes = omega (arith, none) }

opening_within : All IsCallWithin opening_calls
opening_within =
    All-cons IsCallWithin (opens 0 Rw true) (sets_modes 0 Now (Raw ∷ []) ∷ []) (call_within (opens 0 Rw true) refl refl)
    (
    All-cons IsCallWithin (sets_modes 0 Now (Raw ∷ [])) [] (call_within (sets_modes 0 Now (Raw ∷ [])) refl refl)
    (All-nil IsCallWithin)
    )

changes_within : (twice : Bool) → All IsCallWithin (if twice then sets_disc 0 1 ∷ sets_disc 0 0 ∷ [] else [])
changes_within false = All-nil IsCallWithin
changes_within true =
    All-cons IsCallWithin (sets_disc 0 1) (sets_disc 0 0 ∷ []) (call_within (sets_disc 0 1) refl refl) (
    All-cons IsCallWithin (sets_disc 0 0) [] (call_within (sets_disc 0 0) refl refl) (All-nil IsCallWithin)
    )

reading_within : (number phase port : ℕ) → All IsCallWithin (reading_calls number phase port)
reading_within number phase port =
    All-cons IsCallWithin (reads 0 4000)
    (if changes_twice number phase port then sets_disc 0 1 ∷ sets_disc 0 0 ∷ [] else [])
    (call_within (reads 0 4000) refl refl)
    (changes_within (changes_twice number phase port))

changes_few : (twice : Bool) → length (reads 0 4000 ∷ (if twice then sets_disc 0 1 ∷ sets_disc 0 0 ∷ [] else [])) ≤ 3
changes_few false = omega arith
changes_few true = omega arith

-- a caller on each port, with these calls
abbrev callers_with : (ℕ → List PlainCall) → List PlainScript
callers_with calls = map (λ port. caller_script port (calls port)) (range_with_len 0 4)

abbrev phase_with : List (List LineStep) → (ℕ → List PlainCall) → PlainPhase
phase_with lines calls = record { lines = lines; ticks = replicate 4 0; callers = callers_with calls }

script_within : (port : ℕ) (calls : List PlainCall)
    → port < 4
    → All IsCallWithin calls
    → IsScriptWithin 4 (caller_script port calls)
script_within port calls below each = record { port = below; calls = each }

scripts_within : (calls : ℕ → List PlainCall)
    → ((port : ℕ) → All IsCallWithin (calls port))
    → (first count : ℕ)
    → first + count ≤ 4
    → All (IsScriptWithin 4) (map (λ port. caller_script port (calls port)) (range_with_len first count))
scripts_within calls each first zero below = All-nil (IsScriptWithin 4)
scripts_within calls each first (suc count) below =
    All-cons (IsScriptWithin 4) (caller_script first (calls first))
    (map (λ port. caller_script port (calls port)) (range_with_len (first + 1) count))
    (script_within first (calls first) (omega (arith, below)) (each first))
    (scripts_within calls each (first + 1) count (omega (arith, below)))

-- a port past the last has no caller
none_there : (calls : ℕ → List PlainCall) (p first count : ℕ)
    → first + count ≤ p
    → filter (λ script. script.port == p)
    (map (λ port. caller_script port (calls port)) (range_with_len first count)) ≡ []
none_there calls p first zero past = refl
none_there calls p first (suc count) past =
    let rest : List PlainScript =
    filter (λ script. script.port == p)
    (map (λ port. caller_script port (calls port)) (range_with_len (first + 1) count)) in
    ap (λ here. cond here (caller_script first (calls first) ∷ rest) rest)
    (ne_eqb first p (λ same. omega (arith, same, past)))
    ∙ none_there calls p (first + 1) count (omega (arith, past))

none_on : (lines : List (List LineStep)) (calls : ℕ → List PlainCall) (p : ℕ)
    → scripts_on (suc (suc (suc (suc p)))) (phase_with lines calls) ≡ []
none_on lines calls p = none_there calls (suc (suc (suc (suc p)))) 0 4 (omega arith)

few_callers : (lines : List (List LineStep)) (calls : ℕ → List PlainCall) (p : ℕ)
    → length (scripts_on p (phase_with lines calls)) ≤ 16
few_callers lines calls zero = omega arith
few_callers lines calls (suc zero) = omega arith
few_callers lines calls (suc (suc zero)) = omega arith
few_callers lines calls (suc (suc (suc zero))) = omega arith
few_callers lines calls (suc (suc (suc (suc p)))) = let none = ap length (none_on lines calls p) in omega (arith, none)

own_names : (lines : List (List LineStep)) (calls : ℕ → List PlainCall) (p : ℕ)
    → names_of (scripts_on p (phase_with lines calls))
    ≡ map (λ script. script.name) (scripts_on p (phase_with lines calls))
own_names lines calls zero = refl
own_names lines calls (suc zero) = refl
own_names lines calls (suc (suc zero)) = refl
own_names lines calls (suc (suc (suc zero))) = refl
own_names lines calls (suc (suc (suc (suc p)))) =
    ap names_of (none_on lines calls p) ∙ sym (ap (map (λ (script : PlainScript). script.name)) (none_on lines calls p))

few_calls : (calls : ℕ → List PlainCall)
    → ((port : ℕ) → length (calls port) ≤ 3)
    → sum_by (λ script. length script.calls) (callers_with calls) ≤ 12
few_calls calls few = sum_most (λ (script : PlainScript). length script.calls) (λ port. caller_script port (calls port))
    3 few (range_with_len 0 4)

-- ---- phases

phase_within : (lines : List (List LineStep)) (calls : ℕ → List PlainCall)
    → length lines ≡ 4
    → All AreSteps lines
    → ((port : ℕ) → All IsCallWithin (calls port))
    → IsPhaseWithin 4 (phase_with lines calls)
phase_within lines calls four steps each = record {
  lines = four;
  ticks = refl;
  steps = steps;
  scripts = scripts_within calls each 0 4 (omega arith);
  few_callers = few_callers lines calls;
  own_names = own_names lines calls;
}

opening_phase_within : IsPhaseWithin 4 opening_phase
opening_phase_within = phase_within (replicate 4 []) (λ _. opening_calls) refl
    (All-replicate AreSteps 4 [] (All-nil (λ step. IsTrue (is_step step)))) (λ _. opening_within)

abbrev drawn_on : (number phase port : ℕ) → List LineStep
drawn_on number phase port = drawn_line number (16000 * (phase - 1) + 4000 * port) 4000

reading_phase_within : (number phase : ℕ) → IsPhaseWithin 4 (reading_phase number phase)
unfolding reading_phase
reading_phase_within number phase =
    phase_within (map (drawn_on number phase) (range_with_len 0 4)) (reading_calls number phase) refl
    (all_made AreSteps (drawn_on number phase) (λ port. drawn_steps number (16000 * (phase - 1) + 4000 * port) 4000)
    (range_with_len 0 4))
    (reading_within number phase)

reading_calls_few : (number phase : ℕ)
    → sum_by (λ script. length script.calls) (reading_phase number phase).callers ≤ 12
unfolding reading_phase
reading_calls_few number phase =
    few_calls (reading_calls number phase) (λ port. changes_few (changes_twice number phase port))

reading_characters_few : (number p phase : ℕ) → arrival_count (line_on p (reading_phase number phase)) ≤ 4000
unfolding reading_phase
reading_characters_few number p phase =
    line_most (drawn_on number phase)
    (λ port. let all = drawn_arrivals number (16000 * (phase - 1) + 4000 * port) 4000 in omega (arith, all))
    (range_with_len 0 4) p

reading_ticks_none : (number p phase : ℕ) → ticks_on p (reading_phase number phase) ≤ 0
unfolding reading_phase
reading_ticks_none number p phase = let none = no_ticks p in omega (arith, none)

-- ---- sessions

abbrev later_phases : ℕ → List PlainPhase
later_phases number = map (reading_phase number) (range_with_len 1 15)

calls_in_all : (number : ℕ) → call_count (opening_phase ∷ later_phases number) ≤ 65536
calls_in_all number =
    let first = sum_by-cons (λ (phase : PlainPhase). sum_by (λ script. length script.calls) phase.callers) opening_phase
    (later_phases number) in
    let later : call_count (later_phases number) ≤ 180 =
    sum_most (λ (phase : PlainPhase). sum_by (λ script. length script.calls) phase.callers) (reading_phase number) 12
    (reading_calls_few number) (range_with_len 1 15) in
    let opening : sum_by (λ script. length script.calls) opening_phase.callers ≤ 12 =
    few_calls (λ _. opening_calls) (λ _. omega arith) in
    omega (arith, first, later, opening)

characters_in_all : (number p : ℕ) → character_count p (opening_phase ∷ later_phases number) ≤ 262144
characters_in_all number p =
    let first =
    sum_by-cons (λ (phase : PlainPhase). arrival_count (line_on p phase)) opening_phase (later_phases number) in
    let later : character_count p (later_phases number) ≤ 60000 =
    sum_most (λ (phase : PlainPhase). arrival_count (line_on p phase)) (reading_phase number) 4000
    (reading_characters_few number p) (range_with_len 1 15) in
    let opening = no_line p in
    omega (arith, first, later, opening)

ticks_in_all : (number p : ℕ) → tick_count p (opening_phase ∷ later_phases number) ≤ 65536
ticks_in_all number p =
    let first = sum_by-cons (ticks_on p) opening_phase (later_phases number) in
    let later : tick_count p (later_phases number) ≤ 0 =
    sum_most (ticks_on p) (reading_phase number) 0 (reading_ticks_none number p) (range_with_len 1 15) in
    let opening = no_ticks p in
    omega (arith, first, later, opening)

pub generated_within : (number : ℕ) → IsWithinLimits (generated_session number)
generated_within number = record {
  some_ports = omega arith;
  few_ports = omega arith;
  flips = refl;
  some_flip = All-replicate (λ n. 64 ≤ n) 4 4096 (omega arith);
  few_flip = All-replicate (λ n. n ≤ 65536) 4 4096 (omega arith);
  few_phases = omega arith;
  phases = All-cons (IsPhaseWithin 4) opening_phase (later_phases number) opening_phase_within
      (all_made (IsPhaseWithin 4) (reading_phase number) (reading_phase_within number) (range_with_len 1 15));
  few_calls = calls_in_all number;
  few_characters = characters_in_all number;
  few_ticks = ticks_in_all number;
}
