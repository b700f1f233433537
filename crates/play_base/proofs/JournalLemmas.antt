-- Journals by their phases: what the walks over a journal give where it goes on.
use Rattle.std.proofs.Common.{◌≡◌, inl, inr, ℕ, zero, suc, ◌+◌, ◌<◌, ◌≤◌, Bool, true, false, ◌&&◌, ◌==◌}
use Rattle.std.proofs.Common.{if◌then◌else◌, List, [], ◌∷◌, ◌++◌, Option, length, refl, sym, ◌∙◌, ap}
use Rattle.std.proofs.Common.{subst, arith, append-nil, append_assoc, length-append, zero-add, add-zero}
use Rattle.std.proofs.lemmas.Bool.{eq-eqb, ne_eqb}
use Rattle.tty_base.specs.declared.characters.Flagged.{Flagged}
use Rattle.tty_calls.specs.Plain.{PlainCall, PlainEvent, answered, parted, waited, flushed, ticked, line_ended}
use Rattle.tty_calls.specs.Plain.{clock_ended, caller_ended, phase_ended, hung_up, PlainEntry, chars_in}
use Rattle.tty_terminal.specs.Terminals.{Terminal}
use Rattle.tty_terminal.specs.Steps.{after}
use Rattle.tty_terminal.specs.Runs.{Leads, chars_of, phase_after}
use Rattle.tty_terminal.specs.Marks.{Marks, marks_of, marks_after}
use Rattle.tty_terminal.proofs.MarkLaws.{step_marks}
use Rattle.legal_runs.specs.Legal.{line_ends, line_ends_in, session_events, session_events_in, is_phase_end}
use Rattle.legal_runs.specs.Legal.{before_phase, before_line_end}
use Rattle.legal_runs.specs.Short.{is_tick, tick_count_in, after_phases}
use Rattle.play_base.specs.Phases.{phase_count, IsUpTo}
use Rattle.legal_runs.proofs.EventLemmas.{phase_same, no_phase_end}
use Rattle.legal_runs.proofs.Truths.{nothing_first, nothing_rest}

-- ---- lists

-- ---- phase ends

either_way : {X : Type 0} (b : Bool) (x y z : X) (n c m : ℕ)
    → suc n ≡ ((if b then 1 else 0) + c) + suc m
    → (n ≡ c + suc m → x ≡ z)
    → (suc n ≡ c + suc m → y ≡ z)
    → (if b then x else y) ≡ z
either_way true x y z n c m h f g = f (omega (arith, h))
either_way false x y z n c m h f g = g (omega (arith, h))

before_more : (es rest : List PlainEntry) (n m : ℕ)
    → n ≡ phase_count es + suc m
    → before_phase n (es ++ rest) ≡ es ++ before_phase (suc m) rest
before_more [] rest n m h = let same : n ≡ suc m = omega (arith, h) in ap (λ j. before_phase j rest) same
before_more (e ∷ es) rest zero m h = absurd (omega (arith, h))
before_more (e ∷ es) rest (suc n) m h =
    ap (λ xs. e ∷ xs) (either_way (is_phase_end e.event) (before_phase n (es ++ rest))
    (before_phase (suc n) (es ++ rest)) (es ++ before_phase (suc m) rest) n (phase_count es) m h
    (λ k. before_more es rest n m k) (λ k. before_more es rest (suc n) m k))

line_more : (es rest : List PlainEntry) (n m : ℕ)
    → n ≡ phase_count es + suc m
    → before_line_end n (es ++ rest) ≡ es ++ before_line_end (suc m) rest
line_more [] rest n m h = let same : n ≡ suc m = omega (arith, h) in ap (λ j. before_line_end j rest) same
line_more (e ∷ es) rest zero m h = absurd (omega (arith, h))
line_more (e ∷ es) rest (suc n) m h =
    ap (λ xs. e ∷ xs) (either_way (is_phase_end e.event) (before_line_end n (es ++ rest))
    (before_line_end (suc n) (es ++ rest)) (es ++ before_line_end (suc m) rest) n (phase_count es) m h
    (λ k. line_more es rest n m k) (λ k. line_more es rest (suc n) m k))

after_more : (es rest : List PlainEntry) (n m : ℕ)
    → n ≡ phase_count es + suc m
    → after_phases n (es ++ rest) ≡ after_phases (suc m) rest
after_more [] rest n m h = let same : n ≡ suc m = omega (arith, h) in ap (λ j. after_phases j rest) same
after_more (e ∷ es) rest zero m h = absurd (omega (arith, h))
after_more (e ∷ es) rest (suc n) m h =
    either_way (is_phase_end e.event) (after_phases n (es ++ rest)) (after_phases (suc n) (es ++ rest))
    (after_phases (suc m) rest) n (phase_count es) m h
    (λ k. after_more es rest n m k) (λ k. after_more es rest (suc n) m k)

-- where too few phases end, nothing comes after them
after_none : (n : ℕ) (es : List PlainEntry) → phase_count es < n → after_phases n es ≡ []
after_none n [] h = refl
after_none zero (e ∷ es) h = absurd (omega (arith, h))
after_none (suc n) (e ∷ es) h = none_way (is_phase_end e.event) n (phase_count es) (after_phases n es)
    (after_phases (suc n) es) h (after_none n es) (after_none (suc n) es)
  where
    none_way : (b : Bool) (n c : ℕ) (x y : List PlainEntry)
        → (if b then 1 else 0) + c < suc n
        → (c < n → x ≡ [])
        → (c < suc n → y ≡ [])
        → (if b then x else y) ≡ []
    none_way true n c x y h f g = f (omega (arith, h))
    none_way false n c x y h f g = g (omega (arith, h))

pub count_append : (xs ys : List PlainEntry) → phase_count (xs ++ ys) ≡ phase_count xs + phase_count ys
count_append [] ys = sym (zero-add (phase_count ys))
count_append (x ∷ xs) ys = omega (arith, count_append xs ys)

-- ---- up to a phase

end_is : (event : PlainEvent) → event ≡ phase_ended → is_phase_end event ≡ true
end_is event h = ap is_phase_end h

-- what a journal up to phase k is followed by
followed : (before : List PlainEntry) (last : PlainEntry) (rest journal : List PlainEntry)
    → journal ≡ before ++ last ∷ []
    → journal ++ rest ≡ before ++ last ∷ rest
followed before last rest journal h = ap (λ x. x ++ rest) h ∙ append_assoc before (last ∷ []) rest

back : (before : List PlainEntry) (last : PlainEntry) (rest journal : List PlainEntry)
    → journal ≡ before ++ last ∷ []
    → before ++ last ∷ rest ≡ journal ++ rest
back before last rest journal h = sym (followed before last rest journal h)

pub up_before : (k m : ℕ) (journal rest : List PlainEntry)
    → IsUpTo k journal
    → before_phase (k + m) (journal ++ rest) ≡ journal ++ before_phase m rest
up_before k m journal rest (inl (none, empty)) =
    let same : k + m ≡ m = omega (arith, none) in
    ap (λ x. before_phase (k + m) (x ++ rest)) empty
    ∙ ap (λ j. before_phase j rest) same
    ∙ ap (λ x. x ++ before_phase m rest) (sym empty)
up_before k m journal rest (inr (before, last, comes)) =
    let number : k + m ≡ phase_count before + suc m = omega (arith, comes.count) in
    ap (before_phase (k + m)) (followed before last rest journal comes.parts)
    ∙ before_more before (last ∷ rest) (k + m) m number
    ∙ ap (λ b. before ++ last ∷ (if b then before_phase m rest else before_phase (suc m) rest))
    (end_is last.event comes.ends)
    ∙ back before last (before_phase m rest) journal comes.parts

pub up_line : (k m : ℕ) (journal rest : List PlainEntry)
    → IsUpTo k journal
    → before_line_end (k + m) (journal ++ rest) ≡ journal ++ before_line_end m rest
up_line k m journal rest (inl (none, empty)) =
    let same : k + m ≡ m = omega (arith, none) in
    ap (λ x. before_line_end (k + m) (x ++ rest)) empty
    ∙ ap (λ j. before_line_end j rest) same
    ∙ ap (λ x. x ++ before_line_end m rest) (sym empty)
up_line k m journal rest (inr (before, last, comes)) =
    let number : k + m ≡ phase_count before + suc m = omega (arith, comes.count) in
    ap (before_line_end (k + m)) (followed before last rest journal comes.parts)
    ∙ line_more before (last ∷ rest) (k + m) m number
    ∙ ap (λ b. before ++ last ∷ (if b then before_line_end m rest else before_line_end (suc m) rest))
    (end_is last.event comes.ends)
    ∙ back before last (before_line_end m rest) journal comes.parts

pub up_after : (k m : ℕ) (journal rest : List PlainEntry)
    → IsUpTo k journal
    → after_phases (k + m) (journal ++ rest) ≡ after_phases m rest
up_after k m journal rest (inl (none, empty)) =
    let same : k + m ≡ m = omega (arith, none) in
    ap (λ x. after_phases (k + m) (x ++ rest)) empty ∙ ap (λ j. after_phases j rest) same
up_after k m journal rest (inr (before, last, comes)) =
    let number : k + m ≡ phase_count before + suc m = omega (arith, comes.count) in
    ap (after_phases (k + m)) (followed before last rest journal comes.parts)
    ∙ after_more before (last ∷ rest) (k + m) m number
    ∙ ap (λ b. if b then after_phases m rest else after_phases (suc m) rest) (end_is last.event comes.ends)

pub up_count : (k : ℕ) (journal : List PlainEntry) → IsUpTo k journal → phase_count journal ≡ k
up_count k journal (inl (none, empty)) = ap phase_count empty ∙ sym none
up_count k journal (inr (before, last, comes)) =
    let one : phase_count (last ∷ []) ≡ 1 = ap (λ b. (if b then 1 else 0) + 0) (end_is last.event comes.ends) in
    ap phase_count comes.parts ∙ count_append before (last ∷ []) ∙ ap (λ n. phase_count before + n) one ∙ comes.count

-- ---- a part of a phase

pub none_ends : (part : List PlainEntry) → session_events_in part ≡ [] → phase_count part ≡ 0
none_ends [] h = refl
none_ends (e ∷ es) h =
    ap (λ b. (if b then 1 else 0) + phase_count es)
    (no_phase_end e.event (nothing_first (session_events e.event) (session_events_in es) h))
    ∙ zero-add (phase_count es) ∙ none_ends es (nothing_rest (session_events e.event) (session_events_in es) h)

-- one more phase
pub up_more : (k : ℕ) (journal part : List PlainEntry) (last : PlainEntry)
    → IsUpTo k journal
    → session_events_in part ≡ []
    → last.event ≡ phase_ended
    → IsUpTo (k + 1) (journal ++ (part ++ last ∷ []))
up_more k journal part last up inside ends = inr (
  journal ++ part,
  last,
  record {
    parts = sym (append_assoc journal part (last ∷ []));
    ends = ends;
    count = ap (λ n. n + 1) (count_append journal part
        ∙ ap (λ n. phase_count journal + n) (none_ends part inside)
        ∙ add-zero (phase_count journal)
        ∙ up_count k journal up);
  },
)

-- before the line's end
pub line_part : (flushes : List PlainEntry) (last : PlainEntry) (n : ℕ) (rest : List PlainEntry)
    → line_ends_in flushes ≡ []
    → last.event ≡ line_ended n
    → before_line_end 0 (flushes ++ last ∷ rest) ≡ flushes
line_part [] last n rest none ends =
    ap (λ (event : PlainEvent). if length (line_ends event) == 0 then last ∷ before_line_end 0 rest else []) ends
line_part (e ∷ es) last n rest none ends =
    ap (λ (xs : List ℕ). if length xs == 0 then e ∷ before_line_end 0 (es ++ last ∷ rest) else [])
    (nothing_first (line_ends e.event) (line_ends_in es) none)
    ∙ ap (λ xs. e ∷ xs) (line_part es last n rest (nothing_rest (line_ends e.event) (line_ends_in es) none) ends)

-- a journal that stops within a phase
pub stops_within : (k n : ℕ) (journal part : List PlainEntry)
    → IsUpTo k journal
    → session_events_in part ≡ []
    → k < n
    → after_phases n (journal ++ part) ≡ []
stops_within k n journal part up inside h =
    after_none n (journal ++ part)
    (omega (arith, count_append journal part, none_ends part inside, up_count k journal up, h))

pub all_phases_after : (k : ℕ) (journal : List PlainEntry) → IsUpTo k journal → after_phases k journal ≡ []
all_phases_after k journal up =
    ap (λ n. after_phases n journal) (sym (add-zero k))
    ∙ ap (after_phases (k + 0)) (sym (append-nil journal))
    ∙ up_after k 0 journal [] up

-- ---- characters

pub chars_both : (xs ys : List PlainEntry) → chars_of (xs ++ ys) ≡ chars_of xs ++ chars_of ys
chars_both [] ys = refl
chars_both (x ∷ xs) ys =
    ap (λ (cs : List Flagged). chars_in x.event ++ cs) (chars_both xs ys)
    ∙ sym (append_assoc (chars_in x.event) (chars_of xs) (chars_of ys))

pub more_chars : (xs ys : List PlainEntry) → length (chars_of xs) ≤ length (chars_of (xs ++ ys))
more_chars xs ys =
    let count = ap (λ (cs : List Flagged). length cs) (chars_both xs ys) ∙ length-append (chars_of xs) (chars_of ys) in
    omega (arith, count)

-- ---- runs

pub leads_both : (calls : ℕ → ℕ → Option PlainCall) (counts : List ℕ) (t : Terminal) (xs : List PlainEntry)
    (m : Terminal) (ys : List PlainEntry) (u : Terminal)
    → Leads calls counts t xs m
    → Leads calls counts m ys u
    → Leads calls counts t (xs ++ ys) u
leads_both calls counts t [] m ys u h k = subst (λ (v : Terminal). Leads calls counts v ys u) h k
leads_both calls counts t (e ∷ es) m ys u h k = (h.0, leads_both calls counts (after calls t e) es m ys u h.1 k)

tick_event : (event : PlainEvent) (step part : ℕ) (m : Marks)
    → (marks_after event step part m).tick ≡ m.tick + (if is_tick event then 1 else 0)
tick_event (answered a dropped) step part m = sym (add-zero m.tick)
tick_event (parted taken) step part m = sym (add-zero m.tick)
tick_event waited step part m = sym (add-zero m.tick)
tick_event (flushed chars) step part m = sym (add-zero m.tick)
tick_event ticked step part m = refl
tick_event (line_ended n) step part m = sym (add-zero m.tick)
tick_event clock_ended step part m = sym (add-zero m.tick)
tick_event caller_ended step part m = sym (add-zero m.tick)
tick_event phase_ended step part m = sym (add-zero m.tick)
tick_event (hung_up dropped) step part m = sym (add-zero m.tick)

and_true : (b : Bool) → (b && true) ≡ b
and_true true = refl
and_true false = refl

and_false : (b : Bool) → (b && false) ≡ false
and_false true = refl
and_false false = refl

abbrev pub one_if : Bool → ℕ
one_if b = if b then 1 else 0

-- the ticks of a part of phase k
pub ticks_between : (calls : ℕ → ℕ → Option PlainCall) (counts : List ℕ) (k : ℕ) (t : Terminal) (part : List PlainEntry)
    (u : Terminal)
    → Leads calls counts t part u
    → session_events_in part ≡ []
    → u.tick ≡ t.tick + tick_count_in k k part
ticks_between calls counts k t [] u leads inside = ap (λ (v : Terminal). v.tick) leads ∙ sym (add-zero t.tick)
ticks_between calls counts k t (e ∷ es) u leads inside =
    let first = nothing_first (session_events e.event) (session_events_in es) inside in
    let rest = ticks_between calls counts k (after calls t e) es u leads.1
    (nothing_rest (session_events e.event) (session_events_in es) inside) in
    let one : (after calls t e).tick ≡ t.tick + one_if (is_tick e.event) =
    ap (λ (m : Marks). m.tick) (step_marks calls counts t e leads.0) ∙ tick_event e.event e.step e.part (marks_of t) in
    let here : one_if (is_tick e.event && (k == k)) ≡ one_if (is_tick e.event) =
    ap (λ b. one_if (is_tick e.event && b)) (eq-eqb k k refl) ∙ ap one_if (and_true (is_tick e.event)) in
    let later : tick_count_in k (phase_after e.event k) es ≡ tick_count_in k k es =
    ap (λ j. tick_count_in k j es) (phase_same e.event k (no_phase_end e.event first)) in
    omega (arith, rest, one, here, later)

-- of other phases there are none
pub other_ticks : (j k : ℕ) (part : List PlainEntry)
    → session_events_in part ≡ []
    → (k ≡ j → ⊥)
    → tick_count_in j k part ≡ 0
other_ticks j k [] inside h = refl
other_ticks j k (e ∷ es) inside h =
    let first = nothing_first (session_events e.event) (session_events_in es) inside in
    let here : one_if (is_tick e.event && (k == j)) ≡ 0 =
    ap (λ b. one_if (is_tick e.event && b)) (ne_eqb k j h) ∙ ap one_if (and_false (is_tick e.event)) in
    let later : tick_count_in j (phase_after e.event k) es ≡ 0 =
    ap (λ i. tick_count_in j i es) (phase_same e.event k (no_phase_end e.event first))
    ∙ other_ticks j k es (nothing_rest (session_events e.event) (session_events_in es) inside) h in
    omega (arith, here, later)

pub phase_is : (event : PlainEvent) (k : ℕ) → phase_after event k ≡ (if is_phase_end event then 1 else 0) + k
phase_is (answered a dropped) k = sym (zero-add k)
phase_is (parted taken) k = sym (zero-add k)
phase_is waited k = sym (zero-add k)
phase_is (flushed chars) k = sym (zero-add k)
phase_is ticked k = sym (zero-add k)
phase_is (line_ended n) k = sym (zero-add k)
phase_is clock_ended k = sym (zero-add k)
phase_is caller_ended k = sym (zero-add k)
phase_is phase_ended k = omega arith
phase_is (hung_up dropped) k = sym (zero-add k)

pub ticks_both : (j i : ℕ) (xs ys : List PlainEntry)
    → tick_count_in j i (xs ++ ys) ≡ tick_count_in j i xs + tick_count_in j (phase_count xs + i) ys
ticks_both j i [] ys = ap (λ k. tick_count_in j k ys) (sym (zero-add i)) ∙ sym (zero-add (tick_count_in j (0 + i) ys))
ticks_both j i (x ∷ xs) ys =
    let rest = ticks_both j (phase_after x.event i) xs ys in
    let number : phase_count xs + phase_after x.event i ≡ phase_count (x ∷ xs) + i =
    omega (arith, phase_is x.event i) in
    let later : tick_count_in j (phase_count xs + phase_after x.event i) ys
    ≡ tick_count_in j (phase_count (x ∷ xs) + i) ys = ap (λ k. tick_count_in j k ys) number in
    omega (arith, rest, later)

-- before phase j there are none of it
early_ticks : (j i : ℕ) (es : List PlainEntry) → phase_count es + i < j → tick_count_in j i es ≡ 0
early_ticks j i [] h = refl
early_ticks j i (e ∷ es) h =
    let differs : i ≡ j → ⊥ = λ same. absurd (omega (arith, h, same)) in
    let here : one_if (is_tick e.event && (i == j)) ≡ 0 =
    ap (λ b. one_if (is_tick e.event && b)) (ne_eqb i j differs) ∙ ap one_if (and_false (is_tick e.event)) in
    let rest = early_ticks j (phase_after e.event i) es (omega (arith, h, phase_is e.event i)) in
    omega (arith, here, rest)

no_tick : (event : PlainEvent) → event ≡ phase_ended → is_tick event ≡ false
no_tick event h = ap is_tick h

end_ticks : (j i : ℕ) (last : PlainEntry) → last.event ≡ phase_ended → tick_count_in j i (last ∷ []) ≡ 0
end_ticks j i last ends = ap (λ b. (if b && (i == j) then 1 else 0) + 0) (no_tick last.event ends)

pub up_ticks : (j k : ℕ) (journal : List PlainEntry) → IsUpTo k journal → k ≤ j → tick_count_in j 0 journal ≡ 0
up_ticks j k journal (inl (none, empty)) h = ap (tick_count_in j 0) empty
up_ticks j k journal (inr (before, last, comes)) h =
    let early = early_ticks j 0 before (omega (arith, comes.count, h)) in
    let none = end_ticks j (phase_count before + 0) last comes.ends in
    ap (tick_count_in j 0) comes.parts
    ∙ ticks_both j 0 before (last ∷ [])
    ∙ ap (λ n. n + tick_count_in j (phase_count before + 0) (last ∷ [])) early
    ∙ ap (λ n. 0 + n) none

pub end_adds_none : (j i : ℕ) (part : List PlainEntry) (last : PlainEntry)
    → last.event ≡ phase_ended
    → tick_count_in j i (part ++ last ∷ []) ≡ tick_count_in j i part
end_adds_none j i part last ends =
    ticks_both j i part (last ∷ [])
    ∙ ap (λ n. tick_count_in j i part + n) (end_ticks j (phase_count part + i) last ends)
    ∙ add-zero (tick_count_in j i part)
