-- The answers of a journal, entry by entry.
use Rattle.std.proofs.Common.{◌≡◌, ℕ, Bool, true, false, ◌==◌, List, [], ◌∷◌, ◌++◌, Option, None, Some}
use Rattle.std.proofs.Common.{◌+◌, ◌-◌, IsSome, arith, slice_get, take, refl, sym, ap, ◌∙◌, cond, sum_by}
use Rattle.std.specs.Option.{option_and_then, option_or}
use Rattle.std.proofs.lemmas.Bool.{ne_eqb}
use Rattle.std.proofs.lemmas.List.{take_more}
use Rattle.std.proofs.lemmas.Option.{get_or_from_slice_get, slice_get_within}
use Rattle.std.proofs.lemmas.List.Sums.{sum_by_push}
use Rattle.tty_calls.specs.Plain.{PlainAnswer, PlainEntry, PlainEvent}
use Rattle.session_print.specs.declared.places.Places.{Places}
use Rattle.session_print.specs.declared.places.Turn.{Turn}
use Rattle.session_print.specs.Report.{answer_by, answer_in, answer_of_event}
use Rattle.session_print.specs.Printing.{same_turn, place_in, answer_at, entry_answer}

or_none : (o : Option PlainAnswer) → o ≡ option_or o None
or_none None = refl
or_none (Some a) = refl

or_or : (a b c : Option PlainAnswer) → option_or (option_or a b) c ≡ option_or a (option_or b c)
or_or None b c = refl
or_or (Some x) b c = refl

answer_more : (es : List PlainEntry) (e : PlainEntry) (c step : ℕ)
    → answer_in (es ++ e ∷ []) c step ≡ option_or (answer_by e c step) (answer_in es c step)
answer_more [] e c step = or_none (answer_by e c step)
answer_more (x ∷ xs) e c step =
    ap (λ o. option_or o (answer_by x c step)) (answer_more xs e c step)
    ∙ or_or (answer_by e c step) (answer_in xs c step) (answer_by x c step)

-- the entries so far, and one more
entries_to : (es : List PlainEntry) (i : ℕ) (e : PlainEntry)
    → slice_get es i ≡ Some e
    → take (i + 1) es ≡ take i es ++ e ∷ []
entries_to es i e at =
    take_more es i e (slice_get_within es i e at) ∙ ap (λ x. take i es ++ x ∷ []) (get_or_from_slice_get es i e e at)

one_more : (es : List PlainEntry) (i : ℕ) (e : PlainEntry) (c step : ℕ)
    → slice_get es i ≡ Some e
    → answer_in (take (i + 1) es) c step ≡ option_or (answer_by e c step) (answer_in (take i es) c step)
one_more es i e c step at = ap (λ xs. answer_in xs c step) (entries_to es i e at) ∙ answer_more (take i es) e c step

-- what an event counts for, added to the sum so far
pub sum_more : (f : PlainEvent → ℕ) (es : List PlainEntry) (i : ℕ) (e : PlainEntry) (new old : ℕ)
    → slice_get es i ≡ Some e
    → new ≡ old + f e.event
    → old ≡ sum_by (λ x. f x.event) (take i es)
    → new ≡ sum_by (λ x. f x.event) (take (i + 1) es)
sum_more f es i e new old at more before =
    more
    ∙ ap (λ n. n + f e.event) before
    ∙ sym (sum_by_push (λ x. f x.event) (take i es) e)
    ∙ ap (sum_by (λ x. f x.event)) (sym (entries_to es i e at))

merged : {X : Type 0} (told : X → Option PlainAnswer) (b : Bool) (a g : X) (x : PlainAnswer)
    → told a ≡ Some x
    → told (cond b a g) ≡ option_or (cond b (told a) None) (told g)
merged told true a g x is = is ∙ sym (ap (λ o. option_or o (told g)) is)
merged told false a g x is = refl

-- the place of the entry that comes next
answer_next : (es : List PlainEntry) (i : ℕ) (e : PlainEntry) (place : ℕ)
    → slice_get es i ≡ Some e
    → place ≡ i + 1
    → answer_at es place ≡ answer_of_event e.event
answer_next es i e place at after =
    let later : (place == 0) ≡ false = ne_eqb place 0 (λ none. omega (arith, after, none)) in
    let before : place - 1 ≡ i = omega (arith, after) in
    let told : Option PlainEntry → Option PlainAnswer = option_and_then (λ x. answer_of_event x.event) in
    ap (λ b. told (cond b None (slice_get es (place - 1)))) later
    ∙ ap (λ n. told (slice_get es n)) before
    ∙ ap told at

value_of : (o : Option PlainAnswer) → IsSome o → (x : PlainAnswer) × (o ≡ Some x)
value_of None h = absurd (cc)
value_of (Some x) h = (x, refl)

-- one more entry, and its place noted
pub told_more : (old new : Places) (es : List PlainEntry) (i : ℕ) (e : PlainEntry) (turn : Turn) (place : ℕ)
    → slice_get es i ≡ Some e
    → place ≡ i + 1
    → ((c step : ℕ) → entry_answer (Some turn) e c step ≡ answer_by e c step)
    → IsSome (answer_of_event e.event)
    → ((c step : ℕ)
    → place_in new c step ≡ cond (same_turn turn (record { caller = c; step = step })) place (place_in old c step))
    → ((c step : ℕ) → answer_at es (place_in old c step) ≡ answer_in (take i es) c step)
    → (c step : ℕ)
    → answer_at es (place_in new c step) ≡ answer_in (take (i + 1) es) c step
told_more old new es i e turn place at after by answers noted before c step =
    let here : Bool = same_turn turn (record { caller = c; step = step }) in
    let next : answer_at es place ≡ answer_of_event e.event = answer_next es i e place at after in
    let rest : Option PlainAnswer = answer_at es (place_in old c step) in
    let answer = value_of (answer_of_event e.event) answers in
    ap (answer_at es) (noted c step)
    ∙ merged (answer_at es) here place (place_in old c step) answer.0 (next ∙ answer.1)
    ∙ ap (λ o. option_or (cond here o None) rest) next
    ∙ ap (λ o. option_or o rest) (by c step)
    ∙ ap (option_or (answer_by e c step)) (before c step)
    ∙ sym (one_more es i e c step at)

-- one more entry, which answers nothing
pub told_same : (places : Places) (es : List PlainEntry) (i : ℕ) (e : PlainEntry) → slice_get es i ≡ Some e
    → ((c step : ℕ) → entry_answer None e c step ≡ answer_by e c step)
    → ((c step : ℕ) → answer_at es (place_in places c step) ≡ answer_in (take i es) c step)
    → (c step : ℕ) → answer_at es (place_in places c step) ≡ answer_in (take (i + 1) es) c step
told_same places es i e at by before c step =
    before c step
    ∙ ap (λ o. option_or o (answer_in (take i es) c step)) (by c step)
    ∙ sym (one_more es i e c step at)
