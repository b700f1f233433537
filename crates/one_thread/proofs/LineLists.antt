-- What a step of a line hands over: the characters of one cut, or none.
use Rattle.std.proofs.Common.{◌≡◌, ◌⊎◌, ℕ, ◌+◌, ◌<◌, ◌≤◌, Bool, true, false, nat_lt, if◌then◌else◌}
use Rattle.std.proofs.Common.{List, [], ◌∷◌, ◌++◌, length, take, get_or, reverse, refl, sym, ◌∙◌, ap}
use Rattle.std.proofs.Common.{subst, arith, append_assoc, append-nil, length-append, length-take, inl, inr}
use Rattle.std.specs.List.{All}
use Rattle.std.specs.List.Sorted.{IsNonDecreasing}
use Rattle.std.proofs.lemmas.Bool.Decides.{nat_tests}
use Rattle.std.proofs.lemmas.List.{reverse-append, append_cancel_left, get_or-append-add, get_or_past}
use Rattle.std.proofs.lemmas.List.Elements.{All-head}
use Rattle.tty_base.specs.declared.characters.Flagged.{Flagged}
use Rattle.tty_base.specs.declared.lines.LineStep.{LineStep}
use Rattle.tty_base.specs.Lines.{arrival}
use Rattle.uart_line.specs.Received.{is_cut, window, window_output, overrun_mark, received_list, waiting_list}
use Rattle.uart_line.specs.Offered.{PutAnswer, appends, refuses, appended_list}
use Rattle.uart_line.specs.Offered.{overrun_list, IsFullAt, AreAmong}
use Rattle.uart_line.proofs.Steps.{cut_after, received_list-step}
use Rattle.legal_runs.specs.Order.{cuts_after}
use Rattle.play_base.specs.Putting.{KnowsTaken}
use Rattle.legal_runs.proofs.Truths.{if_false, if_true}
use Rattle.play_base.proofs.Refusals.{All_later}

-- ---- choices

pub true_or_false : (b : Bool) → (b ≡ true) ⊎ (b ≡ false)
true_or_false true = inl refl
true_or_false false = inr refl

-- ---- a window that is cut

some_has_length : (b : Bool) (xs ys : List Flagged) → 0 < length xs → 0 < length ys → 0 < length (if b then xs else ys)
some_has_length true xs ys h k = h
some_has_length false xs ys h k = k

few_either : (b : Bool) (xs ys : List Flagged)
    → length xs ≤ 17
    → (b ≡ false → length ys ≤ 17)
    → length (if b then xs else ys) ≤ 17
few_either true xs ys h k = h
few_either false xs ys h k = k refl

at_most_16 : (n : ℕ) → nat_lt 16 n ≡ false → n ≤ 16
at_most_16 n h = grind (arith, nat_tests)

-- a cut gives 1 to 17 characters
pub window_output-few : (w : List Flagged) → length (window_output w) ≤ 17
unfolding window_output
window_output-few [] = omega arith
window_output-few (c ∷ cs) =
    few_either (nat_lt 16 (length (c ∷ cs))) (c ∷ overrun_mark ∷ take 15 cs) (c ∷ cs) (omega (arith, length-take 15 cs))
    (λ h. let few : length (c ∷ cs) ≤ 16 = at_most_16 (length (c ∷ cs)) h in omega arith)

pub window_output-some : (past : List LineStep) (w : List Flagged) → is_cut past w ≡ true → 0 < length (window_output w)
unfolding window_output is_cut
window_output-some past [] h = absurd (cc)
window_output-some past (c ∷ cs) h =
    some_has_length (nat_lt 16 (length (c ∷ cs))) (c ∷ overrun_mark ∷ take 15 cs) (c ∷ cs) (omega arith) (omega arith)

-- what a step hands over, after these
abbrev pub handed_list : List LineStep → LineStep → List Flagged
handed_list before step = if cut_after before step then window_output (waiting_list before ++ arrival step) else []

pub handed_is : (before : List LineStep) (step : LineStep) (list : List Flagged)
    → received_list (before ++ step ∷ []) ≡ received_list before ++ list
    → list ≡ handed_list before step
handed_is before step list h =
    append_cancel_left (received_list before) list (handed_list before step) (sym h ∙ received_list-step before step)

few_if : (b : Bool) (w : List Flagged) → length (if b then window_output w else []) ≤ 17
few_if true w = window_output-few w
few_if false w = omega arith

pub handed_few : (before : List LineStep) (step : LineStep) → length (handed_list before step) ≤ 17
handed_few before step = few_if (cut_after before step) (waiting_list before ++ arrival step)

no_cut_if : (b : Bool) (past : List LineStep) (w : List Flagged)
    → b ≡ is_cut past w
    → length (if b then window_output w else []) ≡ 0
    → b ≡ false
no_cut_if true past w e h = absurd (omega (arith, window_output-some past w (sym e)))
no_cut_if false past w e h = refl

-- a step that hands nothing over makes no cut, and another makes one
pub no_cut : (before : List LineStep) (step : LineStep)
    → length (handed_list before step) ≡ 0
    → cut_after before step ≡ false
no_cut before step h =
    no_cut_if (cut_after before step) (step ∷ reverse before) (waiting_list before ++ arrival step) refl h

cut_if : (b : Bool) (w : List Flagged) → 0 < length (if b then window_output w else []) → b ≡ true
cut_if true w h = refl
cut_if false w h = absurd (omega arith)

pub is_cut_here : (before : List LineStep) (step : LineStep)
    → 0 < length (handed_list before step)
    → cut_after before step ≡ true
is_cut_here before step h = cut_if (cut_after before step) (waiting_list before ++ arrival step) h

-- ---- the cuts of several steps

abbrev cut_here : List LineStep → LineStep → List (List Flagged)
cut_here before step = if cut_after before step then window_output (waiting_list before ++ arrival step) ∷ [] else []

cuts_at : (before : List LineStep) (step : LineStep) (left : List LineStep)
    → cuts_after (reverse before) (step ∷ left) ≡ cut_here before step ++ cuts_after (step ∷ reverse before) left
unfolding waiting_list window
cuts_at before step left = refl

cuts_split : (before xs ys : List LineStep)
    → cuts_after (reverse before) (xs ++ ys) ≡ cuts_after (reverse before) xs ++ cuts_after (reverse (before ++ xs)) ys
cuts_split before [] ys = ap (λ (l : List LineStep). cuts_after (reverse l) ys) (sym (append-nil before))
cuts_split before (x ∷ xs) ys =
    let e : reverse (before ++ x ∷ []) ≡ x ∷ reverse before = reverse-append before (x ∷ []) in
    let all : (before ++ x ∷ []) ++ xs ≡ before ++ x ∷ xs = append_assoc before (x ∷ []) xs in
    let tail : cuts_after (x ∷ reverse before) (xs ++ ys)
    ≡ cuts_after (x ∷ reverse before) xs ++ cuts_after (reverse (before ++ x ∷ xs)) ys =
    subst (λ (past : List LineStep).
    cuts_after past (xs ++ ys) ≡ cuts_after past xs ++ cuts_after (reverse (before ++ x ∷ xs)) ys) e
    (subst (λ (l : List LineStep).
    cuts_after (reverse (before ++ x ∷ [])) (xs ++ ys)
    ≡ cuts_after (reverse (before ++ x ∷ [])) xs ++ cuts_after (reverse l) ys) all
    (cuts_split (before ++ x ∷ []) xs ys)) in
    cuts_at before x (xs ++ ys)
    ∙ ap (λ (r : List (List Flagged)). cut_here before x ++ r) tail
    ∙ sym
    (append_assoc (cut_here before x) (cuts_after (x ∷ reverse before) xs) (cuts_after (reverse (before ++ x ∷ xs)) ys))
    ∙ ap (λ (r : List (List Flagged)). r ++ cuts_after (reverse (before ++ x ∷ xs)) ys) (sym (cuts_at before x xs))

-- one more step adds its cut
cuts_step : (before done : List LineStep) (step : LineStep)
    → cuts_after (reverse before) (done ++ step ∷ [])
    ≡ cuts_after (reverse before) done ++ cut_here (before ++ done) step
cuts_step before done step =
    cuts_split before done (step ∷ [])
    ∙ ap (λ (r : List (List Flagged)). cuts_after (reverse before) done ++ r)
    (cuts_at (before ++ done) step [] ∙ append-nil (cut_here (before ++ done) step))

pub cuts_same : (before done : List LineStep) (step : LineStep) → cut_after (before ++ done) step ≡ false
    → length (cuts_after (reverse before) (done ++ step ∷ [])) ≡ length (cuts_after (reverse before) done)
cuts_same before done step none =
    ap length (cuts_step before done step ∙ ap (λ (r : List (List Flagged)). cuts_after (reverse before) done ++ r)
    (if_false (cut_after (before ++ done) step) (window_output (waiting_list (before ++ done) ++ arrival step) ∷ [])
    [] none))
    ∙ ap length (append-nil (cuts_after (reverse before) done))

pub cuts_more : (before done : List LineStep) (step : LineStep) → cut_after (before ++ done) step ≡ true
    → length (cuts_after (reverse before) (done ++ step ∷ [])) ≡ length (cuts_after (reverse before) done) + 1
cuts_more before done step cut =
    ap length (cuts_step before done step ∙ ap (λ (r : List (List Flagged)). cuts_after (reverse before) done ++ r)
    (if_true (cut_after (before ++ done) step) (window_output (waiting_list (before ++ done) ++ arrival step) ∷ [])
    [] cut))
    ∙ length-append (cuts_after (reverse before) done)
    (window_output (waiting_list (before ++ done) ++ arrival step) ∷ [])

-- the cut after these steps is the one of this step
pub cut_is_next : (before done : List LineStep) (step : LineStep) (left : List LineStep)
    → cut_after (before ++ done) step ≡ true
    → get_or (cuts_after (reverse before) (done ++ step ∷ left)) (length (cuts_after (reverse before) done)) []
    ≡ handed_list (before ++ done) step
cut_is_next before done step left cut =
    let w : List Flagged = window_output (waiting_list (before ++ done) ++ arrival step) in
    let rest : List (List Flagged) = cuts_after (step ∷ reverse (before ++ done)) left in
    let here : cuts_after (reverse (before ++ done)) (step ∷ left) ≡ w ∷ rest =
    cuts_at (before ++ done) step left
    ∙ ap (λ (r : List (List Flagged)). r ++ rest) (if_true (cut_after (before ++ done) step) (w ∷ []) [] cut) in
    let all : cuts_after (reverse before) (done ++ step ∷ left) ≡ cuts_after (reverse before) done ++ (w ∷ rest) =
    cuts_split before done (step ∷ left)
    ∙ ap (λ (r : List (List Flagged)). cuts_after (reverse before) done ++ r) here in
    let at : length (cuts_after (reverse before) done) ≡ length (cuts_after (reverse before) done) + 0 = omega arith in
    ap (λ (l : List (List Flagged)). get_or l (length (cuts_after (reverse before) done)) []) all
    ∙ ap (λ (n : ℕ). get_or (cuts_after (reverse before) done ++ (w ∷ rest)) n []) at
    ∙ get_or-append-add (cuts_after (reverse before) done) (w ∷ rest) 0 []
    ∙ sym (if_true (cut_after (before ++ done) step) w [] cut)

-- past all cuts there is none
pub no_cut_left : (cuts : List (List Flagged)) (n : ℕ) → n ≡ length cuts → get_or cuts n [] ≡ []
no_cut_left cuts n e = get_or_past cuts n [] (omega arith)

-- ---- heads

pub knows_more : (taken : ℕ) (heads loaded : List ℕ)
    → KnowsTaken taken heads
    → IsNonDecreasing (heads ++ loaded)
    → KnowsTaken taken (heads ++ loaded)
knows_more taken heads loaded k rise = record {
  before = k.before;
  later = k.later ++ loaded;
  parts = ap (λ (hs : List ℕ). hs ++ loaded) k.parts ∙ append_assoc k.before (taken ∷ k.later) loaded;
  rise = rise;
}

-- ---- what is refused

-- where as many more as there are have room beside those that each head counts, none is refused
pub none_refused : (capacity base place sent : ℕ) (cs : List Flagged) (ps : List PutAnswer) (heads : List ℕ)
    → length ps ≡ length cs
    → IsFullAt capacity sent ps
    → AreAmong ps heads
    → All (λ h. base ≤ h) heads
    → sent + length cs < base + capacity
    → (appended_list cs ps ≡ cs) × (overrun_list place sent ps ≡ [])
unfolding appended_list overrun_list IsFullAt AreAmong
none_refused capacity base place sent [] [] heads e h among all room = (refl, refl)
none_refused capacity base place sent [] (p ∷ ps) heads e h among all room = absurd (omega (arith, e))
none_refused capacity base place sent (c ∷ cs) [] heads e h among all room = absurd (omega (arith, e))
none_refused capacity base place sent (c ∷ cs) (appends ∷ ps) heads e h among all room =
    let rest : (appended_list cs ps ≡ cs) × (overrun_list (place + 1) (sent + 1) ps ≡ []) =
    none_refused capacity base (place + 1) (sent + 1) cs ps heads (omega (arith, e)) h among all (omega arith) in
    (ap (λ r. c ∷ r) rest.0, rest.1)
none_refused capacity base place sent (c ∷ cs) (refuses seen ∷ ps) heads e h among all room =
    let here : base ≤ seen =
    All-head (λ h. base ≤ h) seen among.1
    (All_later (λ h. base ≤ h) among.0 (seen ∷ among.1)
    (subst (λ (hs : List ℕ). All (λ h. base ≤ h) hs) among.2 all)) in
    absurd (omega (arith, h.0))
