-- Heads that were loaded, and what is refused.
use Rattle.std.proofs.Common.{◌≡◌, ℕ, suc, ◌+◌, ◌<◌, ◌≤◌, List, [], ◌∷◌, ◌++◌, length, sym, ◌∙◌, ap, subst, arith}
use Rattle.std.proofs.Common.{append_assoc, length-append}
use Rattle.std.specs.List.{All}
use Rattle.std.specs.List.Sorted.{IsNonDecreasing}
use Rattle.std.proofs.lemmas.List.{get_or-append-add}
use Rattle.std.proofs.lemmas.List.Elements.{All-nil, All-cons, All-head, All-tail, All-weaker}
use Rattle.tty_base.specs.declared.characters.Flagged.{Flagged}
use Rattle.tty_base.specs.declared.lines.Overrun.{Overrun}
use Rattle.uart_line.specs.Offered.{PutAnswer, appends, refuses, overrun_list, AreAmong, HandsOver}
use Rattle.play_base.specs.Putting.{KnowsTaken, SeesFrom}

pub All_later : {A : Type 0} (P : A → Type 0) (xs : List A) (ys : List A) → All P (xs ++ ys) → All P ys
All_later P [] ys h = h
All_later P (x ∷ xs) ys h = All_later P xs ys (All-tail P x (xs ++ ys) h)

pub All_front : {A : Type 0} (P : A → Type 0) (xs : List A) (ys : List A) → All P (xs ++ ys) → All P xs
All_front P [] ys h = All-nil P
All_front P (x ∷ xs) ys h = All-cons P x xs (All-head P x (xs ++ ys) h) (All_front P xs ys (All-tail P x (xs ++ ys) h))

-- where the heads do not fall, those after one are at least that
later_heads : (before : List ℕ) (n : ℕ) (later : List ℕ)
    → IsNonDecreasing (before ++ n ∷ later)
    → All (λ h. n ≤ h) later
later_heads before n later rise i d lt =
    omega (
      arith,
      rise (length before + 0) (length before + suc i) d (omega arith)
          (omega (arith, length-append before (n ∷ later), lt)),
      get_or-append-add before (n ∷ later) 0 d,
      get_or-append-add before (n ∷ later) (suc i) d,
    )

-- heads that were loaded since are at least the number taken
pub loaded_since : (taken : ℕ) (heads loaded : List ℕ)
    → KnowsTaken taken heads
    → IsNonDecreasing (heads ++ loaded)
    → All (λ h. taken ≤ h) loaded
loaded_since taken heads loaded k rise =
    let parts : heads ++ loaded ≡ k.before ++ taken ∷ (k.later ++ loaded) =
    ap (λ (hs : List ℕ). hs ++ loaded) k.parts ∙ append_assoc k.before (taken ∷ k.later) loaded in
    All_later (λ h. taken ≤ h) k.later loaded
    (later_heads k.before taken (k.later ++ loaded) (subst IsNonDecreasing parts rise))

-- each refusal lies among the places offered, and has seen one of the heads
record Lies (Q : ℕ → Type 0) (low high : ℕ) (o : Overrun) : Type 0 where
  from : low ≤ o.at
  below : o.at < high
  sees : Q o.seen

refusals_lie : (Q : ℕ → Type 0) (place high sent : ℕ) (ps : List PutAnswer) (heads : List ℕ)
    → AreAmong ps heads
    → All Q heads
    → place + length ps ≤ high
    → All (Lies Q place high) (overrun_list place sent ps)
unfolding overrun_list AreAmong
refusals_lie Q place high sent [] heads among all h = All-nil (Lies Q place high)
refusals_lie Q place high sent (appends ∷ ps) heads among all h =
    All-weaker (Lies Q (place + 1) high) (Lies Q place high)
    (λ o l. record { from = omega (arith, l.from); below = l.below; sees = l.sees })
    (overrun_list (place + 1) (sent + 1) ps)
    (refusals_lie Q (place + 1) high (sent + 1) ps heads among all (omega (arith, h)))
refusals_lie Q place high sent (refuses seen ∷ ps) heads among all h =
    let tail = All_later Q among.0 (seen ∷ among.1) (subst (λ (hs : List ℕ). All Q hs) among.2 all) in
    let here : Lies Q place high (record { at = place; sent = sent; seen = seen }) =
    record { from = omega arith; below = omega (arith, h); sees = All-head Q seen among.1 tail } in
    All-cons (Lies Q place high) (record { at = place; sent = sent; seen = seen }) (overrun_list (place + 1) sent ps)
    here
    (All-weaker (Lies Q (place + 1) high) (Lies Q place high)
    (λ o l. record { from = omega (arith, l.from); below = l.below; sees = l.sees })
    (overrun_list (place + 1) sent ps)
    (refusals_lie Q (place + 1) high sent ps among.1 among.3 (All-tail Q seen among.1 tail) (omega (arith, h))))

pub refusals_see : (place high taken sent : ℕ) (ps : List PutAnswer) (heads : List ℕ)
    → AreAmong ps heads
    → All (λ h. taken ≤ h) heads
    → place + length ps ≤ high
    → All (SeesFrom place high taken) (overrun_list place sent ps)
refusals_see place high taken sent ps heads among all h =
    All-weaker (Lies (λ h. taken ≤ h) place high) (SeesFrom place high taken)
    (λ o l. record { from = l.from; below = l.below; sees = l.sees })
    (overrun_list place sent ps) (refusals_lie (λ h. taken ≤ h) place high sent ps heads among all h)

-- no overrun has seen more than the highest head
pub overruns_see_most : (capacity most : ℕ) (all sent : List Flagged) (heads : List ℕ) (overruns : List Overrun)
    → HandsOver capacity [] all [] sent [] heads [] overruns
    → All (λ h. h ≤ most) heads
    → All (λ o. o.seen ≤ most) overruns
overruns_see_most capacity most all sent heads overruns a h =
    let o = a.offers in
    subst (λ (os : List Overrun). All (λ o. o.seen ≤ most) os) (sym o.adds_refused)
    (All-weaker (Lies (λ h. h ≤ most) 0 (length o.answers)) (λ o. o.seen ≤ most) (λ o l. l.sees)
    (overrun_list 0 0 o.answers)
    (refusals_lie (λ h. h ≤ most) 0 (length o.answers) 0 o.answers o.loaded o.among_loaded
    (subst (λ (hs : List ℕ). All (λ h. h ≤ most) hs) o.loads h) (omega arith)))
