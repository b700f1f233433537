-- Lines of calls, one behind the other.
use Rattle.std.proofs.Common.{◌≡◌, ℕ, suc, ◌+◌, ◌-◌, ◌<◌, zero, ◌≤◌, nat_lt, Bool, true, false}
use Rattle.std.proofs.Common.{List, [], ◌∷◌, ◌++◌, Option, Some, length, map, drop, take}
use Rattle.std.proofs.Common.{get_or, slice_get, if◌then◌else◌, refl, sym, ◌∙◌, ap, subst, arith}
use Rattle.std.proofs.Common.{append_assoc, append-nil, drop-cons, add-one, length-append}
use Rattle.std.specs.Prelude.{codes, decimal}
use Rattle.std.proofs.lemmas.List.{drop_all, take_all, drop-drop, map-append, length-map, length-take-le, length-drop}
use Rattle.std.proofs.lemmas.Bool.{ltb-false}
use Rattle.std.proofs.lemmas.Option.{get_or_from_slice_get, slice_get_within}
use Rattle.tty_base.specs.Contents.{Contents}
use Rattle.tty_calls.specs.Plain.{PlainCall}
use Rattle.session_print.specs.Lines.{newline}
use Rattle.session_print.specs.Words.{verb_of}
use Rattle.passed_calls.specs.declared.placed.PlacedCall.{PlacedCall}
use Rattle.passed_calls.specs.Scripts.{AnyCall, plain, further, mixed}
use Rattle.further_report.specs.Calls.{verb_in, answered_line, call_line, lines_from}
use Rattle.further_report.specs.Printing.{bytes_of}

pub next_item : {A : Type 0} (xs : List A) (i : ℕ) (x : A)
    → i < length xs
    → x ≡ get_or xs i x
    → drop i xs ≡ x ∷ drop (i + 1) xs
next_item xs i x h at =
    drop-cons xs i x h ∙ ap (λ y. y ∷ drop (suc i) xs) (sym at) ∙ ap (λ n. x ∷ drop n xs) (sym (add-one i))

pub next_got : {A : Type 0} (xs : List A) (i : ℕ) (x : A) → slice_get xs i ≡ Some x → drop i xs ≡ x ∷ drop (i + 1) xs
next_got xs i x at = next_item xs i x (slice_get_within xs i x at) (sym (get_or_from_slice_get xs i x x at))

got_bytes : (xs : List (Contents ℕ)) (i : ℕ) (x : Contents ℕ)
    → i < length xs
    → x ≡ get_or xs i x
    → slice_get (bytes_of xs) i ≡ Some x.items
got_bytes [] i x lt at = absurd (omega arith)
got_bytes (y ∷ ys) zero x lt at = ap (λ (z : Contents ℕ). Some z.items) (sym at)
got_bytes (y ∷ ys) (suc i) x lt at = got_bytes ys i x (omega arith) at

-- the line of a call, piece by piece
pub line_put : (p : ℕ) (name : List ℕ) (step : ℕ) (verb : List ℕ) (answers : List (Contents ℕ)) (x : Contents ℕ)
    (text first second new head : List ℕ)
    → step < length answers
    → x ≡ get_or answers step x
    → head ≡ decimal p ++ (codes "." ++ (name ++ (codes "." ++ (decimal step ++ (codes " " ++ (verb ++ codes " "))))))
    → first ≡ text ++ head
    → second ≡ first ++ x.items
    → new ≡ second ++ newline
    → new ≡ text ++ answered_line p name step verb (slice_get (bytes_of answers) step)
line_put p name step verb answers x text first second new head lt at told a b c =
    let whole :
    (decimal p ++ (codes "." ++ (name ++ (codes "." ++ (decimal step ++ (codes " " ++ (verb ++ codes " ")))))))
    ++ (x.items ++ newline)
    ≡ call_line p name step verb x.items = simp append_assoc in
    c
    ∙ ap (λ (l : List ℕ). l ++ newline) (b ∙ ap (λ (l : List ℕ). l ++ x.items) a)
    ∙ append_assoc (text ++ head) x.items newline
    ∙ append_assoc text head (x.items ++ newline)
    ∙ ap (λ (l : List ℕ). text ++ (l ++ (x.items ++ newline))) told
    ∙ ap (λ (l : List ℕ). text ++ l) whole
    ∙ ap (λ (o : Option (List ℕ)). text ++ answered_line p name step verb o) (sym (got_bytes answers step x lt at))

module _ (p : ℕ) (name : List ℕ) (answers : List (List ℕ)) where
  pub lines_both : (step : ℕ) (xs ys : List (List ℕ))
      → lines_from p name answers step (xs ++ ys)
      ≡ lines_from p name answers step xs ++ lines_from p name answers (step + length xs) ys
  lines_both step [] ys = ap (λ (n : ℕ). lines_from p name answers n ys) (omega arith)
  lines_both step (x ∷ xs) ys =
      let line : List ℕ = answered_line p name step x (slice_get answers step) in
      let later : (step + 1) + length xs ≡ step + length (x ∷ xs) = omega arith in
      ap (λ (l : List ℕ). line ++ l) (lines_both (step + 1) xs ys)
      ∙ ap (λ (n : ℕ). line ++ (lines_from p name answers (step + 1) xs ++ lines_from p name answers n ys)) later
      ∙ sym (append_assoc line (lines_from p name answers (step + 1) xs)
      (lines_from p name answers (step + length (x ∷ xs)) ys))

  -- ---- calls for the port

  pub plain_more : (calls : List PlainCall) (i e : ℕ) (c : PlainCall) → slice_get calls i ≡ Some c → i < e
      → take (e - i) (drop i calls) ≡ c ∷ take (e - (i + 1)) (drop (i + 1) calls)
  plain_more calls i e c at lt =
      let count : e - i ≡ suc (e - (i + 1)) = omega arith in
      ap (λ (n : ℕ). take n (drop i calls)) count ∙ ap (take (suc (e - (i + 1)))) (next_got calls i c at)

  pub plain_step : (text new first : List ℕ) (calls : List PlainCall) (step next i e : ℕ) (c : PlainCall)
      → slice_get calls i ≡ Some c
      → i < e
      → next ≡ step + 1
      → new ≡ text ++ answered_line p name step (verb_of c) (slice_get answers step)
      → text ++ lines_from p name answers step (map verb_of (take (e - i) (drop i calls))) ≡ first
      → new ++ lines_from p name answers next (map verb_of (take (e - (i + 1)) (drop (i + 1) calls))) ≡ first
  plain_step text new first calls step next i e c at lt is put left =
      let rest : List ℕ =
      lines_from p name answers (step + 1) (map verb_of (take (e - (i + 1)) (drop (i + 1) calls))) in
      ap (λ (n : ℕ). new ++ lines_from p name answers n (map verb_of (take (e - (i + 1)) (drop (i + 1) calls)))) is
      ∙ ap (λ (l : List ℕ). l ++ rest) put
      ∙ append_assoc text (answered_line p name step (verb_of c) (slice_get answers step)) rest
      ∙ ap (λ (cs : List PlainCall). text ++ lines_from p name answers step (map verb_of cs))
      (sym (plain_more calls i e c at lt))
      ∙ left

  pub plain_over : (text first : List ℕ) (calls : List PlainCall) (step i e : ℕ) → e ≤ i
      → text ++ lines_from p name answers step (map verb_of (take (e - i) (drop i calls))) ≡ first → text ≡ first
  plain_over text first calls step i e over left =
      let none : e - i ≡ 0 = omega arith in
      sym (append-nil text)
      ∙ ap (λ (n : ℕ). text ++ lines_from p name answers step (map verb_of (take n (drop i calls)))) (sym none)
      ∙ left

-- ---- calls that are placed

pub verbs_plain : {C : Type 0} (verb : C → List ℕ) (calls : List PlainCall)
    → map (verb_in verb) (map plain calls) ≡ map verb_of calls
verbs_plain verb [] = refl
verbs_plain verb (c ∷ cs) = ap (λ (l : List (List ℕ)). verb_of c ∷ l) (verbs_plain verb cs)

-- so many calls from a place on, or all that there are
pub few : {A : Type 0} (xs : List A) (at gap end count : ℕ) (b : Bool)
    → count ≡ length xs
    → b ≡ nat_lt gap (count - at)
    → at ≤ length xs
    → end ≡ (if b then at + gap else count)
    → (take (end - at) (drop at xs) ≡ take gap (drop at xs)) × (drop end xs ≡ drop gap (drop at xs))
few xs at gap end count true all is lt e =
    let some : end - at ≡ gap = omega (arith, e) in
    (ap (λ (n : ℕ). take n (drop at xs)) some, ap (λ (n : ℕ). drop n xs) e ∙ sym (drop-drop gap at xs))
few xs at gap end count false all is lt e =
    let left : length (drop at xs) ≡ length xs - at = length-drop at xs in
    let many : length (drop at xs) ≤ gap = omega (arith, left, all, ltb-false _ _ (sym is)) in
    let rest : length (drop at xs) ≤ end - at = omega (arith, left, all, e) in (
      take_all (end - at) (drop at xs) rest ∙ sym (take_all gap (drop at xs) many),
      drop_all end xs (omega (arith, all, e)) ∙ sym (drop_all gap (drop at xs) many),
    )

-- a call behind calls for the port
pub placed_put : {C : Type 0} (verb : C → List ℕ) (p : ℕ) (name : List ℕ) (answers : List (List ℕ))
    (old mid new : List ℕ) (calls : List PlainCall) (step next at gap end : ℕ) (c : C)
    → at ≤ end
    → end ≤ length calls
    → take (end - at) (drop at calls) ≡ take gap (drop at calls)
    → next ≡ step + (end - at)
    → mid ≡ old ++ lines_from p name answers step (map verb_of (take (end - at) (drop at calls)))
    → new ≡ mid ++ answered_line p name next (verb c) (slice_get answers next)
    → new
    ≡ old
    ++ lines_from p name answers step (map (verb_in verb) (map plain (take gap (drop at calls)) ++ further c ∷ []))
placed_put verb p name answers old mid new calls step next at gap end c lt within same is first last =
    let some : List PlainCall = take (end - at) (drop at calls) in
    let verbs : List (List ℕ) = map verb_of some in
    let lines : List (List ℕ) → List ℕ = lines_from p name answers step in
    let line : List ℕ = answered_line p name next (verb c) (slice_get answers next) in
    let count : length verbs ≡ end - at =
    length-map some verb_of ∙ length-take-le (end - at) (drop at calls) (omega (arith, length-drop at calls)) in
    let behind : step + length verbs ≡ next = omega (arith, count, is) in
    let written : map (verb_in verb) (map plain (take gap (drop at calls)) ++ further c ∷ []) ≡ verbs ++ verb c ∷ [] =
    map-append (verb_in verb) (map plain (take gap (drop at calls))) (further c ∷ [])
    ∙ ap (λ (l : List (List ℕ)). l ++ verb c ∷ [])
    (verbs_plain verb (take gap (drop at calls)) ∙ ap (map verb_of) (sym same)) in
    last
    ∙ ap (λ (l : List ℕ). l ++ line) first
    ∙ append_assoc old (lines verbs) line
    ∙ ap (λ (l : List ℕ). old ++ (lines verbs ++ l)) (sym (append-nil line))
    ∙ ap (λ (n : ℕ). old ++ (lines verbs ++ lines_from p name answers n (verb c ∷ []))) (sym behind)
    ∙ ap (λ (l : List ℕ). old ++ l) (sym (lines_both p name answers step verbs (verb c ∷ [])))
    ∙ ap (λ (vs : List (List ℕ)). old ++ lines vs) (sym written)

pub placed_count : {C : Type 0} (calls : List PlainCall) (step next at gap end : ℕ) (c : C)
    → at ≤ end
    → end ≤ length calls
    → take (end - at) (drop at calls) ≡ take gap (drop at calls)
    → next ≡ step + (end - at)
    → next + 1 ≡ step + length (map plain (take gap (drop at calls)) ++ further c ∷ [])
placed_count {C = C} calls step next at gap end c lt within same is =
    let few_calls : List (AnyCall C) = map plain (take gap (drop at calls)) in
    let some : length (take gap (drop at calls)) ≡ end - at =
    ap (λ (l : List PlainCall). length l) (sym same)
    ∙ length-take-le (end - at) (drop at calls) (omega (arith, length-drop at calls)) in
    let plains : length few_calls ≡ length (take gap (drop at calls)) = length-map (take gap (drop at calls)) plain in
    omega (arith, some, plains, is, length-append few_calls (further c ∷ []))

-- ---- all calls of a script

pub mixed_next : {C : Type 0} (place : ℕ) (calls : List PlainCall) (o : PlacedCall C) (os : List (PlacedCall C))
    → mixed place calls (o ∷ os)
    ≡ (map plain (take (o.place - place) calls) ++ further o.call ∷ [])
    ++ mixed (o.place + 1) (drop (o.place - place) calls) os
mixed_next place calls o os = sym (append_assoc (map plain (take (o.place - place) calls)) (further o.call ∷ [])
    (mixed (o.place + 1) (drop (o.place - place) calls) os))

-- a placed call is done, with those for the port before it
pub mixed_step : {C : Type 0} (place taken next end i : ℕ) (calls : List PlainCall) (placed : List (PlacedCall C))
    (o : PlacedCall C)
    → i < length placed
    → o ≡ get_or placed i o
    → next ≡ o.place + 1
    → drop end calls ≡ drop (o.place - place) (drop taken calls)
    → mixed place (drop taken calls) (drop i placed)
    ≡ (map plain (take (o.place - place) (drop taken calls)) ++ further o.call ∷ [])
    ++ mixed next (drop end calls) (drop (i + 1) placed)
mixed_step {C = C} place taken next end i calls placed o lt at more rest =
    let some : List (AnyCall C) = map plain (take (o.place - place) (drop taken calls)) ++ further o.call ∷ [] in
    ap (mixed place (drop taken calls)) (next_item placed i o lt at)
    ∙ mixed_next place (drop taken calls) o (drop (i + 1) placed)
    ∙ ap (λ (n : ℕ). some ++ mixed n (drop (o.place - place) (drop taken calls)) (drop (i + 1) placed)) (sym more)
    ∙ ap (λ (cs : List PlainCall). some ++ mixed next cs (drop (i + 1) placed)) (sym rest)

-- the text so far and the lines of the calls that are left
pub record Scripting {C : Type 0} (verb : C → List ℕ) (p : ℕ) (name : List ℕ) (answers : List (List ℕ))
    (first : List ℕ) (from : ℕ) (all : List (AnyCall C)) (text : List ℕ) (step : ℕ)
    (left : List (AnyCall C)) : Type 0 where
  pub lines : text ++ lines_from p name answers step (map (verb_in verb) left)
      ≡ first ++ lines_from p name answers from (map (verb_in verb) all)
  pub at_step : step + length left ≡ from + length all

pub scripting_more : {C : Type 0} (verb : C → List ℕ) (p : ℕ) (name : List ℕ) (answers : List (List ℕ)) (first : List ℕ)
    (from : ℕ) (all : List (AnyCall C)) (text new : List ℕ) (step next : ℕ) (some left : List (AnyCall C))
    → new ≡ text ++ lines_from p name answers step (map (verb_in verb) some)
    → next ≡ step + length some
    → Scripting verb p name answers first from all text step (some ++ left)
    → Scripting verb p name answers first from all new next left
scripting_more {C = C} verb p name answers first from all text new step next some left put is h =
    let verbs : List (AnyCall C) → List (List ℕ) = map (verb_in verb) in
    let here : List ℕ = lines_from p name answers step (verbs some) in
    let behind : next ≡ step + length (verbs some) =
    is ∙ ap (λ (n : ℕ). step + n) (sym (length-map some (verb_in verb))) in
    record {
      lines =
          ap (λ (l : List ℕ). l ++ lines_from p name answers next (verbs left)) put
          ∙ append_assoc text here (lines_from p name answers next (verbs left))
          ∙ ap (λ (n : ℕ). text ++ (here ++ lines_from p name answers n (verbs left))) behind
          ∙ ap (λ (l : List ℕ). text ++ l) (sym (lines_both p name answers step (verbs some) (verbs left)))
          ∙ ap (λ (vs : List (List ℕ)). text ++ lines_from p name answers step vs)
          (sym (map-append (verb_in verb) some left))
          ∙ h.lines;
      at_step = omega (arith, is, h.at_step, length-append some left);
    }

-- a placed call is done, with those for the port before it
pub scripting_next : {C : Type 0} (verb : C → List ℕ) (p : ℕ) (name : List ℕ) (answers : List (List ℕ)) (first : List ℕ)
    (from : ℕ) (all : List (AnyCall C)) (text new : List ℕ) (step next_step place next_place taken next_taken i : ℕ)
    (calls : List PlainCall) (placed : List (PlacedCall C)) (o : PlacedCall C)
    → i < length placed
    → o ≡ get_or placed i o
    → new
    ≡ text
    ++ lines_from p name answers step
    (map (verb_in verb) (map plain (take (o.place - place) (drop taken calls)) ++ further o.call ∷ []))
    → next_step ≡ step + length (map plain (take (o.place - place) (drop taken calls)) ++ further o.call ∷ [])
    → drop next_taken calls ≡ drop (o.place - place) (drop taken calls)
    → next_place ≡ o.place + 1
    → Scripting verb p name answers first from all text step (mixed place (drop taken calls) (drop i placed))
    → Scripting verb p name answers first from all new next_step
    (mixed next_place (drop next_taken calls) (drop (i + 1) placed))
scripting_next {C = C} verb p name answers first from all text new step next_step place next_place
    taken next_taken i calls placed o lt at put is rest more h =
    let some : List (AnyCall C) = map plain (take (o.place - place) (drop taken calls)) ++ further o.call ∷ [] in
    let left : List (AnyCall C) = mixed next_place (drop next_taken calls) (drop (i + 1) placed) in
    scripting_more verb p name answers first from all text new step next_step some left put is
    (subst (λ (l : List (AnyCall C)). Scripting verb p name answers first from all text step l)
    (mixed_step place taken next_place next_taken i calls placed o lt at more rest) h)

-- no placed call is left
pub scripting_left : {C : Type 0} (verb : C → List ℕ) (p : ℕ) (name : List ℕ) (answers : List (List ℕ)) (first : List ℕ)
    (from : ℕ) (all : List (AnyCall C)) (text : List ℕ) (step place : ℕ) (calls : List PlainCall)
    (placed : List (PlacedCall C))
    → placed ≡ []
    → Scripting verb p name answers first from all text step (mixed place calls placed)
    → Scripting verb p name answers first from all text step (map plain calls)
scripting_left {C = C} verb p name answers first from all text step place calls placed none h =
    subst (λ (os : List (PlacedCall C)). Scripting verb p name answers first from all text step (mixed place calls os))
    none h

-- the rest is for the port
pub scripting_over : {C : Type 0} (verb : C → List ℕ) (p : ℕ) (name : List ℕ) (answers : List (List ℕ)) (first : List ℕ)
    (from : ℕ) (all : List (AnyCall C)) (text new : List ℕ) (step next at end : ℕ) (calls : List PlainCall)
    → at ≤ length calls
    → end ≡ length calls
    → new ≡ text ++ lines_from p name answers step (map verb_of (take (end - at) (drop at calls)))
    → next ≡ step + (end - at)
    → Scripting verb p name answers first from all text step (map plain (drop at calls))
    → (new ≡ first ++ lines_from p name answers from (map (verb_in verb) all)) × (next ≡ from + length all)
scripting_over {C = C} verb p name answers first from all text new step next at end calls within whole put is h =
    let last : List (AnyCall C) = map plain (drop at calls) in
    let rest : take (end - at) (drop at calls) ≡ drop at calls =
    take_all (end - at) (drop at calls) (omega (arith, length-drop at calls)) in
    let count : length last ≡ end - at =
    length-map (drop at calls) plain ∙ (length-drop at calls ∙ ap (λ (n : ℕ). n - at) (sym whole)) in (
      put
          ∙ ap (λ (cs : List PlainCall). text ++ lines_from p name answers step (map verb_of cs)) rest
          ∙ ap (λ (vs : List (List ℕ)). text ++ lines_from p name answers step vs)
          (sym (verbs_plain verb (drop at calls)))
          ∙ h.lines,
      omega (arith, is, h.at_step, count),
    )
