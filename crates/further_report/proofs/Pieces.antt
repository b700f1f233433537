-- Scripts, one behind the other.
use Rattle.std.proofs.Common.{◌≡◌, ℕ, ◌+◌, ◌<◌, ◌≤◌, ◌==◌, Bool, true, false, if◌then◌else◌, List, [], ◌∷◌, ◌++◌}
use Rattle.std.proofs.Common.{length, map, drop, get_or, take, refl, sym, ◌∙◌, ap, subst, append_assoc, append-nil}
use Rattle.std.specs.Prelude.{slice_index_or}
use Rattle.std.proofs.lemmas.List.{drop_all}
use Rattle.tty_calls.specs.declared.sessions.Phase.{Phase}
use Rattle.tty_calls.specs.declared.sessions.Script.{Script}
use Rattle.tty_calls.specs.Sessions.{number_in, phase_of, script_of}
use Rattle.passed_calls.specs.declared.placed.PlacedCall.{PlacedCall}
use Rattle.passed_calls.specs.Scripts.{AnyCall, CallerScript, count_in, mixed, mixed_scripts}
use Rattle.further_report.specs.Printing.{script_text, scripts_beside, scripts_text, steps_after, steps_then}
use Rattle.further_report.proofs.Lines.{next_item}

both_if : (b : Bool) (here x y l m : List ℕ) (tail : List ℕ → List ℕ) (s t : List ℕ) → x ≡ l ++ tail s → y ≡ m ++ tail t
    → (if b then here ++ x else y) ≡ (if b then here ++ l else m) ++ tail (if b then s else t)
both_if true here x y l m tail s t on off = ap (λ (z : List ℕ). here ++ z) on ∙ sym (append_assoc here l (tail s))
both_if false here x y l m tail s t on off = off

after_if : (b : Bool) (tail : List ℕ → List ℕ) (x y s t : List ℕ)
    → x ≡ tail s
    → y ≡ tail t
    → (if b then x else y) ≡ tail (if b then s else t)
after_if true tail x y s t on off = on
after_if false tail x y s t on off = off

-- the text so far and the lines of the scripts that are left
pub record HasScripts {C : Type 0} (verb : C → List ℕ) (p : ℕ) (names : List (List ℕ))
    (answers : List (List (List ℕ))) (first from : List ℕ) (all : List (CallerScript (AnyCall C))) (text steps : List ℕ)
    (left : List (CallerScript (AnyCall C))) : Type 0 where
  pub lines : text ++ scripts_text verb p names answers steps left ≡ first ++ scripts_text verb p names answers from all
  pub after : steps_after p names steps left ≡ steps_after p names from all
  pub each : length steps ≡ length from

module _ {C : Type 0} (verb : C → List ℕ) (p : ℕ) (names : List (List ℕ)) (answers : List (List (List ℕ))) where
  scripts_both : (steps : List ℕ) (xs ys : List (CallerScript (AnyCall C)))
      → scripts_text verb p names answers steps (xs ++ ys)
      ≡ scripts_text verb p names answers steps xs
      ++ scripts_text verb p names answers (steps_after p names steps xs) ys
  scripts_both steps [] ys = refl
  scripts_both steps (s ∷ ss) ys =
      let next : List ℕ = steps_then steps s (number_in names s.name) in
      both_if (s.port == p) (script_text verb p answers steps s (number_in names s.name)) _ _ _ _
      (λ (at : List ℕ). scripts_text verb p names answers at ys) (steps_after p names next ss)
      (steps_after p names steps ss)
      (scripts_both next ss ys) (scripts_both steps ss ys)

  after_both : (steps : List ℕ) (xs ys : List (CallerScript (AnyCall C)))
      → steps_after p names steps (xs ++ ys) ≡ steps_after p names (steps_after p names steps xs) ys
  after_both steps [] ys = refl
  after_both steps (s ∷ ss) ys =
      let next : List ℕ = steps_then steps s (number_in names s.name) in
      after_if (s.port == p) (λ (at : List ℕ). steps_after p names at ys) _ _ (steps_after p names next ss)
      (steps_after p names steps ss) (after_both next ss ys) (after_both steps ss ys)

  pub scripts_first : (first from steps : List ℕ) (all : List (CallerScript (AnyCall C)))
      → steps ≡ from
      → HasScripts verb p names answers first from all first steps all
  scripts_first first from steps all same = record {
    lines = ap (λ (at : List ℕ). first ++ scripts_text verb p names answers at all) same;
    after = ap (λ (at : List ℕ). steps_after p names at all) same;
    each = ap (λ (at : List ℕ). length at) same;
  }

  -- some scripts more
  pub scripts_more : (first from : List ℕ) (all : List (CallerScript (AnyCall C))) (text new steps next : List ℕ)
      (some left : List (CallerScript (AnyCall C)))
      → new ≡ text ++ scripts_text verb p names answers steps some
      → next ≡ steps_after p names steps some
      → length next ≡ length steps
      → HasScripts verb p names answers first from all text steps (some ++ left)
      → HasScripts verb p names answers first from all new next left
  scripts_more first from all text new steps next some left put set each h = record {
    lines =
        ap (λ (l : List ℕ). l ++ scripts_text verb p names answers next left) put
        ∙ ap
        (λ (at : List ℕ).
        (text ++ scripts_text verb p names answers steps some) ++ scripts_text verb p names answers at left) set
        ∙ append_assoc text (scripts_text verb p names answers steps some)
        (scripts_text verb p names answers (steps_after p names steps some) left)
        ∙ ap (λ (l : List ℕ). text ++ l) (sym (scripts_both steps some left))
        ∙ h.lines;
    after = ap (λ (at : List ℕ). steps_after p names at left) set ∙ sym (after_both steps some left) ∙ h.after;
    each = each ∙ h.each;
  }

  -- all are told
  pub scripts_done : (first from : List ℕ) (all : List (CallerScript (AnyCall C))) (text steps : List ℕ)
      (left : List (CallerScript (AnyCall C)))
      → left ≡ []
      → HasScripts verb p names answers first from all text steps left
      → (text ≡ first ++ scripts_text verb p names answers from all)
      × ((steps ≡ steps_after p names from all) × (length steps ≡ length from))
  scripts_done first from all text steps left none h = (
    sym (append-nil text)
        ∙ ap (λ (l : List (CallerScript (AnyCall C))). text ++ scripts_text verb p names answers steps l) (sym none)
        ∙ h.lines,
    (
      ap (λ (l : List (CallerScript (AnyCall C))). steps_after p names steps l) (sym none) ∙ h.after,
      h.each,
    ),
  )

  -- one script more, with the calls that are placed in it
  pub script_more : (first from : List ℕ) (all : List (CallerScript (AnyCall C))) (text new steps next : List ℕ)
      (scripts : List Script) (rest later : List (PlacedCall C)) (k count : ℕ) (x : Script)
      → k < length scripts
      → x ≡ get_or scripts k x
      → count ≡ count_in k rest
      → later ≡ drop count rest
      → new
      ≡ text
      ++ scripts_text verb p names answers steps
      (record { port = x.port; name = x.name.bytes; calls = mixed 0 x.calls.items (take count rest) } ∷ [])
      → next
      ≡ steps_after p names steps
      (record { port = x.port; name = x.name.bytes; calls = mixed 0 x.calls.items (take count rest) } ∷ [])
      → length next ≡ length steps
      → HasScripts verb p names answers first from all text steps
      (mixed_scripts k (map script_of (drop k scripts)) rest)
      → HasScripts verb p names answers first from all new next
      (mixed_scripts (k + 1) (map script_of (drop (k + 1) scripts)) later)
  script_more first from all text new steps next scripts rest later k count x lt at few are put set each h =
      let one : CallerScript (AnyCall C) =
      record { port = x.port; name = x.name.bytes; calls = mixed 0 x.calls.items (take count rest) } in
      let left : mixed_scripts k (map script_of (drop k scripts)) rest
      ≡ one ∷ mixed_scripts (k + 1) (map script_of (drop (k + 1) scripts)) later =
      ap (λ (ss : List Script). mixed_scripts k (map script_of ss) rest) (next_item scripts k x lt at)
      ∙ ap
      (λ (n : ℕ).
      record { port = x.port; name = x.name.bytes; calls = mixed 0 x.calls.items (take n rest) }
      ∷ mixed_scripts (k + 1) (map script_of (drop (k + 1) scripts)) (drop n rest))
      (sym few)
      ∙ ap (λ (os : List (PlacedCall C)). one ∷ mixed_scripts (k + 1) (map script_of (drop (k + 1) scripts)) os)
      (sym are) in
      scripts_more first from all text new steps next (one ∷ [])
      (mixed_scripts (k + 1) (map script_of (drop (k + 1) scripts)) later) put set each
      (subst (λ (l : List (CallerScript (AnyCall C))). HasScripts verb p names answers first from all text steps l)
      left h)

  -- the scripts of one phase more
  pub phase_more : (first from : List ℕ) (all : List (CallerScript (AnyCall C))) (text new steps next : List ℕ)
      (parts : List (List (PlacedCall C))) (phases : List Phase) (i : ℕ) (x : Phase) (callers : List Script)
      (placed : List (PlacedCall C))
      → i < length phases
      → x ≡ get_or phases i x
      → callers ≡ x.callers.items
      → placed ≡ slice_index_or parts i []
      → new ≡ text ++ scripts_text verb p names answers steps (mixed_scripts 0 (map script_of callers) placed)
      → next ≡ steps_after p names steps (mixed_scripts 0 (map script_of callers) placed)
      → length next ≡ length steps
      → HasScripts verb p names answers first from all text steps
      (scripts_beside parts i (map phase_of (drop i phases)))
      → HasScripts verb p names answers first from all new next
      (scripts_beside parts (i + 1) (map phase_of (drop (i + 1) phases)))
  phase_more first from all text new steps next parts phases i x callers placed lt at are beside put set each h =
      let rest : List (CallerScript (AnyCall C)) = scripts_beside parts (i + 1) (map phase_of (drop (i + 1) phases)) in
      let left : scripts_beside parts i (map phase_of (drop i phases))
      ≡ mixed_scripts 0 (map script_of callers) placed ++ rest =
      ap (λ (ps : List Phase). scripts_beside parts i (map phase_of ps)) (next_item phases i x lt at)
      ∙ ap (λ (ss : List Script). mixed_scripts 0 (map script_of ss) (slice_index_or parts i []) ++ rest) (sym are)
      ∙ ap (λ (os : List (PlacedCall C)). mixed_scripts 0 (map script_of callers) os ++ rest) (sym beside) in
      scripts_more first from all text new steps next (mixed_scripts 0 (map script_of callers) placed) rest put set each
      (subst (λ (l : List (CallerScript (AnyCall C))). HasScripts verb p names answers first from all text steps l)
      left h)

  -- all phases are told
  pub phases_done : (first from : List ℕ) (all : List (CallerScript (AnyCall C))) (text steps : List ℕ)
      (parts : List (List (PlacedCall C))) (phases : List Phase) (i : ℕ)
      → length phases ≤ i
      → HasScripts verb p names answers first from all text steps
      (scripts_beside parts i (map phase_of (drop i phases)))
      → text ≡ first ++ scripts_text verb p names answers from all
  phases_done first from all text steps parts phases i over h =
      (scripts_done first from all text steps (scripts_beside parts i (map phase_of (drop i phases)))
      (ap (λ (ps : List Phase). scripts_beside parts i (map phase_of ps)) (drop_all i phases over)) h).0
