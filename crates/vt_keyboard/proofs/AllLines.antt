-- Lines and putters that change one after the other.
use Rattle.std.proofs.Common.{◌≡◌, ◌≢◌, ◌⊎◌, inl, inr, ℕ, zero, suc, ◌+◌, ◌<◌, ◌≤◌, List}
use Rattle.std.proofs.Common.{[], ◌∷◌, Some, length, refl, sym, subst, ap, ◌∙◌, arith}
use Rattle.std.specs.Prelude.{slice_get, slice_index_or, slice_set}
use Rattle.std.proofs.lemmas.Bool.{cases_order}
use Rattle.std.proofs.lemmas.List.{length-set, get_or-set_same}
use Rattle.std.proofs.lemmas.Option.{slice_get_within, slice_get-get_or, get_or_from_slice_get}
use Rattle.tty_base.specs.declared.characters.Flagged.{Flagged}
use Rattle.uart_line.specs.LineState.{LineState}
use Rattle.word_ring.specs.Ends.{PutterState}
use Rattle.vt_keyboard.specs.Keying.{ChangesUpTo, ChangesAt, ChangesAll}

pub set_apart : {A : Type 0} (xs : List A) (i p : ℕ) (x : A) → p ≢ i → slice_get (slice_set xs i x) p ≡ slice_get xs p
set_apart [] i p x ne = refl
set_apart (y ∷ ys) zero zero x ne = absurd (ne refl)
set_apart (y ∷ ys) zero (suc p) x ne = refl
set_apart (y ∷ ys) (suc i) zero x ne = refl
set_apart (y ∷ ys) (suc i) (suc p) x ne = set_apart ys i p x (λ e. ne (ap suc e))

pub at_place : {A : Type 0} (xs ys : List A) (i : ℕ) (x y : A)
    → i < length xs
    → ys ≡ slice_set xs i x
    → slice_get ys i ≡ Some y
    → y ≡ x
at_place {A} xs ys i x y lt is at =
    sym (get_or_from_slice_get (slice_set xs i x) i y x (subst (λ (l : List A). slice_get l i ≡ Some y) is at))
    ∙ get_or-set_same xs i x x lt

pub was_at : {A : Type 0} (xs : List A) (i : ℕ) (x y : A) → x ≡ slice_index_or xs i x → slice_get xs i ≡ Some y → y ≡ x
was_at xs i x y h k = sym (get_or_from_slice_get xs i y x k) ∙ sym h

-- the one that stands at a place
pub stands_at : {A : Type 0} (xs : List A) (i : ℕ) (x : A)
    → i < length xs
    → x ≡ slice_index_or xs i x
    → slice_get xs i ≡ Some x
stands_at {A} xs i x lt h = slice_get-get_or xs i x lt ∙ ap (λ (y : A). Some y) (sym h)

module _ (P : LineState → LineState → PutterState Flagged → PutterState Flagged → Type 0) where
  pub changes_none : (lines : List LineState) (ends : List (PutterState Flagged))
      → ChangesUpTo P 0 lines lines ends ends
  changes_none lines ends = record {
    lines_of = refl;
    ends_of = refl;
    done = λ p l m e f lt at_l at_m at_e at_f. absurd (omega (arith, lt));
    lines_left = λ p le. refl;
    ends_left = λ p le. refl;
  }

  module _ (i : ℕ) (lines noted moved : List LineState) (ends now after : List (PutterState Flagged))
      (inside : i < length lines) (each : length ends ≡ length lines) (h : ChangesUpTo P i lines noted ends now)
      (one : ChangesAt P i noted moved now after) where
    line_inside : i < length noted
    line_inside = omega (arith, inside, h.lines_of)

    end_inside : i < length now
    end_inside = omega (arith, inside, h.ends_of, each)

    line_apart : (p : ℕ) → p ≢ i → slice_get moved p ≡ slice_get noted p
    line_apart p ne = ap (λ (l : List LineState). slice_get l p) one.line_is ∙ set_apart noted i p one.line_now ne

    end_apart : (p : ℕ) → p ≢ i → slice_get after p ≡ slice_get now p
    end_apart p ne =
        ap (λ (l : List (PutterState Flagged)). slice_get l p) one.end_is ∙ set_apart now i p one.end_now ne

    done_at : (p : ℕ) (l m : LineState) (e f : PutterState Flagged)
        → p < i + 1
        → slice_get lines p ≡ Some l
        → slice_get moved p ≡ Some m
        → slice_get ends p ≡ Some e
        → slice_get after p ≡ Some f
        → (p ≡ i) ⊎ ((p < i) ⊎ (i < p))
        → P l m e f
    done_at p l m e f lt at_l at_m at_e at_f (inl same) =
        let stays = h.lines_left i (omega arith) in
        let ends_stay = h.ends_left i (omega arith) in
        let il : l ≡ one.line =
        was_at noted i one.line l one.line_was (stays ∙ subst (λ (k : ℕ). slice_get lines k ≡ Some l) same at_l) in
        let ie : e ≡ one.end =
        was_at now i one.end e one.end_was (ends_stay ∙ subst (λ (k : ℕ). slice_get ends k ≡ Some e) same at_e) in
        let im : m ≡ one.line_now =
        at_place noted moved i one.line_now m line_inside one.line_is
        (subst (λ (k : ℕ). slice_get moved k ≡ Some m) same at_m) in
        let if_ : f ≡ one.end_now =
        at_place now after i one.end_now f end_inside one.end_is
        (subst (λ (k : ℕ). slice_get after k ≡ Some f) same at_f) in
        subst (λ (x : LineState). P x m e f) (sym il)
        (subst (λ (x : LineState). P one.line x e f) (sym im)
        (subst (λ (x : PutterState Flagged). P one.line one.line_now x f) (sym ie)
        (subst (λ (x : PutterState Flagged). P one.line one.line_now one.end x) (sym if_) one.changes)))
    done_at p l m e f lt at_l at_m at_e at_f (inr (inl below)) =
        let ne : p ≢ i = λ s. absurd (omega (arith, s, below)) in
        h.done p l m e f below at_l (sym (line_apart p ne) ∙ at_m) at_e (sym (end_apart p ne) ∙ at_f)
    done_at p l m e f lt at_l at_m at_e at_f (inr (inr above)) = absurd (omega (arith, lt, above))

    pub changes_more : ChangesUpTo P (i + 1) lines moved ends after
    changes_more = record {
      lines_of = ap length one.line_is ∙ length-set noted i one.line_now ∙ h.lines_of;
      ends_of = ap length one.end_is ∙ length-set now i one.end_now ∙ h.ends_of;
      done = λ p l m e f lt at_l at_m at_e at_f. done_at p l m e f lt at_l at_m at_e at_f (cases_order p i);
      lines_left = λ p le. line_apart p (λ s. absurd (omega (arith, s, le))) ∙ h.lines_left p (omega (arith, le));
      ends_left = λ p le. end_apart p (λ s. absurd (omega (arith, s, le))) ∙ h.ends_left p (omega (arith, le));
    }

  pub changes_all : (i : ℕ) (lines noted : List LineState) (ends now : List (PutterState Flagged))
      → length lines ≤ i
      → ChangesUpTo P i lines noted ends now
      → ChangesAll P lines noted ends now
  changes_all i lines noted ends now over h = record {
    lines_of = h.lines_of;
    ends_of = h.ends_of;
    each = λ p l m e f at_l at_m at_e at_f.
        h.done p l m e f (omega (arith, over, slice_get_within lines p l at_l)) at_l at_m at_e at_f;
  }

  -- what holds of each line and its putter holds of those that are next
  pub holds_next : (Q : LineState → PutterState Flagged → Type 0) (i : ℕ) (lines noted : List LineState)
      (ends now : List (PutterState Flagged))
      → i < length lines
      → length ends ≡ length lines
      → ((p : ℕ) (l : LineState) (e : PutterState Flagged)
      → slice_get lines p ≡ Some l
      → slice_get ends p ≡ Some e
      → Q l e)
      → ChangesUpTo P i lines noted ends now
      → (l : LineState) (e : PutterState Flagged)
      → l ≡ slice_index_or noted i l
      → e ≡ slice_index_or now i e
      → Q l e
  holds_next Q i lines noted ends now lt each all h l e is_l is_e =
      all i l e (sym (h.lines_left i (omega arith)) ∙ stands_at noted i l (omega (arith, lt, h.lines_of)) is_l)
      (sym (h.ends_left i (omega arith)) ∙ stands_at now i e (omega (arith, lt, h.ends_of, each)) is_e)
