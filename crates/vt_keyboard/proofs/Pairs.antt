-- Two lists whose elements change together, one place after the other.
use Rattle.std.proofs.Common.{◌≡◌, ◌≢◌, ◌⊎◌, inl, inr, ℕ, ◌+◌, ◌<◌, ◌≤◌, List}
use Rattle.std.proofs.Common.{Some, length, refl, sym, subst, ap, ◌∙◌, arith}
use Rattle.std.specs.Prelude.{slice_get, slice_index_or}
use Rattle.std.proofs.lemmas.Bool.{cases_order}
use Rattle.std.proofs.lemmas.List.{length-set}
use Rattle.std.proofs.lemmas.Option.{slice_get_within}
use Rattle.vt_keyboard.specs.Consoles.{PairsUpTo, PairAt, PairsAll}
use Rattle.vt_keyboard.proofs.AllLines.{set_apart, at_place, was_at, stands_at}

module _ {A B : Type 0} (P : ℕ → A → A → B → B → Type 0) where
  pub pairs_none : (xs : List A) (us : List B) → PairsUpTo P 0 xs xs us us
  pairs_none xs us = record {
    firsts = refl;
    seconds = refl;
    done = λ p x y u v lt at_x at_y at_u at_v. absurd (omega (arith, lt));
    firsts_left = λ p le. refl;
    seconds_left = λ p le. refl;
  }

  module _ (i : ℕ) (xs ys zs : List A) (us vs ws : List B) (inside : i < length xs) (each : length us ≡ length xs)
      (h : PairsUpTo P i xs ys us vs) (one : PairAt P i ys zs vs ws) where
    first_inside : i < length ys
    first_inside = omega (arith, inside, h.firsts)

    second_inside : i < length vs
    second_inside = omega (arith, inside, h.seconds, each)

    first_apart : (p : ℕ) → p ≢ i → slice_get zs p ≡ slice_get ys p
    first_apart p ne = ap (λ (l : List A). slice_get l p) one.y_is ∙ set_apart ys i p one.y ne

    second_apart : (p : ℕ) → p ≢ i → slice_get ws p ≡ slice_get vs p
    second_apart p ne = ap (λ (l : List B). slice_get l p) one.v_is ∙ set_apart vs i p one.v ne

    done_at : (p : ℕ) (x y : A) (u v : B)
        → p < i + 1
        → slice_get xs p ≡ Some x
        → slice_get zs p ≡ Some y
        → slice_get us p ≡ Some u
        → slice_get ws p ≡ Some v
        → (p ≡ i) ⊎ ((p < i) ⊎ (i < p))
        → P p x y u v
    done_at p x y u v lt at_x at_y at_u at_v (inl same) =
        let stays = h.firsts_left i (omega arith) in
        let second_stays = h.seconds_left i (omega arith) in
        let ix : x ≡ one.x =
        was_at ys i one.x x one.x_was (stays ∙ subst (λ (k : ℕ). slice_get xs k ≡ Some x) same at_x) in
        let iu : u ≡ one.u =
        was_at vs i one.u u one.u_was (second_stays ∙ subst (λ (k : ℕ). slice_get us k ≡ Some u) same at_u) in
        let iy : y ≡ one.y =
        at_place ys zs i one.y y first_inside one.y_is (subst (λ (k : ℕ). slice_get zs k ≡ Some y) same at_y) in
        let iv : v ≡ one.v =
        at_place vs ws i one.v v second_inside one.v_is (subst (λ (k : ℕ). slice_get ws k ≡ Some v) same at_v) in
        subst (λ (k : ℕ). P k x y u v) (sym same)
        (subst (λ (a : A). P i a y u v) (sym ix)
        (subst (λ (a : A). P i one.x a u v) (sym iy)
        (subst (λ (b : B). P i one.x one.y b v) (sym iu)
        (subst (λ (b : B). P i one.x one.y one.u b) (sym iv) one.changes))))
    done_at p x y u v lt at_x at_y at_u at_v (inr (inl below)) =
        let ne : p ≢ i = λ s. absurd (omega (arith, s, below)) in
        h.done p x y u v below at_x (sym (first_apart p ne) ∙ at_y) at_u (sym (second_apart p ne) ∙ at_v)
    done_at p x y u v lt at_x at_y at_u at_v (inr (inr above)) = absurd (omega (arith, lt, above))

    pub pairs_more : PairsUpTo P (i + 1) xs zs us ws
    pairs_more = record {
      firsts = ap length one.y_is ∙ length-set ys i one.y ∙ h.firsts;
      seconds = ap length one.v_is ∙ length-set vs i one.v ∙ h.seconds;
      done = λ p x y u v lt at_x at_y at_u at_v. done_at p x y u v lt at_x at_y at_u at_v (cases_order p i);
      firsts_left = λ p le. first_apart p (λ s. absurd (omega (arith, s, le))) ∙ h.firsts_left p (omega (arith, le));
      seconds_left = λ p le. second_apart p (λ s. absurd (omega (arith, s, le))) ∙ h.seconds_left p (omega (arith, le));
    }

  pub pairs_all : (i : ℕ) (xs ys : List A) (us vs : List B)
      → length xs ≤ i
      → PairsUpTo P i xs ys us vs
      → PairsAll P xs ys us vs
  pairs_all i xs ys us vs over h = record {
    firsts = h.firsts;
    seconds = h.seconds;
    each = λ p x y u v at_x at_y at_u at_v.
        h.done p x y u v (omega (arith, over, slice_get_within xs p x at_x)) at_x at_y at_u at_v;
  }

  -- what holds of each place holds of the next
  pub next_pair : (Q : ℕ → A → B → Type 0) (i : ℕ) (xs ys : List A) (us vs : List B)
      → i < length xs
      → length us ≡ length xs
      → ((p : ℕ) (x : A) (u : B) → slice_get xs p ≡ Some x → slice_get us p ≡ Some u → Q p x u)
      → PairsUpTo P i xs ys us vs
      → (x : A) (u : B)
      → x ≡ slice_index_or ys i x
      → u ≡ slice_index_or vs i u
      → Q i x u
  next_pair Q i xs ys us vs lt each all h x u is_x is_u =
      all i x u (sym (h.firsts_left i (omega arith)) ∙ stands_at ys i x (omega (arith, lt, h.firsts)) is_x)
      (sym (h.seconds_left i (omega arith)) ∙ stands_at vs i u (omega (arith, lt, h.seconds, each)) is_u)
