-- Lists of entries that go on from one another.
use Rattle.std.proofs.Common.{◌≡◌, ◌≢◌, ℕ, ◌<◌, List, [], ◌∷◌, ◌++◌, refl, sym, ap, ◌∙◌, subst}
use Rattle.std.proofs.Common.{append_assoc, append-nil, Some, slice_get, length, ◌-◌, suc, arith}
use Rattle.std.proofs.lemmas.List.{append_cancel_left}
use Rattle.port_cell.specs.declared.kept.Stamped.{Stamped}
use Rattle.port_cell.specs.Entries.{generation_of, Each, GoesOn, Begins, Keeps}

module _ {E : Type 0} where
  pub each_append : (p : ℕ → Type 0) (xs ys : List (Stamped E)) → Each p xs → Each p ys → Each p (xs ++ ys)
  each_append p [] ys h k = k
  each_append p (x ∷ xs) ys h k = (h.0, each_append p xs ys h.1 k)

  pub each_right : (p : ℕ → Type 0) (xs ys : List (Stamped E)) → Each p (xs ++ ys) → Each p ys
  each_right p [] ys h = h
  each_right p (x ∷ xs) ys h = each_right p xs ys h.1

  pub each_weaker : (p q : ℕ → Type 0) → ((k : ℕ) → p k → q k) → (xs : List (Stamped E)) → Each p xs → Each q xs
  each_weaker p q f [] h = tt
  each_weaker p q f (x ∷ xs) h = (f x.seat h.0, each_weaker p q f xs h.1)

  pub goes_on : (p : ℕ → Type 0) (xs ys more : List (Stamped E))
      → GoesOn p xs ys
      → Each p more
      → GoesOn p xs (ys ++ more)
  goes_on p xs ys more h k =
      (h.0 ++ more, ap (λ zs. zs ++ more) h.1 ∙ append_assoc xs h.0 more, each_append p h.0 more h.2 k)

  pub goes_nowhere : (p : ℕ → Type 0) (xs : List (Stamped E)) → GoesOn p xs xs
  goes_nowhere p xs = ([], sym (append-nil xs), tt)

  pub goes_weaker : (p q : ℕ → Type 0)
      → ((k : ℕ) → p k → q k)
      → (xs ys : List (Stamped E))
      → GoesOn p xs ys
      → GoesOn q xs ys
  goes_weaker p q f xs ys h = (h.0, h.1, each_weaker p q f h.0 h.2)

  pub begins : (p : ℕ → Type 0) (xs ys : List (Stamped E)) → GoesOn p xs ys → Begins xs ys
  begins p = goes_weaker p (λ k. Unit {0}) (λ k h. tt)

  -- a number that was not made yet has nothing after a list that goes on from the opening one
  pub unmade : (n : ℕ) (first seen latest : List (Stamped E))
      → GoesOn (λ k. k < n) first latest
      → Begins first seen
      → Keeps 0 seen latest
      → Keeps n seen latest
  unmade n first seen latest grown began stands =
      let same : grown.0 ≡ began.0 ++ stands.0 =
      append_cancel_left first grown.0 (began.0 ++ stands.0)
      (sym grown.1 ∙ stands.1 ∙ ap (λ xs. xs ++ stands.0) began.1 ∙ append_assoc first began.0 stands.0) in
      let below : Each (λ k. k < n) (began.0 ++ stands.0) =
      subst (λ (xs : List (Stamped E)). Each (λ k. k < n) xs) same grown.2 in (
        stands.0,
        stands.1,
        each_weaker (λ k. k < n) (λ k. k ≢ n) (λ k lt e. absurd (omega arith)) stands.0
            (each_right (λ k. k < n) began.0 stands.0 below),
      )

  pub generation_of-push : (xs : List (Stamped E)) (e : Stamped E) → generation_of (xs ++ e ∷ []) ≡ e.after
  generation_of-push [] e = refl
  generation_of-push (x ∷ []) e = refl
  generation_of-push (x ∷ y ∷ ys) e = generation_of-push (y ∷ ys) e

  -- the last entry tells the generation
  pub generation_of-last : (xs : List (Stamped E)) (e : Stamped E)
      → Some e ≡ slice_get xs (length xs - 1)
      → e.after ≡ generation_of xs
  generation_of-last [] e h = absurd (cc)
  generation_of-last (x ∷ []) e h = let same : e ≡ x = cc in ap (λ (s : Stamped E). s.after) same
  generation_of-last (x ∷ y ∷ ys) e h =
      let size : length (x ∷ y ∷ ys) - 1 ≡ suc (length (y ∷ ys) - 1) = omega arith in
      generation_of-last (y ∷ ys) e (h ∙ ap (λ (n : ℕ). slice_get (x ∷ y ∷ ys) n) size)
