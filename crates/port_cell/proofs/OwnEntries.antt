-- What a seat made, in lists that go on.
use Rattle.std.proofs.Common.{◌≡◌, ◌≢◌, ℕ, List, [], ◌∷◌, ◌++◌, ◌==◌, cond, eq-eqb, ne_eqb, refl, ap, ◌∙◌, append-nil}
use Rattle.std.proofs.lemmas.List.Elements.{filter-append}
use Rattle.port_cell.specs.declared.kept.Stamped.{Stamped}
use Rattle.port_cell.specs.Entries.{entries_by, Each, Keeps, AddsBy}

module _ {E : Type 0} (n : ℕ) where
  pub entries_by-append : (xs ys : List (Stamped E)) → entries_by n (xs ++ ys) ≡ entries_by n xs ++ entries_by n ys
  entries_by-append xs ys = filter-append (λ (e : Stamped E). e.seat == n) xs ys

  pub entries_by_none : (xs : List (Stamped E)) → Each (λ k. k ≢ n) xs → entries_by n xs ≡ []
  entries_by_none [] h = refl
  entries_by_none (x ∷ xs) h =
      ap (λ b. cond b (x ∷ entries_by n xs) (entries_by n xs)) (ne_eqb x.seat n h.0) ∙ entries_by_none xs h.1

  pub entries_by_all : (xs : List (Stamped E)) → Each (λ k. k ≡ n) xs → entries_by n xs ≡ xs
  entries_by_all [] h = refl
  entries_by_all (x ∷ xs) h =
      ap (λ b. cond b (x ∷ entries_by n xs) (entries_by n xs)) (eq-eqb x.seat n h.0)
      ∙ ap (λ (ys : List (Stamped E)). x ∷ ys) (entries_by_all xs h.1)

  -- a list that has nothing more of the seat has the same of it
  pub entries_by_kept : (xs ys : List (Stamped E)) → Keeps n xs ys → entries_by n ys ≡ entries_by n xs
  entries_by_kept xs ys h =
      ap (entries_by n) h.1
      ∙ entries_by-append xs h.0
      ∙ ap (λ (zs : List (Stamped E)). entries_by n xs ++ zs) (entries_by_none h.0 h.2)
      ∙ append-nil (entries_by n xs)

  -- what the seat adds is its own
  pub entries_by_added : (xs ys : List (Stamped E)) (h : AddsBy n xs ys) → entries_by n ys ≡ entries_by n xs ++ h.0
  entries_by_added xs ys h =
      ap (entries_by n) h.1
      ∙ entries_by-append xs h.0
      ∙ ap (λ (zs : List (Stamped E)). entries_by n xs ++ zs) (entries_by_all h.0 h.2)
