-- Histories: lists of stamped entries. A stamp tells who added the entry, and which generation stands since.
use Rattle.std.specs.Prelude.{◌≡◌, ◌≢◌, ℕ, List, [], ◌∷◌, ◌++◌, filter, ◌==◌}
use Rattle.port_cell.specs.declared.kept.Stamped.{Stamped}

module _ {E : Type 0} where
  -- the generation in which a history ends; one without entries is in generation 0
  abbrev pub generation_of : List (Stamped E) → ℕ
  generation_of [] = 0
  generation_of (e ∷ []) = e.after
  generation_of (e ∷ f ∷ es) = generation_of (f ∷ es)

  -- the part of a history that one seat added
  abbrev pub entries_by : ℕ → List (Stamped E) → List (Stamped E)
  entries_by n = filter (λ (e : Stamped E). e.seat == n)

  -- p holds of the seat of each entry
  abbrev pub Each : (ℕ → Type 0) → List (Stamped E) → Type 0
  Each p [] = Unit {0}
  Each p (e ∷ es) = p e.seat × Each p es

  -- the second list is the first, and then entries of seats of which p holds
  abbrev pub GoesOn : (ℕ → Type 0) → List (Stamped E) → List (Stamped E) → Type 0
  GoesOn p xs ys = (rest : List (Stamped E)) × (ys ≡ xs ++ rest) × Each p rest

  -- the second list begins with the first
  abbrev pub Begins : List (Stamped E) → List (Stamped E) → Type 0
  Begins = GoesOn (λ k. Unit {0})

  -- the second list begins with the first, and has nothing more of this seat
  abbrev pub Keeps : ℕ → List (Stamped E) → List (Stamped E) → Type 0
  Keeps n = GoesOn (λ k. k ≢ n)

  -- the second list begins with the first, and the rest is this seat's
  abbrev pub AddsBy : ℕ → List (Stamped E) → List (Stamped E) → Type 0
  AddsBy n = GoesOn (λ k. k ≡ n)
