-- Seats as the proofs see them: by their whole view, and joined into one.
use Rattle.std.specs.Prelude.{◌≡◌, ℕ, ◌⊎◌, List, [], ◌∷◌, Some}
use Rattle.port_cell.specs.declared.kept.Stamped.{Stamped}
use Rattle.port_cell.specs.declared.view.Joined.{Joined}
use Rattle.port_cell.specs.declared.view.View.{View}
use Rattle.port_cell.specs.Entries.{Keeps}
use Rattle.port_cell.specs.Views.{joined_part}
use Rattle.port_cell.specs.Knowledge.{CellSeat}
use Rattle.port_cell.specs.Seats.{in_hand}

module _ {N E : Type 0} where
  abbrev pub Member : Joined N E → List (Joined N E) → Type 0
  Member y [] = ⊥
  Member y (x ∷ xs) = (x ≡ y) ⊎ Member y xs

  abbrev pub HasJoined : ℕ → List (Joined N E) → Type 0
  HasJoined n [] = ⊥
  HasJoined n (x ∷ xs) = (x.number ≡ n) ⊎ HasJoined n xs

  abbrev pub HasNumber : View N E → ℕ → Type 0
  HasNumber v n = (v.number ≡ n) ⊎ HasJoined n v.joined

  abbrev pub FindsJoined : N → List (Stamped E) → List (Joined N E) → Type 0
  FindsJoined name list [] = Unit {0}
  FindsJoined name list (x ∷ xs) = ((x.name ≡ Some name) × Keeps x.number x.seen list) × FindsJoined name list xs

module _ {V N E : Type 0} where
  -- the seat is the same one, and knows w: nothing of it changed but what w says
  abbrev pub Becomes : CellSeat V N E → CellSeat V N E → View N E → Type 0
  Becomes s t w = (t.table_id ≡ s.table_id) × (t.id ≡ s.id) × (t.me ≡ (w, in_hand w.turn))

  -- the seat's value has this name; the list begins with what the seat saw, and its own entries are all there
  abbrev pub Finds : N → List (Stamped E) → CellSeat V N E → Type 0
  Finds name list s = (s.me.0.name ≡ Some name) × Keeps s.me.0.number s.me.0.seen list

  -- what the view v knows of itself, or of the seats that were joined into it, is what this seat knows
  abbrev pub PartOf : View N E → CellSeat V N E → Type 0
  PartOf v s = (joined_part v ≡ joined_part s.me.0) ⊎ Member (joined_part s.me.0) v.joined
