-- What each step tells the seat that makes it.
use Rattle.std.specs.Prelude.{◌≡◌, ◌≢◌, ℕ, ◌<◌, List, ◌∷◌, true, false, Option, Some}
use Rattle.atomic_table.specs.Table.{Me, Step, rest}
use Rattle.port_cell.specs.declared.kept.Stamped.{Stamped}
use Rattle.port_cell.specs.declared.view.View.{View}
use Rattle.port_cell.specs.declared.view.User.TheVariants.{Free, Trying, Held, Marked, Alone}
use Rattle.port_cell.specs.Entries.{generation_of, Keeps}
use Rattle.port_cell.specs.Word.{generation_in, changing_in, users_in}
use Rattle.port_cell.specs.Views.{Knows, with_user, with_word, with_turn, without_turn, with_list, after_install}

abbrev pub SeatState : Type 0 → Type 0 → Type 0 → Type 0
SeatState V N E = Me (Option V) (View N E)

-- a seat with the turn finds the generation of the list that it has seen
abbrev pub HasTurn : {N E : Type 0} → View N E → ℕ → Type 0
HasTurn v w = v.turn ≡ true → v.raised ≡ false → generation_in w ≡ generation_of v.seen

module _ {V N E : Type 0} where
  abbrev pub Enters : Step (Option V) → SeatState V N E → ℕ → SeatState V N E → Type 0
  Enters st m w m' =
      (changing_in w ≡ 0 → m' ≡ (with_word w (Held (generation_in w)) m.0, m.1))
      × (changing_in w ≡ 1 → m' ≡ (with_word w Trying m.0, m.1))
      × HasTurn m.0 w

  abbrev pub Leaves : Step (Option V) → SeatState V N E → ℕ → SeatState V N E → Type 0
  Leaves st m w m' = m' ≡ (with_user Free m.0, m.1)

  abbrev pub Marks : Step (Option V) → SeatState V N E → ℕ → SeatState V N E → Type 0
  Marks st m w m' =
      (changing_in w ≡ 0 → m' ≡ (with_word w (Marked (generation_in w)) m.0, m.1))
      × (changing_in w ≡ 1 → m' ≡ (with_word w Free m.0, m.1))
      × HasTurn m.0 w

  abbrev pub Looks : Step (Option V) → SeatState V N E → ℕ → SeatState V N E → Type 0
  Looks st m w m' =
      (users_in w ≡ 0 → m' ≡ (with_word w (Alone (generation_in w)) m.0, m.1))
      × (0 < users_in w → m' ≡ (with_word w m.0.user m.0, m.1))
      × Knows (generation_in w) m.0.user
      × HasTurn m.0 w

  abbrev pub Installs : Step (Option V) → SeatState V N E → ℕ → SeatState V N E → Type 0
  Installs st m w m' = m' ≡ (after_install m.0, m.1)

  -- the value was at home, and is now in this seat's hand
  abbrev pub FindsValue : (V → N) → (V → List (Stamped E)) → SeatState V N E → SeatState V N E → Type 0
  FindsValue name list m m' =
      (x : V)
      × (m' ≡ (with_turn (list x) m.0, (0, Some x) ∷ m.1))
      × (m.0.name ≡ Some (name x))
      × Keeps m.0.number m.0.seen (list x)
      × Knows (generation_of (list x)) m.0.user
      × (m.0.raised ≡ false)

  abbrev pub Takes : (V → N) → (V → List (Stamped E)) → Step (Option V) → SeatState V N E → ℕ → SeatState V N E → Type 0
  Takes name list st m w m' = (w ≡ 0 → FindsValue name list m m') × (w ≢ 0 → m' ≡ m)

  abbrev pub Notes : List (Stamped E) → Step (Option V) → SeatState V N E → ℕ → SeatState V N E → Type 0
  Notes told st m w m' = m' ≡ (with_list told m.0, m.1)

  abbrev pub Gives : Step (Option V) → SeatState V N E → ℕ → SeatState V N E → Type 0
  Gives st m w m' = m' ≡ (without_turn m.0, rest m.1)
