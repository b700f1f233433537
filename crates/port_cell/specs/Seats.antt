-- A seat of a cell, and what the calls say of it.
use Rattle.std.specs.Prelude.{◌≡◌, ℕ, ◌+◌, ◌<◌, List, [], ◌∷◌, Bool, true, false, Option, Some, None, IsSome, slice_get}
use Rattle.atomic_table.specs.Seated.{TableId}
use Rattle.port_cell.specs.declared.kept.Stamped.{Stamped}
use Rattle.port_cell.specs.declared.view.User.TheVariants.{Free}
use Rattle.port_cell.specs.Entries.{Keeps}
use Rattle.port_cell.specs.Views.{new_view}
use Rattle.port_cell.specs.Knowledge.{CellSeat, number_of, name_of, list_seen, user_of}
use Rattle.port_cell.specs.Knowledge.{has_turn, is_raised, last_word, step_count, install_count}

-- with the turn a seat has the emptied place of the value in hand, and else nothing
abbrev pub in_hand : {V : Type 0} → Bool → List (ℕ × Option V)
in_hand true = (0, None) ∷ []
in_hand false = []

module _ {V N E : Type 0} where
  -- a seat of the cell with this identity
  pub record IsSeat (z : TableId) (s : CellSeat V N E) : Type 0 where
    pub table : s.table_id ≡ z
    pub named : IsSome (name_of s)
    pub hand : s.me.1 ≡ in_hand (has_turn s)

  -- a seat keeps its place and its cell, whose value has a name that never changes
  pub record IsSameSeat (old new : CellSeat V N E) : Type 0 where
    pub table : new.table_id ≡ old.table_id
    pub id : new.id ≡ old.id
    pub number : number_of new ≡ number_of old
    pub name : name_of new ≡ name_of old

  -- what the seat knows of the turn and of the list stays
  pub record KeepsTurn (old new : CellSeat V N E) : Type 0 where
    pub turn : has_turn new ≡ has_turn old
    pub list : list_seen new ≡ list_seen old
    pub raised : is_raised new ≡ is_raised old
    pub installs : install_count new ≡ install_count old

  -- what it last found of the references stays
  pub record KeepsWord (old new : CellSeat V N E) : Type 0 where
    pub word : last_word new ≡ last_word old
    pub steps : step_count new ≡ step_count old

  -- how it uses the generation, and what it knows of the references, stays
  pub record KeepsUse (old new : CellSeat V N E) : Type 0 where
    pub user : user_of new ≡ user_of old
    pub word : last_word new ≡ last_word old
    pub steps : step_count new ≡ step_count old
    pub installs : install_count new ≡ install_count old

  -- a seat that has made no step
  abbrev pub IsNew : TableId → N → List (Stamped E) → ℕ → CellSeat V N E → Type 0
  IsNew z name list number s = (s.table_id ≡ z) × ((made : ℕ) × (s.me ≡ (new_view name number made list, [])))

  -- the seats of a new cell, numbered from n on
  abbrev pub AllNew : TableId → N → List (Stamped E) → ℕ → List (CellSeat V N E) → Type 0
  AllNew z name list n [] = Unit {0}
  AllNew z name list n (s ∷ ss) = IsNew z name list n s × AllNew z name list (n + 1) ss

  -- a seat of the cell that holds nothing
  pub record IsFree (z : TableId) (s : CellSeat V N E) : Type 0 where
    pub table : s.table_id ≡ z
    pub named : IsSome (name_of s)
    pub hand : s.me.1 ≡ []
    pub free : user_of s ≡ Free
    pub turn : has_turn s ≡ false

  abbrev pub EachSeat : (CellSeat V N E → Type 0) → List (CellSeat V N E) → Type 0
  EachSeat P [] = Unit {0}
  EachSeat P (s ∷ ss) = P s × EachSeat P ss

  -- each number below n is that of a seat
  abbrev pub HasAll : ℕ → List (CellSeat V N E) → Type 0
  HasAll n ss = (k : ℕ) → k < n → (i : ℕ) × (s : CellSeat V N E) × (slice_get ss i ≡ Some s) × (number_of s ≡ k)

  -- the value has the name that the seat knows
  abbrev pub IsNamedAs : N → CellSeat V N E → Type 0
  IsNamedAs name s = name_of s ≡ Some name

  -- the list begins with what the seat saw, and has nothing more of it
  abbrev pub GoesOnFrom : List (Stamped E) → CellSeat V N E → Type 0
  GoesOnFrom list s = Keeps (number_of s) (list_seen s) list
