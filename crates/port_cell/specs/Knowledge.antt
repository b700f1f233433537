-- What a seat knows: one function for each thing, and what is said of them.
use Rattle.std.specs.Prelude.{◌≡◌, ℕ, ◌+◌, ◌<◌, ◌⊎◌, List, Bool, Option}
use Rattle.atomic_table.specs.declared.shared.Seat.{Seat}
use Rattle.port_cell.specs.Word.{GENERATION_END}
use Rattle.port_cell.specs.declared.kept.Stamped.{Stamped}
use Rattle.port_cell.specs.declared.view.User.{User}
use Rattle.port_cell.specs.declared.view.View.{View}
use Rattle.port_cell.specs.Entries.{entries_by}
use Rattle.port_cell.specs.Views.{reference_part, mark_part, lone_part, installed_generation, installs_of}

-- a seat of a cell whose value is a V, with a name in N and entries in E
abbrev pub CellSeat : Type 0 → Type 0 → Type 0 → Type 0
CellSeat V N E = Seat (Option V) (View N E)

module _ {V N E : Type 0} where
  abbrev pub number_of : CellSeat V N E → ℕ
  number_of s = s.me.0.number

  -- the name of the cell's value
  abbrev pub name_of : CellSeat V N E → Option N
  name_of s = s.me.0.name

  -- the list as the seat saw it last
  abbrev pub list_seen : CellSeat V N E → List (Stamped E)
  list_seen s = s.me.0.seen

  -- what the seat has added to the list
  abbrev pub own_entries : CellSeat V N E → List (Stamped E)
  own_entries s = entries_by (number_of s) (list_seen s)

  -- how it uses the generation: not at all, or by a reference, or to change it
  abbrev pub user_of : CellSeat V N E → User
  user_of s = s.me.0.user

  abbrev pub has_turn : CellSeat V N E → Bool
  has_turn s = s.me.0.turn

  -- whether it has noted a list of the next generation, which it has still to install
  abbrev pub is_raised : CellSeat V N E → Bool
  is_raised s = s.me.0.raised

  -- the generation that is installed, as a seat with the turn can tell
  abbrev pub generation_installed : CellSeat V N E → ℕ
  generation_installed s = installed_generation s.me.0

  -- the reference word as its last `enter`, `mark` or `settled` found it, and how many such steps it made
  abbrev pub last_word : CellSeat V N E → ℕ
  last_word s = s.me.0.word

  abbrev pub step_count : CellSeat V N E → ℕ
  step_count s = s.me.0.steps

  -- how many generations it installed
  abbrev pub install_count : CellSeat V N E → ℕ
  install_count s = installs_of s.me.0

  abbrev pub HoldsReference : CellSeat V N E → Type 0
  HoldsReference s = reference_part (user_of s) ≡ 1

  -- it keeps others from entering
  abbrev pub HasMark : CellSeat V N E → Type 0
  HasMark s = mark_part (user_of s) ≡ 1

  -- it has the mark, and has found since that nobody uses the generation
  abbrev pub IsAlone : CellSeat V N E → Type 0
  IsAlone s = lone_part (user_of s) ≡ 1

  -- it has the mark, and others may still use the generation
  abbrev pub AwaitsOthers : CellSeat V N E → Type 0
  AwaitsOthers s = HasMark s × (lone_part (user_of s) ≡ 0)

  -- it may note a list that reaches this generation: the installed one, or the next where it is alone
  abbrev pub MayNote : CellSeat V N E → ℕ → Type 0
  MayNote s g = (g ≡ generation_installed s) ⊎ (IsAlone s × (g ≡ generation_installed s + 1) × (g < GENERATION_END))
