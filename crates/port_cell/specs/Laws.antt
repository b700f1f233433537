-- What holds of a cell between any two steps, whoever makes them.
use Rattle.std.specs.Prelude.{◌≡◌, ℕ, ◌+◌, List, Option, true, slice_index}
use mathlib.Core.Option.{some}
use lib.ListN.{get_elem?}
use Rattle.atomic_table.specs.Table.{State}
use Rattle.port_cell.specs.declared.kept.Stamped.{Stamped}
use Rattle.port_cell.specs.declared.view.View.{View}
use Rattle.port_cell.specs.Entries.{generation_of}
use Rattle.port_cell.specs.Word.{generation_in}
use Rattle.port_cell.specs.Views.{total, reference_part, lone_part, raises_of, installs_of}
use Rattle.port_cell.specs.Rule.{Rule}

module _ {V N E : Type 0} where
  -- while one seat is alone, no seat holds a reference
  abbrev pub NobodyHoldsBesideOneAlone : (V → N) → (V → List (Stamped E)) → Type 0
  NobodyHoldsBesideOneAlone name list =
      (first : V) (seats : ℕ) (s : State (Option V) (View N E)) → Rule name list first seats s
      → (i : ℕ) (v : View N E) → get_elem? s.views i ≡ some v → lone_part v.user ≡ 1
      → (j : ℕ) (w : View N E) → get_elem? s.views j ≡ some w → reference_part w.user ≡ 0

  -- the generation in the reference word is that of the opening list and one more for each install
  abbrev pub GrowsByInstalling : (V → N) → (V → List (Stamped E)) → Type 0
  GrowsByInstalling name list =
      (first : V) (seats : ℕ) (s : State (Option V) (View N E)) → Rule name list first seats s
      → generation_in (slice_index s.words 0) ≡ generation_of (list first) + total installs_of s.views

  -- While a seat has the turn, the list that it saw last has the generation in the reference word; or the next, where
  -- it has noted a list of the next and not installed it. A turn begins with nothing noted, so its value has the word's
  -- generation.
  abbrev pub StandsInTurn : (V → N) → (V → List (Stamped E)) → Type 0
  StandsInTurn name list =
      (first : V) (seats : ℕ) (s : State (Option V) (View N E)) → Rule name list first seats s
      → (i : ℕ) (v : View N E) → get_elem? s.views i ≡ some v → v.turn ≡ true
      → generation_of v.seen ≡ generation_in (slice_index s.words 0) + raises_of v
