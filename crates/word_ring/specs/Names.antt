-- The name of a ring: the numbers that tell it from any other.
use Rattle.std.specs.Prelude.{◌≡◌, ℕ, List, ◌∷◌}
use Rattle.atomic_table.specs.Seated.{TableId}

abbrev pub name_of : TableId → List ℕ
name_of ring = ring.words ∷ ring.slots ∷ ring.views_name ∷ ring.atom ∷ ring.block ∷ ring.offset ∷ ring.slot_names

-- rings of one name are one ring
abbrev pub NamesTellRings : Type 0
NamesTellRings = (ring other : TableId) → name_of ring ≡ name_of other → ring ≡ other
