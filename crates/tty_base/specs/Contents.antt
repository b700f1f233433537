-- A list with reserved room.
use Rattle.std.specs.Prelude.{ℕ, List}

-- a list, and how many items can be added to it without asking for memory
pub record Contents (T : Type 0) : Type 0 where
  pub items : List T
  pub spare : ℕ
