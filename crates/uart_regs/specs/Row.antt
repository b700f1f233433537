-- Where the characters of the FIFO stand: from `front` to `end`, of 16 places.
use Rattle.std.specs.Prelude.{◌≡◌, ◌≤◌, ℕ, List, take, drop, length}
use Rattle.tty_base.specs.declared.characters.Flagged.{Flagged}

abbrev pub row : List Flagged → (front end : ℕ) → List Flagged
row places front end = drop front (take end places)

pub record IsRow (places : List Flagged) (front end : ℕ) : Type 0 where
  pub in_order : front ≤ end
  pub within : end ≤ 16
  pub size : length places ≡ 16
