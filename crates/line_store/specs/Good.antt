-- Good characters, and the bytes of characters.
use Rattle.std.specs.Prelude.{◌≡◌, ℕ, List, map}
use Rattle.tty_base.specs.declared.characters.Flag.TheVariants.{Normal}
use Rattle.tty_base.specs.declared.characters.Flagged.{Flagged}

abbrev pub IsGood : Flagged → Type 0
IsGood c = c.flag ≡ Normal

abbrev pub bytes_in : List Flagged → List ℕ
bytes_in chars = map (λ (c : Flagged). c.byte) chars
