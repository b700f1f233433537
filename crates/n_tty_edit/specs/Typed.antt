-- Good characters from blank to tilde, as they are typed.
use Rattle.std.specs.Prelude.{◌≡◌, ◌≤◌, ℕ, List, map}
use Rattle.tty_base.specs.declared.characters.Flag.TheVariants.{Normal}
use Rattle.tty_base.specs.declared.characters.Flagged.{Flagged}

pub record IsTyped (c : Flagged) : Type 0 where
  pub good : c.flag ≡ Normal
  pub low : 32 ≤ c.byte
  pub high : c.byte ≤ 126

abbrev pub bytes_in : List Flagged → List ℕ
bytes_in chars = map (λ (c : Flagged). c.byte) chars
