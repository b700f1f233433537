-- Runs of good characters, and characters as numbers.
use Rattle.std.specs.Prelude.{◌≡◌, ◌≢◌, ◌≤◌, ◌+◌, ◌*◌, ℕ, List, map}
use Rattle.std.specs.List.{AllByRecursion}
use Rattle.tty_base.specs.declared.characters.Flag.{Flag}
use Rattle.tty_base.specs.declared.characters.Flag.TheVariants.{Normal, Break, Parity, Frame, Overrun}
use Rattle.tty_base.specs.declared.characters.Flagged.{Flagged}

-- a good character whose byte is from the first to the last, and none of some others
pub record IsInBounds (first last : ℕ) (without : List ℕ) (c : Flagged) : Type 0 where
  pub good : c.flag ≡ Normal
  pub low : first ≤ c.byte
  pub high : c.byte ≤ last
  pub none : AllByRecursion (λ x. c.byte ≢ x) without

abbrev pub bytes_in : List Flagged → List ℕ
bytes_in chars = map (λ (c : Flagged). c.byte) chars

-- a character as a number of 16 bits: that of a good one is its byte
abbrev pub number_of_flag : Flag → ℕ
number_of_flag Normal = 0
number_of_flag Break = 1
number_of_flag Parity = 2
number_of_flag Frame = 3
number_of_flag Overrun = 4

abbrev pub number_of : Flagged → ℕ
number_of c = c.byte + 256 * number_of_flag c.flag
