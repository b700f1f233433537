-- Printed bytes among the control characters.
use Rattle.std.specs.Prelude.{◌≡◌, ℕ, ◌^◌, ◌<◌, Bool, true, ◌&&◌, not, nat_le, List, [], ◌∷◌}

-- from blank (32) to tilde (126)
abbrev pub is_printed : ℕ → Bool
is_printed byte = nat_le 32 byte && nat_le byte 126

-- no character of a list is printed
abbrev pub are_unprinted : List ℕ → Bool
are_unprinted [] = true
are_unprinted (c ∷ characters) = not (is_printed c) && are_unprinted characters

-- what modes keep: 29 flags as bits, and whether no control character is printed
pub record IsKept (bits : ℕ) (characters : List ℕ) (known : Bool) : Type 0 where
  pub fits : bits < 2 ^ 29
  pub unprinted : known ≡ are_unprinted characters
