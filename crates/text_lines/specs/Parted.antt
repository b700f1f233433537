-- The words of a line as its first two, and those that follow.
use Rattle.std.specs.Prelude.{◌≡◌, ℕ, List, [], ◌∷◌, drop, length, min}
use Rattle.std.proofs.Common.{zero, suc}
use Rattle.text_lines.specs.Values.{word_at}

-- so many of the two, and those that follow where both are there
abbrev pub parted : ℕ → List ℕ → List ℕ → List (List ℕ) → List (List ℕ)
parted zero first second more = []
parted (suc zero) first second more = first ∷ []
parted (suc (suc few)) first second more = first ∷ second ∷ more

-- the two are as many as are told, and a word that is missing has no bytes
abbrev pub IsParted : ℕ → List ℕ → List ℕ → List (List ℕ) → Type 0
IsParted few first second more =
    (few ≡ min (length (parted few first second more)) 2) × (word_at (parted few first second more) 0 ≡ first)
    × (word_at (parted few first second more) 1 ≡ second) × (drop 2 (parted few first second more) ≡ more)
