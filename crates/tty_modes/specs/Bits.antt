-- Flags as the bits of a number, the flag at place k as bit k.
use Rattle.std.specs.Prelude.{◌≡◌, ℕ, ◌+◌, ◌*◌, ◌/◌, ◌%◌, ◌^◌, ◌<◌, ◌==◌, Bool, List, [], ◌∷◌, if◌then◌else◌}
use Rattle.std.proofs.Common.{zero, suc, arith}
use Rattle.std.proofs.Math.Nat.{pow-suc}
use Rattle.std.proofs.lemmas.Bool.Decides.{nat_tests}

-- the lowest bits of a number, as flags
unfoldable pub flags_of : ℕ → ℕ → List Bool
flags_of zero bits = []
flags_of (suc count) bits = (bits % 2 == 1) ∷ flags_of count (bits / 2)

-- the number that has these flags as its bits
unfoldable pub bits_of : List Bool → ℕ
bits_of [] = 0
bits_of (flag ∷ flags) = (if flag then 1 else 0) + 2 * bits_of flags

-- the flags of a number give the number back
pub bits_of-flags_of : (count bits : ℕ) → bits < 2 ^ count → bits_of (flags_of count bits) ≡ bits
unfolding flags_of bits_of
bits_of-flags_of zero bits fits = omega arith
bits_of-flags_of (suc count) bits fits =
    let double = pow-suc 2 count in
    let rest = bits_of-flags_of count (bits / 2) (omega arith) in
    grind (arith, nat_tests, rest)
