use Rattle.std.proofs.Common.{◌≡◌, ◌<◌, ℕ, zero, suc, List, [], ◌∷◌, length, get_or, refl, arith}
use Rattle.std.specs.Prelude.{map}
use Rattle.bitflags.specs.declared.traits.Flag.{Flag}
use Rattle.tty_modes.specs.declared.bits.ModeBits.{ModeBits}
use Rattle.tty_modes.proofs.names.name_at.Goals as goal

name_of : (flags : List (Flag ModeBits)) (k : ℕ) (d : Flag ModeBits)
    → k < length flags
    → (get_or flags k d).name.now ≡ get_or (map (λ (flag : Flag ModeBits). flag.name.now) flags) k []
name_of [] k d inside = absurd (omega arith)
name_of (flag ∷ flags) zero d inside = refl
name_of (flag ∷ flags) (suc k) d inside = name_of flags k d (omega arith)

pub returns : goal.returns
returns c = name_of c.args.flags.now c.args.place _ c.requires
