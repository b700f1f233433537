-- Modes as contracts see them.
use Rattle.std.specs.Prelude.{◌≡◌, ℕ, Bool, false, true, ◌&&◌, List, [], ◌∷◌, slice_index}
use Rattle.std.specs.Prelude.{slice_index_or, slice_set, replicate, bytes_eq, refl}
use Rattle.std.specs.Bool.{Decides}
use Rattle.std.specs.Cmp.{booleans_Decides}
use Rattle.std.specs.Cmp.Lexicographic.{pointwise}
use Rattle.std.proofs.Common.{ap}
use Rattle.std.proofs.lemmas.Bool.Decides.{Decides-and, Decides-like}
use Rattle.std.proofs.lemmas.Slice.Eq.{slice_eq-Decides, bytes_eq-Decides}
use Rattle.std.proofs.Math.Bool.{beq}
use Rattle.tty_modes.specs.declared.places.TheConstants.{FLAG_COUNT, IGNBRK, BRKINT, PARMRK, ISTRIP, INLCR}
use Rattle.tty_modes.specs.declared.places.TheConstants.{IGNCR, ICRNL, IXON, OPOST, ONLCR, ISIG, ICANON}
use Rattle.tty_modes.specs.declared.places.TheConstants.{ECHO, ECHOE, ECHOK, ECHOKE, ECHONL, ECHOCTL, IEXTEN}

-- which flags are set, and the control characters, each by its place
pub record Settings : Type 0 where
  pub flags : List Bool
  pub characters : List ℕ

-- whether a flag is set; past the list none is
abbrev pub has_flag : Settings → ℕ → Bool
has_flag modes flag = slice_index_or modes.flags flag false

-- the control character at a place, and 0 past the list
abbrev pub character : Settings → ℕ → ℕ
character modes place = slice_index modes.characters place

-- the flags with those at some places set, or cleared
abbrev pub with_flags_at : Bool → List ℕ → List Bool → List Bool
with_flags_at value [] flags = flags
with_flags_at value (place ∷ places) flags = with_flags_at value places (slice_set flags place value)

-- the defaults
abbrev pub sane_modes : Settings
sane_modes = record {
  flags = with_flags_at true
      (ICRNL ∷ IXON ∷ OPOST ∷ ONLCR ∷ ISIG ∷ ICANON ∷ ECHO ∷ ECHOE ∷ ECHOK ∷ ECHOKE ∷ ECHOCTL ∷ IEXTEN ∷ [])
      (replicate FLAG_COUNT false);
  characters = 3 ∷ 28 ∷ 127 ∷ 21 ∷ 4 ∷ 0 ∷ 1 ∷ 17 ∷ 19 ∷ 26 ∷ 0 ∷ 18 ∷ 23 ∷ 22 ∷ 0 ∷ [];
}

-- the flags that cfmakeraw(3) clears
abbrev pub raw_places : List ℕ
raw_places =
    IGNBRK ∷ BRKINT ∷ PARMRK ∷ ISTRIP ∷ INLCR ∷ IGNCR ∷ ICRNL ∷ IXON ∷ OPOST ∷ ECHO ∷ ECHONL ∷ ICANON ∷ ISIG ∷ IEXTEN
    ∷ []

-- whether two modes are the same
abbrev pub same_modes : Settings → Settings → Bool
same_modes a b = pointwise beq a.flags b.flags && bytes_eq a.characters b.characters

pub same_modes-Decides : (a b : Settings) → Decides (same_modes a b) (a ≡ b)
same_modes-Decides a b =
    Decides-like (same_modes a b) (λ h i. record { flags = h.0 i; characters = h.1 i })
    (λ e. (ap (λ m. m.flags) e, ap (λ m. m.characters) e))
    (Decides-and (pointwise beq a.flags b.flags) (bytes_eq a.characters b.characters)
    (slice_eq-Decides booleans_Decides a.flags b.flags _ refl) (bytes_eq-Decides a.characters b.characters))
