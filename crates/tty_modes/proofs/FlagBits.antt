-- What setting and clearing bits does to the flags that are read from them.
use Rattle.std.proofs.Common.{◌≡◌, ◌≢◌, ◌∙◌, ◌-◌, ◌/◌, ◌^◌, ◌<◌, ◌≤◌, ℕ, zero, suc, ◌*◌, lit<}
use Rattle.std.proofs.Common.{Bool, true, false, eqb, min, List, [], ◌∷◌, length, get_or}
use Rattle.std.proofs.Common.{get_or-set_same, get_or-set_other, inl, inr, refl, sym, ap, arith}
use Rattle.std.proofs.Math.ListN.{set, length-set}
use Rattle.std.proofs.lemmas.List.{ext_get_or}
use Rattle.std.proofs.lemmas.Nat.{and_le_l, or_lt, pow_below}
use Rattle.std.proofs.lemmas.Nat.Bits.{bit_at_lowest, bit_at-suc, bit_at_and, bit_at_or, bit_at_not}
use Rattle.std.proofs.lemmas.Nat.Bits.{bit_at-pow_same, bit_at-pow_other, bit_at-lt, bit_at-zero, and_pow}
use Rattle.std.proofs.lemmas.Bool.{cases_eq}
use Rattle.std.proofs.lemmas.Bool.Decides.{nat_tests}
use Rattle.std.proofs.Math.Pow.{pow_pos}
use Rattle.std.specs.Int.{bit_at, w32}
use Rattle.std.specs.Int.RustNames.{bit_and, bit_or}
use Rattle.bitflags.specs.Sets.{without}
use Rattle.tty_modes.specs.Bits.{flags_of}
use Rattle.tty_modes.specs.Settings.{with_flags_at, raw_places}

pub length-flags_of : (count bits : ℕ) → length (flags_of count bits) ≡ count
unfolding flags_of
length-flags_of zero bits = refl
length-flags_of (suc count) bits = ap suc (length-flags_of count (bits / 2))

-- the flag at a place is that bit
pub flag_at : (count bits k : ℕ) → k < count → get_or (flags_of count bits) k false ≡ eqb (bit_at bits k) 1
unfolding flags_of
flag_at zero bits k below = absurd (omega arith)
flag_at (suc count) bits zero below = ap (λ n. eqb n 1) (sym (bit_at_lowest bits))
flag_at (suc count) bits (suc k) below =
    flag_at count (bits / 2) k (omega arith) ∙ ap (λ n. eqb n 1) (sym (bit_at-suc bits k))

-- two numbers with the same low bits have the same flags
same_flags : (count a b : ℕ) → ((k : ℕ) → k < count → bit_at a k ≡ bit_at b k) → flags_of count a ≡ flags_of count b
same_flags count a b same =
    ext_get_or false (flags_of count a) (flags_of count b) (length-flags_of count a ∙ sym (length-flags_of count b))
    (λ k below.
    let inside : k < count = omega (arith, length-flags_of count a) in
    flag_at count a k inside ∙ ap (λ n. eqb n 1) (same k inside) ∙ sym (flag_at count b k inside))

-- flags with one place written, by their places
written : (count bits other place : ℕ) (value : Bool)
    → place < count
    → eqb (bit_at other place) 1 ≡ value
    → ((k : ℕ) → k < count → k ≢ place → bit_at other k ≡ bit_at bits k)
    → flags_of count other ≡ set (flags_of count bits) place value
written count bits other place value within here others =
    ext_get_or false (flags_of count other) (set (flags_of count bits) place value)
    (length-flags_of count other ∙ sym (length-set (flags_of count bits) place value ∙ length-flags_of count bits))
    (λ k below.
    let inside : k < count = omega (arith, length-flags_of count other) in
    let long : place < length (flags_of count bits) = omega (arith, length-flags_of count bits) in
    elim (cases_eq k place) [
      | inl same ↦ rw same
          (flag_at count other place within ∙ here ∙ sym (get_or-set_same (flags_of count bits) place value false long))
      | inr differ ↦
          flag_at count other k inside
          ∙ ap (λ n. eqb n 1) (others k inside differ)
          ∙ sym (flag_at count bits k inside)
          ∙ sym (get_or-set_other (flags_of count bits) place k value false differ)
    ])

-- a bit that is set sets its flag
pub flags_of-set : (count bits place : ℕ)
    → place < count
    → flags_of count (bit_or bits (2 ^ place)) ≡ set (flags_of count bits) place true
flags_of-set count bits place within =
    written count bits (bit_or bits (2 ^ place)) place true within
    (let one = bit_at-pow_same place in
    let or = bit_at_or bits (2 ^ place) place in
    let small = bit_at-lt bits place in
    let is_one : bit_at (bit_or bits (2 ^ place)) place ≡ 1 = omega arith in
    rw is_one refl)
    (λ k inside differ.
    let none = bit_at-pow_other place k differ in
    let or = bit_at_or bits (2 ^ place) k in
    omega arith)

-- a bit of what is left after some are taken away
bit_at-without : (bits mask k : ℕ)
    → mask < 2 ^ 32
    → k < 32
    → bit_at (without 32 bits mask) k ≡ min (bit_at bits k) (1 - bit_at mask k)
bit_at-without bits mask k fits inside =
    bit_at_and bits (2 ^ 32 - 1 - mask) k ∙ ap (min (bit_at bits k)) (bit_at_not w32 mask k fits inside)

-- a bit that is cleared clears its flag
pub flags_of-clear : (bits place : ℕ)
    → place < 29
    → flags_of 29 (without 32 bits (2 ^ place)) ≡ set (flags_of 29 bits) place false
flags_of-clear bits place within =
    let fits : 2 ^ place < 2 ^ 32 = pow_below place 32 (omega arith) in
    written 29 bits (without 32 bits (2 ^ place)) place false within
    (let one = bit_at-pow_same place in
    let left = bit_at-without bits (2 ^ place) place fits (omega arith) in
    let gone : bit_at (without 32 bits (2 ^ place)) place ≡ 0 = omega arith in
    rw gone refl)
    (λ k inside differ.
    let none = bit_at-pow_other place k differ in
    let left = bit_at-without bits (2 ^ place) k fits (omega arith) in
    let small = bit_at-lt bits k in
    omega arith)

-- the bits at some places
abbrev mask_of : List ℕ → ℕ
mask_of [] = 0
mask_of (place ∷ places) = bit_or (2 ^ place) (mask_of places)

-- places that are all in the list of flags
abbrev AllInside : List ℕ → Type 0
AllInside [] = Unit {0}
AllInside (place ∷ places) = (place < 29) × AllInside places

mask_of-lt : (places : List ℕ) → AllInside places → mask_of places < 2 ^ 29
mask_of-lt [] inside = pow_pos 29
mask_of-lt (place ∷ places) inside =
    or_lt 29 (2 ^ place) (mask_of places) (pow_below place 29 inside.0) (mask_of-lt places inside.1)

-- to take two sets of bits away at once is to take one and then the other
without-or : (bits a b : ℕ)
    → a < 2 ^ 29
    → b < 2 ^ 29
    → flags_of 29 (without 32 bits (bit_or a b)) ≡ flags_of 29 (without 32 (without 32 bits a) b)
without-or bits a b a_fits b_fits =
    same_flags 29 (without 32 bits (bit_or a b)) (without 32 (without 32 bits a) b)
    (λ k inside.
    let or = bit_at_or a b k in
    let both = or_lt 29 a b a_fits b_fits in
    let left = bit_at-without bits (bit_or a b) k (omega arith) (omega arith) in
    let first = bit_at-without bits a k (omega arith) (omega arith) in
    let second = bit_at-without (without 32 bits a) b k (omega arith) (omega arith) in
    omega arith)

-- clearing the bits at some places clears their flags
flags_of-clear_all : (places : List ℕ) (bits : ℕ)
    → AllInside places
    → flags_of 29 (without 32 bits (mask_of places)) ≡ with_flags_at false places (flags_of 29 bits)
flags_of-clear_all [] bits inside =
    same_flags 29 (without 32 bits 0) bits
    (λ k below.
    let left = bit_at-without bits 0 k (lit< tt) (omega arith) in
    let none = bit_at-zero k in
    let small = bit_at-lt bits k in
    omega arith)
flags_of-clear_all (place ∷ places) bits inside =
    without-or bits (2 ^ place) (mask_of places) (pow_below place 29 inside.0) (mask_of-lt places inside.1)
    ∙ flags_of-clear_all places (without 32 bits (2 ^ place)) inside.1
    ∙ ap (with_flags_at false places) (flags_of-clear bits place inside.0)

-- clearing the bits of cfmakeraw(3) clears its flags
pub flags_of-raw : (bits : ℕ)
    → flags_of 29 (without 32 bits (mask_of raw_places)) ≡ with_flags_at false raw_places (flags_of 29 bits)
flags_of-raw bits =
    flags_of-clear_all raw_places bits
    (lit< tt, (lit< tt, (lit< tt, (lit< tt, (lit< tt, (lit< tt, (lit< tt, (lit< tt, (lit< tt, (lit< tt, (lit< tt, (lit< tt, (lit< tt, (lit< tt, tt))))))))))))))

eqb_scaled : (bit weight : ℕ) → bit < 2 → 0 < weight → eqb (bit * weight) weight ≡ eqb bit 1
eqb_scaled bit weight small above = grind (arith, nat_tests)

-- what `contains` tests
pub has_bit : (bits place : ℕ)
    → place < 29
    → eqb (bit_and bits (2 ^ place)) (2 ^ place) ≡ get_or (flags_of 29 bits) place false
has_bit bits place within =
    rw (and_pow bits place) (eqb_scaled (bit_at bits place) (2 ^ place) (bit_at-lt bits place) (pow_pos place))
    ∙ sym (flag_at 29 bits place within)

-- a number stays within 29 bits
pub set_fits : (bits place : ℕ) → bits < 2 ^ 29 → place < 29 → bit_or bits (2 ^ place) < 2 ^ 29
set_fits bits place fits within = or_lt 29 bits (2 ^ place) fits (pow_below place 29 within)

pub clear_fits : (bits mask : ℕ) → bits < 2 ^ 29 → without 32 bits mask < 2 ^ 29
clear_fits bits mask fits = omega (arith, and_le_l bits (2 ^ 32 - 1 - mask))

-- a write past the list changes nothing
pub set-past : (flags : List Bool) (place : ℕ) (value : Bool) → length flags ≤ place → set flags place value ≡ flags
set-past [] place value past = refl
set-past (flag ∷ flags) zero value past = absurd (omega arith)
set-past (flag ∷ flags) (suc place) value past = ap (λ rest. flag ∷ rest) (set-past flags place value (omega arith))
