-- Two hexadecimal digits, worked on at once.
use Rattle.std.proofs.Common.{◌≡◌, ℕ, ◌+◌, ◌-◌, ◌*◌, ◌/◌, ◌%◌, ◌<◌, ◌≤◌, ◌==◌, ◌&&◌, ◌||◌, not}
use Rattle.std.proofs.Common.{nat_le, Bool, true, false, Some, refl, sym, ap, ◌∙◌, arith, leb-true}
use Rattle.std.specs.Int.Bits.{bit_and}
use Rattle.std.specs.List.{list_all, range_with_len}
use Rattle.std.proofs.lemmas.Bool.{and_parts, eqb-true}
use Rattle.std.proofs.lemmas.List.FromFn.{length-range_with_len, get_or-range_with_len}
use Rattle.hex.specs.Hex.{hex_digit_value, is_hex_digit}
use Rattle.text_lines.proofs.HexPairs.{digit, some_digit, list_all_true}

-- the values of two digits, each in a byte of its own
abbrev pub values_of : ℕ → ℕ → ℕ
values_of high low = bit_and (high + low * 256) 3855 + bit_and ((high + low * 256) / 64) 257 * 9

abbrev fits : ℕ → ℕ → Bool
fits high low =
    nat_le (values_of high low) 3855
    && (values_of high low * 16 + values_of high low / 256) % 256 == digit high * 16 + digit low

abbrev fits_digits : ℕ → ℕ → Bool
fits_digits high low = (not (is_hex_digit high) || not (is_hex_digit low)) || fits high low

-- digits are bytes from 48 to 102
digits_within : (byte : ℕ) → is_hex_digit byte ≡ true → (48 ≤ byte) × (byte < 103)
digits_within byte h = (grind (arith), grind (arith))

all_fit : list_all (λ high. list_all (fits_digits high) (range_with_len 48 55)) (range_with_len 48 55) ≡ true
all_fit = refl

at_digit : (p : ℕ → Bool) (byte : ℕ)
    → list_all p (range_with_len 48 55) ≡ true
    → (48 ≤ byte) × (byte < 103)
    → p byte ≡ true
at_digit p byte all within =
    let place : byte - 48 < 55 = omega (arith, within.0, within.1) in
    let here : 48 + (byte - 48) ≡ byte = omega (arith, within.0) in
    ap p (sym (get_or-range_with_len 48 55 (byte - 48) 0 place ∙ here))
    ∙ list_all_true p (range_with_len 48 55) (byte - 48) all (omega (arith, place, length-range_with_len 48 55))

tested : (a b c : Bool) → a ≡ true → b ≡ true → (not a || not b) || c ≡ true → c ≡ true
tested true true c x y e = e
tested true false c x y e = cc
tested false b c x y e = cc

digits_fit : (high low : ℕ) → is_hex_digit high ≡ true → is_hex_digit low ≡ true → fits high low ≡ true
digits_fit high low h l =
    let row = at_digit (λ a. list_all (fits_digits a) (range_with_len 48 55)) high all_fit (digits_within high h) in
    tested (is_hex_digit high) (is_hex_digit low) (fits high low) h l
    (at_digit (fits_digits high) low row (digits_within low l))

pub values_small : (high low : ℕ) → is_hex_digit high ≡ true → is_hex_digit low ≡ true → values_of high low ≤ 3855
values_small high low h l = leb-true (values_of high low) 3855
    (and_parts (nat_le (values_of high low) 3855)
    ((values_of high low * 16 + values_of high low / 256) % 256 == digit high * 16 + digit low)
    (digits_fit high low h l)).0

pub values_byte : (high low v w : ℕ)
    → is_hex_digit high ≡ true
    → is_hex_digit low ≡ true
    → Some v ≡ hex_digit_value high
    → Some w ≡ hex_digit_value low
    → (values_of high low * 16 + values_of high low / 256) % 256 ≡ v * 16 + w
values_byte high low v w h l first second =
    eqb-true ((values_of high low * 16 + values_of high low / 256) % 256) (digit high * 16 + digit low)
    (and_parts (nat_le (values_of high low) 3855)
    ((values_of high low * 16 + values_of high low / 256) % 256 == digit high * 16 + digit low)
    (digits_fit high low h l)).1
    ∙ ap (λ x. x * 16 + digit low) (some_digit v high first)
    ∙ ap (λ x. v * 16 + x) (some_digit w low second)
