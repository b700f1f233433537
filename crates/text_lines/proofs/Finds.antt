-- The first byte that passes a test, as the library's search finds it.
use Rattle.std.proofs.Common.{◌≡◌, ℕ, ◌+◌, ◌<◌, Bool, true, false, not, List, [], ◌∷◌, ◌++◌}
use Rattle.std.proofs.Common.{length, length-append, take, drop, position, cond, nat_lt, Option}
use Rattle.std.proofs.Common.{None, Some, slice_index, refl, sym, ap, ◌∙◌, arith, lt-ltb, le-ltb}
use Rattle.std.specs.List.{position_or_len, list_any}
use Rattle.std.proofs.lemmas.Bool.{or_parts}
use Rattle.std.proofs.lemmas.List.{take-append-drop, length-take-le}
use Rattle.std.proofs.lemmas.List.Sums.{position_or_len_is}
use Rattle.memchr.specs.Find.{IsFirstByte, is_byte3}
use Rattle.text_lines.specs.Lines.{is_blank, is_low}

fails : (b : Bool) → (b ≡ true → ⊥) → b ≡ false
fails true never = absurd (never refl)
fails false never = refl

pub first_place : (p : ℕ → Bool) (xs : List ℕ) (r : Option ℕ) → IsFirstByte p xs r → r ≡ position p xs
first_place p xs None none =
    let n : position_or_len p xs ≡ length xs =
    position_or_len_is p xs (length xs) 0 (omega arith)
    (λ k below. fails (p (slice_index xs k)) (none k (omega arith) below)) (λ below. absurd (omega arith)) in
    sym (ap (λ m. cond (nat_lt m (length xs)) (Some m) None) n
    ∙ ap (λ b. cond b (Some (length xs)) None) (le-ltb (length xs) (length xs) (omega arith)))
first_place p xs (Some at) found =
    let n : position_or_len p xs ≡ at =
    position_or_len_is p xs at 0 (omega (arith, found.0.high))
    (λ k below. fails (p (slice_index xs k)) (found.0.before k (omega arith) below)) (λ below. found.1) in
    sym (ap (λ m. cond (nat_lt m (length xs)) (Some m) None) n
    ∙ ap (λ b. cond b (Some at) None) (lt-ltb at (length xs) found.0.high))

-- a blank is one of three bytes
pub first_blank : (xs : List ℕ) (r : Option ℕ) → IsFirstByte (is_byte3 32 9 13) xs r → r ≡ position is_blank xs
first_blank xs r found = first_place is_blank xs r found

-- ---- past a front without such a byte

-- a place, counted from further in front
abbrev pub later : ℕ → Option ℕ → Option ℕ
later n None = None
later n (Some at) = Some (n + at)

later_twice : (n m : ℕ) (r : Option ℕ) → later n (later m r) ≡ later (n + m) r
later_twice n m None = refl
later_twice n m (Some at) = ap Some (omega arith)

passed : (p : ℕ → Bool) (xs ys : List ℕ)
    → list_any p xs ≡ false
    → position_or_len p (xs ++ ys) ≡ length xs + position_or_len p ys
passed p [] ys none = omega arith
passed p (x ∷ xs) ys none =
    let parts = or_parts (p x) (list_any p xs) none in
    let rest = passed p xs ys parts.1 in
    ap (λ b. cond (not b) (1 + position_or_len p (xs ++ ys)) 0) parts.0 ∙ omega (arith, rest)

later_by : (n m : ℕ) (a b : Bool) → a ≡ b → cond a (Some (n + m)) None ≡ later n (cond b (Some m) None)
later_by n m true true e = refl
later_by n m true false e = cc
later_by n m false true e = cc
later_by n m false false e = refl

place_behind : (p : ℕ → Bool) (xs ys : List ℕ)
    → list_any p xs ≡ false
    → position p (xs ++ ys) ≡ later (length xs) (position p ys)
place_behind p xs ys none =
    let n = length xs in
    let m = position_or_len p ys in
    let whole : length (xs ++ ys) ≡ n + length ys = length-append xs ys in
    ap (λ at. cond (nat_lt at (length (xs ++ ys))) (Some at) None) (passed p xs ys none)
    ∙ ap (λ size. cond (nat_lt (n + m) size) (Some (n + m)) None) whole
    ∙ later_by n m (nat_lt (n + m) (n + length ys)) (nat_lt m (length ys)) (grind (arith))

blank_low : (byte : ℕ) → is_low byte ≡ false → is_blank byte ≡ false
blank_low byte h = grind (arith)

-- where no byte is as low as a blank, none is a blank
pub no_blank : (xs : List ℕ) → list_any is_low xs ≡ false → list_any is_blank xs ≡ false
no_blank [] none = refl
no_blank (x ∷ xs) none =
    let parts = or_parts (is_low x) (list_any is_low xs) none in
    let first : is_blank x ≡ false = blank_low x parts.0 in
    let rest : list_any is_blank xs ≡ false = no_blank xs parts.1 in
    rw (first, rest) refl

-- the search goes on behind a piece of what is left
pub first_later : (p : ℕ → Bool) (line rest piece after : List ℕ) (n : ℕ)
    → piece ≡ take 128 rest
    → after ≡ drop 128 rest
    → 128 < length rest
    → list_any p piece ≡ false
    → position p line ≡ later n (position p rest)
    → position p line ≡ later (n + 128) (position p after)
first_later p line rest piece after n front back long none first =
    let size : length piece ≡ 128 = ap length front ∙ length-take-le 128 rest (omega arith) in
    let parts : rest ≡ piece ++ after =
    sym (ap (λ xs. xs ++ after) front ∙ ap (λ xs. take 128 rest ++ xs) back ∙ take-append-drop 128 rest) in
    first ∙ ap (λ xs. later n (position p xs)) parts ∙ ap (later n) (place_behind p piece after none)
    ∙ later_twice n (length piece) (position p after) ∙ ap (λ m. later (n + m) (position p after)) size
