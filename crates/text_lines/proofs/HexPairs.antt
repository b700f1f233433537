-- The bytes that pairs of hexadecimal digits write, place by place.
use Rattle.std.proofs.Common.{◌≡◌, ℕ, zero, suc, ◌+◌, ◌*◌, ◌/◌, ◌%◌, ◌<◌, ◌==◌, Bool, true, false}
use Rattle.std.proofs.Common.{List, [], ◌∷◌, ◌++◌, length, get_or, set, take, drop, Option, Some, None}
use Rattle.std.proofs.Common.{unwrap_or, is_some, Result, Ok, Err, refl, sym, ap, ◌∙◌, arith, eq-eqb}
use Rattle.std.specs.List.{list_all}
use Rattle.std.specs.Result.{result_unwrap_or}
use Rattle.std.specs.Simd.{first_chunks}
use Rattle.std.proofs.lemmas.Bool.{and_parts, eqb-true, eqb-false}
use Rattle.std.proofs.lemmas.Grind.{get_or-set_at, same_number_lists}
use Rattle.std.proofs.lemmas.List.{get_or-drop, get_or-set_other, get_or-take, take-append-drop}
use Rattle.std.proofs.lemmas.List.Sums.{list_all-from_AllPass}
use Rattle.hex.specs.Hex.{decode_of, decode_pairs, digit_or_error, hex_digit_value, is_hex_digit, pair_value, value_at}
use Rattle.hex.specs.declared.error.FromHexError.{FromHexError}
use Rattle.hex.proofs.Pairs.{cons_byte, decode_pairs-ok_pair}
use Rattle.hex.proofs.HexLemmas.{decode_of-even, decode_of-ok}
use Rattle.text_lines.specs.Values.{is_hex, bytes_of}

abbrev pub digit : ℕ → ℕ
digit byte = unwrap_or (hex_digit_value byte) 16

abbrev paired : List ℕ → List ℕ
paired [] = []
paired (last ∷ []) = []
paired (high ∷ low ∷ rest) = (digit high * 16 + digit low) ∷ paired rest

digit_some : (o : Option ℕ) → is_some o ≡ true → o ≡ Some (unwrap_or o 16)
digit_some None h = cc
digit_some (Some v) h = refl

digit_read : (byte i : ℕ) → is_hex_digit byte ≡ true → value_at byte i ≡ Ok (digit byte)
digit_read byte i h = ap (digit_or_error byte i) (digit_some (hex_digit_value byte) h)

pair_read : (high low i : ℕ)
    → is_hex_digit high ≡ true
    → is_hex_digit low ≡ true
    → pair_value high low i ≡ Ok (digit high * 16 + digit low)
pair_read high low i h l =
    let first = digit_read high i h in let second = digit_read low (i + 1) l in rw (first, second) refl

pairs_read : (i : ℕ) (word : List ℕ)
    → list_all is_hex_digit word ≡ true
    → length word % 2 ≡ 0
    → decode_pairs i word ≡ Ok (paired word)
unfolding decode_pairs
pairs_read i [] digits even = refl
pairs_read i (last ∷ []) digits even = absurd (omega arith)
pairs_read i (high ∷ low ∷ rest) digits even =
    let first = and_parts (is_hex_digit high) (list_all is_hex_digit (low ∷ rest)) digits in
    let second = and_parts (is_hex_digit low) (list_all is_hex_digit rest) first.1 in
    let later : decode_pairs (i + 2) rest ≡ Ok (paired rest) = pairs_read (i + 2) rest second.1 (omega arith) in
    decode_pairs-ok_pair i high low (digit high * 16 + digit low) rest (pair_read high low i first.0 second.0)
    ∙ ap (cons_byte (digit high * 16 + digit low)) later

pub bytes_paired : (word : List ℕ)
    → list_all is_hex_digit word ≡ true
    → length word % 2 ≡ 0
    → bytes_of word ≡ paired word
bytes_paired word all even = ap (λ (r : Result (List ℕ) FromHexError). result_unwrap_or r [])
    (decode_of-even word even ∙ pairs_read 0 word all even)

paired_length : (word : List ℕ) → length (paired word) ≡ length word / 2
paired_length [] = refl
paired_length (last ∷ []) = refl
paired_length (high ∷ low ∷ rest) = let later = paired_length rest in omega (arith, later)

-- digits write a byte for each two
pub bytes_counted : (word : List ℕ)
    → list_all is_hex_digit word ≡ true
    → length word % 2 ≡ 0
    → length word / 2 ≡ length (bytes_of word)
bytes_counted word all even = sym (ap length (bytes_paired word all even) ∙ paired_length word)

paired_append : (xs ys : List ℕ) → length xs % 2 ≡ 0 → paired (xs ++ ys) ≡ paired xs ++ paired ys
paired_append [] ys even = refl
paired_append (last ∷ []) ys even = absurd (omega arith)
paired_append (high ∷ low ∷ rest) ys even =
    ap (λ zs. (digit high * 16 + digit low) ∷ zs) (paired_append rest ys (omega arith))

all_parts : (p : ℕ → Bool) (xs ys : List ℕ)
    → list_all p (xs ++ ys) ≡ true
    → (list_all p xs ≡ true) × (list_all p ys ≡ true)
all_parts p [] ys all = (refl, all)
all_parts p (x ∷ xs) ys all =
    let parts = and_parts (p x) (list_all p (xs ++ ys)) all in
    let rest = all_parts p xs ys parts.1 in
    (rw (parts.0, rest.0) refl, rest.1)

-- a word of digits parted behind an even number of them
pub record IsPartedAt (word front back : List ℕ) : Type 0 where
  pub back_digits : list_all is_hex_digit back ≡ true
  pub written : bytes_of word ≡ bytes_of front ++ bytes_of back

pub parted_at : (word front back : List ℕ) (n : ℕ)
    → front ≡ take n word
    → back ≡ drop n word
    → length front % 2 ≡ 0
    → length back % 2 ≡ 0
    → list_all is_hex_digit word ≡ true
    → length word % 2 ≡ 0
    → IsPartedAt word front back
parted_at word front back n first later even more all whole =
    let parts : word ≡ front ++ back =
    sym (ap (λ xs. xs ++ back) first ∙ ap (λ xs. take n word ++ xs) later ∙ take-append-drop n word) in
    let each = all_parts is_hex_digit front back (ap (list_all is_hex_digit) (sym parts) ∙ all) in
    record {
      back_digits = each.1;
      written =
          bytes_paired word all whole ∙ ap paired parts ∙ paired_append front back even
          ∙ ap (λ xs. xs ++ paired back) (sym (bytes_paired front each.0 even))
          ∙ ap (λ xs. bytes_of front ++ xs) (sym (bytes_paired back each.1 more));
    }

paired_at : (word : List ℕ) (place : ℕ)
    → 2 * place + 1 < length word
    → get_or (paired word) place 0 ≡ digit (get_or word (2 * place) 0) * 16 + digit (get_or word (2 * place + 1) 0)
paired_at [] place below = absurd (omega arith)
paired_at (last ∷ []) place below = absurd (omega arith)
paired_at (high ∷ low ∷ rest) zero below = refl
paired_at (high ∷ low ∷ rest) (suc place) below =
    let first : suc (suc (2 * place)) ≡ 2 * suc place = omega arith in
    let second : suc (suc (2 * place + 1)) ≡ 2 * suc place + 1 = omega arith in
    paired_at rest place (omega arith)
    ∙ ap (λ k. digit (get_or (high ∷ low ∷ rest) k 0) * 16 + digit (get_or rest (2 * place + 1) 0)) first
    ∙ ap (λ k. digit (get_or (high ∷ low ∷ rest) (2 * suc place) 0) * 16 + digit (get_or (high ∷ low ∷ rest) k 0))
    second

pub some_digit : (value : ℕ) (byte : ℕ) → Some value ≡ hex_digit_value byte → digit byte ≡ value
some_digit value byte h = ap (λ (o : Option ℕ). unwrap_or o 16) (sym h)

-- the byte of the two digits at a place
byte_read : (word : List ℕ) (place high low : ℕ)
    → list_all is_hex_digit word ≡ true
    → length word % 2 ≡ 0
    → 2 * place + 1 < length word
    → Some high ≡ hex_digit_value (get_or word (2 * place) 0)
    → Some low ≡ hex_digit_value (get_or word (2 * place + 1) 0)
    → high * 16 + low ≡ get_or (bytes_of word) place 0
byte_read word place high low all even below first second =
    sym (ap (λ bytes. get_or bytes place 0) (bytes_paired word all even) ∙ paired_at word place below
    ∙ ap (λ v. v * 16 + digit (get_or word (2 * place + 1) 0)) (some_digit high (get_or word (2 * place) 0) first)
    ∙ ap (λ v. high * 16 + v) (some_digit low (get_or word (2 * place + 1) 0) second))

-- ---- digits by twos

digit_in_pair : (n k at : ℕ) (word : List ℕ)
    → k < n
    → at < 2
    → get_or (get_or (first_chunks 2 n word) k []) at 0 ≡ get_or word (2 * k + at) 0
digit_in_pair zero k at word within two = absurd (omega arith)
digit_in_pair (suc n) zero at word within two =
    let same : at ≡ 2 * 0 + at = omega arith in
    get_or-take 2 word at 0 two ∙ ap (λ i. get_or word i 0) same
digit_in_pair (suc n) (suc k) at word within two =
    let next : 2 + (2 * k + at) ≡ 2 * suc k + at = omega arith in
    digit_in_pair n k at (drop 2 word) (omega arith) two
    ∙ get_or-drop 2 word (2 * k + at) 0
    ∙ ap (λ i. get_or word i 0) next

pub list_all_true : (p : ℕ → Bool) (xs : List ℕ) (at : ℕ)
    → list_all p xs ≡ true
    → at < length xs
    → p (get_or xs at 0) ≡ true
list_all_true p [] at all below = absurd (omega arith)
list_all_true p (x ∷ xs) zero all below = (and_parts (p x) (list_all p xs) all).0
list_all_true p (x ∷ xs) (suc at) all below =
    list_all_true p xs at (and_parts (p x) (list_all p xs) all).1 (omega arith)

-- the digits of a word by twos, of which `size` write a byte each
module _ (word : List ℕ) (pairs : List (List ℕ)) (size : ℕ) (all : list_all is_hex_digit word ≡ true)
    (room : length word ≡ 2 * size) (front : pairs ≡ first_chunks 2 (length word / 2) word) where
  in_pair : (k at : ℕ) → k < size → at < 2 → get_or (get_or pairs k []) at 0 ≡ get_or word (2 * k + at) 0
  in_pair k at within two =
      ap (λ ps. get_or (get_or ps k []) at 0) front
      ∙ digit_in_pair (length word / 2) k at word (omega (arith, room, within)) two

  pub pair_digit : (k at : ℕ) → k < size → at < 2 → is_hex_digit (get_or (get_or pairs k []) at 0) ≡ true
  pair_digit k at within two =
      ap is_hex_digit (in_pair k at within two)
      ∙ list_all_true is_hex_digit word (2 * k + at) all (omega (arith, room, within, two))

  pub pair_byte : (k high low : ℕ)
      → k < size
      → Some high ≡ hex_digit_value (get_or (get_or pairs k []) 0 0)
      → Some low ≡ hex_digit_value (get_or (get_or pairs k []) 1 0)
      → high * 16 + low ≡ get_or (bytes_of word) k 0
  pair_byte k high low within first second =
      let at : 2 * k + 0 ≡ 2 * k = omega arith in
      byte_read word k high low all (omega (arith, room)) (omega (arith, room, within))
      (first ∙ ap hex_digit_value (in_pair k 0 within (omega arith) ∙ ap (λ i. get_or word i 0) at))
      (second ∙ ap hex_digit_value (in_pair k 1 within (omega arith)))

  -- a byte that is written from the values of its two digits
  pub pair_written : (k byte : ℕ)
      → k < size
      → ((v w : ℕ)
      → Some v ≡ hex_digit_value (get_or (get_or pairs k []) 0 0)
      → Some w ≡ hex_digit_value (get_or (get_or pairs k []) 1 0)
      → byte ≡ v * 16 + w)
      → byte ≡ get_or (bytes_of word) k 0
  pair_written k byte within by =
      let high = get_or (get_or pairs k []) 0 0 in
      let low = get_or (get_or pairs k []) 1 0 in
      let first : Some (digit high) ≡ hex_digit_value high =
      sym (digit_some (hex_digit_value high) (pair_digit k 0 within (omega arith))) in
      let second : Some (digit low) ≡ hex_digit_value low =
      sym (digit_some (hex_digit_value low) (pair_digit k 1 within (omega arith))) in
      by (digit high) (digit low) first second ∙ pair_byte k (digit high) (digit low) within first second

  pub all_written : (bytes : List ℕ)
      → length bytes ≡ size
      → ((k : ℕ) → k < size → get_or bytes k 0 ≡ get_or (bytes_of word) k 0)
      → bytes ≡ bytes_of word
  all_written bytes long each =
      let count = bytes_counted word all (omega (arith, room)) in
      same_number_lists bytes (bytes_of word) (omega (arith, long, count, room))
      (λ k within. each k (omega (arith, within, long)))

-- one item more is as it should be
pub set_more : (xs ys : List ℕ) (i v : ℕ)
    → i < length xs
    → v ≡ get_or ys i 0
    → ((k : ℕ) → k < i → get_or xs k 0 ≡ get_or ys k 0)
    → (k : ℕ)
    → k < i + 1
    → get_or (set xs i v) k 0 ≡ get_or ys k 0
set_more xs ys i v below is before k within = set_more_by (k == i) refl where
  set_more_by : (b : Bool) → (k == i) ≡ b → get_or (set xs i v) k 0 ≡ get_or ys k 0
  set_more_by true e =
      let here = eqb-true k i e in get_or-set_at xs i k v 0 here below ∙ is ∙ ap (λ j. get_or ys j 0) (sym here)
  set_more_by false e =
      let other = eqb-false k i e in get_or-set_other xs i k v 0 other ∙ before k (omega (arith, within, other))

-- ---- what is no HEX

empty_read : (bytes : List ℕ) → decode_of [] ≡ Ok bytes → bytes ≡ []
unfolding decode_pairs
empty_read bytes read = sym (ap (λ (r : Result (List ℕ) FromHexError). result_unwrap_or r []) read)

no_bytes : (word : List ℕ) (r : Result (List ℕ) FromHexError)
    → decode_of word ≡ r
    → is_hex word ≡ false
    → result_unwrap_or r [] ≡ []
no_bytes word (Err error) read odd = refl
no_bytes [] (Ok bytes) read odd = empty_read bytes read
no_bytes (first ∷ digits) (Ok bytes) read odd =
    let ok = decode_of-ok (first ∷ digits) bytes read in
    let all : list_all is_hex_digit (first ∷ digits) ≡ true =
    list_all-from_AllPass is_hex_digit (first ∷ digits) ok.1 in
    let even : (length (first ∷ digits) % 2 == 0) ≡ true = eq-eqb (length (first ∷ digits) % 2) 0 ok.0 in
    let hex : is_hex (first ∷ digits) ≡ true = rw (all, even) refl in
    absurd (cc)

pub bytes_none : (word : List ℕ) → is_hex word ≡ false → [] ≡ bytes_of word
bytes_none word odd = sym (no_bytes word (decode_of word) refl odd)
