-- Characters as text: for each the letter of its flag, and its byte in hexadecimal.
use Rattle.std.proofs.Common.{◌≡◌, ℕ, List, [], ◌∷◌, ◌++◌, ◌+◌, ◌*◌, ◌/◌, ◌%◌, ◌<◌, length, take}
use Rattle.std.proofs.Common.{flat_map, get_or, set, refl, sym, ap, ◌∙◌, arith, append_assoc, append-nil}
use Rattle.std.proofs.lemmas.Grind.{flat_map-append}
use Rattle.std.proofs.lemmas.List.{length-set, take_all, take_more, take_more_set}
use Rattle.std.proofs.lemmas.Str.{IsAscii-append, IsUtf8-from_ascii}
use Rattle.std.proofs.lemmas.Str.Ascii.{IsAscii-nil}
use Rattle.std.specs.Str.{IsAscii, IsUtf8}
use Rattle.hex.proofs.HexLemmas.{IsAscii-encode_with}
use Rattle.hex.specs.Hex.{encode_lower, lower_digits}
use Rattle.tty_base.specs.declared.characters.Flag.{Flag}
use Rattle.tty_base.specs.declared.characters.Flag.TheVariants as flags
use Rattle.tty_base.specs.declared.characters.Flagged.{Flagged}
use Rattle.session_print.specs.Journals.{char_text, flag_letter}
use Rattle.session_print.proofs.Pieces.{all_ascii, byte_digits}

letter_is_ascii : (flag : Flag) → IsAscii (flag_letter flag)
letter_is_ascii flags.Normal = all_ascii (flag_letter flags.Normal) refl
letter_is_ascii flags.Break = all_ascii (flag_letter flags.Break) refl
letter_is_ascii flags.Parity = all_ascii (flag_letter flags.Parity) refl
letter_is_ascii flags.Frame = all_ascii (flag_letter flags.Frame) refl
letter_is_ascii flags.Overrun = all_ascii (flag_letter flags.Overrun) refl

signs_are_ascii : (cs : List Flagged) → IsAscii (flat_map char_text cs)
signs_are_ascii [] = IsAscii-nil
signs_are_ascii (c ∷ cs) =
    IsAscii-append (char_text c) (flat_map char_text cs)
    (IsAscii-append (flag_letter c.flag) (encode_lower (c.byte ∷ [])) (letter_is_ascii c.flag)
    (IsAscii-encode_with lower_digits (c.byte ∷ []) (all_ascii lower_digits refl)))
    (signs_are_ascii cs)

pub signs_are_text : (cs : List Flagged) → IsUtf8 (flat_map char_text cs)
signs_are_text cs = IsUtf8-from_ascii _ (signs_are_ascii cs)

three_set : (signs : List ℕ) (i a b c : ℕ)
    → i + 2 < length signs
    → take (i + 3) (set (set (set signs i a) (i + 1) b) (i + 2) c) ≡ take i signs ++ a ∷ b ∷ c ∷ []
three_set signs i a b c room =
    let once : List ℕ = set signs i a in
    let twice : List ℕ = set once (i + 1) b in
    let one : length once ≡ length signs = length-set signs i a in
    let two : length twice ≡ length signs = length-set once (i + 1) b ∙ one in
    let third : i + 3 ≡ (i + 2) + 1 = omega arith in
    let second : i + 2 ≡ (i + 1) + 1 = omega arith in
    ap (λ n. take n (set twice (i + 2) c)) third
    ∙ take_more_set twice (i + 2) c (omega (arith, two, room))
    ∙ ap (λ n. take n twice ++ c ∷ []) second
    ∙ ap (λ xs. xs ++ c ∷ [])
    (take_more_set once (i + 1) b (omega (arith, one, room))
    ∙ ap (λ xs. xs ++ b ∷ []) (take_more_set signs i a (omega (arith, room))))
    ∙ append_assoc (take i signs ++ a ∷ []) (b ∷ []) (c ∷ [])
    ∙ append_assoc (take i signs) (a ∷ []) (b ∷ c ∷ [])

-- the signs of a character more
pub signs_more : (cs : List Flagged) (signs : List ℕ) (place : ℕ) (d : Flagged) (letter high low : ℕ)
    → place < length cs
    → 3 * place + 2 < length signs
    → letter ∷ [] ≡ flag_letter (get_or cs place d).flag
    → high ≡ get_or lower_digits ((get_or cs place d).byte / 16) 0
    → low ≡ get_or lower_digits ((get_or cs place d).byte % 16) 0
    → take (3 * place) signs ≡ flat_map char_text (take place cs)
    → take (3 * (place + 1)) (set (set (set signs (3 * place) letter) (3 * place + 1) high) (3 * place + 2) low)
    ≡ flat_map char_text (take (place + 1) cs)
signs_more cs signs place d letter high low within room flag first second before =
    let next : 3 * (place + 1) ≡ 3 * place + 3 = omega arith in
    let front : List ℕ = flat_map char_text (take place cs) in
    let c : Flagged = get_or cs place d in
    let all : List ℕ = set (set (set signs (3 * place) letter) (3 * place + 1) high) (3 * place + 2) low in
    ap (λ n. take n all) next
    ∙ three_set signs (3 * place) letter high low room
    ∙ ap (λ xs. xs ++ letter ∷ high ∷ low ∷ []) before
    ∙ ap (λ xs. front ++ ((letter ∷ []) ++ xs)) (byte_digits c.byte high low first second)
    ∙ ap (λ xs. front ++ (xs ++ encode_lower (c.byte ∷ []))) flag
    ∙ ap (λ xs. front ++ xs) (sym (append-nil (char_text c)))
    ∙ sym (flat_map-append char_text (take place cs) (c ∷ []))
    ∙ ap (flat_map char_text) (sym (take_more cs place d within))

-- the signs of all characters
pub all_signs : (cs : List Flagged) (signs : List ℕ) (place count : ℕ)
    → place ≡ count
    → count ≡ length cs
    → take (3 * place) signs ≡ flat_map char_text (take place cs)
    → take (3 * count) signs ≡ flat_map char_text cs
all_signs cs signs place count end all written =
    ap (λ n. take (3 * n) signs) (sym end)
    ∙ written
    ∙ ap (flat_map char_text) (take_all place cs (omega (arith, end, all)))
