-- A word that sets a control character, parted at its `=`.
use Rattle.std.proofs.Common.{◌≡◌, ◌+◌, ◌-◌, ℕ, Bool, true, false, eqb, cond, List}
use Rattle.std.proofs.Common.{length, take, drop, Option, Some, None, refl, sym, ap, ◌∙◌}
use Rattle.std.specs.Prelude.{position, nat_lt}
use Rattle.std.specs.List.{position_or_len}
use Rattle.std.proofs.lemmas.List.{take_rest}
use Rattle.tty_modes.specs.Names.{character_names}
use Rattle.tty_modes.specs.Reading.{place_of, byte_of, character_word, character_word_of}

abbrev is_equals : ℕ → Bool
is_equals byte = eqb byte 61

found_at : (b : Bool) (n at : ℕ) → cond b (Some n) None ≡ Some at → n ≡ at
found_at true n at h = cc
found_at false n at h = cc

-- the name before `=`, and the digits behind it
pub parted_at : (text : List ℕ) (at : ℕ) (place value : Option ℕ)
    → Some at ≡ position is_equals text
    → place ≡ place_of character_names (take at text)
    → value ≡ byte_of (take (length text - (at + 1)) (drop (at + 1) text))
    → character_word place value ≡ character_word_of text
parted_at text at place value found named read =
    let first : at ≡ position_or_len is_equals text =
    sym (found_at (nat_lt (position_or_len is_equals text) (length text)) (position_or_len is_equals text) at
    (sym found)) in
    let digits : value ≡ byte_of (drop (at + 1) text) = read ∙ ap byte_of (take_rest text (at + 1)) in
    ap (λ p. character_word p value) named
    ∙ ap (λ v. character_word (place_of character_names (take at text)) v) digits
    ∙ ap (λ n. character_word (place_of character_names (take n text)) (byte_of (drop (n + 1) text))) first

-- without a number there is no word
pub no_value : (place value : Option ℕ) → value ≡ None → character_word place value ≡ None
no_value None value none = refl
no_value (Some place) value none = ap (character_word (Some place)) none
