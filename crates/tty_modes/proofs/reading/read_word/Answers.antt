use Rattle.std.proofs.Common.{◌≡◌, ◌==◌, ◌∙◌, ℕ, false, eqb, List, [], ◌∷◌, length}
use Rattle.std.proofs.Common.{get_or, option_map, refl, sym, ap, true, arith}
use Rattle.std.proofs.lemmas.Bool.Decides.{nat_tests}
use Rattle.std.proofs.lemmas.List.{take_rest}
use Rattle.tty_modes.specs.declared.words.Word.TheVariants.{Off}
use Rattle.tty_modes.specs.Names.{flag_names}
use Rattle.tty_modes.specs.Reading.{place_of}
use Rattle.tty_modes.proofs.WordTexts.{word_of-raw, word_of-sane, word_of-flag, word_of-dash, word_of-character}
use Rattle.tty_modes.proofs.reading.read_word.Goals.{else-not-is_empty-via-then-not-is_empty+else-text-eq45}
use Rattle.tty_modes.proofs.reading.read_word.Goals.{else-not-is_empty-via-else-not-is_empty}
use Rattle.tty_modes.proofs.reading.read_word.Goals as goal

empty_has_no_dash : (text : List ℕ) → (length text == 0) ≡ true → eqb (get_or text 0 0) 45 ≡ false
empty_has_no_dash [] empty = refl
empty_has_no_dash (byte ∷ bytes) empty = grind (arith, nat_tests, empty)

pub returns-then-is_raw : goal.returns-then-is_raw
returns-then-is_raw c = sym (word_of-raw c.args.text.now (sym c.is_raw.ensures ∙ c.if-is_raw.true))

pub returns-then-is_sane : goal.returns-then-is_sane
returns-then-is_sane c = sym (word_of-sane c.args.text.now (sym c.is_raw.ensures ∙ c.if-is_raw.false)
    (sym c.is_sane.ensures ∙ c.if-is_sane.true))

pub returns-in-Some : goal.returns-in-Some
returns-in-Some c =
    sym (word_of-flag c.args.text.now c.in-Some.flag (sym c.is_raw.ensures ∙ c.if-is_raw.false)
    (sym c.is_sane.ensures ∙ c.if-is_sane.false)
    (sym c.flag_place.ensures ∙ c.in-Some.is))

pub returns-then-text-eq45 : goal.returns-then-text-eq45
returns-then-text-eq45 c =
    c.cleared_flag.ensures
    ∙ ap (λ name. option_map Off (place_of flag_names name)) (take_rest c.args.text.now 1)
    ∙ sym (word_of-dash c.args.text.now c.if-text-eq45.true)

pub returns : goal.returns
returns c =
    let no_dash : eqb (get_or c.args.text.now 0 0) 45 ≡ false =
    elim c.else-not-is_empty.branch [
      | else-not-is_empty-via-then-not-is_empty+else-text-eq45 w ↦ grind (arith, nat_tests, w.if-text-eq45.false)
      | else-not-is_empty-via-else-not-is_empty w ↦
          empty_has_no_dash c.args.text.now (sym c.is_empty.ensures ∙ w.if-not-is_empty.false)
    ] in
    c.character_word.ensures
    ∙ sym (word_of-character c.args.text.now (sym c.is_raw.ensures ∙ c.if-is_raw.false)
    (sym c.is_sane.ensures ∙ c.if-is_sane.false)
    (sym c.flag_place.ensures ∙ c.in_default.is) no_dash)
