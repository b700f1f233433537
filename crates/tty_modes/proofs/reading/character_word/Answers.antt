use Rattle.std.proofs.Common.{◌∙◌, sym}
use Rattle.tty_modes.specs.Reading.{character_word}
use Rattle.tty_modes.proofs.CharacterWords.{parted_at, no_value}
use Rattle.tty_modes.proofs.reading.character_word.Goals as goal

pub returns-in_err-value : goal.returns-in_err-value
returns-in_err-value c =
    c.from_residual-in_err-value.ensures
    ∙ sym (no_value c.character_place.result c.byte_of.result c.in_err-value.was)
    ∙ parted_at c.args.text.now c.in_ok-at.at c.character_place.result c.byte_of.result
    (sym c.in_ok-at.was ∙ c.equals_in.ensures) c.character_place.ensures c.byte_of.ensures

pub returns : goal.returns
returns c =
    sym (λ i. character_word (c.in_ok-place.was i) (c.in_ok-value.was i))
    ∙ parted_at c.args.text.now c.in_ok-at.at c.character_place.result c.byte_of.result
    (sym c.in_ok-at.was ∙ c.equals_in.ensures) c.character_place.ensures c.byte_of.ensures
