use Rattle.std.proofs.Common.{◌∙◌, ◌++◌, ap, string_bytes}
use Rattle.std.proofs.lemmas.Result.{on_ok_weaker}
use Rattle.tty_modes.specs.Settings.{character}
use Rattle.tty_modes.specs.Word.{word_text}
use Rattle.tty_modes.specs.declared.words.Word.TheVariants.{Cc}
use Rattle.session_print.specs.Printing.{flags_text, characters_text}
use Rattle.session_print.proofs.Pieces.{three}
use Rattle.session_print.proofs.ModeTexts.{modes_text_is}
use Rattle.session_print.proofs.modes.put_modes.Goals as goal

pub returns : goal.returns
returns c =
    let modes = c.args.modes.now in
    let text = string_bytes c.args.text.now in
    on_ok_weaker c.put_further_characters.result
    (λ last.
    three text (string_bytes c.put_flags.new.text) (string_bytes c.put_character.new.text)
    (string_bytes c.put_further_characters.new.text) (flags_text modes 0 29) (word_text (Cc 0 (character modes 0)))
    (characters_text modes 1 14) c.in_ok-put_flags.ensures c.in_ok-put_character.ensures last
    ∙ ap (λ xs. text ++ xs) (modes_text_is modes))
    c.put_further_characters.ensures
