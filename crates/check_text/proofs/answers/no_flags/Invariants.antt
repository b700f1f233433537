use Rattle.std.proofs.Common.{◌≡◌, ◌-◌}
use Rattle.std.specs.Prelude.{fold}
use Rattle.std.specs.List.{range_with_len}
use Rattle.tty_modes.specs.Word.{after_word}
use Rattle.tty_modes.specs.declared.words.Word.TheVariants.{Off}
use Rattle.check_text.specs.Answers.{no_flags}
use Rattle.check_text.proofs.answers.no_flags.Given as goal

abbrev pub invariant-loop-flag : goal.invariant-loop-flag
invariant-loop-flag l =
    fold (λ modes flag. after_word modes (Off flag)) l.modes (range_with_len l.flag (29 - l.flag)) ≡ no_flags
