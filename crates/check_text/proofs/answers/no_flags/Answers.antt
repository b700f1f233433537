use Rattle.tty_modes.specs.Word.{after_word}
use Rattle.tty_modes.specs.declared.words.Word.TheVariants.{Off}
use Rattle.check_text.proofs.Parts.{fold_range}
use Rattle.check_text.proofs.answers.no_flags.Goals as goal

pub loop-flag-preserved : goal.loop-flag-preserved
loop-flag-preserved c =
    fold_range (λ modes flag. after_word modes (Off flag)) 29 c.loop-flag.flag c.loop-flag.modes c.apply.new.self _
    c.loop-flag-test.true c.apply.ensures c.loop-flag.invariant
