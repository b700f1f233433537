use Rattle.std.proofs.Common.{◌≡◌, take}
use Rattle.tty_modes.specs.Word.{after_words}
use Rattle.tty_modes.proofs.settings.Modes.apply_all.Given as goal

-- the words so far are applied
abbrev pub invariant-loop-word : goal.invariant-loop-word
invariant-loop-word l = l.self ≡ after_words l.initial.self (take l.word-index l.words)
