use Rattle.std.proofs.Common.{◌≡◌, ◌++◌, length, option_map}
use Rattle.check_text.specs.Characters.{chars_from}
use Rattle.check_text.proofs.characters.add_characters.Given as goal

abbrev pub invariant-loop-rest : goal.invariant-loop-rest
invariant-loop-rest l = option_map (λ more. l.characters.items ++ more) (chars_from l.rest) ≡ chars_from l.word

abbrev pub decreases-loop-rest : goal.decreases-loop-rest
decreases-loop-rest l = length l.rest
