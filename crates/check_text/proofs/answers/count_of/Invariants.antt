use Rattle.std.proofs.Common.{◌≡◌, ◌<◌, ◌^◌, drop}
use Rattle.check_text.specs.Answers.{count_of}
use Rattle.check_text.proofs.Parts.{count_from}
use Rattle.check_text.proofs.answers.count_of.Given as goal

abbrev pub invariant-loop-digit : goal.invariant-loop-digit
invariant-loop-digit l =
    record { small : l.value < 2 ^ 64; left : count_from l.value (drop l.digit-index l.digits) ≡ count_of l.digits }
