use Rattle.std.proofs.Common.{sym, ◌∙◌}
use Rattle.check_text.proofs.Parts.{count_all, count_none}
use Rattle.check_text.proofs.answers.count_of.Goals as goal

pub returns-in-None : goal.returns-in-None
returns-in-None c = count_none c.loop-digit.value c.args.digits.now c.loop-digit.digit-index c.loop-digit-test.true
    c.in-None.ensures c.loop-digit.invariant.left

pub returns : goal.returns
returns c =
    sym (count_all c.loop-digit.value c.args.digits.now c.loop-digit.digit-index
    c.loop-digit.invariant.small c.loop-digit-test.false)
    ∙ c.loop-digit.invariant.left
