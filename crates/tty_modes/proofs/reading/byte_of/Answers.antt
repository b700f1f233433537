use Rattle.std.proofs.Common.{◌∙◌, refl, sym}
use Rattle.tty_modes.proofs.ByteTexts.{byte_of-odd, byte_of-plain, value_all, value_none, value_more}
use Rattle.tty_modes.proofs.reading.byte_of.Goals as goal

pub returns-then-not-starts_plainly : goal.returns-then-not-starts_plainly
returns-then-not-starts_plainly c =
    byte_of-odd c.args.digits.now (sym c.starts_plainly.ensures ∙ c.if-not-starts_plainly.true)

pub loop-digit-preserved : goal.loop-digit-preserved
loop-digit-preserved c =
    value_more c.loop-digit.value _ c.in_ok-value.value c.loop-digit.digit-index c.args.digits.now _
    c.loop-digit-test.true refl (sym c.with_digit.ensures ∙ c.in_ok-value.was) c.loop-digit.invariant

pub returns-in_err-value : goal.returns-in_err-value
returns-in_err-value c =
    c.from_residual.ensures
    ∙ byte_of-plain c.args.digits.now _ (sym c.starts_plainly.ensures ∙ c.if-not-starts_plainly.false)
    (value_none c.loop-digit.value _ c.loop-digit.digit-index c.args.digits.now _ c.loop-digit-test.true refl
    (sym c.with_digit.ensures ∙ c.in_err-value.was) c.loop-digit.invariant)

pub returns : goal.returns
returns c =
    byte_of-plain c.args.digits.now _ (sym c.starts_plainly.ensures ∙ c.if-not-starts_plainly.false)
    (value_all c.loop-digit.value c.loop-digit.digit-index c.args.digits.now
    _ c.loop-digit-test.false c.loop-digit.invariant)
