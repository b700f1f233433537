use Rattle.std.proofs.Common.{string_bytes, ◌∙◌, arith, refl}
use Rattle.tty_calls.specs.Plain.{call_of, answer_lent}
use Rattle.session_print.proofs.Tens.{line_told}
use Rattle.session_print.proofs.calls.Head.put_call.Goals as goal

pub returns : goal.returns
returns c =
    line_told c.put_call.result (string_bytes c.args.text.now) (string_bytes c.put_call.new.text)
    (string_bytes c.args.self.now.front) c.as_str.result.now c.args.step _ (call_of c.args.call.now)
    (answer_lent c.args.answer.now)
    (omega (arith, c.ranges.step.fits)) refl (c.as_str.ensures.value ∙ c.requires) c.put_call.ensures
