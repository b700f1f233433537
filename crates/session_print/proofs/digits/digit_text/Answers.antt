use Rattle.std.proofs.Common.{sym, ◌∙◌}
use Rattle.std.proofs.lemmas.Fmt.{decimal_digit}
use Rattle.session_print.proofs.digits.digit_text.Goals as goal

pub returns : goal.returns
returns c = c.sign_of.ensures ∙ sym (decimal_digit c.args.digit c.requires)
