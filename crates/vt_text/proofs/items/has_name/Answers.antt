use Rattle.std.proofs.Common.{sym, ◌∙◌}
use Rattle.vt_text.proofs.Operators.{named_among}
use Rattle.vt_text.proofs.items.has_name.Goals as goal

pub returns : goal.returns
returns c = c.is_name_among.ensures ∙ sym (named_among c.args.operators.now c.args.name.now)
