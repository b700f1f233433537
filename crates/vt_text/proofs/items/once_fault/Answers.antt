use Rattle.std.proofs.Common.{◌∙◌}
use Rattle.vt_text.proofs.Operators.{once_stood, once_room}
use Rattle.vt_text.proofs.items.once_fault.Goals as goal

pub returns-then-has_name : goal.returns-then-has_name
returns-then-has_name c =
    once_stood c.args.operators.now c.args.name.now c.has_name.result c.has_name.ensures c.if-has_name.true

pub returns : goal.returns
returns c =
    c.wrong_unless.ensures
    ∙ once_room c.args.operators.now c.args.name.now c.has_name.result c.has_name.ensures c.if-has_name.false
