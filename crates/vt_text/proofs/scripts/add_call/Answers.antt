use Rattle.vt_text.proofs.Operators.{op_pushed}
use Rattle.vt_text.proofs.scripts.add_call.Goals as goal

pub returns-in_ok-add_to : goal.returns-in_ok-add_to
returns-in_ok-add_to c =
    op_pushed c.args.call c.args.operators.now c.index-operators-count.result c.add_to.new.script
    c.if-count-gt0.true c.in_ok-add_to.ensures
