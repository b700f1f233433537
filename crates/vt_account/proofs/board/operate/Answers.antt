use Rattle.std.proofs.lemmas.Result.{err_from_is_err_and}
use Rattle.vt_text.specs.Sessions.{operator_of, operators_of}
use Rattle.vt_account.proofs.Playing.{next_mapped, operated_more, operated_lacks}
use Rattle.vt_account.proofs.board.operate.Goals as goal

pub loop-operator-preserved : goal.loop-operator-preserved
loop-operator-preserved c =
    let operators = c.args.operators.now in
    let i = c.loop-operator.operator-index in
    operated_more c.args.names.now i (operators_of operators) (operator_of c.operator-item.result)
    c.args.board.now c.loop-operator.board c.call_by.new.board
    (next_mapped operator_of operators i c.operator-item.result c.loop-operator-test.true c.operator-item.is)
    c.loop-operator.invariant c.in_ok-call_by.ensures.added

pub returns-in_err-call_by-clause-denied : goal.returns-in_err-call_by-clause-denied
returns-in_err-call_by-clause-denied c =
    let operators = c.args.operators.now in
    let i = c.loop-operator.operator-index in
    let p = err_from_is_err_and c.from_residual.result c.from_residual.ensures.1 in
    rw (p.1, p.2)
    (operated_lacks c.args.names.now i (operators_of operators) (operator_of c.operator-item.result) c.args.board.now
    c.loop-operator.board c.in_err-call_by.field-0.0
    (next_mapped operator_of operators i c.operator-item.result c.loop-operator-test.true c.operator-item.is)
    c.loop-operator.invariant c.in_err-call_by.ensures.denied)
