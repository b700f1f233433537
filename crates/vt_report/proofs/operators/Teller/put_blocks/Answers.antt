use Rattle.std.proofs.Common.{◌+◌, List, drop, map, string_bytes, subst}
use Rattle.vt_text.specs.Sessions.{PlainOperator, operator_of, operators_of}
use Rattle.vt_report.specs.Printing.{HasBlocks}
use Rattle.vt_report.proofs.Pieces.{block_more, operators_next}
use Rattle.vt_report.proofs.operators.Teller.put_blocks.Goals as goal

pub loop-operator-preserved : goal.loop-operator-preserved
loop-operator-preserved c =
    let t = c.args.self.now in
    let states = map (λ told. told.items) t.states.items in
    let operators = c.args.operators.now in
    let i = c.loop-operator.operator-index in
    let x = c.operator-item.result in
    block_more t.names t.consoles states (string_bytes c.args.text.now) c.args.cursors.now.items
    (operators_of operators) (string_bytes c.loop-operator.text) (string_bytes c.put_block.new.text)
    c.loop-operator.cursors.items c.put_block.new.cursors.items (operator_of x) (operators_of (drop (i + 1) operators))
    c.in_ok-put_block.ensures.text c.in_ok-put_block.ensures.cursors c.in_ok-put_block.ensures.each
    (subst (λ (left : List PlainOperator). HasBlocks t.names t.consoles states (string_bytes c.args.text.now)
    c.args.cursors.now.items (operators_of operators) (string_bytes c.loop-operator.text)
    c.loop-operator.cursors.items left)
    (operators_next operators i x c.loop-operator-test.true c.operator-item.is) c.loop-operator.invariant)
