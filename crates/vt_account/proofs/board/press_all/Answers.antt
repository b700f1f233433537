use Rattle.vt_account.proofs.Playing.{pressed_first, pressed_more, pressed_all}
use Rattle.vt_account.proofs.board.press_all.Goals as goal

pub loop-place-init : goal.loop-place-init
loop-place-init c = pressed_first c.args.seat c.args.first c.args.count c.args.board.now

pub loop-place-preserved : goal.loop-place-preserved
loop-place-preserved c =
    pressed_more c.args.seat c.args.first c.args.count c.loop-place.place c.in_ok-press.field-0
    c.args.board.now c.loop-place.board c.press.new.self
    c.loop-place-test.true c.loop-place.invariant c.in_ok-press.ensures.ok

pub returns-clause-added : goal.returns-clause-added
returns-clause-added c =
    pressed_all c.args.seat c.args.first c.args.count c.loop-place.place c.args.board.now c.loop-place.board
    c.loop-place-test.false c.loop-place.invariant
