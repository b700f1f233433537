use Rattle.std.proofs.Common.{rules, ◌+◌, ◌-◌, ◌<◌, ◌≤◌, ℕ, List, length, subst, arith}
use Rattle.std.proofs.lemmas.List.{take_all}
use Rattle.vt_consoles.specs.Shared.{name_of_board}
use Rattle.vt_keyboard.specs.Keying.{CanTakeAll, PressesKeys}
use Rattle.vt_keyboard.proofs.SeatLemmas.{where_any_err}
use Rattle.vt_keyboard.proofs.Pressing.{less_all, presses_none, presses_more, presses_first, pressed_can}
use Rattle.vt_keyboard.proofs.keyboard.press_all.Goals as goal

pub loop-place-init : goal.loop-place-init
loop-place-init g c =
    let k = (name_of_board c.args.board.now).consoles in
    let n = length c.args.keys.now in
    record {
      within = omega arith;
      seat = c.requires.seat;
      can = less_all k n (n - 0) c.args.keyed.now.lines.items c.args.keyed.now.ends.items (omega arith) c.requires.can;
      so_far = presses_none k n c.args.number c.args.first c.args.seat.now c.args.keyed.now.lines.items
          c.args.keyed.now.ends.items c.requires.can;
    }

pub press-requires-clause-seat : goal.press-requires-clause-seat
press-requires-clause-seat g c = c.loop-place.invariant.seat

pub press-requires-clause-can : goal.press-requires-clause-can
press-requires-clause-can g c =
    less_all (name_of_board c.args.board.now).consoles (length c.args.keys.now - c.loop-place.place) 1
    c.loop-place.keyed.lines.items c.loop-place.keyed.ends.items (omega arith) c.loop-place.invariant.can

pub returns-in_err-press-clause-can : goal.returns-in_err-press-clause-can
returns-in_err-press-clause-can g c =
    let k = (name_of_board c.args.board.now).consoles in
    let left = length c.args.keys.now - c.loop-place.place in
    let was = less_all k left 0 c.loop-place.keyed.lines.items c.loop-place.keyed.ends.items (omega arith)
    c.loop-place.invariant.can in
    rw (c.in_err-press.ensures.lines, c.in_err-press.ensures.ends) was

pub returns-in_err-press-clause-err : goal.returns-in_err-press-clause-err
returns-in_err-press-clause-err g c =
    where_any_err c.from_residual.result _
    (presses_first c.args.number c.args.first c.loop-place.place c.args.keys.now c.args.seat.now c.loop-place.seat
    c.press.new.seat c.args.keyed.now.lines.items c.loop-place.keyed.lines.items c.press.new.keyed.lines.items
    c.args.keyed.now.ends.items c.loop-place.keyed.ends.items c.press.new.keyed.ends.items (omega arith)
    c.in_err-press.ensures.err c.in_err-press.ensures.lines c.in_err-press.ensures.ends c.loop-place.invariant.so_far)

pub loop-place-preserved : goal.loop-place-preserved
loop-place-preserved g c =
    let k = (name_of_board c.args.board.now).consoles in
    let i = c.loop-place.place in
    let left = length c.args.keys.now - (i + 1) in
    let lt : i < length c.args.keys.now = omega arith in
    let one = c.in_ok-press.ensures.ok in
    let can : CanTakeAll k (left + 1) c.loop-place.keyed.lines.items c.loop-place.keyed.ends.items =
    less_all k (length c.args.keys.now - i) (left + 1) c.loop-place.keyed.lines.items c.loop-place.keyed.ends.items
    (omega (arith, lt)) c.loop-place.invariant.can in
    record {
      within = omega (arith, lt);
      seat = c.press.ensures.seat;
      can = pressed_can _ one.console k left c.loop-place.keyed.lines.items c.press.new.keyed.lines.items
          c.loop-place.keyed.ends.items c.press.new.keyed.ends.items can one.takes;
      so_far = presses_more k left c.args.number c.args.first _ i c.args.keys.now
          _ c.args.seat.now c.loop-place.seat c.press.new.seat
          c.args.keyed.now.lines.items c.loop-place.keyed.lines.items c.press.new.keyed.lines.items
          c.args.keyed.now.ends.items c.loop-place.keyed.ends.items c.press.new.keyed.ends.items
          lt (search rules steps 100000) (omega arith) can c.loop-place.invariant.so_far one;
    }

pub returns-clause-seat : goal.returns-clause-seat
returns-clause-seat g c = c.loop-place.invariant.seat

pub returns-clause-can : goal.returns-clause-can
returns-clause-can g c =
    less_all (name_of_board c.args.board.now).consoles (length c.args.keys.now - c.loop-place.place) 0
    c.loop-place.keyed.lines.items c.loop-place.keyed.ends.items (omega arith) c.loop-place.invariant.can

pub returns-clause-ok : goal.returns-clause-ok
returns-clause-ok g c =
    let over : length c.args.keys.now ≤ c.loop-place.place = omega arith in
    subst (λ (l : List ℕ). PressesKeys c.args.number c.args.first l c.args.seat.now c.loop-place.seat
    c.args.keyed.now.lines.items c.loop-place.keyed.lines.items
    c.args.keyed.now.ends.items c.loop-place.keyed.ends.items)
    (take_all c.loop-place.place c.args.keys.now over) c.loop-place.invariant.so_far
