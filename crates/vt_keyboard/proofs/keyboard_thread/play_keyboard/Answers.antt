use Rattle.std.proofs.Common.{◌≡◌, ℕ, List, Some, length, sym, subst, ◌∙◌}
use Rattle.std.specs.Prelude.{OnErr, OnOk, Option, slice_get}
use Rattle.std.specs.Vec.{with_items}
use Rattle.std.proofs.lemmas.List.{with_items_is}
use Rattle.tty_base.specs.declared.characters.Flagged.{Flagged}
use Rattle.word_ring.specs.Ends.{PutterState}
use Rattle.tty_port.proofs.Outcomes.{on_ok}
use Rattle.vt_consoles.specs.Shared.{name_of_board}
use Rattle.vt_keyboard.specs.declared.console_ends.KeySeats.{KeySeats}
use Rattle.vt_keyboard.specs.Keying.{PressesKeys}
use Rattle.vt_keyboard.specs.Consoles.{EndsAt, PairsAll, PlaysKeyboard, PlaysFirst}
use Rattle.vt_keyboard.proofs.Keyboards.{begun_can, can_end_all, plays_keyboard, plays_first, some_keys}
use Rattle.vt_keyboard.proofs.keyboard_thread.play_keyboard.Goals as goal

pub begin_all-requires-clause-each : goal.begin_all-requires-clause-each
begin_all-requires-clause-each g c = c.requires.can.ends_of ∙ sym c.requires.can.lines_of

pub begin_all-requires-clause-can : goal.begin_all-requires-clause-can
begin_all-requires-clause-can g c = c.requires.can.begins

pub press_all-pressed-requires-clause-can : goal.press_all-pressed-requires-clause-can
press_all-pressed-requires-clause-can g c =
    let old = c.args.keyboard.now in
    let begun = c.begin_all.new.keyed in
    begun_can (name_of_board c.args.board.now).consoles (length c.args.work.keys.now) c.args.ports.now old.seats.items
    old.keyed.lines.items begun.lines.items old.keyed.ends.items begun.ends.items c.requires.can c.begin_all.ensures

pub end_all-requires-clause-each : goal.end_all-requires-clause-each
end_all-requires-clause-each g c =
    c.press_all-pressed.ensures.can.ends_of ∙ sym c.press_all-pressed.ensures.can.lines_of

pub end_all-requires-clause-can : goal.end_all-requires-clause-can
end_all-requires-clause-can g c = λ p l e at_l at_e. c.press_all-pressed.ensures.can.each p l e at_l at_e

pub end_consoles-requires-clause-ports : goal.end_consoles-requires-clause-ports
end_consoles-requires-clause-ports g c =
    let can = c.requires.can in
    subst (λ (xs : List (Option KeySeats)). length c.args.ports.now ≡ length xs) (sym c.as_mut_slice.ensures.value)
    (can.ports_of ∙ sym can.seats_of)

pub end_consoles-requires-clause-ends : goal.end_consoles-requires-clause-ends
end_consoles-requires-clause-ends g c =
    let can = c.requires.can in
    subst (λ (xs : List (Option KeySeats)). length c.as_mut_slice-2.result.now ≡ length xs)
    (sym c.as_mut_slice.ensures.value)
    (subst (λ (es : List (PutterState Flagged)). length es ≡ length c.args.keyboard.now.seats.items)
    (sym c.as_mut_slice-2.ensures.value)
    (c.end_all.ensures.ends_of ∙ (c.press_all-pressed.ensures.can.ends_of ∙ sym can.seats_of)))

pub end_consoles-requires-clause-can : goal.end_consoles-requires-clause-can
end_consoles-requires-clause-can g c p port s e at_port at_s at_e =
    let old = c.args.keyboard.now in
    let begun = c.begin_all.new.keyed in
    let pressed = c.press_all-pressed.new.keyed in
    let ended = c.end_all.new.keyed in
    let can = c.requires.can in
    let took = c.press_all-pressed.ensures.can in
    let some = some_keys c.press_all-pressed.result c.args.work.number c.args.work.first c.args.work.keys.now
    c.args.seat.now c.press_all-pressed.new.seat begun.lines.items
    pressed.lines.items begun.ends.items pressed.ends.items
    c.press_all-pressed.ensures.ok c.press_all-pressed.ensures.err in
    can_end_all (name_of_board c.args.board.now).consoles c.args.work.number c.args.work.first
    some.0 c.args.seat.now c.press_all-pressed.new.seat
    old.keyed.lines.items begun.lines.items pressed.lines.items ended.lines.items old.keyed.ends.items
    begun.ends.items pressed.ends.items ended.ends.items
    (took.lines_of ∙ sym can.lines_of) (took.ends_of ∙ sym can.ends_of) c.begin_all.ensures some.1 c.end_all.ensures
    c.args.ports.now old.seats.items (length c.args.work.keys.now) can p port s e at_port
    (subst (λ (xs : List (Option KeySeats)). slice_get xs p ≡ Some s) c.as_mut_slice.ensures.value at_s)
    (subst (λ (es : List (PutterState Flagged)). slice_get es p ≡ Some e) c.as_mut_slice-2.ensures.value at_e)

pub returns-clause-seat : goal.returns-clause-seat
returns-clause-seat g c = c.press_all-pressed.ensures.seat

pub returns-clause-ok : goal.returns-clause-ok
returns-clause-ok g c =
    let old = c.args.keyboard.now in
    let begun = c.begin_all.new.keyed in
    let pressed = c.press_all-pressed.new.keyed in
    let ended = c.end_all.new.keyed in
    let can = c.requires.can in
    let took = c.press_all-pressed.ensures.can in
    let work = c.args.work in
    let seat = c.press_all-pressed.new.seat in
    let over : PairsAll (EndsAt c.args.ports.now) old.seats.items c.end_consoles.new.seats
    ended.ends.items c.end_consoles.new.ends =
    subst (λ (xs : List (Option KeySeats)).
    PairsAll (EndsAt c.args.ports.now) xs c.end_consoles.new.seats ended.ends.items c.end_consoles.new.ends)
    c.as_mut_slice.ensures.value
    (subst (λ (es : List (PutterState Flagged)).
    PairsAll (EndsAt c.args.ports.now) c.as_mut_slice.result.now c.end_consoles.new.seats es c.end_consoles.new.ends)
    c.as_mut_slice-2.ensures.value c.end_consoles.ensures) in
    let seated : (with_items old.seats c.end_consoles.new.seats).items ≡ c.end_consoles.new.seats =
    with_items_is old.seats c.end_consoles.new.seats (c.end_consoles.auto.seats ∙ c.as_mut_slice.ensures.len) in
    let now : (with_items ended.ends c.end_consoles.new.ends).items ≡ c.end_consoles.new.ends =
    with_items_is ended.ends c.end_consoles.new.ends (c.end_consoles.auto.ends ∙ c.as_mut_slice-2.ensures.len) in
    subst (λ (xs : List (Option KeySeats)). OnOk c.press_all-pressed.result
    (PlaysKeyboard work.number work.first work.keys.now c.args.seat.now seat c.args.ports.now old.seats.items xs
    old.keyed.lines.items ended.lines.items old.keyed.ends.items (with_items ended.ends c.end_consoles.new.ends).items))
    (sym seated)
    (subst (λ (es : List (PutterState Flagged)). OnOk c.press_all-pressed.result
    (PlaysKeyboard work.number work.first work.keys.now c.args.seat.now seat c.args.ports.now old.seats.items
    c.end_consoles.new.seats old.keyed.lines.items ended.lines.items old.keyed.ends.items es))
    (sym now)
    (on_ok c.press_all-pressed.result _ _ (λ (one : PressesKeys work.number work.first work.keys.now c.args.seat.now
    seat begun.lines.items pressed.lines.items begun.ends.items pressed.ends.items).
    plays_keyboard (name_of_board c.args.board.now).consoles work.number work.first work.keys.now c.args.seat.now seat
    old.keyed.lines.items begun.lines.items pressed.lines.items ended.lines.items old.keyed.ends.items
    begun.ends.items pressed.ends.items ended.ends.items
    (took.lines_of ∙ sym can.lines_of) (took.ends_of ∙ sym can.ends_of) c.begin_all.ensures one c.end_all.ensures
    c.args.ports.now old.seats.items c.end_consoles.new.seats c.end_consoles.new.ends (length work.keys.now) can over)
    c.press_all-pressed.ensures.ok))

pub returns-clause-err : goal.returns-clause-err
returns-clause-err g c =
    let old = c.args.keyboard.now in
    let begun = c.begin_all.new.keyed in
    let pressed = c.press_all-pressed.new.keyed in
    let ended = c.end_all.new.keyed in
    let can = c.requires.can in
    let took = c.press_all-pressed.ensures.can in
    let work = c.args.work in
    let seat = c.press_all-pressed.new.seat in
    let over : PairsAll (EndsAt c.args.ports.now) old.seats.items c.end_consoles.new.seats
    ended.ends.items c.end_consoles.new.ends =
    subst (λ (xs : List (Option KeySeats)).
    PairsAll (EndsAt c.args.ports.now) xs c.end_consoles.new.seats ended.ends.items c.end_consoles.new.ends)
    c.as_mut_slice.ensures.value
    (subst (λ (es : List (PutterState Flagged)).
    PairsAll (EndsAt c.args.ports.now) c.as_mut_slice.result.now c.end_consoles.new.seats es c.end_consoles.new.ends)
    c.as_mut_slice-2.ensures.value c.end_consoles.ensures) in
    let seated : (with_items old.seats c.end_consoles.new.seats).items ≡ c.end_consoles.new.seats =
    with_items_is old.seats c.end_consoles.new.seats (c.end_consoles.auto.seats ∙ c.as_mut_slice.ensures.len) in
    let now : (with_items ended.ends c.end_consoles.new.ends).items ≡ c.end_consoles.new.ends =
    with_items_is ended.ends c.end_consoles.new.ends (c.end_consoles.auto.ends ∙ c.as_mut_slice-2.ensures.len) in
    subst (λ (xs : List (Option KeySeats)). OnErr c.press_all-pressed.result
    (PlaysFirst work.number work.first work.keys.now c.args.seat.now seat c.args.ports.now old.seats.items xs
    old.keyed.lines.items ended.lines.items old.keyed.ends.items (with_items ended.ends c.end_consoles.new.ends).items))
    (sym seated)
    (subst (λ (es : List (PutterState Flagged)). OnErr c.press_all-pressed.result
    (PlaysFirst work.number work.first work.keys.now c.args.seat.now seat c.args.ports.now old.seats.items
    c.end_consoles.new.seats old.keyed.lines.items ended.lines.items old.keyed.ends.items es))
    (sym now)
    (plays_first c.press_all-pressed.result
    (λ (ks : List ℕ). PressesKeys work.number work.first ks c.args.seat.now seat begun.lines.items
    pressed.lines.items begun.ends.items pressed.ends.items)
    (λ (ks : List ℕ). PlaysKeyboard work.number work.first ks c.args.seat.now seat c.args.ports.now old.seats.items
    c.end_consoles.new.seats old.keyed.lines.items ended.lines.items old.keyed.ends.items c.end_consoles.new.ends)
    work.keys.now
    (λ ks one. plays_keyboard (name_of_board c.args.board.now).consoles work.number work.first ks c.args.seat.now seat
    old.keyed.lines.items begun.lines.items pressed.lines.items ended.lines.items old.keyed.ends.items
    begun.ends.items pressed.ends.items ended.ends.items
    (took.lines_of ∙ sym can.lines_of) (took.ends_of ∙ sym can.ends_of) c.begin_all.ensures one c.end_all.ensures
    c.args.ports.now old.seats.items c.end_consoles.new.seats c.end_consoles.new.ends (length work.keys.now) can over)
    c.press_all-pressed.ensures.err))
