use Rattle.std.proofs.Common.{◌∙◌, refl}
use Rattle.many_threads.proofs.Onward.{at_ok}
use Rattle.vt_play.specs.declared.board_threads.BoardHand.{BoardHand}
use Rattle.vt_play.specs.Stages.{ThreadsCome}
use Rattle.vt_play.specs.Phases.{PhaseLeaves}
use Rattle.vt_play.proofs.Leaves.{phase_leaves}
use Rattle.vt_play.proofs.Staging.{can_board, can_owns}
use Rattle.vt_play.proofs.Threads.{hand_number, leaves_ok, stage_at}
use Rattle.vt_play.proofs.on_threads.play_shared.Goals as goal

pub play_threads-back-requires-clause-owns : goal.play_threads-back-requires-clause-owns
play_threads-back-requires-clause-owns g c κs within p own at =
    let of = c.args.of in
    let board = c.args.shared.now in
    let parts = c.args.parts in
    let stage = c.stage_of-stage.result in
    let at_stage = stage_at of board c.as_slice.result.now parts.ports.items c.as_slice-2.result.now
    parts.castings.items stage c.as_slice.ensures.value c.as_slice-2.ensures.value c.stage_of-stage.ensures in
    can_owns of board c.args.seats.items c.requires.0 parts c.requires.1 stage at_stage p own at

pub play_threads-back-requires-clause-board : goal.play_threads-back-requires-clause-board
play_threads-back-requires-clause-board g c κs within =
    let of = c.args.of in
    let board = c.args.shared.now in
    let parts = c.args.parts in
    let stage = c.stage_of-stage.result in
    let at_stage = stage_at of board c.as_slice.result.now parts.ports.items c.as_slice-2.result.now
    parts.castings.items stage c.as_slice.ensures.value c.as_slice-2.ensures.value c.stage_of-stage.ensures in
    can_board of board c.args.seats.items c.requires.0 parts c.requires.1 stage at_stage
    c.take_last-seat.new.items.items c.take_last-seat.result _ c.take_last-seat.ensures refl refl

pub returns : goal.returns
returns g c =
    let of = c.args.of in
    let board = c.args.shared.now in
    let parts = c.args.parts in
    let seats = c.args.seats.items in
    let staged = c.requires.1 in
    let stage = c.stage_of-stage.result in
    let others = c.take_last-seat.new.items in
    let seat = c.take_last-seat.result in
    let split = c.take_last-seat.ensures in
    let hand : BoardHand =
    record { seats = others; keys = record { seat = seat; keyboard = parts.keyboard } } in
    let at_stage = stage_at of board c.as_slice.result.now parts.ports.items c.as_slice-2.result.now
    parts.castings.items stage c.as_slice.ensures.value c.as_slice-2.ensures.value c.stage_of-stage.ensures in
    let can = can_board of board seats c.requires.0 parts staged stage at_stage others.items seat hand split refl refl
    in
    let back = c.in_ok-ports.back in
    let kept = c.in_ok-ports.ensures.kept in
    leaves_ok c.take_together.result _ _ _ (PhaseLeaves of board parts) c.take_together.ensures.seats
    c.take_together.ensures.made c.take_together.ensures.all
    (λ left seats_are made_is all_is.
    phase_leaves of board parts stage at_stage staged.seats_are hand
    (hand_number of board seats c.requires.0 parts staged parts.ports.items parts.castings.items stage at_stage
    others.items seat split)
    can.keys.fresh refl back
    (at_ok c.play_threads-back.result back (ThreadsCome stage parts.owns.items hand) c.in_ok-ports.ensures.made
    c.play_threads-back.ensures)
    left seats_are made_is
    (all_is ∙ (λ i. record {
      ports = kept i;
      keyboard = back.board.keys.hand.keyboard;
      owns = back.owns;
      castings = parts.castings;
      kept = parts.kept;
    })))
