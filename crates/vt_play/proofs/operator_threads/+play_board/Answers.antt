use Rattle.std.proofs.Common.{rules, ◌≡◌, refl, sym, subst, length, ℕ}
use Rattle.vt_text.specs.Sessions.{vt_phase_of}
use Rattle.vt_play.specs.declared.board_threads.BoardHand.{BoardHand}
use Rattle.vt_play.specs.Stages.{BoardComes, IsFresh, OperatorComes}
use Rattle.vt_play.proofs.BoardPlays.{board_ok, can_fewer, can_first}
use Rattle.vt_play.proofs.operator_threads.+play_board.Goals as goal

pub start_operator-requires-after_bounds : goal.start_operator-requires-after_bounds
start_operator-requires-after_bounds g t c κs within =
    let seats = c.pop.new.self in
    let fewer : BoardHand = record { seats = seats; keys = c.args.hand.keys } in
    let is : c.len-number.result ≡ length seats.items = first_of (search rules, cc) in
    subst (λ (n : ℕ). IsFresh c.args.stage.board.now n c.in-Some.seat) (sym is)
    (can_first c.args.stage c.args.hand fewer seats.items c.in-Some.seat c.in-Some.ensures.items refl refl c.requires)

pub play_board-others-requires-after_bounds : goal.play_board-others-requires-after_bounds
play_board-others-requires-after_bounds g t c κs within =
    let seats = c.pop.new.self in
    let fewer : BoardHand = record { seats = seats; keys = c.args.hand.keys } in
    can_fewer c.args.stage c.args.hand fewer seats.items c.in-Some.seat c.in-Some.ensures.items refl refl c.requires

pub returns : goal.returns
returns g t c =
    let seats = c.pop.new.self in
    let fewer : BoardHand = record { seats = seats; keys = c.args.hand.keys } in
    let stage = c.args.stage in
    let back = c.in_ok-others.field-0 in
    let one = c.in_ok-one.one in
    let comes : BoardComes stage fewer back = first_of (search rules, cc) in
    let is : c.len-number.result ≡ length seats.items = first_of (search rules, cc) in
    let operated : OperatorComes stage.board.now stage.names.now (vt_phase_of stage.phase.now) c.len-number.result one =
    first_of (search rules, cc) in
    board_ok stage c.args.hand fewer seats.items c.in-Some.seat c.in-Some.ensures.items refl refl
    c.with_operator.result back one c.requires.count comes
    (subst (λ (n : ℕ). OperatorComes stage.board.now stage.names.now (vt_phase_of stage.phase.now) n one) is operated)
    c.with_operator.ensures
