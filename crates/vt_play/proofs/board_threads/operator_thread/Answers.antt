use Rattle.vt_play.proofs.BoardPlays.{operator_comes}
use Rattle.vt_play.proofs.board_threads.operator_thread.Goals as goal

pub operate-result-requires : goal.operate-result-requires
operate-result-requires g c = c.requires.here

pub returns : goal.returns
returns g c =
    operator_comes c.args.board.now c.args.names.now c.args.phase.now c.args.number c.as_slice-operators.result.now
    c.args.seat c.operate-result.new.seat c.operate-result.result c.as_slice-operators.ensures c.requires
    c.operate-result.ensures.seat c.operate-result.ensures.ok
    c.operate-result.ensures.err c.operate-result.ensures.denied
