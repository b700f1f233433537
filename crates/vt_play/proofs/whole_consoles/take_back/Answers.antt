use Rattle.vt_play.proofs.Columns.{taken_back}
use Rattle.vt_play.proofs.whole_consoles.take_back.Goals as goal

pub returns : goal.returns
returns c bs b h = taken_back bs b c.args.all.now _ c.take_last-port.result c.take_last-seats.result
    c.take_last-own.result c.take_last-line.result c.take_last-end.result c.take_last-casting.result
    _ h c.take_last-port.ensures c.take_last-seats.ensures c.take_last-own.ensures c.take_last-line.ensures
    c.take_last-end.ensures c.take_last-casting.ensures c.take_last-steps.ensures
