use Rattle.job_one.proofs.Along.{line_sends, line_stops}
use Rattle.job_one.proofs.line.play_line.Goals as goal

pub returns-clause-sends : goal.returns-clause-sends
returns-clause-sends c =
    let w = c.play_line.new in
    line_sends c.args.port.now w.port c.args.putter.now c.args.desk.now w.follower c.play_line.result
    c.play_line.ensures.follows

pub returns-clause-stops : goal.returns-clause-stops
returns-clause-stops c =
    let w = c.play_line.new in
    line_stops c.args.port.now w.port c.args.putter.now c.args.desk.now w.follower c.play_line.result
    c.play_line.ensures.follows
