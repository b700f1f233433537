use Rattle.tty_embed.proofs.Reserving.{piece_counted, writing_made}
use Rattle.tty_embed.proofs.terminal.Tty.write.Goals as goal

pub returns-clause-count : goal.returns-clause-count
returns-clause-count c =
    let a = c.self.inside in
    rw (← c.self.view_is)
    (piece_counted a.modes a.disc a.wire c.reserve.new.self c.args.bytes.now c.write_piece-count.result
    c.reserve.ensures.same c.write_piece-count.ensures.count)

pub returns-clause-after : goal.returns-clause-after
returns-clause-after c =
    let a = c.self.inside in
    rw (← c.self.view_is)
    (writing_made a.modes a.tick c.args.bytes.now a.disc a.wire c.reserve.new.self a.tally c.write_piece-count.new.self
    c.wrap_column.new.self c.write_piece-count.new.wire
    c.reserve.ensures.same c.write_piece-count.ensures.after c.write_piece-count.ensures.wire c.wrap_column.ensures)
