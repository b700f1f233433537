use Rattle.std.proofs.Common.{ap, map, ◌∙◌}
use Rattle.tty_embed.specs.Embedded.{Embedded, good, after_receiving, received_count}
use Rattle.tty_embed.proofs.Reserving.{reserved, offered_in, receiving_counted, receiving_made}
use Rattle.tty_embed.proofs.terminal.Tty.receive_bytes.Goals as goal

pub returns-clause-count : goal.returns-clause-count
returns-clause-count c =
    let a = c.self.inside in
    let bytes = c.args.bytes.now in
    let front = c.front_of-bytes.result.now in
    let room = reserved a.disc a.wire c.reserve.new.self a.tally c.reserve-2.new.self c.reserve.ensures.same
    c.reserve-2.ensures.counts c.reserve-2.ensures.signals in
    receiving_counted a.modes a.tick bytes (map good front) a.disc a.wire c.reserve.new.self
    a.tally c.reserve-2.new.self c.receive_bytes-count.result
    (offered_in bytes front c.min.result c.min.ensures c.front_of-bytes.ensures)
    room c.receive_bytes-count.ensures.count
    ∙ ap (λ (t : Embedded). received_count t bytes) c.self.view_is

pub returns-clause-after : goal.returns-clause-after
returns-clause-after c =
    let a = c.self.inside in
    let bytes = c.args.bytes.now in
    let front = c.front_of-bytes.result.now in
    let left = c.receive_bytes-count.new in
    let room = reserved a.disc a.wire c.reserve.new.self a.tally c.reserve-2.new.self c.reserve.ensures.same
    c.reserve-2.ensures.counts c.reserve-2.ensures.signals in
    receiving_made a.modes a.tick bytes (map good front) a.disc a.wire c.reserve.new.self a.tally c.reserve-2.new.self
    left.disc c.wrap_column.new.self left.wire left.tally
    (offered_in bytes front c.min.result c.min.ensures c.front_of-bytes.ensures) room
    c.receive_bytes-count.ensures.after c.wrap_column.ensures
    ∙ ap (λ (t : Embedded). after_receiving t bytes) c.self.view_is
