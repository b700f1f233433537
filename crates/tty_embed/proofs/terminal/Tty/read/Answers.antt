use Rattle.std.proofs.Common.{◌≡◌, true, List, ℕ, ◌++◌, rules, length, sym, ap, ◌∙◌, subst, arith}
use Rattle.n_tty.specs.Reading.{bytes_read}
use Rattle.tty_embed.specs.Embedded.{Embedded, is_ready_for, read_answer, place_after_read, after_reading}
use Rattle.tty_embed.specs.Inside.{embedded_of}
use Rattle.tty_embed.proofs.Reserving.{length-bytes_read, read_counted, read_placed, reading_made}
use Rattle.tty_embed.proofs.terminal.Tty.read.Goals as goal

pub put_front-requires : goal.put_front-requires
put_front-requires c =
    let n = c.min-asked.result in
    let most = length-bytes_read c.self.inside.modes n c.self.inside.disc in
    rw (c.as_slice.ensures, c.read-count.ensures.bytes, c.make_room.ensures.empty)
    (omega (arith, most, c.min-asked.ensures))

pub returns-then-not-ready-clause-count : goal.returns-then-not-ready-clause-count
returns-then-not-ready-clause-count c = search rules steps 300000

pub returns-clause-count : goal.returns-clause-count
returns-clause-count c =
    let a = c.self.inside in
    let n = length c.args.place.now in
    let ready : is_ready_for (embedded_of a) c.args.nonblock c.args.since n ≡ true =
    subst (λ (t : Embedded). is_ready_for t c.args.nonblock c.args.since n ≡ true) (sym c.self.view_is)
    (sym c.ready.ensures ∙ c.if-not-ready.false) in
    read_counted a.modes a.tick c.args.nonblock c.args.since n c.min-asked.result c.read-count.result a.disc a.wire a.tally
    ready c.min-asked.ensures c.read-count.ensures.count
    ∙ ap (λ (t : Embedded). read_answer t c.args.nonblock c.args.since n) c.self.view_is

pub returns-clause-place : goal.returns-clause-place
returns-clause-place c =
    let a = c.self.inside in
    let n = length c.args.place.now in
    let ready : is_ready_for (embedded_of a) c.args.nonblock c.args.since n ≡ true =
    subst (λ (t : Embedded). is_ready_for t c.args.nonblock c.args.since n ≡ true) (sym c.self.view_is)
    (sym c.ready.ensures ∙ c.if-not-ready.false) in
    let bytes = bytes_read a.modes c.min-asked.result a.disc in
    let front : c.as_slice.result.now ≡ bytes =
    c.as_slice.ensures
    ∙ (ap (λ b. b.items) c.read-count.ensures.bytes ∙ ap (λ (xs : List ℕ). xs ++ bytes) c.make_room.ensures.empty) in
    read_placed a.modes a.tick c.args.nonblock c.args.since c.min-asked.result a.disc a.wire a.tally c.args.place.now
    c.as_slice.result.now c.put_front.new.place ready c.min-asked.ensures front c.put_front.ensures
    ∙ ap (λ (t : Embedded). place_after_read t c.args.nonblock c.args.since c.args.place.now) c.self.view_is

pub returns-clause-after : goal.returns-clause-after
returns-clause-after c =
    let a = c.self.inside in
    let n = length c.args.place.now in
    let ready : is_ready_for (embedded_of a) c.args.nonblock c.args.since n ≡ true =
    subst (λ (t : Embedded). is_ready_for t c.args.nonblock c.args.since n ≡ true) (sym c.self.view_is)
    (sym c.ready.ensures ∙ c.if-not-ready.false) in
    reading_made a.modes a.tick c.args.nonblock c.args.since n c.min-asked.result a.disc c.read-count.new.self
    a.wire c.reserve.new.self c.ixoff.new.wire a.tally ready c.min-asked.ensures c.reserve.ensures.same
    c.read-count.ensures.left c.ixoff.ensures.after
    ∙ ap (λ (t : Embedded). after_reading t c.args.nonblock c.args.since n) c.self.view_is
