use Rattle.std.proofs.Common.{◌≡◌, ◌∙◌, List, map, ap}
use Rattle.tty_base.specs.declared.characters.Flagged.{Flagged}
use Rattle.n_tty.specs.States.{OnPort, on_port}
use Rattle.tty_embed.specs.Embedded.{good, after_accepted, accepted_count}
use Rattle.tty_embed.proofs.Accepting.{all_received, all_counted}
use Rattle.tty_embed.proofs.pieces.receive_bytes.Goals as goal

pub returns-clause-after : goal.returns-clause-after
returns-clause-after c =
    let modes = c.args.modes.now in
    let now = c.args.now in
    let made = c.receive_all.ensures in
    let left : OnPort = on_port c.receive_all.new.self c.receive_all.new.wire c.receive_all.new.tally in
    let port : OnPort = on_port c.args.disc.now c.args.wire.now c.args.tally.now in
    let front = c.front_of.result.now in
    let are : front ≡ map good c.args.bytes.now = c.front_of.ensures ∙ c.put_good.ensures.good in
    all_received modes now c.receive_all.result front port left made.within made.after made.accepted made.stops
    ∙ ap (λ (cs : List Flagged). after_accepted modes now cs port) are

pub returns-clause-count : goal.returns-clause-count
returns-clause-count c =
    let modes = c.args.modes.now in
    let now = c.args.now in
    let made = c.receive_all.ensures in
    let left : OnPort = on_port c.receive_all.new.self c.receive_all.new.wire c.receive_all.new.tally in
    let port : OnPort = on_port c.args.disc.now c.args.wire.now c.args.tally.now in
    let front = c.front_of.result.now in
    let are : front ≡ map good c.args.bytes.now = c.front_of.ensures ∙ c.put_good.ensures.good in
    all_counted modes now c.receive_all.result front port left made.within made.after made.accepted made.stops
    ∙ ap (λ (cs : List Flagged). accepted_count modes now cs port) are
