use Rattle.std.proofs.Common.{◌≡◌, ◌∙◌}
use Rattle.port_cell.specs.Knowledge.{list_seen}
use Rattle.tty_port.specs.Histories.{history_of, seat_of}
use Rattle.tty_port.specs.PhaseEvents.{maker_of}
use Rattle.tty_port.specs.Shared.{name_of_port}
use Rattle.tty_port.specs.declared.kept_port.KeptPort.{KeptPort}
use Rattle.tty_port.proofs.Turning.{found_still, event_follows, event_entered}
use Rattle.tty_port.proofs.Outcomes.{on_ok}
use Rattle.tty_port.proofs.shared.SharedPort.happen.Goals as goal

pub happen-result-requires : goal.happen-result-requires
happen-result-requires g c =
    let name = name_of_port c.args.self.now in
    let n = seat_of name.callers (maker_of c.args.event) in
    let old = c.args.seat.now in
    let v : KeptPort = c.value.result.now in
    let at = found_still name n old c.begin_turn-turn.result.0.value v
    c.requires.seat.number c.value.ensures.value c.begin_turn-turn.ensures.found in
    event_follows name c.args.event old v at c.requires.can

pub returns-clause-ok : goal.returns-clause-ok
returns-clause-ok g c =
    let name = name_of_port c.args.self.now in
    let n = seat_of name.callers (maker_of c.args.event) in
    let old = c.args.seat.now in
    let v : KeptPort = c.value.result.now in
    let at = found_still name n old c.begin_turn-turn.result.0.value v
    c.requires.seat.number c.value.ensures.value c.begin_turn-turn.ensures.found in
    let w : KeptPort = c.happen-result.new.self in
    let seen : list_seen c.end_turn.new.seat ≡ history_of w = c.end_turn.ensures.list in
    let now = c.end_turn.ensures.same.number ∙ c.begin_turn-turn.ensures.same.number in
    on_ok c.happen-result.result _ _
    (event_entered name c.args.event old c.end_turn.new.seat v w at c.requires.seat.number now seen c.requires.can)
    c.happen-result.ensures.ok
