use Rattle.std.proofs.Common.{◌≡◌, sym, subst}
use Rattle.port_cell.specs.Knowledge.{number_of}
use Rattle.tty_port.specs.Shared.{IsFound, name_of_port}
use Rattle.tty_port.specs.declared.kept_port.KeptPort.{KeptPort}
use Rattle.tty_port.proofs.Turning.{found}
use Rattle.tty_port.proofs.shared.SharedPort.begin_turn.Goals as goal

pub returns-clause-found : goal.returns-clause-found
returns-clause-found g c =
    let name = name_of_port c.args.self.now in
    let old = c.args.seat.now in
    let v : KeptPort = c.turn-turn.result.value in
    let same : c.value.result.now ≡ v = c.value.ensures.value in
    subst (IsFound name (number_of old) old) (sym same)
    (found name (number_of old) old v c.value.result.now c.requires.named c.turn-turn.ensures.name
    c.turn-turn.ensures.list same c.entry_count-count.ensures.history)
