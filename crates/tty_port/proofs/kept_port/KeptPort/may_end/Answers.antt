use Rattle.std.proofs.Common.{sym, ap, ◌∙◌}
use Rattle.tty_terminal.specs.Terminals.{Terminal}
use Rattle.tty_terminal.specs.Steps.{may_end}
use Rattle.tty_port.proofs.Histories.{port_terminal}
use Rattle.tty_port.proofs.kept_port.KeptPort.may_end.Goals as goal

pub returns : goal.returns
returns c =
    let v = c.deref-port.result.now in
    rw (← c.deref-port.ensures)
    (c.may_end.ensures
    ∙ ap (λ (t : Terminal). may_end v.counts t)
    (sym (port_terminal c.args.self.now.callers v c.known.ensures.port)))
