use Rattle.std.proofs.Common.{sym, ap, ◌∙◌}
use Rattle.port_core.specs.Ports.{PortValue}
use Rattle.tty_port.proofs.Histories.{port_generation}
use Rattle.tty_port.proofs.kept_port.KeptPortKept.generation.Goals as goal

pub returns : goal.returns
returns c =
    c.generation.ensures.value ∙ ap (λ (v : PortValue). v.terminal.generation) c.deref-2.ensures
    ∙ sym (port_generation c.args.self.now.callers c.args.self.now.port.value
    (rw (← c.deref.ensures) c.known.ensures.port))
