use Rattle.std.proofs.Common.{sym, ap, ◌∙◌, length}
use Rattle.port_core.specs.Ports.{call_in}
use Rattle.tty_port.proofs.Histories.{history_length, is_history}
use Rattle.tty_port.proofs.kept_port.KeptPort.entry_count.Goals as goal

pub returns-clause-count : goal.returns-clause-count
returns-clause-count c =
    let v = c.deref-port.result.now in
    rw (← c.deref-port.ensures)
    (c.len.ensures ∙ ap length c.journal.ensures.entries
    ∙ sym (history_length c.args.self.now.callers (call_in v.kept) v.journal v.terminal.generation))

pub returns-clause-history : goal.returns-clause-history
returns-clause-history c =
    is_history c.args.self.now.callers c.args.self.now.port.value (rw (← c.deref-port.ensures) c.journal.ensures.port)
