use Rattle.std.proofs.Common.{sym, ap, ◌∙◌, length}
use Rattle.port_core.specs.Ports.{call_in}
use Rattle.tty_port.proofs.Histories.{history_length}
use Rattle.tty_port.proofs.kept_port.KeptPortKept.count.Goals as goal

pub returns : goal.returns
returns c =
    let v = c.deref.result.now in
    rw (← c.deref.ensures)
    (c.len.ensures ∙ ap length c.journal.ensures.entries
    ∙ sym (history_length c.args.self.now.callers (call_in v.kept) v.journal v.terminal.generation))
