use Rattle.std.proofs.Common.{length, sym, ap, ◌∙◌}
use Rattle.n_slip.proofs.Packets.{length-packets_of}
use Rattle.n_slip.proofs.queue.Queue.len.Goals as goal

pub returns-clause-len : goal.returns-clause-len
returns-clause-len c =
    c.len.ensures
    ∙ c.self.inside.lengths.ok.0
    ∙ sym (length-packets_of c.self.inside.lengths.items c.self.inside.bytes)
    ∙ ap length c.self.view_is
