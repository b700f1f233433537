use Rattle.std.proofs.Common.{ap}
use Rattle.job_text.proofs.Tables.{grown}
use Rattle.job_text.proofs.table.ProcTable.add.Goals as goal

pub invariant_of-self-2 : goal.invariant_of-self-2
invariant_of-self-2 c =
    grown c.self.inside.procs.items c.reserve.new.self.items c.add.new.self.items c.args.self.now c.args.proc
    c.self.inside.names.items c.learn_on.new.names.items c.self.inside.leaders c.make_room.new.self c.note.new.self
    c.from.result c.self.invariant c.self.view_is c.reserve.ensures.items (ap (λ b. b.items) c.add.ensures)
    c.requires.name c.requires.first c.from.ensures c.in_ok-learn_on.ensures.ok c.make_room.ensures.same c.note.ensures
