use Rattle.std.proofs.Common.{refl}
use Rattle.journal_check.proofs.Tried.{all_or_not}
use Rattle.journal_check.proofs.steps.receive_all.Goals as goal

pub returns-clause-tries : goal.returns-clause-tries
returns-clause-tries c =
    let all = c.receive_all.ensures in
    all_or_not c.args.terminal.now.terminal c.receive_all.new.self.terminal c.args.chars.now c.receive_all.result
    _ refl all.within all.received all.accepted all.stops
