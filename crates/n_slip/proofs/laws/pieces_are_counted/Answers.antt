use Rattle.std.proofs.Common.{◌+◌, [], refl, arith}
use Rattle.n_slip.specs.Discipline.{fresh_slip}
use Rattle.n_slip.proofs.CountLemmas.{bad_counted, packets_counted, silent_counts_nothing}
use Rattle.n_slip.proofs.laws.pieces_are_counted.Goals as goal

pub returns-clause-bad : goal.returns-clause-bad
returns-clause-bad c events counts within =
    bad_counted [] events fresh_slip counts counts.pbad refl (omega (arith, within))

pub returns-clause-packets : goal.returns-clause-packets
returns-clause-packets c events counts room =
    packets_counted [] events fresh_slip counts (counts.pin + counts.pfull) refl (omega arith) room

pub returns-clause-silent : goal.returns-clause-silent
returns-clause-silent c slip events character counts h is = silent_counts_nothing slip events character counts h is
