use Rattle.tty_one.specs.Reported.{IsInAnyOrder, IsOrdered}
use Rattle.tty_one.proofs.Printed.{reported_back, gave_journals}
use Rattle.tty_one.proofs.laws.printed_journals_are_legal.Goals as goal

pub returns : goal.returns
returns c =
    record { in_any_order = reported_back IsInAnyOrder; in_one_order = reported_back IsOrdered; given = gave_journals }
