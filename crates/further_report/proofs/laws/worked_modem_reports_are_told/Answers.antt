use Rattle.std.proofs.Common.{refl}
use Rattle.std.specs.Fmt.{digits}
use Rattle.further_report.proofs.laws.worked_modem_reports_are_told.Goals as goal

pub returns : goal.returns
unfolding digits
returns c = record { dial_in = refl; local_line = refl; no_carrier = refl }
