use Rattle.std.proofs.Common.{refl}
use Rattle.std.specs.Fmt.{digits}
use Rattle.hex.specs.Hex.{encode_with}
use Rattle.further_report.proofs.laws.worked_job_reports_are_told.Goals as goal

pub returns : goal.returns
unfolding digits encode_with
returns c = record { foreground = refl; shell_ends = refl }
