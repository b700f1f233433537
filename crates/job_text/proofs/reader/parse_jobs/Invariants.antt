use Rattle.std.proofs.Common.{◌≡◌, length}
use Rattle.session_text.specs.Refusals.{lines_in}
use Rattle.job_text.specs.Reading.{jobs_from, jobs_in}
use Rattle.job_text.specs.Views.{jobs_reading_of}
use Rattle.job_text.proofs.reader.parse_jobs.Given as goal

abbrev pub invariant-loop-line : goal.invariant-loop-line
invariant-loop-line l = jobs_from (jobs_reading_of l.reader) l.number (lines_in l.rest) ≡ jobs_in l.text

abbrev pub decreases-loop-line : goal.decreases-loop-line
decreases-loop-line l = length l.rest
