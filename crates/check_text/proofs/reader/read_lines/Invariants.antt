use Rattle.std.proofs.Common.{◌≡◌, length}
use Rattle.session_text.specs.Refusals.{lines_in}
use Rattle.check_text.specs.Journals.{runs_from}
use Rattle.check_text.specs.Views.{journals_of}
use Rattle.check_text.proofs.reader.read_lines.Given as goal

abbrev pub invariant-loop-line : goal.invariant-loop-line
invariant-loop-line l =
    runs_from (journals_of l.journals) l.number (lines_in l.rest)
    ≡ runs_from (journals_of l.fn.journals) l.first (lines_in l.text)

abbrev pub decreases-loop-line : goal.decreases-loop-line
decreases-loop-line l = length l.rest
