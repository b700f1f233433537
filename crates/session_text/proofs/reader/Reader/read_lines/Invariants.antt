use Rattle.std.proofs.Common.{◌≡◌, length}
use Rattle.session_text.specs.Refusals.{lines_in}
use Rattle.session_text.specs.Reading.{session_from}
use Rattle.session_text.specs.Views.{reading_of}
use Rattle.session_text.proofs.reader.Reader.read_lines.Given as goal

abbrev pub invariant-loop-line : goal.invariant-loop-line
invariant-loop-line l =
    session_from (reading_of l.self) l.number (lines_in l.rest)
    ≡ session_from (reading_of l.fn.self) 1 (lines_in l.text)

abbrev pub decreases-loop-line : goal.decreases-loop-line
decreases-loop-line l = length l.rest
