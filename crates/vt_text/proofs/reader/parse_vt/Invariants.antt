use Rattle.std.proofs.Common.{◌≡◌, length}
use Rattle.session_text.specs.Refusals.{lines_in}
use Rattle.vt_text.specs.Reading.{vt_from, vt_in}
use Rattle.vt_text.specs.Views.{vt_reading_of}
use Rattle.vt_text.proofs.reader.parse_vt.Given as goal

abbrev pub invariant-loop-line : goal.invariant-loop-line
invariant-loop-line l = vt_from (vt_reading_of l.reader) l.number (lines_in l.rest) ≡ vt_in l.text

abbrev pub decreases-loop-line : goal.decreases-loop-line
decreases-loop-line l = length l.rest
