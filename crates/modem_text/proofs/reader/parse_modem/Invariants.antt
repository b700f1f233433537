use Rattle.std.proofs.Common.{◌≡◌, length}
use Rattle.session_text.specs.Refusals.{lines_in}
use Rattle.modem_text.specs.Reading.{modem_from, modem_in}
use Rattle.modem_text.specs.Views.{modem_reading_of}
use Rattle.modem_text.proofs.reader.parse_modem.Given as goal

abbrev pub invariant-loop-line : goal.invariant-loop-line
invariant-loop-line l = modem_from (modem_reading_of l.reader) l.number (lines_in l.rest) ≡ modem_in l.text

abbrev pub decreases-loop-line : goal.decreases-loop-line
decreases-loop-line l = length l.rest
