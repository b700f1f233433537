-- What playing a session of ports with modem lines on one thread comes to.
use Rattle.std.specs.Prelude.{◌≡◌, ℕ, List, ◌++◌, Option, None, Some, Result, Ok, Err, map, slice_get}
use Rattle.tty_calls.specs.declared.journals.PortRun.{PortRun}
use Rattle.tty_calls.specs.Sessions.{PlainSession}
use Rattle.session_text.specs.declared.faults.BadLine.{BadLine}
use Rattle.passed_calls.specs.Derived.{Passed}
use Rattle.modem_text.specs.Events.{ModemLog, logged_of}
use Rattle.modem_text.specs.Reading.{modem_in}
use Rattle.modem_text.specs.Sessions.{ModemSession}
use Rattle.modem_steps.specs.Derived.{derived, passings_on}
use Rattle.modem_steps.specs.Order.{IsInModemOrder}
use Rattle.modem_one.specs.Played.{begun_in, port_in, IsLoggedWhole}
use Rattle.further_report.specs.Modem.{modem_report_text}
use Rattle.tty_one.specs.Endings.{IsStatusOr}
use Rattle.tty_one.specs.Reported.{Returned, IsToldAs, IsAllOf}
use Rattle.order_laws.specs.Sessions.{journal_on}

-- a text spells a session of ports with modem lines; the first wrong line of a text that spells none
abbrev pub SpellsModemLines : List ℕ → ModemSession → Type 0
SpellsModemLines text session = modem_in text ≡ Ok session

abbrev pub fault_in : Result ModemSession BadLine → Option BadLine
fault_in (Ok session) = None
fault_in (Err bad) = Some bad

abbrev pub modem_lines_refusal : List ℕ → Option BadLine
modem_lines_refusal text = fault_in (modem_in text)

abbrev pub log_of : Returned → ModemLog
log_of back = map logged_of back.modem_log

-- what the ports were passed: what they have answered, and what they have begun and not answered
abbrev pub given_to : ModemSession → ModemLog → List PortRun → Passed
given_to session log runs p = passings_on session log p ++ begun_in session log p (journal_on runs p)

-- the run of a port, and its log beside it, are in the order of one thread for ports with modem lines
abbrev pub IsOrderedWith : ModemSession → ModemLog → ℕ → PlainSession → PortRun → Type 0
IsOrderedWith session log p played run =
    IsInModemOrder (port_in session played p run.journal.items) log run.line.overruns.items

-- A session of ports with modem lines was played on one thread. The run of each port is legal, and in the order of one
-- thread, for the session that the log derives: the calls that were passed down, and the hangups of lost carriers. The
-- log of each port is a whole run of modem lines beside the port's journal: each call of each caller is answered once,
-- in its order and phase, and each item of the modem blocks is done once, in its order and phase; no open that blocks
-- goes on without a carrier or CLOCAL, and a lost carrier hangs the port up. And the text is the report of the session,
-- of the log, of these runs and of the ports' ends.
pub record AreModemLinesPlayed (session : ModemSession) (back : Returned) (text : List ℕ) : Type 0 where
  pub told : IsToldAs (IsOrderedWith session (log_of back)) (modem_report_text session (log_of back))
      (derived session (log_of back)) back.runs text
  pub logged : (p : ℕ) (run : PortRun)
      → slice_get back.runs p ≡ Some run
      → IsLoggedWhole (port_in session (derived session (log_of back)) p run.journal.items) (log_of back)
  pub derives : back.derived ≡ Some (derived session (log_of back))

-- the text that was read spells a session of ports with modem lines, which was played
pub record IsToldOfModemLines (left : Option (List ℕ)) (back : Returned) (text : List ℕ) : Type 0 where
  pub read : List ℕ
  pub session : ModemSession
  pub whole : IsAllOf left read
  pub spelled : SpellsModemLines read session
  pub played : AreModemLinesPlayed session back text

-- A text that spells a session of ports with modem lines is played, and one that is refused is told as that.
pub record CompletesModemLines (bytes : List ℕ) (status : ℕ) : Type 0 where
  pub played : (session : ModemSession) → SpellsModemLines bytes session → IsStatusOr 0 status
  pub refused : (bad : BadLine) → modem_lines_refusal bytes ≡ Some bad → IsStatusOr 1 status
