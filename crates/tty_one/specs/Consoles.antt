-- What playing a session of consoles comes to.
use Rattle.std.specs.Prelude.{◌≡◌, ◌<◌, ℕ, List, All, Option, None, Some, Result, Ok, Err, length}
use Rattle.tty_calls.specs.declared.journals.PortRun.{PortRun}
use Rattle.tty_calls.specs.Sessions.{PlainSession}
use Rattle.session_text.specs.declared.faults.BadLine.{BadLine}
use Rattle.vt_consoles.specs.declared.entries.VtEntry.{VtEntry}
use Rattle.vt_text.specs.Reading.{vt_in}
use Rattle.vt_text.specs.Sessions.{PlainVtSession}
use Rattle.vt_account.specs.Account.{IsAccount}
use Rattle.vt_account.specs.InOrder.{entries_in_order}
use Rattle.vt_account.specs.Keyed.{all_keys, consoles_in, keyed}
use Rattle.vt_report.specs.Report.{report_text}
use Rattle.tty_one.specs.Endings.{IsStatusOr}
use Rattle.tty_one.specs.Reported.{Returned, IsOrdered, IsInAnyOrder, IsToldAs, IsAllOf}

-- a text spells a session of consoles; the first wrong line of a text that spells none
abbrev pub SpellsConsoles : List ℕ → PlainVtSession → Type 0
SpellsConsoles text session = vt_in text ≡ Ok session

abbrev pub fault_in : Result PlainVtSession BadLine → Option BadLine
fault_in (Ok session) = None
fault_in (Err bad) = Some bad

abbrev pub consoles_refusal : List ℕ → Option BadLine
consoles_refusal text = fault_in (vt_in text)

-- The consoles of a session were played. The entries are a board run and the account of the session: its keys and each
-- operator's calls other than refused ones stand in them once, in order, phase by phase. The run of each console is
-- legal, and in order, for the session that the consoles play: on its line come the keys whose entries name it. And the
-- text is the report of the session, of these entries and runs, and of the consoles' ends: an operator's calls have the
-- answers of its entries, and the rows of a console are the screen of its wire.
pub record AreConsolesPlayed (InOrder : ℕ → PlainSession → PortRun → Type 0) (session : PlainVtSession)
    (back : Returned) (text : List ℕ) : Type 0 where
  pub account : IsAccount session back.entries
  pub told : IsToldAs InOrder (report_text session back.entries) (keyed session back.entries) back.runs text

-- each key of a session went to one of its consoles
pub record EachKeyGoes (session : PlainVtSession) (entries : List VtEntry) : Type 0 where
  pub count : length (consoles_in entries) ≡ length (all_keys session.phases)
  pub each : All (λ p. p < session.calls.ports) (consoles_in entries)

-- on threads the entries of different makers are in no order of their own
abbrev pub AreConsolesOnThreads : PlainVtSession → Returned → List ℕ → Type 0
AreConsolesOnThreads = AreConsolesPlayed IsInAnyOrder

-- on one thread the entries, and the runs, are in its order
pub record AreConsolesInOrder (session : PlainVtSession) (back : Returned) (text : List ℕ) : Type 0 where
  pub in_order : back.entries ≡ entries_in_order session
  pub played : AreConsolesPlayed IsOrdered session back text

-- the text that was read spells a session of consoles, which was played
pub record IsToldOfConsoles (ArePlayed : PlainVtSession → Returned → List ℕ → Type 0) (left : Option (List ℕ))
    (back : Returned) (text : List ℕ) : Type 0 where
  pub read : List ℕ
  pub session : PlainVtSession
  pub whole : IsAllOf left read
  pub spelled : SpellsConsoles read session
  pub played : ArePlayed session back text

-- A text that spells a session of consoles is played, and one that is refused is told as that.
pub record CompletesConsoles (bytes : List ℕ) (status : ℕ) : Type 0 where
  pub played : (session : PlainVtSession) → SpellsConsoles bytes session → IsStatusOr 0 status
  pub refused : (bad : BadLine) → consoles_refusal bytes ≡ Some bad → IsStatusOr 1 status
