-- What the work on a command came to, by its ending and its runs: for the functions below the top calls.
use Rattle.std.specs.Prelude.{◌≡◌, ◌≢◌, ◌≤◌, ◌<◌, ℕ, List, [], Option, None, Some, length, map, option_map}
use Rattle.tty_base.specs.Sizes.{MOST_ENTRIES, MOST_TEXT}
use Rattle.tty_base.specs.Contents.{Contents}
use Rattle.tty_calls.specs.declared.journals.PortRun.{PortRun}
use Rattle.tty_calls.specs.declared.sessions.Session.{Session}
use Rattle.tty_calls.specs.Sessions.{PlainSession, session_of}
use Rattle.session_text.specs.declared.faults.BadLine.{BadLine}
use Rattle.session_text.specs.Refusals.{refusal}
use Rattle.session_text.specs.Grammar.{Spells}
use Rattle.session_print.specs.Ends.{end_of}
use Rattle.check_text.specs.Reading.{refusal as refusal_of_runs}
use Rattle.tty_terminal.specs.Terminals.{Terminal}
use Rattle.legal_runs.specs.Short.{IsCutShort}
use Rattle.journal_check.specs.declared.verdicts.Verdict.{Verdict}
use Rattle.journal_check.specs.declared.verdicts.Verdict.TheVariants.{Legal}
use Rattle.play_base.specs.declared.ports.Played.{Played}
use Rattle.passed_calls.specs.Within.{ArePassedWithin}
use Rattle.job_text.specs.declared.sessions.JobsSession.{JobsSession as KeptSession}
use Rattle.job_text.specs.Events.{JobLog, logged_of}
use Rattle.job_text.specs.Sessions.{JobsSession, bare_session_of}
use Rattle.job_text.specs.Within.{IsJobsSessionWithin}
use Rattle.job_one.specs.Played.{derived_with}
use Rattle.job_ports.specs.declared.running.JobsRan.{JobsRan}
use Rattle.modem_text.specs.declared.sessions.ModemSession.{ModemSession as KeptModemSession}
use Rattle.modem_text.specs.Events.{ModemLog, logged_of as event_logged}
use Rattle.modem_text.specs.Sessions.{ModemSession, modem_session_of}
use Rattle.modem_text.specs.Within.{IsModemSessionWithin}
use Rattle.modem_one.specs.Played.{derived_with as derived_with_lines}
use Rattle.modem_ports.specs.declared.running.ModemRan.{ModemRan}
use Rattle.further_report.specs.Jobs.{jobs_report_text}
use Rattle.further_report.specs.Modem.{modem_report_text}
use Rattle.vt_consoles.specs.declared.entries.VtEntry.{VtEntry}
use Rattle.vt_text.specs.declared.sessions.VtSession.{VtSession}
use Rattle.vt_text.specs.Sessions.{PlainVtSession, vt_session_of}
use Rattle.vt_account.specs.InOrder.{entries_in_order}
use Rattle.vt_account.specs.Keyed.{IsWithinKeys, keyed}
use Rattle.vt_report.specs.Report.{report_text}
use Rattle.vt_one.specs.declared.playing.VtPlayed.{VtPlayed}
use Rattle.tty_one.specs.declared.words.Command.{Command}
use Rattle.tty_one.specs.declared.words.Command.TheVariants.{Run, RunOne, Modem, Jobs, Gen, Check, Vt, VtOne}
use Rattle.tty_one.specs.declared.playing.Telling.{Telling}
use Rattle.tty_one.specs.declared.reading.Reading.{Reading}
use Rattle.tty_one.specs.declared.reading.Reading.TheVariants.{Of, Ended}
use Rattle.tty_one.specs.declared.works.Work.{Work}
use Rattle.tty_one.specs.declared.works.Ending.{Ending}
use Rattle.tty_one.specs.declared.works.Ending.TheVariants.{Done, BadSession, BadWords, ReadFault, TooLong, NotLegal}
use Rattle.tty_one.specs.Endings.{bad_session_line, verdict_line, IsShort, IsOfSource}
use Rattle.tty_one.specs.Reported.{Returned, nothing, text_by, IsReported, IsAllOf}
use Rattle.tty_one.specs.Consoles.{SpellsConsoles, consoles_refusal}
use Rattle.tty_one.specs.Processes.{given_to, AreProcessesPlayed, IsToldOfProcesses, processes_refusal}
use Rattle.tty_one.specs.ModemLines.{given_to as given_with_lines, modem_lines_refusal}
use Rattle.tty_one.specs.ModemLines.{AreModemLinesPlayed, SpellsModemLines}
use Rattle.tty_one.specs.Outcome.{IsToldVerdict, IsToldBy, IsRefused, refusal_by}

-- what comes of work beside its ending
abbrev pub brought : Work → Returned
brought work = record {
  runs = work.runs.items;
  entries = work.vt.items;
  modem_log = work.modem.items;
  log = work.jobs.items;
  derived = option_map session_of work.derived;
}

-- ---- reading

-- a text's first wrong line, told by this line
pub record IsRefusalLine (first_wrong : List ℕ → Option BadLine) (left : Option (List ℕ)) (line : List ℕ) : Type 0 where
  pub bad : BadLine
  pub refused : IsRefused first_wrong left bad
  pub told : line ≡ bad_session_line bad

-- how work ends for want of a text that is in its grammar
abbrev pub IsUnread : (List ℕ → Option BadLine) → Option (List ℕ) → Ending → Type 0
IsUnread first_wrong left (Done text) = ⊥
IsUnread first_wrong left (BadSession line) = IsRefusalLine first_wrong left line.items
IsUnread first_wrong left BadWords = ⊥
IsUnread first_wrong left ReadFault = Unit {0}
IsUnread first_wrong left TooLong = Unit {0}
IsUnread first_wrong left (NotLegal line) = ⊥

-- what reading a text came to, by the faults of the source and what it has left, before and now
abbrev pub IsTextRead : (List ℕ → Option BadLine) → Reading (Contents ℕ) → ℕ → ℕ → Option (List ℕ) → Option (List ℕ)
    → Type 0
IsTextRead first_wrong (Of text) faults now left rest = IsAllOf left text.items × IsShort left rest
IsTextRead first_wrong (Ended ending) faults now left rest =
    IsUnread first_wrong left ending × IsOfSource ending faults now left rest

-- a text that was read is no longer than the longest
abbrev pub IsShortText : Reading (Contents ℕ) → Type 0
IsShortText (Of text) = length text.items ≤ MOST_TEXT
IsShortText (Ended ending) = Unit {0}

-- no journal of the session is ever full
abbrev pub IsNeverFull : PlainSession → Type 0
IsNeverFull session =
    (p : ℕ) (run : PortRun) (t : Terminal) → IsCutShort p session run t → length run.journal.items < MOST_ENTRIES

-- the text that was read spells this, and is no longer than the longest
pub record IsReadAs (left : Option (List ℕ)) (SpellsIt : List ℕ → Type 0) : Type 0 where
  pub read : List ℕ
  pub whole : IsAllOf left read
  pub spelled : SpellsIt read
  pub few : length read ≤ MOST_TEXT

-- what reading a session came to, which texts spell so, or whose first wrong line is this
abbrev pub IsRead : {S : Type 0} → (List ℕ → S → Type 0) → (List ℕ → Option BadLine) → Reading S → ℕ → ℕ
    → Option (List ℕ) → Option (List ℕ)
    → Type 0
IsRead SpellsIt first_wrong (Of session) faults now left rest =
    IsReadAs left (λ text. SpellsIt text session) × IsShort left rest
IsRead SpellsIt first_wrong (Ended ending) faults now left rest =
    IsUnread first_wrong left ending × IsOfSource ending faults now left rest

-- a session that a text spells, one of consoles, and one of ports with modem lines
abbrev pub SpellsKept : List ℕ → Session → Type 0
SpellsKept text session = Spells text (session_of session)

abbrev pub SpellsKeptConsoles : List ℕ → VtSession → Type 0
SpellsKeptConsoles text session = SpellsConsoles text (vt_session_of session)

abbrev pub SpellsKeptModemLines : List ℕ → KeptModemSession → Type 0
SpellsKeptModemLines text session = SpellsModemLines text (modem_session_of session)

abbrev pub IsSessionRead : Reading Session → ℕ → ℕ → Option (List ℕ) → Option (List ℕ) → Type 0
IsSessionRead = IsRead SpellsKept refusal

abbrev pub AreConsolesRead : Reading VtSession → ℕ → ℕ → Option (List ℕ) → Option (List ℕ) → Type 0
AreConsolesRead = IsRead SpellsKeptConsoles consoles_refusal

abbrev pub AreModemLinesRead : Reading KeptModemSession → ℕ → ℕ → Option (List ℕ) → Option (List ℕ) → Type 0
AreModemLinesRead = IsRead SpellsKeptModemLines modem_lines_refusal

-- how work ends at the first wrong line of a text
abbrev pub IsRefusal : (List ℕ → Option BadLine) → List ℕ → Ending → Type 0
IsRefusal first_wrong text (Done report) = ⊥
IsRefusal first_wrong text (BadSession line) = IsRefusalLine first_wrong (Some text) line.items
IsRefusal first_wrong text BadWords = ⊥
IsRefusal first_wrong text ReadFault = ⊥
IsRefusal first_wrong text TooLong = ⊥
IsRefusal first_wrong text (NotLegal line) = ⊥

-- what a text is read as
abbrev pub IsReadIn : {S : Type 0} → (List ℕ → S → Type 0) → (List ℕ → Option BadLine) → List ℕ → Reading S → Type 0
IsReadIn SpellsIt first_wrong text (Of session) = SpellsIt text session
IsReadIn SpellsIt first_wrong text (Ended ending) = IsRefusal first_wrong text ending

abbrev pub IsSessionIn : List ℕ → Reading Session → Type 0
IsSessionIn = IsReadIn SpellsKept refusal

abbrev pub AreConsolesIn : List ℕ → Reading VtSession → Type 0
AreConsolesIn = IsReadIn SpellsKeptConsoles consoles_refusal

abbrev pub AreModemLinesIn : List ℕ → Reading KeptModemSession → Type 0
AreModemLinesIn = IsReadIn SpellsKeptModemLines modem_lines_refusal

-- ---- playing

-- of what was played
abbrev pub IsEndingOf : Telling → PlainSession → Played → Ending → Type 0
IsEndingOf telling session played (Done text) =
    text.items ≡ text_by telling session played.runs.items (map end_of played.ends.items)
IsEndingOf telling session played (BadSession line) = ⊥
IsEndingOf telling session played BadWords = ⊥
IsEndingOf telling session played ReadFault = ⊥
IsEndingOf telling session played TooLong = ⊥
IsEndingOf telling session played (NotLegal line) = ⊥

-- of a session
abbrev pub IsSessionWork : (ℕ → PlainSession → PortRun → Type 0)
    → Telling → PlainSession → Ending → List PortRun
    → Type 0
IsSessionWork InOrder telling session (Done text) runs = IsReported InOrder telling session runs text.items
IsSessionWork InOrder telling session (BadSession line) runs = ⊥
IsSessionWork InOrder telling session BadWords runs = ⊥
IsSessionWork InOrder telling session ReadFault runs = ⊥
IsSessionWork InOrder telling session TooLong runs = ⊥
IsSessionWork InOrder telling session (NotLegal line) runs = ⊥

-- ---- judging

-- some verdict other than legal was told
pub record IsIllegal (left : Option (List ℕ)) (runs : List PortRun) (line : List ℕ) : Type 0 where
  pub verdict : Verdict
  pub told : IsToldVerdict left verdict runs line
  pub illegal : verdict ≢ Legal

-- how a verdict ends the work
abbrev pub IsVerdictEnding : Verdict → Ending → Type 0
IsVerdictEnding verdict (Done text) = (verdict ≡ Legal) × (text.items ≡ verdict_line verdict)
IsVerdictEnding verdict (BadSession line) = ⊥
IsVerdictEnding verdict BadWords = ⊥
IsVerdictEnding verdict ReadFault = ⊥
IsVerdictEnding verdict TooLong = ⊥
IsVerdictEnding verdict (NotLegal line) = (verdict ≢ Legal) × (line.items ≡ verdict_line verdict)

-- how the journals of a text end the work
abbrev pub IsJudgedText : List ℕ → Ending → Type 0
IsJudgedText text (Done report) = IsToldVerdict (Some text) Legal [] report.items
IsJudgedText text (BadSession line) = IsRefusalLine refusal_of_runs (Some text) line.items
IsJudgedText text BadWords = ⊥
IsJudgedText text ReadFault = ⊥
IsJudgedText text TooLong = ⊥
IsJudgedText text (NotLegal line) = IsIllegal (Some text) [] line.items

-- ---- consoles

-- what playing a session of consoles needs
pub record CanBePlayed (session : PlainVtSession) : Type 0 where
  pub within : IsWithinKeys session
  pub room : length (entries_in_order session) < MOST_ENTRIES
  pub never_full : (entries : List VtEntry) → IsNeverFull (keyed session entries)

-- of a session of consoles, which was played so
abbrev pub IsConsolesWork : (Returned → List ℕ → Type 0) → Ending → Returned → Type 0
IsConsolesWork ArePlayed (Done text) back = ArePlayed back text.items
IsConsolesWork ArePlayed (BadSession line) back = ⊥
IsConsolesWork ArePlayed BadWords back = ⊥
IsConsolesWork ArePlayed ReadFault back = ⊥
IsConsolesWork ArePlayed TooLong back = ⊥
IsConsolesWork ArePlayed (NotLegal line) back = ⊥

-- of consoles that were played
abbrev pub IsReportOf : PlainVtSession → VtPlayed → Ending → Type 0
IsReportOf session played (Done text) =
    text.items
    ≡ report_text session played.board.entries played.consoles.runs.items (map end_of played.consoles.ends.items)
IsReportOf session played (BadSession line) = ⊥
IsReportOf session played BadWords = ⊥
IsReportOf session played ReadFault = ⊥
IsReportOf session played TooLong = ⊥
IsReportOf session played (NotLegal line) = ⊥

-- ---- processes

-- what playing a session of processes needs
pub record CanProcessesBePlayed (session : JobsSession) : Type 0 where
  pub within : IsJobsSessionWithin session
  pub never_full : (log : JobLog) (runs : List PortRun)
      → ArePassedWithin (given_to session log runs)
      → IsNeverFull (derived_with session log runs)

-- of a session of processes
abbrev pub AreProcessesWork : JobsSession → Ending → Returned → Type 0
AreProcessesWork session (Done text) back = AreProcessesPlayed session back text.items
AreProcessesWork session (BadSession line) back = ⊥
AreProcessesWork session BadWords back = ⊥
AreProcessesWork session ReadFault back = ⊥
AreProcessesWork session TooLong back = ⊥
AreProcessesWork session (NotLegal line) back = ⊥

-- of processes that were played
abbrev pub IsReportOfProcesses : KeptSession → JobsRan → Ending → Type 0
IsReportOfProcesses session ran (Done text) =
    text.items
    ≡ jobs_report_text (bare_session_of session) (map logged_of ran.log.items) ran.runs.items
    (map end_of ran.ends.items)
IsReportOfProcesses session ran (BadSession line) = ⊥
IsReportOfProcesses session ran BadWords = ⊥
IsReportOfProcesses session ran ReadFault = ⊥
IsReportOfProcesses session ran TooLong = ⊥
IsReportOfProcesses session ran (NotLegal line) = ⊥

-- of a text of processes
abbrev pub IsProcessesText : List ℕ → Ending → Returned → Type 0
IsProcessesText text (Done report) back = IsToldOfProcesses (Some text) back report.items
IsProcessesText text (BadSession line) back = (back ≡ nothing) × IsRefusalLine processes_refusal (Some text) line.items
IsProcessesText text BadWords back = ⊥
IsProcessesText text ReadFault back = ⊥
IsProcessesText text TooLong back = ⊥
IsProcessesText text (NotLegal line) back = ⊥

-- ---- modem lines

-- what playing a session of ports with modem lines needs
pub record CanModemLinesBePlayed (session : ModemSession) : Type 0 where
  pub within : IsModemSessionWithin session
  pub never_full : (log : ModemLog) (runs : List PortRun)
      → ArePassedWithin (given_with_lines session log runs)
      → IsNeverFull (derived_with_lines session log runs)

-- of a session of ports with modem lines
abbrev pub AreModemLinesWork : ModemSession → Ending → Returned → Type 0
AreModemLinesWork session (Done text) back = AreModemLinesPlayed session back text.items
AreModemLinesWork session (BadSession line) back = ⊥
AreModemLinesWork session BadWords back = ⊥
AreModemLinesWork session ReadFault back = ⊥
AreModemLinesWork session TooLong back = ⊥
AreModemLinesWork session (NotLegal line) back = ⊥

-- of ports with modem lines that were played
abbrev pub IsReportOfModemLines : ModemSession → ModemRan → Ending → Type 0
IsReportOfModemLines session ran (Done text) =
    text.items
    ≡ modem_report_text session (map event_logged ran.log.items) ran.runs.items (map end_of ran.ends.items)
IsReportOfModemLines session ran (BadSession line) = ⊥
IsReportOfModemLines session ran BadWords = ⊥
IsReportOfModemLines session ran ReadFault = ⊥
IsReportOfModemLines session ran TooLong = ⊥
IsReportOfModemLines session ran (NotLegal line) = ⊥

-- ---- a command

-- only journals that were read can be found not legal
abbrev pub IsIllegalBy : Command → Option (List ℕ) → List PortRun → List ℕ → Type 0
IsIllegalBy (Run journals) left runs line = ⊥
IsIllegalBy (RunOne journals) left runs line = ⊥
IsIllegalBy Modem left runs line = ⊥
IsIllegalBy Jobs left runs line = ⊥
IsIllegalBy (Gen number) left runs line = ⊥
IsIllegalBy Check left runs line = IsIllegal left runs line
IsIllegalBy Vt left runs line = ⊥
IsIllegalBy VtOne left runs line = ⊥

-- of a command, where a source had all this left
abbrev pub IsWork : Command → Option (List ℕ) → Ending → Returned → Type 0
IsWork command left (Done report) back = IsToldBy command left back report.items
IsWork command left (BadSession line) back = (back ≡ nothing) × IsRefusalLine (refusal_by command) left line.items
IsWork command left BadWords back = back ≡ nothing
IsWork command left ReadFault back = back ≡ nothing
IsWork command left TooLong back = back ≡ nothing
IsWork command left (NotLegal line) back = (back ≡ nothing) × IsIllegalBy command left back.runs line.items

-- beside runs only consoles bring entries, and only ports with modem lines and processes a log, and the session that
-- they were played
abbrev pub RunsAlone : Returned → Type 0
RunsAlone back = (back.entries ≡ []) × (back.modem_log ≡ []) × (back.log ≡ []) × (back.derived ≡ None)

abbrev pub of_consoles : List PortRun → List VtEntry → Returned
of_consoles runs entries = record nothing { runs = runs; entries = entries }

abbrev pub BoardAlone : Returned → Type 0
BoardAlone back = (back.modem_log ≡ []) × (back.log ≡ []) × (back.derived ≡ None)

abbrev pub HasOwn : Command → Returned → Type 0
HasOwn (Run journals) back = RunsAlone back
HasOwn (RunOne journals) back = RunsAlone back
HasOwn Modem back = (back.entries ≡ []) × (back.log ≡ [])
HasOwn Jobs back = (back.entries ≡ []) × (back.modem_log ≡ [])
HasOwn (Gen number) back = RunsAlone back
HasOwn Check back = RunsAlone back
HasOwn Vt back = BoardAlone back
HasOwn VtOne back = BoardAlone back

-- only a command that reads can be refused what it reads
abbrev pub CanEndWith : Command → Ending → Type 0
CanEndWith (Run journals) ending = Unit {0}
CanEndWith (RunOne journals) ending = Unit {0}
CanEndWith Modem ending = Unit {0}
CanEndWith Jobs ending = Unit {0}
CanEndWith (Gen number) (Done report) = Unit {0}
CanEndWith (Gen number) (BadSession line) = ⊥
CanEndWith (Gen number) BadWords = ⊥
CanEndWith (Gen number) ReadFault = ⊥
CanEndWith (Gen number) TooLong = ⊥
CanEndWith (Gen number) (NotLegal line) = ⊥
CanEndWith Check ending = Unit {0}
CanEndWith Vt ending = Unit {0}
CanEndWith VtOne ending = Unit {0}

-- a command that reads nothing
abbrev pub ReadsNothing : Command → Type 0
ReadsNothing (Run journals) = ⊥
ReadsNothing (RunOne journals) = ⊥
ReadsNothing Modem = ⊥
ReadsNothing Jobs = ⊥
ReadsNothing (Gen number) = Unit {0}
ReadsNothing Check = ⊥
ReadsNothing Vt = ⊥
ReadsNothing VtOne = ⊥
