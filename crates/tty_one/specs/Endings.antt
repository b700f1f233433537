-- How a call of the program ends: its words, its status, and the line that it gives.
use Rattle.std.specs.Prelude.{◌≡◌, ◌≢◌, ◌≤◌, map, ℕ, List, [], ◌∷◌, ◌++◌, Bool, true, false, Option}
use Rattle.std.specs.Prelude.{Some, codes, decimal, ◌⊎◌, IfSome, IsTrue, ◌==◌, if◌then◌else◌}
use denote.Ref.{Bor}
use Rattle.tty_base.specs.Outside.{Rose, TookCount}
use Rattle.session_text.specs.declared.faults.Reason.{Reason}
use Rattle.session_text.specs.declared.faults.Reason.TheVariants.{Header, Word, Number, Hex, Order, Limit}
use Rattle.session_text.specs.declared.faults.BadLine.{BadLine}
use Rattle.text_lines.specs.Values.{is_number, number_of}
use Rattle.session_print.specs.Lines.{newline}
use Rattle.journal_check.specs.declared.verdicts.Verdict.{Verdict}
use Rattle.journal_check.specs.declared.verdicts.Verdict.TheVariants.{Legal, Wrong, Account}
use Rattle.tty_one.specs.declared.words.Command.{Command}
use Rattle.tty_one.specs.declared.words.Command.TheVariants.{Run, RunOne, Modem, Jobs, Gen, Check, Vt, VtOne}
use Rattle.tty_one.specs.declared.works.Ending.{Ending}
use Rattle.tty_one.specs.declared.works.Ending.TheVariants.{Done, BadSession, BadWords, ReadFault, TooLong, NotLegal}

-- the words that ask for a session to be read and played on threads, with its journals or without them
abbrev pub AskRun : Bool → List (List ℕ) → Type 0
AskRun false words = words ≡ codes "run" ∷ []
AskRun true words = words ≡ codes "run" ∷ codes "--journal" ∷ []

-- .. on one thread
abbrev pub AskRunOne : Bool → List (List ℕ) → Type 0
AskRunOne false words = words ≡ codes "run" ∷ codes "--one" ∷ []
AskRunOne true words =
    (words ≡ codes "run" ∷ codes "--one" ∷ codes "--journal" ∷ [])
    ⊎ (words ≡ codes "run" ∷ codes "--journal" ∷ codes "--one" ∷ [])

-- the digits write a number of 32 bits
pub record IsNumberOf (digits : List ℕ) (number : ℕ) : Type 0 where
  pub written : IsTrue (is_number digits)
  pub value : number ≡ number_of digits
  pub small : number ≤ 4294967295

-- the words that ask for the session of a number to be played
abbrev pub AskGen : ℕ → List (List ℕ) → Type 0
AskGen number words = (digits : List ℕ) × (words ≡ codes "gen" ∷ digits ∷ []) × IsNumberOf digits number

-- the words that ask for journals to be judged
abbrev pub AskCheck : List (List ℕ) → Type 0
AskCheck words = words ≡ codes "check" ∷ []

-- the words that ask for a session of ports with modem lines to be read and played on one thread
abbrev pub AskModem : List (List ℕ) → Type 0
AskModem words = words ≡ codes "modem" ∷ []

-- the words that ask for a session of processes to be read and played on one thread
abbrev pub AskJobs : List (List ℕ) → Type 0
AskJobs words = words ≡ codes "jobs" ∷ []

-- the words that ask for a session of consoles to be read and played on threads
abbrev pub AskVt : List (List ℕ) → Type 0
AskVt words = words ≡ codes "vt" ∷ []

-- .. on one thread
abbrev pub AskVtOne : List (List ℕ) → Type 0
AskVtOne words = words ≡ codes "vt" ∷ codes "--one" ∷ []

abbrev pub Ask : Command → List (List ℕ) → Type 0
Ask (Run journals) words = AskRun journals words
Ask (RunOne journals) words = AskRunOne journals words
Ask Modem words = AskModem words
Ask Jobs words = AskJobs words
Ask (Gen number) words = AskGen number words
Ask Check words = AskCheck words
Ask Vt words = AskVt words
Ask VtOne words = AskVtOne words

-- the commands that need no thread
abbrev pub IsOfOne : Command → Type 0
IsOfOne (Run journals) = ⊥
IsOfOne (RunOne journals) = Unit {0}
IsOfOne Modem = Unit {0}
IsOfOne Jobs = Unit {0}
IsOfOne (Gen number) = Unit {0}
IsOfOne Check = Unit {0}
IsOfOne Vt = ⊥
IsOfOne VtOne = Unit {0}

-- .. and those that do
abbrev pub IsOnThreads : Command → Type 0
IsOnThreads command = IsOfOne command → ⊥

-- words of the program; those that need no thread, and those that do; those that ask for a session to be read and
-- played, on threads and on one; those that ask for the session of a number
abbrev pub AreKnown : List (List ℕ) → Type 0
AreKnown words = (command : Command) × Ask command words

abbrev pub AreOfOne : List (List ℕ) → Type 0
AreOfOne words = (command : Command) × IsOfOne command × Ask command words

abbrev pub AreOnThreads : List (List ℕ) → Type 0
AreOnThreads words = (command : Command) × IsOnThreads command × Ask command words

abbrev pub AreRun : List (List ℕ) → Type 0
AreRun words = (journals : Bool) × AskRun journals words

abbrev pub AreRunOne : List (List ℕ) → Type 0
AreRunOne words = (journals : Bool) × AskRunOne journals words

abbrev pub AreGen : List (List ℕ) → Type 0
AreGen words = (number : ℕ) × AskGen number words

-- words that ask for a session to be read and played, and for a session of consoles
abbrev pub AskToPlay : List (List ℕ) → Type 0
AskToPlay words = AreRun words ⊎ AreRunOne words

abbrev pub AskConsoles : List (List ℕ) → Type 0
AskConsoles words = AskVt words ⊎ AskVtOne words

-- words that ask for a session to be played, and its journals to be told
abbrev pub AskJournals : List (List ℕ) → Type 0
AskJournals words = AskRun true words ⊎ AskRunOne true words

-- words that ask for a text to be read: without threads, and with them
abbrev pub AskOneToRead : List (List ℕ) → Type 0
AskOneToRead words = (AreRunOne words ⊎ AskJobs words) ⊎ ((AskCheck words ⊎ AskVtOne words) ⊎ AskModem words)

abbrev pub AskToRead : List (List ℕ) → Type 0
AskToRead words = (AreRun words ⊎ AskVt words) ⊎ AskOneToRead words

abbrev pub reason_name : Reason → List ℕ
reason_name Header = codes "header"
reason_name Word = codes "word"
reason_name Number = codes "number"
reason_name Hex = codes "hex"
reason_name Order = codes "order"
reason_name Limit = codes "limit"

-- the line that tells the first wrong line of a text
abbrev pub bad_session_line : BadLine → List ℕ
bad_session_line bad =
    codes "bad session line " ++ (decimal bad.line ++ (codes ": " ++ (reason_name bad.reason ++ newline)))

-- the line that tells a verdict
abbrev pub verdict_line : Verdict → List ℕ
verdict_line Legal = codes "legal\n"
verdict_line (Wrong port entry) =
    codes "not legal port " ++ (decimal port ++ (codes " entry " ++ (decimal entry ++ newline)))
verdict_line (Account port) = codes "not legal port " ++ (decimal port ++ codes " account\n")

-- the line of a status that refuses without having read a text
abbrev pub line_of : ℕ → List ℕ
line_of status =
    if status == 2 then codes "bad words\n"
    else if status == 3 then codes "read fault\n"
    else if status == 6 then codes "session too long\n"
    else []

-- the statuses of the program
abbrev pub IsStatus : ℕ → Type 0
IsStatus status = status ≤ 7

-- the bytes of a list of texts
abbrev pub texts_of : List (Bor (List ℕ)) → List (List ℕ)
texts_of words = map (λ word. word.now) words

-- the status, unless the text could not be given or memory was wanting
abbrev pub IsStatusOr : ℕ → ℕ → Type 0
IsStatusOr wanted status = (status ≡ wanted) ⊎ ((status ≡ 4) ⊎ (status ≡ 5))

-- given is before, and then some bytes
abbrev pub AddsBytes : List ℕ → Option (List ℕ) → Type 0
AddsBytes before given = (more : List ℕ) × (given ≡ Some (before ++ more))

-- What a sink was given at a status: at 0 a text, at 1 the line of a text that was refused, at 7 that of a verdict,
-- at 4 the front of what was to be given, else the line of the status.
abbrev pub IsTold : ℕ → List ℕ → Option (List ℕ) → Type 0
IsTold status before given =
    AddsBytes before given × (status ≢ 0 → status ≢ 1 → status ≢ 4 → status ≢ 7 → given
    ≡ Some (before ++ line_of status))

abbrev pub status_of : Ending → ℕ
status_of (Done text) = 0
status_of (BadSession line) = 1
status_of BadWords = 2
status_of ReadFault = 3
status_of TooLong = 6
status_of (NotLegal line) = 7

abbrev pub text_of : Ending → List ℕ
text_of (Done text) = text.items
text_of (BadSession line) = line.items
text_of BadWords = line_of 2
text_of ReadFault = line_of 3
text_of TooLong = line_of 6
text_of (NotLegal line) = line.items

-- not as many bytes as one more than the longest text were read
abbrev pub IsShort : Option (List ℕ) → Option (List ℕ) → Type 0
IsShort before now = IfSome before (λ bytes. TookCount 4194305 bytes now → ⊥)

-- what an ending says of the source that was read: its faults and the bytes left, before and now
abbrev pub IsOfSource : Ending → ℕ → ℕ → Option (List ℕ) → Option (List ℕ) → Type 0
IsOfSource (Done text) faults now left rest = IsShort left rest
IsOfSource (BadSession line) faults now left rest = IsShort left rest
IsOfSource BadWords faults now left rest = ⊥
IsOfSource ReadFault faults now left rest = Rose faults now × IsShort left rest
IsOfSource TooLong faults now left rest = IfSome left (λ bytes. TookCount 4194305 bytes rest)
IsOfSource (NotLegal line) faults now left rest = IsShort left rest
