-- Runs that are read as they are printed.
use Rattle.std.specs.Prelude.{◌≡◌, ℕ, ◌<◌, ◌≤◌, ◌^◌, IsTrue, Some, Ok, List, []}
use Rattle.std.specs.Prelude.{◌∷◌, ◌++◌, codes, decimal, length, slice_index_or}
use Rattle.std.specs.List.{AllByRecursion}
use Rattle.hex.specs.Hex.{IsBytes}
use Rattle.tty_base.specs.declared.characters.Flagged.{Flagged}
use Rattle.tty_base.specs.declared.counters.Counts.{Counts}
use Rattle.tty_modes.specs.Settings.{Settings}
use Rattle.tty_calls.specs.declared.journals.Who.{Who}
use Rattle.tty_calls.specs.declared.journals.Who.TheVariants.{Caller, Flusher, Line, Clock, Session}
use Rattle.tty_calls.specs.Plain.{PlainAnswer, done, count_is, got, number_is, modes_are, counts_are}
use Rattle.tty_calls.specs.Plain.{refused, idle, PlainEvent, answered, parted, waited, flushed, ticked}
use Rattle.tty_calls.specs.Plain.{line_ended, clock_ended, caller_ended, phase_ended, hung_up, PlainEntry}
use Rattle.tty_calls.specs.declared.journals.PortRun.{PortRun}
use Rattle.tty_calls.specs.Sessions.{PlainSession}
use Rattle.text_lines.specs.Values.{is_name}
use Rattle.session_print.specs.Lines.{newline}
use Rattle.session_print.specs.Journals.{who_text, journals_text}
use Rattle.check_text.specs.declared.kinds.AnswerKind.{AnswerKind}
use Rattle.check_text.specs.declared.kinds.AnswerKind.TheVariants as kind
use Rattle.check_text.specs.Answers.{answer_words}
use Rattle.check_text.specs.Callers.{PlainCallers}
use Rattle.check_text.specs.Characters.{chars_of}
use Rattle.check_text.specs.Entries.{call_of_entry}
use Rattle.check_text.specs.Grammar.{most, IsRunWithin}
use Rattle.check_text.specs.Runs.{PlainRun}

pub record AreModes (modes : Settings) : Type 0 where
  pub flags : length modes.flags ≡ 29
  pub characters : length modes.characters ≡ 15
  pub bytes : IsBytes modes.characters

pub record AreCounts (n : Counts) : Type 0 where
  pub mark : n.mark < 2 ^ 64
  pub parity : n.parity < 2 ^ 64
  pub frame : n.frame < 2 ^ 64
  pub breaks : n.breaks < 2 ^ 64
  pub cut : n.cut < 2 ^ 64
  pub echo : n.echo < 2 ^ 64
  pub pin : n.pin < 2 ^ 64
  pub pout : n.pout < 2 ^ 64
  pub pbad : n.pbad < 2 ^ 64
  pub pfull : n.pfull < 2 ^ 64

-- an answer that a call of this kind may be given; its numbers have their sizes
abbrev pub IsAnswerTo : AnswerKind → PlainAnswer → Type 0
IsAnswerTo kind (refused errno) = Unit {0}
IsAnswerTo kind idle = Unit {0}
IsAnswerTo kind.Done done = Unit {0}
IsAnswerTo kind.Count (count_is taken) = taken ≤ most
IsAnswerTo kind.Got (got bytes) = IsBytes bytes × (length bytes < 2 ^ 64)
IsAnswerTo kind.Number (number_is n) = n ≤ most
IsAnswerTo kind.Modes (modes_are modes) = AreModes modes
IsAnswerTo kind.Counts (counts_are counts) = AreCounts counts
IsAnswerTo kind answer = ⊥

abbrev pub AreBytes : List Flagged → Type 0
AreBytes chars = AllByRecursion (λ c. c.byte < 256) chars

-- a call of this port, of the kind that an answer is given to
abbrev pub IsAnsweredCall : PlainCallers → Who → ℕ → (AnswerKind → Type 0) → Type 0
IsAnsweredCall callers who step P = (kind : AnswerKind) × (call_of_entry callers who step ≡ Ok kind) × P kind

abbrev pub IsEventOf : PlainCallers → Who → ℕ → PlainEvent → Type 0
IsEventOf callers who step (answered answer dropped) =
    IsAnsweredCall callers who step (λ kind. IsAnswerTo kind answer) × AreBytes dropped
IsEventOf callers who step (parted taken) = IsAnsweredCall callers who step (λ kind. Unit {0}) × (taken ≤ most)
IsEventOf callers who step waited = IsAnsweredCall callers who step (λ kind. Unit {0})
IsEventOf callers who step (flushed chars) = AreBytes chars
IsEventOf callers who step ticked = Unit {0}
IsEventOf callers who step (line_ended sent) = sent ≤ most
IsEventOf callers who step clock_ended = Unit {0}
IsEventOf callers who step caller_ended = Unit {0}
IsEventOf callers who step phase_ended = Unit {0}
IsEventOf callers who step (hung_up dropped) = AreBytes dropped

-- a caller is one of the port's, and its name is a NAME
abbrev pub IsWhoOf : PlainCallers → Who → Type 0
IsWhoOf callers (Caller caller) =
    (caller < length callers.names) × IsTrue (is_name (slice_index_or callers.names caller []))
IsWhoOf callers Flusher = Unit {0}
IsWhoOf callers Line = Unit {0}
IsWhoOf callers Clock = Unit {0}
IsWhoOf callers Session = Unit {0}

pub record IsEntryOf (callers : PlainCallers) (e : PlainEntry) : Type 0 where
  pub who : IsWhoOf callers e.who
  pub step : e.step ≤ most
  pub part : e.part ≤ most
  pub generation : e.generation ≤ most
  pub event : IsEventOf callers e.who e.step e.event

pub record IsRunOf (callers : PlainCallers) (run : PlainRun) : Type 0 where
  pub entries : AllByRecursion (IsEntryOf callers) run.journal
  pub within : IsRunWithin run

-- there is one run for each port
abbrev pub AreRunsOf : List PlainCallers → List PlainRun → Type 0
AreRunsOf [] [] = Unit {0}
AreRunsOf (callers ∷ more) (run ∷ runs) = IsRunOf callers run × AreRunsOf more runs
AreRunsOf callers runs = ⊥

-- what is printed after a session's text: the journals of its ports, and `done`
abbrev pub text_after : PlainSession → List PortRun → List ℕ
text_after session runs = journals_text session runs ++ (codes "done" ++ newline)

-- ---- what an entry's line is

-- the words of an event: those that are printed, but for CHARS in either case, and `drop -`
abbrev pub IsBeside : List Flagged → List (List ℕ) → Type 0
IsBeside dropped [] = dropped ≡ []
IsBeside dropped (word ∷ []) = ⊥
IsBeside dropped (word ∷ chars ∷ []) = (word ≡ codes "drop") × (chars_of chars ≡ Some dropped)
IsBeside dropped (word ∷ chars ∷ other ∷ rest) = ⊥

abbrev pub IsEventLine : PlainEvent → List (List ℕ) → Type 0
IsEventLine (answered answer dropped) words =
    (rest : List (List ℕ)) × (words ≡ codes "answer" ∷ (answer_words answer ++ rest)) × IsBeside dropped rest
IsEventLine (parted taken) words = words ≡ codes "part" ∷ decimal taken ∷ []
IsEventLine waited words = words ≡ codes "wait" ∷ []
IsEventLine (flushed chars) words = (text : List ℕ) × (words ≡ codes "flush" ∷ text ∷ []) × (chars_of text ≡ Some chars)
IsEventLine ticked words = words ≡ codes "tick" ∷ []
IsEventLine (line_ended sent) words = words ≡ codes "line_end" ∷ decimal sent ∷ []
IsEventLine clock_ended words = words ≡ codes "clock_end" ∷ []
IsEventLine caller_ended words = words ≡ codes "caller_end" ∷ []
IsEventLine phase_ended words = words ≡ codes "phase_end" ∷ []
IsEventLine (hung_up dropped) words =
    (text : List ℕ) × (words ≡ codes "hangup" ∷ text ∷ []) × (chars_of text ≡ Some dropped)

pub record IsEntryLine (names : List (List ℕ)) (words : List (List ℕ)) (e : PlainEntry) : Type 0 where
  pub event : List (List ℕ)
  pub is : words ≡ who_text names e.who ∷ decimal e.step ∷ decimal e.part ∷ decimal e.generation ∷ event
  pub tells : IsEventLine e.event event
