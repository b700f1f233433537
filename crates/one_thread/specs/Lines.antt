-- What the line of a phase comes to.
use Rattle.std.specs.Prelude.{◌≡◌, ◌+◌, ℕ, List, [], ◌∷◌, ◌++◌, false, All, length}
use Rattle.tty_base.specs.Sizes.{MOST_ENTRIES}
use Rattle.tty_base.specs.declared.characters.Flagged.{Flagged}
use Rattle.tty_base.specs.declared.lines.LineStep.{LineStep}
use Rattle.tty_base.specs.declared.lines.Overrun.{Overrun}
use Rattle.word_ring.specs.Ends.{PutterState}
use Rattle.uart_line.specs.LineState.{LineState}
use Rattle.tty_calls.specs.declared.answers.Denied.{Denied}
use Rattle.tty_calls.specs.declared.answers.Denied.TheVariants.{NoMemory, Full}
use Rattle.tty_calls.specs.Plain.{PlainEntry, line_ended}
use Rattle.tty_calls.specs.Sessions.{call_at, counts_on}
use Rattle.tty_terminal.specs.Runs.{Leads, chars_of}
use Rattle.legal_runs.specs.Legal.{script_of_first, session_events_in, line_ends_in}
use Rattle.port_core.specs.Ports.{PortValue}
use Rattle.legal_runs.specs.Order.{AreInTurn}
use Rattle.play_base.specs.Roles.{Scene}
use Rattle.play_base.specs.Scenes.{HasOneOrder, IsOfSceneIn, place_of}
use Rattle.one_thread.specs.Stages.{IsAfterLineIn}
use Rattle.play_base.specs.Putting.{HasPut, SeesIn}

-- The line of phase k is over: port, putter and line before and after it.
pub record PlaysLineIn (HasOrder : Scene → List PlainEntry → Type 0) (s : Scene) (k : ℕ) (old new : PortValue)
    (now : PutterState Flagged) (line played : LineState) (run : ℕ) : Type 0 where
  pub after_line : IsAfterLineIn HasOrder s new run
  pub phase : new.terminal.phase ≡ k
  pub flushes : List PlainEntry
  pub last : PlainEntry
  pub added : new.journal ≡ old.journal ++ (flushes ++ last ∷ [])
  pub leads : Leads (call_at s.port s.session) (counts_on s.port s.session) old.terminal (flushes ++ last ∷ [])
      new.terminal
  -- up to the end of a line each entry is in its turn in the order of one thread, whatever the order is behind it
  pub in_turn : AreInTurn s.port s.session (place_of s old.journal) (flushes ++ last ∷ [])
  pub inside : session_events_in flushes ≡ []
  pub no_end : line_ends_in flushes ≡ []
  pub kept : new.kept ≡ old.kept
  pub ends : last.event ≡ line_ended (length now.sent)
  pub tick : new.terminal.tick ≡ old.terminal.tick
  pub sent : new.terminal.sent ≡ length now.sent
  pub has_put : HasPut new now played (script_of_first s.port s.session (k + 1))
  pub ring : new.flip.ring ≡ old.flip.ring
  pub capacity : new.flip.capacity ≡ old.flip.capacity
  pub most : played.most ≡ line.most
  -- each overrun of this line has seen all that was taken before the line's end
  pub overruns : List Overrun
  pub more_overruns : played.report.overruns.items ≡ line.report.overruns.items ++ overruns
  pub seen : All (SeesIn s k (length (chars_of (old.journal ++ flushes)))) overruns

abbrev pub PlaysLine : Scene → (k : ℕ) → (old new : PortValue) → (now : PutterState Flagged) → (line played : LineState)
    → (run : ℕ)
    → Type 0
PlaysLine s k old new now line played run = PlaysLineIn HasOneOrder s k old new now line played run

-- The journal is full in the line of phase k.
pub record StopsInLineIn (HasOrder : Scene → List PlainEntry → Type 0) (s : Scene) (k : ℕ) (old new : PortValue)
    (now : PutterState Flagged) (played : LineState) : Type 0 where
  pub of_scene : IsOfSceneIn HasOrder s new
  pub part : List PlainEntry
  pub added : new.journal ≡ old.journal ++ part
  pub leads : Leads (call_at s.port s.session) (counts_on s.port s.session) old.terminal part new.terminal
  pub in_turn : AreInTurn s.port s.session (place_of s old.journal) part
  pub inside : session_events_in part ≡ []
  pub no_end : line_ends_in part ≡ []
  pub line_over : new.terminal.line_over ≡ false
  pub kept : new.kept ≡ old.kept
  pub tick : new.terminal.tick ≡ old.terminal.tick
  pub full : length new.journal ≡ MOST_ENTRIES
  pub ring : new.flip.ring ≡ old.flip.ring
  pub capacity : new.flip.capacity ≡ old.flip.capacity
  -- the line has done these of its steps
  pub steps : List LineStep
  pub left : List LineStep
  pub script : script_of_first s.port s.session (k + 1) ≡ steps ++ left
  pub has_put : HasPut new now played steps

abbrev pub StopsLineIn : (HasOrder : Scene → List PlainEntry → Type 0) → Denied → Scene → ℕ → PortValue → PortValue
    → PutterState Flagged → LineState
    → Type 0
StopsLineIn HasOrder NoMemory s k old new now played = Unit {0}
StopsLineIn HasOrder Full s k old new now played = StopsInLineIn HasOrder s k old new now played

abbrev pub StopsLine : Denied → Scene → ℕ → PortValue → PortValue → PutterState Flagged → LineState → Type 0
StopsLine d s k old new now played = StopsLineIn HasOneOrder d s k old new now played
