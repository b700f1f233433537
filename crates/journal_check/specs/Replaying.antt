-- What is kept of a journal while it is replayed.
use Rattle.std.specs.Prelude.{◌≡◌, ℕ, ◌*◌, ◌^◌, ◌<◌, ◌≤◌, true, false, List}
use Rattle.std.specs.Prelude.{◌∷◌, ◌++◌, Option, None, Some, is_some, length}
use Rattle.tty_base.specs.Sizes.{COLUMNS_OF_ENTRY}
use Rattle.tty_calls.specs.declared.journals.Who.{Who}
use Rattle.tty_calls.specs.declared.journals.Who.TheVariants.{Caller, Flusher, Line, Clock, Session}
use Rattle.tty_calls.specs.Plain.{PlainEvent, answered, parted, waited, flushed, ticked, line_ended}
use Rattle.tty_calls.specs.Plain.{clock_ended, caller_ended, phase_ended, hung_up, PlainEntry}
use Rattle.tty_calls.specs.Sessions.{PlainSession, scripts_over, names_of, counts_on}
use Rattle.ldisc_switch.specs.Disciplines.{column_in}
use Rattle.tty_terminal.specs.declared.callers.Piece.{Piece}
use Rattle.tty_terminal.specs.Terminals.{Terminal, caller_at}
use Rattle.tty_terminal.specs.Runs.{is_flush, RunHas, OneGeneration}
use Rattle.journal_check.specs.declared.replay.Replay.{Replay}
use Rattle.legal_runs.specs.Legal.{flip_on}
use Rattle.journal_check.specs.Verdicts.{AreFineTo}
use Rattle.journal_check.specs.WellFormed.{IsWellFormed}
use Rattle.journal_check.specs.Trying.{IsSmall}
use Rattle.journal_check.specs.Scripts.{AreTurns}

-- a piece of this flush run is among these entries, in this generation
pub record HasPiece (es : List PlainEntry) (run generation : ℕ) : Type 0 where
  pub before : List PlainEntry
  pub piece : PlainEntry
  pub later : List PlainEntry
  pub parts : es ≡ before ++ piece ∷ later
  pub is_piece : is_flush piece.event ≡ true
  pub of_run : piece.step ≡ run
  pub in_generation : piece.generation ≡ generation

-- the generation of the latest flush run among these entries
abbrev pub IsLatestRunOf : List PlainEntry → Option Piece → ℕ → Type 0
IsLatestRunOf es None generation = Unit {0}
IsLatestRunOf es (Some piece) generation = RunHas piece.run generation es × HasPiece es piece.run generation

-- a call of which a part was taken, and which has not waited since, goes on in the generation of its parts
abbrev pub CallStays : Terminal → Who → ℕ → Type 0
CallStays t (Caller c) generation =
    0 < (caller_at t c).parts → is_some (caller_at t c).waits ≡ false → (caller_at t c).generation ≡ generation
CallStays t Flusher generation = Unit {0}
CallStays t Line generation = Unit {0}
CallStays t Clock generation = Unit {0}
CallStays t Session generation = Unit {0}

-- an entry stays in the generation of its call, or of the latest flush run, which is `latest`
abbrev pub Stays : Terminal → (latest : ℕ) → Who → (part generation : ℕ) → PlainEvent → Type 0
Stays t latest who part generation (answered a dropped) = CallStays t who generation
Stays t latest who part generation (parted taken) = CallStays t who generation
Stays t latest who part generation waited = CallStays t who generation
Stays t latest who part generation (flushed chars) = 0 < part → latest ≡ generation
Stays t latest who part generation ticked = Unit {0}
Stays t latest who part generation (line_ended n) = Unit {0}
Stays t latest who part generation clock_ended = Unit {0}
Stays t latest who part generation caller_ended = Unit {0}
Stays t latest who part generation phase_ended = Unit {0}
Stays t latest who part generation (hung_up dropped) = Unit {0}

abbrev pub latest_after : PlainEvent → (generation latest : ℕ) → ℕ
latest_after (answered a dropped) generation latest = latest
latest_after (parted taken) generation latest = latest
latest_after waited generation latest = latest
latest_after (flushed chars) generation latest = generation
latest_after ticked generation latest = latest
latest_after (line_ended n) generation latest = latest
latest_after clock_ended generation latest = latest
latest_after caller_ended generation latest = latest
latest_after phase_ended generation latest = latest
latest_after (hung_up dropped) generation latest = latest

-- what an entry needs to be judged
pub record CanBeJudged (p : ℕ) (session : PlainSession) (r : Replay) : Type 0 where
  pub formed : IsWellFormed session
  pub small : IsSmall r.terminal.terminal
  pub turns : AreTurns p session r.terminal.terminal.phase r.turns.items
  pub names : r.names ≡ names_of (scripts_over p session.phases)
  pub counts : r.counts.items ≡ counts_on p session
  pub many : length r.turns.items ≡ length r.terminal.terminal.callers

-- these entries are fine, and have led here
pub record Follows (p : ℕ) (session : PlainSession) (before : List PlainEntry) (r : Replay) : Type 0 where
  pub fine : AreFineTo p session before r.terminal.terminal
  pub one : OneGeneration before
  pub run : IsLatestRunOf before r.terminal.terminal.flushed r.latest
  pub turns : AreTurns p session r.terminal.terminal.phase r.turns.items
  pub names : r.names ≡ names_of (scripts_over p session.phases)
  pub counts : r.counts.items ≡ counts_on p session
  pub many : length r.turns.items ≡ length r.terminal.terminal.callers
  pub column : column_in r.terminal.terminal.disc ≤ COLUMNS_OF_ENTRY * length before
  pub flip : flip_on p session < 2 ^ 32
