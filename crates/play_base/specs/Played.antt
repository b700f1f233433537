-- What playing a session comes to.
use Rattle.std.specs.Prelude.{◌≡◌, ◌≢◌, ◌≤◌, ℕ, List, Some, length, slice_get}
use Rattle.tty_base.specs.Sizes.{MOST_ENTRIES}
use Rattle.tty_calls.specs.declared.answers.PortEnd.{PortEnd}
use Rattle.tty_calls.specs.declared.journals.PortRun.{PortRun}
use Rattle.tty_calls.specs.Sessions.{PlainSession}
use Rattle.tty_terminal.specs.Terminals.{Terminal}
use Rattle.legal_runs.specs.Legal.{IsLegal}
use Rattle.legal_runs.specs.Short.{IsCutShort}
use Rattle.legal_runs.specs.Order.{first_place, AreInTurn, IsInOneOrder}

-- what a report prints of the end of a port that has come to this terminal
pub record IsEndOf (t : Terminal) (end : PortEnd) : Type 0 where
  pub counts : end.counts ≡ t.tally.counts
  pub signals : end.signals.items ≡ t.tally.signals.items
  pub generation : end.generation ≡ t.generation
  pub wire : end.wire.items ≡ t.output.wire

-- A port was played: its run is one of the session as far as it went, and leads to the terminal of its end. Unless
-- its journal is full it is legal.
pub record IsPlayedOn (p : ℕ) (session : PlainSession) (run : PortRun) (end : PortEnd) : Type 0 where
  pub terminal : Terminal
  pub at_end : IsEndOf terminal end
  pub few : length run.journal.items ≤ MOST_ENTRIES
  pub short : IsCutShort p session run terminal
  pub legal : length run.journal.items ≢ MOST_ENTRIES → IsLegal p session run terminal

-- each port of the session was played
pub record ArePlayed (session : PlainSession) (runs : List PortRun) (ends : List PortEnd) : Type 0 where
  pub runs_of_all : length runs ≡ session.ports
  pub ends_of_all : length ends ≡ session.ports
  pub each : (p : ℕ) (run : PortRun) (end : PortEnd)
      → slice_get runs p ≡ Some run
      → slice_get ends p ≡ Some end
      → IsPlayedOn p session run end

-- a run is in the order of one thread, where its journal is full as far as it went
pub record IsRunInOrder (p : ℕ) (session : PlainSession) (run : PortRun) : Type 0 where
  pub turns : AreInTurn p session (first_place p session) run.journal.items
  pub whole : length run.journal.items ≢ MOST_ENTRIES → IsInOneOrder p session run.journal.items run.line.overruns.items

abbrev pub AreInOneOrder : PlainSession → List PortRun → Type 0
AreInOneOrder session runs = (p : ℕ) (run : PortRun) → slice_get runs p ≡ Some run → IsRunInOrder p session run
