-- How far the playing of a port has come, phase by phase.
use Rattle.std.specs.Prelude.{◌≡◌, ◌⊎◌, ◌≤◌, ◌<◌, ◌+◌, ℕ, List, [], ◌∷◌, ◌++◌}
use Rattle.std.specs.Prelude.{All, if◌then◌else◌, Some, length, drop, slice_get}
use Rattle.tty_base.specs.Sizes.{MOST_ENTRIES}
use Rattle.tty_base.specs.declared.characters.Flagged.{Flagged}
use Rattle.tty_base.specs.declared.lines.LineStep.{LineStep}
use Rattle.tty_base.specs.declared.lines.Overrun.{Overrun}
use Rattle.word_ring.specs.Ends.{PutterState}
use Rattle.uart_line.specs.LineState.{LineState}
use Rattle.tty_calls.specs.declared.answers.PortEnd.{PortEnd}
use Rattle.tty_calls.specs.declared.journals.PortRun.{PortRun}
use Rattle.tty_calls.specs.declared.answers.Denied.{Denied}
use Rattle.tty_calls.specs.declared.answers.Denied.TheVariants.{NoMemory, Full}
use Rattle.tty_calls.specs.Plain.{PlainEntry, phase_ended}
use Rattle.tty_calls.specs.Sessions.{PlainSession, ticks_on, call_at, counts_on}
use Rattle.legal_runs.specs.Legal.{phase_at, script_of_first, script_on, received_before, is_phase_end, IsFinishedFrom}
use Rattle.legal_runs.specs.Legal.{IsFinished, AreSeen, AreInPhases, flip_on}
use Rattle.legal_runs.specs.Short.{tick_count_in, after_phases}
use Rattle.tty_terminal.specs.Runs.{IsRun}
use Rattle.port_core.specs.Ports.{PortValue, IsPort, call_in}
use Rattle.play_base.specs.Played.{IsEndOf, IsPlayedOn}
use Rattle.play_base.specs.declared.stations.Station.{Station}
use Rattle.legal_runs.specs.Order.{AreInTurn, AllSeeAll}
use Rattle.play_base.specs.Roles.{Scene, AreFirstSteps}
use Rattle.play_base.specs.Scenes.{place_of, IsOfScene}
use Rattle.play_base.specs.Putting.{HasPut}
use Rattle.play_base.specs.Beginning.{IsAtPhase}

-- how many phases end in a journal
abbrev pub phase_count : List PlainEntry → ℕ
phase_count [] = 0
phase_count (e ∷ es) = (if is_phase_end e.event then 1 else 0) + phase_count es

-- a journal up to the beginning of phase k: the last entry is the end of the phase before, where there is one
pub record ComesTo (k : ℕ) (before : List PlainEntry) (last : PlainEntry) (journal : List PlainEntry) : Type 0 where
  pub parts : journal ≡ before ++ last ∷ []
  pub ends : last.event ≡ phase_ended
  pub count : phase_count before + 1 ≡ k

abbrev pub IsUpTo : ℕ → List PlainEntry → Type 0
IsUpTo k journal =
    ((k ≡ 0) × (journal ≡ [])) ⊎ ((before : List PlainEntry) × (last : PlainEntry) × ComesTo k before last journal)

-- no phase has more ticks than the session says
abbrev pub HasFewTicks : Scene → List PlainEntry → Type 0
HasFewTicks s journal = (j : ℕ) → tick_count_in j 0 journal ≤ ticks_on s.port (phase_at s.session j)

-- an overrun in the line of phase k that has seen at least so many characters taken, and at most so many
pub record SeesWithin (s : Scene) (k least most : ℕ) (o : Overrun) : Type 0 where
  pub from : received_before s.port s.session k ≤ o.at
  pub below : o.at < received_before s.port s.session (k + 1)
  pub sees_least : least ≤ o.seen
  pub sees_most : o.seen ≤ most

-- The phases before phase k were played: whatever follows of journal and overruns, their entries are finished parts,
-- and their overruns are seen.
pub record HavePlayed (s : Scene) (k : ℕ) (journal : List PlainEntry) (overruns : List Overrun) : Type 0 where
  pub up_to : IsUpTo k journal
  pub ticks : HasFewTicks s journal
  pub finished : (more : List Overrun) (rest : List PlainEntry)
      → All (λ o. received_before s.port s.session k ≤ o.at) more
      → IsFinishedFrom s.port s.session (overruns ++ more) k (drop k s.session.phases) rest
      → IsFinished s.port s.session (overruns ++ more) (journal ++ rest)
  pub seen : (rest : List PlainEntry) → AreSeen s.port s.session (journal ++ rest) overruns

-- each overrun has seen all that was taken before its line's end, whatever follows
abbrev pub HaveSeenAll : Scene → List PlainEntry → List Overrun → Type 0
HaveSeenAll s journal overruns = (rest : List PlainEntry) → AllSeeAll s.port s.session (journal ++ rest) overruns

pub record HavePlayedInOrder (s : Scene) (k : ℕ) (journal : List PlainEntry) (overruns : List Overrun) : Type 0 where
  pub played : HavePlayed s k journal overruns
  pub see_all : HaveSeenAll s journal overruns

-- a port, the putting end of its flip buffer, its line, and the next steps of its callers at the beginning of phase k
pub record IsBeforePhase (s : Scene) (k : ℕ) (station : Station) (run : ℕ) : Type 0 where
  pub at_phase : IsAtPhase s k station.port station.putter station.line run
  pub steps : AreFirstSteps s k station.steps.items
  pub played : HavePlayedInOrder s k station.port.journal station.line.report.overruns.items

-- A port of the scene: as a run of the calls that it keeps, its journal is also one of the session's calls.
pub record IsPortOf (s : Scene) (v : PortValue) : Type 0 where
  pub counts : v.counts ≡ counts_on s.port s.session
  pub capacity : v.flip.capacity ≡ flip_on s.port s.session
  pub limit : v.limit ≡ MOST_ENTRIES
  pub calls : (capacity : ℕ)
      → IsRun (call_in v.kept) v.counts capacity v.journal v.terminal
      → IsRun (call_at s.port s.session) v.counts capacity v.journal v.terminal
  pub in_phases : AreInPhases s.port s.session 0 v.journal

-- a journal that is full: a run of the session as far as it went
pub record IsFullRun (s : Scene) (v : PortValue) (putter : PutterState Flagged) (line : LineState) : Type 0 where
  pub full : length v.journal ≡ MOST_ENTRIES
  pub ticks : HasFewTicks s v.journal
  pub last : after_phases (length s.session.phases) v.journal ≡ []
  -- the line has done these of its steps
  pub done : List LineStep
  pub left : List LineStep
  pub script_is : script_on s.port s.session ≡ done ++ left
  pub has_put : HasPut v putter line done

-- a port whose phases were played
pub record IsAtEnd (s : Scene) (v : PortValue) (putter : PutterState Flagged) (line : LineState) : Type 0 where
  pub port_of : IsPortOf s v
  pub has_put : HasPut v putter line (script_of_first s.port s.session (length s.session.phases))
  pub played : HavePlayed s (length s.session.phases) v.journal line.report.overruns.items

-- memory was wanting, or the journal is full
abbrev pub StopsFull : Denied → Scene → PortValue → PutterState Flagged → LineState → Type 0
StopsFull NoMemory s v putter line = Unit {0}
StopsFull Full s v putter line = IsOfScene s v × IsFullRun s v putter line

abbrev pub IsStopped : Denied → Scene → Station → Type 0
IsStopped d s station = StopsFull d s station.port station.putter station.line

-- what is left of a port and its line
pub record IsLeftOf (v : PortValue) (line : LineState) (run : PortRun) (end : PortEnd) : Type 0 where
  pub port : IsPort v
  pub journal : run.journal.items ≡ v.journal
  pub at_end : IsEndOf v.terminal end
  pub report : run.line ≡ line.report

-- a run whose journal is this one with the hangup that ends it, in its turn in the order of one thread, or as it was
-- where it is full; and with these overruns
pub record EndsRun (s : Scene) (journal : List PlainEntry) (overruns : List Overrun) (run : PortRun) : Type 0 where
  pub part : List PlainEntry
  pub added : run.journal.items ≡ journal ++ part
  pub in_turn : AreInTurn s.port s.session (place_of s journal) part
  pub overruns_are : run.line.overruns.items ≡ overruns

-- the first ports of the session were played
pub record AreFirstPlayed (session : PlainSession) (count : ℕ) (runs : List PortRun)
    (ends : List PortEnd) : Type 0 where
  pub runs_of : length runs ≡ count
  pub ends_of : length ends ≡ count
  pub each : (p : ℕ) (run : PortRun) (end : PortEnd)
      → slice_get runs p ≡ Some run
      → slice_get ends p ≡ Some end
      → IsPlayedOn p session run end
