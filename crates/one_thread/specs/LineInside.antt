-- What holds between two steps of the line of a phase.
use Rattle.std.specs.Prelude.{◌≡◌, ◌⊎◌, ◌≤◌, ◌<◌, ◌+◌, ◌-◌, min, ℕ, List, []}
use Rattle.std.specs.Prelude.{◌++◌, true, false, All, Result, MatchResult, length, reverse, take}
use Rattle.tty_base.specs.Sizes.{LEAST_FLIP, PIECE}
use mathlib.Core.List.{IsPrefix}
use Rattle.tty_base.specs.declared.characters.Flagged.{Flagged}
use Rattle.tty_base.specs.declared.lines.LineStep.{LineStep}
use Rattle.tty_base.specs.declared.lines.Overrun.{Overrun}
use Rattle.tty_base.specs.Lines.{arrival_count}
use Rattle.word_ring.specs.Ends.{PutterState}
use Rattle.uart_line.specs.LineState.{LineState}
use Rattle.uart_line.specs.Received.{received_list, closed_script}
use Rattle.tty_calls.specs.declared.answers.Denied.{Denied}
use Rattle.tty_calls.specs.Plain.{PlainEntry}
use Rattle.tty_calls.specs.Sessions.{line_on, call_at, counts_on}
use Rattle.tty_terminal.specs.Runs.{Leads}
use Rattle.legal_runs.specs.Legal.{phase_at, script_of_first, session_events_in, line_ends_in, received_before}
use Rattle.port_core.specs.declared.ports.flushing.Flushed.{Flushed}
use Rattle.port_core.specs.declared.ports.flushing.Flushed.TheVariants.{Took, Nothing}
use Rattle.port_core.specs.Flips.{MeetsTaker, after_meeting}
use Rattle.port_core.specs.Flushes.{Flushes}
use Rattle.port_core.specs.Ports.{PortValue, IsPort, Denies, is_stuck}
use Rattle.legal_runs.specs.Order.{cuts_after, AreInTurn}
use Rattle.play_base.specs.Roles.{Scene}
use Rattle.play_base.specs.Scenes.{HasAnyOrder, IsOfSceneIn, AreAtFirst, BeginsRun, place_of}
use Rattle.play_base.specs.Putting.{HasPut, KnowsTaken, SeesFrom}
use Rattle.one_thread.specs.Lines.{StopsLineIn}
use Rattle.one_thread.specs.declared.line.Passed.{Passed}

-- where the line of a phase began: the scene and the phase, and the port and the line as they were then
pub record LineStart : Type 0 where
  pub scene : Scene
  pub phase : ℕ
  pub port : PortValue
  pub line : LineState

-- the line's steps in the phases before, and in this one
abbrev pub steps_before : LineStart → List LineStep
steps_before b = script_of_first b.scene.port b.scene.session b.phase

abbrev pub steps_of : LineStart → List LineStep
steps_of b = closed_script (line_on b.scene.port (phase_at b.scene.session b.phase))

-- The line has done these steps of the phase, and nothing but flushes stands in the journal since it began.
pub record IsInLine (b : LineStart) (v : PortValue) (putter : PutterState Flagged) (line : LineState)
    (steps : List LineStep) : Type 0 where
  pub of_scene : IsOfSceneIn HasAnyOrder b.scene v
  pub within : b.phase < length b.scene.session.phases
  pub phase : v.terminal.phase ≡ b.phase
  pub line_over : v.terminal.line_over ≡ false
  pub clock_over : v.terminal.clock_over ≡ false
  pub callers : AreAtFirst b.scene b.phase v.terminal
  pub flushes : List PlainEntry
  pub added : v.journal ≡ b.port.journal ++ flushes
  pub leads : Leads (call_at b.scene.port b.scene.session) (counts_on b.scene.port b.scene.session)
      b.port.terminal flushes v.terminal
  pub in_turn : AreInTurn b.scene.port b.scene.session (place_of b.scene b.port.journal) flushes
  pub inside : session_events_in flushes ≡ []
  pub no_end : line_ends_in flushes ≡ []
  pub kept : v.kept ≡ b.port.kept
  pub tick : v.terminal.tick ≡ b.port.terminal.tick
  pub sent : v.terminal.sent ≤ length putter.sent
  pub ring : v.flip.ring ≡ b.port.flip.ring
  pub capacity : v.flip.capacity ≡ b.port.flip.capacity
  pub some_room : LEAST_FLIP ≤ v.flip.capacity
  pub has_put : HasPut v putter line (steps_before b ++ steps)
  pub most : line.most ≡ b.line.most
  pub arrived : line.report.arrived ≡ b.line.report.arrived + arrival_count steps

-- all that was put is taken, each cut of the steps was flushed, and none of their characters was refused
pub record HasFlushedAll (b : LineStart) (v : PortValue) (putter : PutterState Flagged) (steps : List LineStep)
    (overruns : List Overrun) : Type 0 where
  pub all : v.flip.taken ≡ putter.sent
  pub cuts : (place_of b.scene v.journal).cuts ≡ length (cuts_after (reverse (steps_before b)) steps)
  pub none : overruns ≡ []

pub record IsBetweenSteps (b : LineStart) (v : PortValue) (putter : PutterState Flagged) (line : LineState)
    (steps : List LineStep) (run : ℕ) : Type 0 where
  pub in_line : IsInLine b v putter line steps
  pub begins_run : BeginsRun run v
  pub knows : KnowsTaken (length v.flip.taken) putter.heads
  pub begins : IsPrefix v.flip.taken putter.sent
  -- the overruns of this line so far
  pub overruns : List Overrun
  pub more_overruns : line.report.overruns.items ≡ b.line.report.overruns.items ++ overruns
  pub floor : received_before b.scene.port b.scene.session b.phase ≤ length (received_list (steps_before b ++ steps))
  pub seen : All (SeesFrom (received_before b.scene.port b.scene.session b.phase)
      (length (received_list (steps_before b ++ steps))) (length v.flip.taken)) overruns
  -- the port takes all at each cut; or it is closed to input, and takes no more up to the line's end
  pub open_or_stuck : HasFlushedAll b v putter steps overruns ⊎ (is_stuck v.terminal ≡ true)

-- ---- the flush at a cut

-- the number of the flush run after one that came to this
abbrev pub run_after : ℕ → Flushed → ℕ
run_after run (Took n) = run + 1
run_after run Nothing = run

-- all that was put is pushed
abbrev pub with_all_pushed : PutterState Flagged → PutterState Flagged
with_all_pushed putter = record putter { pushed = putter.sent }

-- the end that takes out was told of all that was put, one piece was asked for, and both ends met
pub record FlushesCut (old new : PortValue) (putter now : PutterState Flagged) (run most next : ℕ) : Type 0 where
  pub port : IsPort old
  pub taken : old.terminal.taken ≡ length old.flip.taken
  pub met : PutterState Flagged
  pub hears : met ≡ with_all_pushed putter
  pub left : PortValue
  pub flushed : Flushed
  pub flushes : Flushes (record old { flip = after_meeting old.flip putter }) left run 0 most flushed
  pub next_is : next ≡ run_after run flushed
  pub new_is : new ≡ record left { flip = after_meeting left.flip met }
  pub meets : MeetsTaker left.flip met now

-- the end that takes out was told of all that was put, and the piece was denied
pub record DeniesCut (d : Denied) (old new : PortValue) (putter now : PutterState Flagged) : Type 0 where
  pub hears : now ≡ with_all_pushed putter
  pub denies : Denies d (record old { flip = after_meeting old.flip putter }) new

-- what was put since so many were put is flushed, a piece of it at most; where that is nothing, all stays
pub record FlushesSince (before : ℕ) (old new : PortValue) (putter now : PutterState Flagged)
    (run next : ℕ) : Type 0 where
  pub none : length putter.sent ≤ before → (new ≡ old) × (now ≡ putter) × (next ≡ run)
  pub some : before < length putter.sent
      → FlushesCut old new putter now run (min (length putter.sent - before) PIECE) next

-- ---- some steps of a line

-- port, putter and line between two steps
pub record LineAt : Type 0 where
  pub port : PortValue
  pub putter : PutterState Flagged
  pub line : LineState

abbrev pub line_at : PortValue → PutterState Flagged → LineState → LineAt
line_at port putter line = record { port = port; putter = putter; line = line }

abbrev pub IsLineBetween : LineStart → LineAt → List LineStep → (run : ℕ) → Type 0
IsLineBetween b at done run = IsBetweenSteps b at.port at.putter at.line done run

-- Wherever a line is between two steps and these are its next ones, it does them, and is between two steps again.
pub record PlaysSteps (steps : List LineStep) (old new : LineAt) (run next : ℕ) : Type 0 where
  pub each : (b : LineStart) (done left : List LineStep) → steps_of b ≡ done ++ (steps ++ left)
      → IsLineBetween b old done run → IsLineBetween b new (done ++ steps) next

-- Wherever a line is between two steps and these are its next ones, it stops in them.
pub record StopsSteps (d : Denied) (steps : List LineStep) (old new : LineAt) (run : ℕ) : Type 0 where
  pub each : (b : LineStart) (done left : List LineStep) → steps_of b ≡ done ++ (steps ++ left)
      → IsLineBetween b old done run
      → StopsLineIn HasAnyOrder d b.scene b.phase b.port new.port new.putter new.line

-- it does them, or stops in them
abbrev pub DoesSteps : List LineStep → (old new : LineAt) → (run : ℕ) → Result ℕ Denied → Type 0
DoesSteps steps old new run result =
    MatchResult result (λ next. PlaysSteps steps old new run next) (λ d. StopsSteps d steps old new run)

-- it does the first of them, or stops in them
abbrev pub DoesFirstSteps : List LineStep → (old new : LineAt) → (run : ℕ) → Result Passed Denied → Type 0
DoesFirstSteps steps old new run result =
    MatchResult result (λ passed. PlaysSteps (take passed.steps steps) old new run passed.run)
    (λ d. StopsSteps d steps old new run)

-- Some line is between two steps and these are its next ones, with room for what arrives in them.
pub record StandsBefore (steps : List LineStep) (at : LineAt) (run : ℕ) : Type 0 where
  pub b : LineStart
  pub done : List LineStep
  pub left : List LineStep
  pub script : steps_of b ≡ done ++ (steps ++ left)
  pub between : IsLineBetween b at done run
  pub room : at.line.report.arrived + arrival_count steps ≤ at.line.most
