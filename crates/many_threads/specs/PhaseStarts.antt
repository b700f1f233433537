-- A port, the putting end of its flip buffer, and its line at the beginning of a phase.
use Rattle.std.specs.Prelude.{◌≡◌, ◌<◌, ◌≤◌, ◌+◌, ℕ, List, [], ◌∷◌, ◌++◌, false}
use Rattle.std.specs.Prelude.{IsTrue, Option, Some, All, length, sum, slice_get}
use Rattle.tty_base.specs.Sizes.{MOST_ENTRIES}
use Rattle.tty_base.specs.declared.characters.Flagged.{Flagged}
use Rattle.tty_base.specs.declared.lines.Overrun.{Overrun}
use Rattle.tty_base.specs.Lines.{is_step}
use Rattle.word_ring.specs.Ends.{PutterState}
use Rattle.uart_line.specs.LineState.{LineState}
use Rattle.tty_calls.specs.Plain.{PlainEntry, line_ended, phase_ended}
use Rattle.tty_calls.specs.Sessions.{call_at, counts_on, line_on, ticks_on}
use Rattle.tty_calls.specs.Limits.{character_count, IsWithinLimits}
use Rattle.tty_terminal.specs.Terminals.{Terminal, caller_at}
use Rattle.tty_terminal.specs.Standing.{Standing, standing_of}
use Rattle.tty_terminal.specs.Steps.{next_phase}
use Rattle.tty_terminal.specs.Runs.{Leads, AgreesOn, chars_of}
use Rattle.legal_runs.specs.Legal.{phase_at, IsCallerOf, first_step, script_of_first, session_events_in, line_ends_in}
use Rattle.legal_runs.specs.Legal.{received_before, AreInPhases, flip_on}
use Rattle.legal_runs.specs.Phases.{CompletesPhase}
use Rattle.port_core.specs.Ports.{PortValue, call_in}
use Rattle.play_base.specs.Roles.{Scene, PlainRole, IsRoleOf}
use Rattle.play_base.specs.Putting.{HasPut}
use Rattle.play_base.specs.Phases.{SeesWithin}
use Rattle.play_base.specs.declared.stations.Station.{Station}
use Rattle.tty_port.specs.Seen.{run_after}
use Rattle.many_threads.specs.declared.shared_phase.PhaseWork.{PhaseWork}
use Rattle.many_threads.specs.Callers.{plain_cast}

-- The port plays the scene: the calls of its entries are the session's, each in its phase.
pub record IsOfSession (s : Scene) (v : PortValue) : Type 0 where
  pub counts : v.counts ≡ counts_on s.port s.session
  pub capacity : v.flip.capacity ≡ flip_on s.port s.session
  pub limit : v.limit ≡ MOST_ENTRIES
  pub calls : AgreesOn (call_in v.kept) (call_at s.port s.session) v.journal
  pub in_phases : AreInPhases s.port s.session 0 v.journal

-- the roles of so many callers of the port in phase k, by number: each caller of the phase has its own
pub record IsCast (s : Scene) (k callers : ℕ) (rs : List (Option PlainRole)) : Type 0 where
  pub count : length rs ≡ callers
  pub roles : (c : ℕ) (r : PlainRole) → slice_get rs c ≡ Some (Some r) → IsRoleOf s k r × (r.number ≡ c)
  pub all : (c : ℕ) → IsCallerOf s.port s.session k c → (r : PlainRole) × (slice_get rs c ≡ Some (Some r))

-- a caller between two calls, whose calls of the phase are not over
pub record IsAtRest (next : ℕ) (q : Standing) : Type 0 where
  pub next_is : q.next ≡ next
  pub not_over : q.over ≡ false
  pub not_begun : q.begun ≡ false

pub record IsAtPhase (s : Scene) (k : ℕ) (v : PortValue) (putter : PutterState Flagged) (line : LineState)
    (run : ℕ) : Type 0 where
  pub of_session : IsOfSession s v
  pub phase : v.terminal.phase ≡ k
  pub line_over : v.terminal.line_over ≡ false
  pub clock_over : v.terminal.clock_over ≡ false
  pub callers : (c : ℕ) → IsAtRest (first_step s.port s.session k c) (standing_of (caller_at v.terminal c))
  pub next_run : run ≡ run_after v.terminal.flushed
  pub sent : v.terminal.sent ≡ length putter.sent
  pub has_put : HasPut v putter line (script_of_first s.port s.session k)
  pub most : character_count s.port s.session.phases ≤ line.most

-- the port of the scene stands at the beginning of a phase, and this is the work that the session has for it there
pub record CanPlayPhase (s : Scene) (station : Station) (work : PhaseWork) : Type 0 where
  pub limits : IsWithinLimits s.session
  pub within : work.phase < length s.session.phases
  pub at_phase : IsAtPhase s work.phase station.port station.putter station.line work.run
  pub steps : work.steps.now.items ≡ line_on s.port (phase_at s.session work.phase)
  pub good : All (λ step. IsTrue (is_step step)) work.steps.now.items
  pub ticks : work.ticks ≡ ticks_on s.port (phase_at s.session work.phase)
  pub roles : IsCast s work.phase (sum station.port.counts) (plain_cast work.scripts.now work.cast.now)

-- Phase k is over: the journal has gone on by a part and the end of the phase, to which the terminal u led. The line's
-- end stands in the part, after these entries; each overrun of the line has seen all that was taken before the phase,
-- and nothing that was taken after the line's end.
pub record PlaysPhase (s : Scene) (k : ℕ) (old new : PortValue) (now : PutterState Flagged)
    (line played : LineState) : Type 0 where
  pub front : List PlainEntry
  pub line_end : PlainEntry
  pub back : List PlainEntry
  pub last : PlainEntry
  pub terminal : Terminal
  pub added : new.journal ≡ old.journal ++ ((front ++ line_end ∷ back) ++ last ∷ [])
  pub leads : Leads (call_at s.port s.session) (counts_on s.port s.session) old.terminal (front ++ line_end ∷ back)
      terminal
  pub inside : session_events_in (front ++ line_end ∷ back) ≡ []
  pub ends : last.event ≡ phase_ended
  pub next : new.terminal ≡ next_phase terminal
  pub none : line_ends_in front ≡ []
  pub ends_line : line_end.event ≡ line_ended (length now.sent)
  pub overruns : List Overrun
  pub more_overruns : played.report.overruns.items ≡ line.report.overruns.items ++ overruns
  pub completes : (more : List Overrun)
      → All (λ o. received_before s.port s.session (k + 1) ≤ o.at) more
      → CompletesPhase s.port s.session (played.report.overruns.items ++ more) k old.terminal terminal
  pub seen : All (SeesWithin s k (length (chars_of old.journal)) (length (chars_of (old.journal ++ front)))) overruns

-- Phase k came to a full journal: the part that it made, as far as it went. The line has handed over all that it had
-- to.
pub record StopsPhase (s : Scene) (k : ℕ) (old new : PortValue) (now : PutterState Flagged)
    (line played : LineState) : Type 0 where
  pub of_session : IsOfSession s new
  pub part : List PlainEntry
  pub added : new.journal ≡ old.journal ++ part
  pub leads : Leads (call_at s.port s.session) (counts_on s.port s.session) old.terminal part new.terminal
  pub inside : session_events_in part ≡ []
  pub ticks : new.terminal.tick ≤ old.terminal.tick + ticks_on s.port (phase_at s.session k)
  pub full : length new.journal ≡ MOST_ENTRIES
  pub ring : new.flip.ring ≡ old.flip.ring
  pub capacity : new.flip.capacity ≡ old.flip.capacity
  pub has_put : HasPut new now played (script_of_first s.port s.session (k + 1))
  pub most : played.most ≡ line.most
