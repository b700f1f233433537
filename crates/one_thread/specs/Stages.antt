-- Where the player stands once the line of a phase is over, and what comes after it.
use Rattle.std.specs.Prelude.{◌≡◌, ◌≤◌, ◌<◌, ◌+◌, ℕ, List, [], ◌∷◌, ◌++◌, true, false, length}
use mathlib.Core.List.{IsPrefix}
use Rattle.tty_base.specs.declared.characters.Flagged.{Flagged}
use Rattle.word_ring.specs.Ends.{PutterState, with_loaded}
use Rattle.tty_calls.specs.declared.journals.Who.{Who}
use Rattle.tty_calls.specs.declared.journals.Who.TheVariants.{Session}
use Rattle.tty_calls.specs.declared.answers.Denied.{Denied}
use Rattle.tty_calls.specs.declared.answers.Denied.TheVariants.{NoMemory, Full}
use Rattle.tty_calls.specs.Plain.{PlainEntry, phase_ended}
use Rattle.tty_calls.specs.Sessions.{scripts_on, ticks_on, call_at, counts_on}
use Rattle.tty_terminal.specs.Terminals.{Terminal, caller_at}
use Rattle.tty_terminal.specs.Steps.{next_phase, nothing_to_flush}
use Rattle.tty_terminal.specs.Runs.{Leads}
use Rattle.legal_runs.specs.Legal.{phase_at, name_at, has_script, first_step, steps_in, session_events_in}
use Rattle.legal_runs.specs.Phases.{HasPlayed}
use Rattle.port_core.specs.Ports.{PortValue}
use Rattle.legal_runs.specs.Order.{turn_after, is_after_flush}
use Rattle.play_base.specs.Roles.{Scene}
use Rattle.play_base.specs.Scenes.{place_of, HasOneOrder, IsOfSceneIn, IsOfScene, AreAtFirst, BeginsRun}

-- ---- once the line of a phase is over

pub record IsAfterLineIn (HasOrder : Scene → List PlainEntry → Type 0) (s : Scene) (v : PortValue)
    (run : ℕ) : Type 0 where
  pub of_scene : IsOfSceneIn HasOrder s v
  pub within : v.terminal.phase < length s.session.phases
  pub line : v.terminal.line_over ≡ true
  pub clock : v.terminal.clock_over ≡ false
  pub callers : AreAtFirst s v.terminal.phase v.terminal
  pub begins_run : BeginsRun run v
  -- the entry before is the line's end
  pub no_part : (other : Who) → turn_after (place_of s v.journal).before other ≡ other
  pub no_flush : is_after_flush (place_of s v.journal).before ≡ false

abbrev pub IsAfterLine : Scene → PortValue → (run : ℕ) → Type 0
IsAfterLine s v run = IsAfterLineIn HasOneOrder s v run

-- What comes after the line of a phase: flushes, callers and clock, up to the end of the phase.
pub record EndsAfterLineIn (HasOrder : Scene → List PlainEntry → Type 0) (s : Scene) (old new : PortValue)
    (putter now : PutterState Flagged) (run : ℕ) : Type 0 where
  pub part : List PlainEntry
  pub last : PlainEntry
  pub terminal : Terminal
  pub added : new.journal ≡ old.journal ++ (part ++ last ∷ [])
  pub leads : Leads (call_at s.port s.session) (counts_on s.port s.session) old.terminal part terminal
  pub inside : session_events_in part ≡ []
  pub who : last.who ≡ Session
  pub ends : last.event ≡ phase_ended
  pub next : new.terminal ≡ next_phase terminal
  -- the phase is complete
  pub line : terminal.line_over ≡ true
  pub sent : terminal.sent ≡ old.terminal.sent
  pub clock : terminal.clock_over ≡ true
  pub tick : terminal.tick ≡ old.terminal.tick + ticks_on s.port (phase_at s.session old.terminal.phase)
  pub callers : (c : ℕ)
      → HasPlayed (has_script (scripts_on s.port (phase_at s.session old.terminal.phase)) (name_at s.port s.session c))
      (first_step s.port s.session old.terminal.phase c) (steps_in s.port s.session old.terminal.phase c)
      (caller_at terminal c).next (caller_at terminal c).over
  pub of_scene : IsOfSceneIn HasOrder s new
  pub at_first : AreAtFirst s (old.terminal.phase + 1) new.terminal
  pub rest : nothing_to_flush new.terminal ≡ true
  pub begins_run : BeginsRun run new
  -- both ends of the flip buffer met at the phase's end
  pub met : now ≡ with_loaded (record putter { pushed = putter.sent }) (length new.flip.taken)
  pub begins : IsPrefix new.flip.taken putter.sent
  pub ring : new.flip.ring ≡ old.flip.ring

abbrev pub EndsAfterLine : Scene → (old new : PortValue) → (putter now : PutterState Flagged) → (run : ℕ) → Type 0
EndsAfterLine s old new putter now run = EndsAfterLineIn HasOneOrder s old new putter now run

-- a journal that takes no further entry
abbrev pub IsFullAt : Denied → PortValue → Type 0
IsFullAt Full v = length v.journal ≡ v.limit
IsFullAt NoMemory v = Unit {0}

-- What comes after the line of a phase, as far as it went.
pub record StopsAfterLine (s : Scene) (old new : PortValue) (d : Denied) : Type 0 where
  pub part : List PlainEntry
  pub added : new.journal ≡ old.journal ++ part
  pub leads : Leads (call_at s.port s.session) (counts_on s.port s.session) old.terminal part new.terminal
  pub inside : session_events_in part ≡ []
  pub ticks : new.terminal.tick ≤ old.terminal.tick + ticks_on s.port (phase_at s.session old.terminal.phase)
  pub of_scene : IsOfScene s new
  pub full : IsFullAt d new
  pub ring : new.flip.ring ≡ old.flip.ring
