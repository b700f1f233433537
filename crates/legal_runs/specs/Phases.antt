-- A phase of a session, by the terminals at its two ends.
use Rattle.std.specs.Prelude.{◌≡◌, ℕ, ◌+◌, Bool, true, false, List}
use Rattle.tty_base.specs.declared.lines.Overrun.{Overrun}
use Rattle.tty_calls.specs.Sessions.{PlainSession, ticks_on, scripts_on}
use Rattle.tty_terminal.specs.Terminals.{Terminal, caller_at}
use Rattle.legal_runs.specs.Legal.{phase_at, name_at, has_script, first_step, steps_in, sent_by}

-- the terminal at the beginning of a phase: nothing of it is over
pub record BeginsPhase (t : Terminal) : Type 0 where
  pub line : t.line_over ≡ false
  pub clock : t.clock_over ≡ false
  pub callers : (c : ℕ) → (caller_at t c).over ≡ false

-- A caller between the beginning and the end of phase k: one of the phase has made its calls of the phase, and is
-- over; another has made none.
abbrev pub HasPlayed : (is_of_phase : Bool) → (first count next : ℕ) → (over : Bool) → Type 0
HasPlayed true first count next over = (next ≡ first + count) × (over ≡ true)
HasPlayed false first count next over = (next ≡ first) × (over ≡ false)

-- the terminal at the end of phase k of a session
pub record CompletesPhase (p : ℕ) (session : PlainSession) (overruns : List Overrun) (k : ℕ)
    (t u : Terminal) : Type 0 where
  pub line : u.line_over ≡ true
  pub sent : u.sent ≡ sent_by p session overruns k
  pub clock : u.clock_over ≡ true
  pub tick : u.tick ≡ t.tick + ticks_on p (phase_at session k)
  pub first : (c : ℕ) → (caller_at t c).next ≡ first_step p session k c
  pub callers : (c : ℕ)
      → HasPlayed (has_script (scripts_on p (phase_at session k)) (name_at p session c)) (first_step p session k c)
      (steps_in p session k c) (caller_at u c).next (caller_at u c).over
