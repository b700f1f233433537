-- A run of a session as far as it went: what a journal meets that has no room for a further entry.
use Rattle.std.specs.Prelude.{◌≡◌, ◌⊎◌, ◌≤◌, ◌+◌, ◌==◌, ℕ, zero, suc, List, []}
use Rattle.std.specs.Prelude.{◌∷◌, Bool, true, false, ◌&&◌, if◌then◌else◌, length}
use mathlib.Core.List.{IsPrefix}
use Rattle.tty_calls.specs.declared.journals.PortRun.{PortRun}
use Rattle.tty_calls.specs.Plain.{PlainEvent, answered, parted, waited, flushed, ticked, line_ended}
use Rattle.tty_calls.specs.Plain.{clock_ended, caller_ended, phase_ended, hung_up, PlainEntry}
use Rattle.tty_calls.specs.Sessions.{PlainSession, ticks_on}
use Rattle.uart_line.specs.Received.{received_list}
use Rattle.uart_line.specs.Offered.{kept_list}
use Rattle.tty_terminal.specs.Terminals.{Terminal}
use Rattle.tty_terminal.specs.Runs.{chars_of, phase_after}
use Rattle.legal_runs.specs.Legal.{phase_at, script_on, is_phase_end, HangsUp, IsOnTheWay}

abbrev pub is_tick : PlainEvent → Bool
is_tick (answered a dropped) = false
is_tick (parted taken) = false
is_tick waited = false
is_tick (flushed chars) = false
is_tick ticked = true
is_tick (line_ended n) = false
is_tick clock_ended = false
is_tick caller_ended = false
is_tick phase_ended = false
is_tick (hung_up dropped) = false

-- how many ticks stand in this phase of a journal whose first entry is of phase k
abbrev pub tick_count_in : (phase k : ℕ) → List PlainEntry → ℕ
tick_count_in phase k [] = 0
tick_count_in phase k (e ∷ es) =
    (if is_tick e.event && (k == phase) then 1 else 0) + tick_count_in phase (phase_after e.event k) es

-- the entries after the ends of so many phases
abbrev pub after_phases : ℕ → List PlainEntry → List PlainEntry
after_phases k [] = []
after_phases zero (e ∷ es) = e ∷ es
after_phases (suc k) (e ∷ es) = if is_phase_end e.event then after_phases k es else after_phases (suc k) es

-- A run of the session as far as it went, up to this terminal: in one generation, with at most the session's ticks in
-- each phase, nothing but one hangup after the last, and characters that begin those that the line kept.
pub record IsCutShort (p : ℕ) (session : PlainSession) (run : PortRun) (t : Terminal) : Type 0 where
  pub on_the_way : IsOnTheWay p session run.journal.items t
  pub ticks : (k : ℕ) → tick_count_in k 0 run.journal.items ≤ ticks_on p (phase_at session k)
  pub last : (after_phases (length session.phases) run.journal.items ≡ [])
      ⊎ HangsUp (after_phases (length session.phases) run.journal.items)
  pub chars : IsPrefix (chars_of run.journal.items)
      (kept_list (received_list (script_on p session)) run.line.overruns.items)
