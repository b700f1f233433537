-- Whose turn it is on a console in the order of one thread, rank by rank.
use Rattle.std.specs.Prelude.{ℕ, ◌==◌, nat_le, not, List, Option, if◌then◌else◌, length}
use Rattle.tty_calls.specs.declared.journals.Who.{Who}
use Rattle.tty_calls.specs.declared.journals.Who.TheVariants.{Flusher, Line, Clock, Session}
use Rattle.tty_calls.specs.Plain.{PlainCall}
use Rattle.tty_calls.specs.Sessions.{PlainSession, call_at}
use Rattle.tty_terminal.specs.Terminals.{Terminal}
use Rattle.tty_terminal.specs.Steps.{nothing_to_flush}
use Rattle.legal_runs.specs.Order.{Place, due, callers_of, can_go_on, is_waiting, first_of, turn_after}

-- Behind the last key of a phase: a flush, the end of the clock, the first caller that can go on, the first that waits,
-- which is told that it waits in vain, and the end of the phase.
abbrev pub console_rank : (ℕ → ℕ → Option PlainCall) → List ℕ → Terminal → Who
console_rank calls callers t =
    if not (nothing_to_flush t) then Flusher
    else if not t.clock_over then Clock
    else first_of (can_go_on calls t) callers (first_of (is_waiting t) callers Session)

-- Before it: a flush of what is due, else the keyboard's line, which is over behind its last key. A call of which a
-- part was taken goes on.
abbrev pub console_turn : ℕ → PlainSession → Place → Who
console_turn p session s =
    if nat_le (length session.phases) s.terminal.phase then Session
    else if not s.terminal.line_over then (if length (due p session s) == 0 then Line else Flusher)
    else turn_after s.before (console_rank (call_at p session) (callers_of p session s.terminal.phase) s.terminal)
