-- Which entries begin a new generation: changes of the discipline, last closes and hangups.
use Rattle.std.specs.Prelude.{ℕ, ◌+◌, ◌==◌, Bool, true, false, not, ◌&&◌, Option, None, Some}
use Rattle.tty_calls.specs.declared.journals.Who.{Who}
use Rattle.tty_calls.specs.declared.journals.Who.TheVariants.{Caller, Flusher, Line, Clock, Session}
use Rattle.tty_calls.specs.Plain.{PlainCall, closes, sets_disc, hangs_up, PlainEvent, answered, parted, waited}
use Rattle.tty_calls.specs.Plain.{flushed, ticked, line_ended, clock_ended, caller_ended, phase_ended, hung_up}
use Rattle.handle_table.specs.declared.HandleState.{HandleState}
use Rattle.handle_table.specs.Handles.{is_live}
use Rattle.ldisc_switch.specs.declared.kinds.Kind.{Kind}
use Rattle.ldisc_switch.specs.Disciplines.{kind_of_number}
use Rattle.tty_terminal.specs.declared.callers.CallerState.{CallerState}
use Rattle.tty_terminal.specs.Terminals.{Terminal, handle_at, handle_for, caller_at}
use Rattle.tty_terminal.specs.Opening.{is_last_live}
use Rattle.tty_terminal.specs.Switching.{number_of}

abbrev pub is_last_close : Terminal → Option HandleState → Bool
is_last_close t None = false
is_last_close t (Some handle) = is_last_live t handle

abbrev pub is_change : Terminal → (number : ℕ) → Option Kind → Bool
is_change t number None = false
is_change t number (Some new) = not (number_of t.disc == number)

-- whether the answer to a call begins one
abbrev pub call_begins : Terminal → CallerState → PlainCall → Bool
call_begins t s (closes h) = is_last_close t (handle_at t h)
call_begins t s (sets_disc h n) = is_live (handle_for t s h) && is_change t n (kind_of_number n)
call_begins t s (hangs_up h) = is_live (handle_for t s h)
call_begins t s call = false

abbrev pub known_call_begins : Terminal → CallerState → Option PlainCall → Bool
known_call_begins t s None = false
known_call_begins t s (Some call) = call_begins t s call

abbrev pub answer_begins : (ℕ → ℕ → Option PlainCall) → Terminal → Who → (step : ℕ) → Bool
answer_begins calls t (Caller c) step = known_call_begins t (caller_at t c) (calls c step)
answer_begins calls t Flusher step = false
answer_begins calls t Line step = false
answer_begins calls t Clock step = false
answer_begins calls t Session step = false

-- whether an entry begins one
abbrev pub begins_generation : (ℕ → ℕ → Option PlainCall) → Terminal → Who → (step : ℕ) → PlainEvent → Bool
begins_generation calls t who step (answered a dropped) = answer_begins calls t who step
begins_generation calls t who step (parted n) = false
begins_generation calls t who step waited = false
begins_generation calls t who step (flushed chars) = false
begins_generation calls t who step ticked = false
begins_generation calls t who step (line_ended n) = false
begins_generation calls t who step clock_ended = false
begins_generation calls t who step caller_ended = false
begins_generation calls t who step phase_ended = false
begins_generation calls t who step (hung_up dropped) = true

abbrev pub generation_after : Bool → ℕ → ℕ
generation_after true n = n + 1
generation_after false n = n
