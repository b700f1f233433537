-- Which calls can wait, and which drop what waits in the flip buffer, call by call.
use Rattle.std.specs.Prelude.{◌≡◌, ℕ, ◌==◌, nat_lt, Bool, true, false, not, ◌&&◌, List, length, Option, Some}
use Rattle.n_tty.specs.Writing.{piece_size}
use Rattle.ldisc_switch.specs.declared.discipline.Disc.{Disc}
use Rattle.ldisc_switch.specs.declared.discipline.Disc.TheVariants as disc
use Rattle.tty_calls.specs.declared.calls.When.{When}
use Rattle.tty_calls.specs.declared.calls.When.TheVariants as when
use Rattle.tty_calls.specs.declared.calls.Queue.{Queue}
use Rattle.tty_calls.specs.declared.calls.Queue.TheVariants as queue
use Rattle.tty_calls.specs.declared.journals.Who.{Who}
use Rattle.tty_calls.specs.declared.journals.Who.TheVariants.{Caller}
use Rattle.tty_calls.specs.Plain.{PlainAnswer, done, PlainCall, reads, writes, sets_modes, flushes, drains, hangs_up}
use Rattle.handle_table.specs.declared.HandleState.{HandleState}
use Rattle.handle_table.specs.Handles.{is_live}
use Rattle.tty_terminal.specs.declared.callers.CallerState.{CallerState}
use Rattle.tty_terminal.specs.Terminals.{Terminal, handle_for}
use Rattle.tty_terminal.specs.Transfers.{reading_outcome, writing_outcome}
use Rattle.tty_terminal.specs.Modes.{is_drained}
use Rattle.tty_terminal.specs.Steps.{is_wait}

-- a call on a live handle waits until no output is held
abbrev pub must_drain : Terminal → Option HandleState → Bool
must_drain t handle = is_live handle && not (is_drained t)

-- a blocking write of some bytes waits where none of them fits
abbrev pub rest_waits : Terminal → (rest : List ℕ) → Disc → Bool
rest_waits t rest (disc.Tty tty) = not (length rest == 0) && not (nat_lt 0 (piece_size t.modes tty t.output rest))
rest_waits t rest (disc.Slip slip) = false

abbrev pub drains_first : When → Bool
drains_first when.Now = false
drains_first when.Drain = true
drains_first when.Flush = true

abbrev pub call_waits : Terminal → CallerState → PlainCall → Bool
call_waits t s (reads h n) = is_wait (reading_outcome t s n (handle_for t s h))
call_waits t s (writes h bytes) = is_wait (writing_outcome t s bytes (handle_for t s h))
call_waits t s (sets_modes h w words) = drains_first w && must_drain t (handle_for t s h)
call_waits t s (drains h) = must_drain t (handle_for t s h)
call_waits t s call = false

abbrev pub drops_input : When → Bool
drops_input when.Now = false
drops_input when.Drain = false
drops_input when.Flush = true

abbrev pub is_of_input : Queue → Bool
is_of_input queue.Input = true
is_of_input queue.Output = false
is_of_input queue.Both = true

abbrev pub call_drops : Terminal → CallerState → PlainCall → Bool
call_drops t s (sets_modes h w words) = is_live (handle_for t s h) && (drops_input w && is_drained t)
call_drops t s (flushes h q) = is_live (handle_for t s h) && is_of_input q
call_drops t s (hangs_up h) = is_live (handle_for t s h)
call_drops t s call = false

-- the four calls that may drop: `flush in`, `flush both`, `modes flush` and `vhangup`
abbrev pub is_purge : PlainCall → Bool
is_purge (sets_modes h w words) = drops_input w
is_purge (flushes h q) = is_of_input q
is_purge (hangs_up h) = true
is_purge call = false

-- an answer that dropped characters is Done, and its call is one of these
pub record IsPurged (calls : ℕ → ℕ → Option PlainCall) (who : Who) (step : ℕ) (a : PlainAnswer) : Type 0 where
  pub caller : ℕ
  pub call : PlainCall
  pub by : who ≡ Caller caller
  pub asked : calls caller step ≡ Some call
  pub purge : is_purge call ≡ true
  pub answer : a ≡ done
