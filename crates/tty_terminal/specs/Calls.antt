-- What each call meets, by the handle that it goes by.
use Rattle.std.specs.Prelude.{ℕ, true, false, Option, None, Some, length}
use Rattle.tty_modes.specs.Settings.{Settings}
use Rattle.tty_modes.specs.Word.{after_words}
use Rattle.n_tty.specs.Reading.{ready_count}
use Rattle.n_slip.specs.Discipline.{first_packet}
use Rattle.tty_calls.specs.Plain.{PlainCall, opens, closes, reads, writes, gets_modes, sets_modes, gets_disc}
use Rattle.tty_calls.specs.Plain.{sets_disc, flushes, steers, counts_input, counts_output, excludes, admits, drains}
use Rattle.tty_calls.specs.Plain.{gets_counts, hangs_up, sends_packet, takes_packet, number_is, modes_are, counts_are}
use Rattle.ldisc_switch.specs.declared.discipline.Disc.{Disc}
use Rattle.ldisc_switch.specs.declared.discipline.Disc.TheVariants as disc
use Rattle.ldisc_switch.specs.Disciplines.{kind_of_number}
use Rattle.tty_terminal.specs.declared.callers.CallerState.{CallerState}
use Rattle.tty_terminal.specs.Terminals.{Terminal, handle_at, handle_for}
use Rattle.tty_terminal.specs.Outcomes.{Outcome, unknown, does, tells, may_read, may_write, on_live, on_access}
use Rattle.tty_terminal.specs.Opening.{opening_outcome, closing_outcome}
use Rattle.tty_terminal.specs.Transfers.{reading_outcome, writing_outcome}
use Rattle.tty_terminal.specs.Modes.{modes_outcome, drain_outcome}
use Rattle.tty_terminal.specs.Switching.{number_of, change_outcome, hangup_outcome}
use Rattle.tty_terminal.specs.Flow.{flush_outcome, after_act}
use Rattle.tty_terminal.specs.Packets.{sending_outcome, taking_outcome}

-- how many bytes can be read: of complete pieces in canonical mode; under N_SLIP those of the first packet
abbrev pub input_count : Settings → Disc → ℕ
input_count modes (disc.Tty tty) = ready_count modes tty
input_count modes (disc.Slip slip) = length (first_packet slip)

-- what a call of a caller meets
abbrev pub outcome : Terminal → CallerState → PlainCall → Outcome
outcome t s (opens h access nonblock) = opening_outcome t h access nonblock
outcome t s (closes h) = closing_outcome t h (handle_at t h)
outcome t s (reads h n) = reading_outcome t s n (handle_for t s h)
outcome t s (writes h bytes) = writing_outcome t s bytes (handle_for t s h)
outcome t s (gets_modes h) = on_live t (handle_for t s h) (tells (modes_are t.modes) t)
outcome t s (sets_modes h when words) = on_live t (handle_for t s h) (modes_outcome t when (after_words t.modes words))
outcome t s (gets_disc h) = on_live t (handle_for t s h) (tells (number_is (number_of t.disc)) t)
outcome t s (sets_disc h n) = on_live t (handle_for t s h) (change_outcome t n (kind_of_number n))
outcome t s (flushes h queue) = on_live t (handle_for t s h) (flush_outcome t queue)
outcome t s (steers h act) = on_live t (handle_for t s h) (does (after_act t act))
outcome t s (counts_input h) = on_live t (handle_for t s h) (tells (number_is (input_count t.modes t.disc)) t)
outcome t s (counts_output h) = on_live t (handle_for t s h) (tells (number_is (length t.output.held)) t)
outcome t s (excludes h) = on_live t (handle_for t s h) (does (record t { exclusive = true }))
outcome t s (admits h) = on_live t (handle_for t s h) (does (record t { exclusive = false }))
outcome t s (drains h) = on_live t (handle_for t s h) (drain_outcome t)
outcome t s (gets_counts h) = on_live t (handle_for t s h) (tells (counts_are t.tally.counts) t)
outcome t s (hangs_up h) = on_live t (handle_for t s h) (hangup_outcome t)
outcome t s (sends_packet h bytes) = on_access may_write t (handle_for t s h) (sending_outcome t bytes t.disc)
outcome t s (takes_packet h) = on_access may_read t (handle_for t s h) (taking_outcome t t.disc)

abbrev pub outcome_of : Terminal → CallerState → Option PlainCall → Outcome
outcome_of t s None = unknown
outcome_of t s (Some call) = outcome t s call
