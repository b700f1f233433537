-- Signals come of flushes alone.
use Rattle.std.proofs.Common.{◌≡◌, ℕ, ◌==◌, Bool, true, false, not, List, Option}
use Rattle.std.proofs.Common.{None, Some, if◌then◌else◌, length, drop, refl, sym}
use Rattle.std.specs.Prelude.{is_some, nat_lt}
use Rattle.std.proofs.lemmas.Bool.{false≢true}
use Rattle.tty_base.specs.declared.counters.Errno.TheVariants.{EBADF, EAGAIN, EIO, EMSGSIZE}
use Rattle.tty_calls.specs.declared.calls.Access.{Access}
use Rattle.tty_calls.specs.declared.calls.When.{When}
use Rattle.tty_calls.specs.declared.calls.When.TheVariants as when
use Rattle.tty_calls.specs.declared.calls.Queue.{Queue}
use Rattle.tty_calls.specs.declared.calls.Queue.TheVariants as queue
use Rattle.tty_calls.specs.declared.calls.Act.{Act}
use Rattle.tty_calls.specs.declared.calls.Act.TheVariants as act
use Rattle.tty_calls.specs.declared.journals.Who.{Who}
use Rattle.tty_calls.specs.declared.journals.Who.TheVariants.{Caller, Flusher, Line, Clock, Session}
use Rattle.tty_base.specs.declared.counters.Errno.{Errno}
use Rattle.tty_calls.specs.Plain.{PlainCall, opens, closes, reads, writes, gets_modes, sets_modes, gets_disc, sets_disc}
use Rattle.tty_calls.specs.Plain.{flushes, steers, counts_input, counts_output, excludes, admits, drains, gets_counts}
use Rattle.tty_calls.specs.Plain.{hangs_up, sends_packet, takes_packet, PlainEvent, answered, parted, waited, flushed}
use Rattle.tty_calls.specs.Plain.{ticked, line_ended, clock_ended, caller_ended, phase_ended, hung_up, PlainEntry}
use Rattle.tty_modes.specs.Settings.{Settings, character}
use Rattle.tty_modes.specs.declared.places.TheConstants.{VSTART, VSTOP}
use Rattle.flow_control.specs.Output.{room_of}
use Rattle.n_tty.specs.Reading.{is_readable}
use Rattle.n_tty.specs.Writing.{piece_size}
use Rattle.slip_frames.specs.Slip.{max_packet, spelling_of}
use Rattle.handle_table.specs.declared.HandleState.{HandleState}
use Rattle.ldisc_switch.specs.declared.kinds.Kind.{Kind}
use Rattle.ldisc_switch.specs.declared.discipline.Disc.{Disc}
use Rattle.ldisc_switch.specs.declared.discipline.Disc.TheVariants as disc
use Rattle.tty_terminal.specs.declared.callers.CallerState.{CallerState}
use Rattle.tty_terminal.specs.Terminals.{Terminal, handle_at, handle_for, caller_at}
use Rattle.tty_terminal.specs.Outcomes.{Outcome, waits, takes, refuses, does, on_live, on_access, may_read, may_write}
use Rattle.tty_terminal.specs.Opening.{is_last_live, closing_outcome}
use Rattle.tty_terminal.specs.Transfers.{since_or, has_parts, is_outlived, write_refusal, read_outcome, reading_outcome}
use Rattle.tty_terminal.specs.Transfers.{part_outcome, with_piece_posted, write_outcome, writing_outcome}
use Rattle.tty_terminal.specs.Modes.{is_drained, modes_outcome}
use Rattle.tty_terminal.specs.Switching.{number_of, change_outcome}
use Rattle.tty_terminal.specs.Flow.{flush_outcome, after_act}
use Rattle.tty_terminal.specs.Packets.{with_packet_sent, sending_outcome, taking_outcome}
use Rattle.tty_terminal.specs.Calls.{outcome, outcome_of}
use Rattle.tty_terminal.specs.Steps.{left_by, after_event, after}
use Rattle.tty_terminal.specs.Runs.{is_flush}
use Rattle.job_one.specs.Desk.{signals_of}

abbrev IsStill : Terminal → Outcome → Type 0
IsStill t o = signals_of (left_by o t) ≡ signals_of t

either : (t : Terminal) (b : Bool) (x y : Outcome) → IsStill t x → IsStill t y → IsStill t (if b then x else y)
either t true x y p q = p
either t false x y p q = q

-- the rule for ixoff follows an answer
both : (t : Terminal) (b : Bool) (u w : Terminal)
    → signals_of u ≡ signals_of t
    → signals_of w ≡ signals_of t
    → signals_of (if b then u else w) ≡ signals_of t
both t true u w p q = p
both t false u w p q = q

live : (t : Terminal) (handle : Option HandleState) (x : Outcome) → IsStill t x → IsStill t (on_live t handle x)
live t None x p = refl
live t (Some handle) x p = either t handle.live x _ p refl

access : (may : Access → Bool) (t : Terminal) (handle : Option HandleState) (x : Outcome)
    → IsStill t x
    → IsStill t (on_access may t handle x)
access may t None x p = refl
access may t (Some handle) x p =
    either t (may handle.access) (on_live t (Some handle) x) _ (live t (Some handle) x p) refl

closing : (t : Terminal) (h : ℕ) (handle : Option HandleState) → IsStill t (closing_outcome t h handle)
closing t h None = refl
closing t h (Some handle) = both t (is_last_live t handle) _ _ refl refl

refusal : (t : Terminal) (s : CallerState) (errno : Errno) → IsStill t (write_refusal t s errno)
refusal t s errno = either t (has_parts s) _ _ refl refl

reading_by : (t : Terminal) (s : CallerState) (nonblock : Bool) (n : ℕ) (d : Disc)
    → IsStill t (read_outcome t s nonblock n d)
reading_by t s nonblock n (disc.Slip slip) = refl
reading_by t s nonblock n (disc.Tty tty) =
    either t (is_readable t.modes nonblock n (since_or s.waits t.tick) t.tick tty) _
    (if nonblock then refuses EAGAIN t else waits) refl (either t nonblock (refuses EAGAIN t) waits refl refl)

reading : (t : Terminal) (s : CallerState) (n : ℕ) (handle : Option HandleState)
    → IsStill t (reading_outcome t s n handle)
reading t s n None = refl
reading t s n (Some handle) =
    either t (not (may_read handle.access)) _ _ refl
    (either t (not handle.live) _ _ refl (reading_by t s handle.nonblock n t.disc))

parting : (t : Terminal) (s : CallerState) (nonblock : Bool) (left fit : ℕ) (u : Terminal)
    → signals_of u ≡ signals_of t
    → IsStill t (part_outcome t s nonblock left fit u)
parting t s nonblock left fit u same =
    either t (fit == left) _ _ same
    (either t (nat_lt 0 fit) (takes fit u) _ same (either t nonblock _ waits (refusal t s EAGAIN) refl))

writing_by : (t : Terminal) (s : CallerState) (nonblock : Bool) (rest : List ℕ) (d : Disc)
    → IsStill t (write_outcome t s nonblock rest d)
writing_by t s nonblock rest (disc.Slip slip) = refusal t s EIO
writing_by t s nonblock rest (disc.Tty tty) =
    parting t s nonblock (length rest) (piece_size t.modes tty t.output rest) (with_piece_posted t tty rest) refl

writing : (t : Terminal) (s : CallerState) (bytes : List ℕ) (handle : Option HandleState)
    → IsStill t (writing_outcome t s bytes handle)
writing t s bytes None = refusal t s EBADF
writing t s bytes (Some handle) =
    either t (not (may_write handle.access)) _ _ (refusal t s EBADF)
    (either t (not handle.live) _ _ (refusal t s EIO)
    (either t (is_outlived t s) _ _ refl (writing_by t s handle.nonblock (drop s.taken bytes) t.disc)))

setting : (t : Terminal) (moment : When) (new : Settings) → IsStill t (modes_outcome t moment new)
setting t when.Now new = refl
setting t when.Drain new = either t (is_drained t) _ waits refl refl
setting t when.Flush new = either t (is_drained t) _ waits refl refl

changing : (t : Terminal) (n : ℕ) (kind : Option Kind) → IsStill t (change_outcome t n kind)
changing t n None = refl
changing t n (Some kind) = both t (number_of t.disc == n) _ _ refl refl

flushing : (t : Terminal) (which : Queue) → IsStill t (flush_outcome t which)
flushing t queue.Input = refl
flushing t queue.Output = refl
flushing t queue.Both = refl

steering : (t : Terminal) (which : Act) → signals_of (after_act t which) ≡ signals_of t
steering t act.Ooff = refl
steering t act.Oon = refl
steering t act.Ioff = both t (character t.modes VSTOP == 0) _ _ refl refl
steering t act.Ion = both t (character t.modes VSTART == 0) _ _ refl refl

sending : (t : Terminal) (bytes : List ℕ) (d : Disc) → IsStill t (sending_outcome t bytes d)
sending t bytes (disc.Tty tty) = refl
sending t bytes (disc.Slip slip) =
    either t (nat_lt max_packet (length bytes)) (refuses EMSGSIZE t)
    (if nat_lt (room_of t.output) (length (spelling_of bytes))
    then refuses EAGAIN t
    else does (with_packet_sent t bytes)) refl
    (either t (nat_lt (room_of t.output) (length (spelling_of bytes))) (refuses EAGAIN t)
    (does (with_packet_sent t bytes)) refl refl)

taking : (t : Terminal) (d : Disc) → IsStill t (taking_outcome t d)
taking t (disc.Tty tty) = refl
taking t (disc.Slip slip) = either t (length slip.packets == 0) (refuses EAGAIN t) _ refl refl

-- whatever a call meets
pub call_still : (t : Terminal) (s : CallerState) (call : PlainCall) → IsStill t (outcome t s call)
call_still t s (opens h way nonblock) = either t (is_some (handle_at t h)) _ _ refl (either t t.exclusive _ _ refl refl)
call_still t s (closes h) = closing t h (handle_at t h)
call_still t s (reads h n) = reading t s n (handle_for t s h)
call_still t s (writes h bytes) = writing t s bytes (handle_for t s h)
call_still t s (gets_modes h) = live t (handle_for t s h) _ refl
call_still t s (sets_modes h moment words) = live t (handle_for t s h) _ (setting t moment _)
call_still t s (gets_disc h) = live t (handle_for t s h) _ refl
call_still t s (sets_disc h n) = live t (handle_for t s h) _ (changing t n _)
call_still t s (flushes h which) = live t (handle_for t s h) _ (flushing t which)
call_still t s (steers h which) = live t (handle_for t s h) _ (steering t which)
call_still t s (counts_input h) = live t (handle_for t s h) _ refl
call_still t s (counts_output h) = live t (handle_for t s h) _ refl
call_still t s (excludes h) = live t (handle_for t s h) _ refl
call_still t s (admits h) = live t (handle_for t s h) _ refl
call_still t s (drains h) = live t (handle_for t s h) _ (either t (is_drained t) _ waits refl refl)
call_still t s (gets_counts h) = live t (handle_for t s h) _ refl
call_still t s (hangs_up h) = live t (handle_for t s h) _ refl
call_still t s (sends_packet h bytes) = access may_write t (handle_for t s h) _ (sending t bytes t.disc)
call_still t s (takes_packet h) = access may_read t (handle_for t s h) _ (taking t t.disc)

asked_still : (t : Terminal) (s : CallerState) (call : Option PlainCall) → IsStill t (outcome_of t s call)
asked_still t s None = refl
asked_still t s (Some call) = call_still t s call

-- an entry that is no flush
event_still : (calls : ℕ → ℕ → Option PlainCall) (t : Terminal) (who : Who) (step part : ℕ) (event : PlainEvent)
    → is_flush event ≡ false
    → signals_of (after_event calls t who step part event) ≡ signals_of t
event_still calls t (Caller c) step part (answered a dropped) e = asked_still t (caller_at t c) (calls c step)
event_still calls t Flusher step part (answered a dropped) e = refl
event_still calls t Line step part (answered a dropped) e = refl
event_still calls t Clock step part (answered a dropped) e = refl
event_still calls t Session step part (answered a dropped) e = refl
event_still calls t (Caller c) step part (parted taken) e = asked_still t (caller_at t c) (calls c step)
event_still calls t Flusher step part (parted taken) e = refl
event_still calls t Line step part (parted taken) e = refl
event_still calls t Clock step part (parted taken) e = refl
event_still calls t Session step part (parted taken) e = refl
event_still calls t (Caller c) step part waited e = refl
event_still calls t Flusher step part waited e = refl
event_still calls t Line step part waited e = refl
event_still calls t Clock step part waited e = refl
event_still calls t Session step part waited e = refl
event_still calls t who step part (flushed chars) e = absurd (false≢true (sym e))
event_still calls t who step part ticked e = refl
event_still calls t who step part (line_ended n) e = refl
event_still calls t who step part clock_ended e = refl
event_still calls t (Caller c) step part caller_ended e = refl
event_still calls t Flusher step part caller_ended e = refl
event_still calls t Line step part caller_ended e = refl
event_still calls t Clock step part caller_ended e = refl
event_still calls t Session step part caller_ended e = refl
event_still calls t who step part phase_ended e = refl
event_still calls t who step part (hung_up dropped) e = refl

pub entry_still : (calls : ℕ → ℕ → Option PlainCall) (t : Terminal) (e : PlainEntry)
    → is_flush e.event ≡ false
    → signals_of (after calls t e) ≡ signals_of t
entry_still calls t e none = event_still calls t e.who e.step e.part e.event none
