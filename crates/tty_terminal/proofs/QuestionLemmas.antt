-- Which calls wait, and which drop what waits in the flip buffer.
use Rattle.std.proofs.Common.{◌≡◌, ℕ, List, Bool, true, false, IsTrue, not, ◌&&◌, ◌==◌, Option, None}
use Rattle.std.proofs.Common.{Some, is_some, if◌then◌else◌, nat_lt, length, drop, refl, sym, ◌∙◌}
use Rattle.std.specs.Prelude.{◌↔◌}
use Rattle.std.proofs.lemmas.Bool.{false≢true}
use Rattle.tty_base.specs.declared.counters.Errno.{Errno}
use Rattle.tty_base.specs.declared.counters.Errno.TheVariants.{EAGAIN}
use Rattle.tty_calls.specs.declared.calls.Access.{Access}
use Rattle.tty_calls.specs.declared.calls.When.{When}
use Rattle.tty_calls.specs.declared.calls.When.TheVariants as when
use Rattle.tty_calls.specs.declared.calls.Queue.{Queue}
use Rattle.tty_calls.specs.declared.calls.Queue.TheVariants as queue
use Rattle.tty_calls.specs.Plain.{PlainCall, opens, closes, reads, writes, gets_modes, sets_modes, gets_disc}
use Rattle.tty_calls.specs.Plain.{sets_disc, flushes, steers, counts_input, counts_output, excludes, admits, drains}
use Rattle.tty_calls.specs.Plain.{gets_counts, hangs_up, sends_packet, takes_packet}
use Rattle.tty_modes.specs.Settings.{Settings}
use Rattle.flow_control.specs.Output.{room_of}
use Rattle.n_tty.specs.Reading.{is_readable}
use Rattle.n_tty.specs.Writing.{piece_size}
use Rattle.slip_frames.specs.Slip.{max_packet, spelling_of}
use Rattle.handle_table.specs.declared.HandleState.{HandleState}
use Rattle.handle_table.specs.Handles.{is_live}
use Rattle.ldisc_switch.specs.declared.kinds.Kind.{Kind}
use Rattle.ldisc_switch.specs.declared.discipline.Disc.{Disc}
use Rattle.ldisc_switch.specs.declared.discipline.Disc.TheVariants as disc
use Rattle.tty_terminal.specs.declared.callers.CallerState.{CallerState}
use Rattle.tty_terminal.specs.Terminals.{Terminal, handle_at, handle_for}
use Rattle.tty_terminal.specs.Outcomes.{Outcome, unknown, waits, takes, gives, refuses}
use Rattle.tty_terminal.specs.Outcomes.{does, may_read, may_write, on_live, on_access}
use Rattle.tty_terminal.specs.Opening.{closing_outcome}
use Rattle.tty_terminal.specs.Transfers.{since_or, has_parts, is_outlived, write_refusal, read_outcome}
use Rattle.tty_terminal.specs.Transfers.{reading_outcome, part_outcome, write_outcome, writing_outcome}
use Rattle.tty_terminal.specs.Modes.{is_drained, modes_outcome, drain_outcome}
use Rattle.tty_terminal.specs.Switching.{change_outcome}
use Rattle.tty_terminal.specs.Flow.{flush_outcome}
use Rattle.tty_terminal.specs.Packets.{with_packet_sent, sending_outcome, taking_outcome}
use Rattle.tty_terminal.specs.Calls.{outcome}
use Rattle.tty_terminal.specs.Meeting.{drops_of}
use Rattle.tty_terminal.specs.Steps.{is_wait, MustWait}
use Rattle.tty_terminal.specs.Questions.{must_drain, drains_first, call_waits, drops_input, is_of_input, call_drops}

-- ---- of two outcomes, one

wait_either : (b : Bool) (x y : Outcome) → is_wait x ≡ false → is_wait y ≡ false → is_wait (if b then x else y) ≡ false
wait_either true x y p q = p
wait_either false x y p q = q

drop_either : (b : Bool) (x y : Outcome)
    → drops_of x ≡ false
    → drops_of y ≡ false
    → drops_of (if b then x else y) ≡ false
drop_either true x y p q = p
drop_either false x y p q = q

live_waits : (t : Terminal) (o : Option HandleState) (x : Outcome) → is_wait x ≡ false → is_wait (on_live t o x) ≡ false
live_waits t None x h = refl
live_waits t (Some handle) x h = wait_either handle.live x _ h refl

live_drops : (t : Terminal) (o : Option HandleState) (x : Outcome)
    → drops_of x ≡ false
    → drops_of (on_live t o x) ≡ false
live_drops t None x h = refl
live_drops t (Some handle) x h = drop_either handle.live x _ h refl

access_waits : (may : Access → Bool) (t : Terminal) (o : Option HandleState) (x : Outcome)
    → is_wait x ≡ false
    → is_wait (on_access may t o x) ≡ false
access_waits may t None x h = refl
access_waits may t (Some handle) x h = wait_either (may handle.access) _ _ (live_waits t (Some handle) x h) refl

access_drops : (may : Access → Bool) (t : Terminal) (o : Option HandleState) (x : Outcome)
    → drops_of x ≡ false
    → drops_of (on_access may t o x) ≡ false
access_drops may t None x h = refl
access_drops may t (Some handle) x h = drop_either (may handle.access) _ _ (live_drops t (Some handle) x h) refl

-- ---- waiting

closing_waits : (t : Terminal) (h : ℕ) (o : Option HandleState) → is_wait (closing_outcome t h o) ≡ false
closing_waits t h None = refl
closing_waits t h (Some handle) = refl

change_waits : (t : Terminal) (n : ℕ) (o : Option Kind) → is_wait (change_outcome t n o) ≡ false
change_waits t n None = refl
change_waits t n (Some new) = refl

flush_waits : (t : Terminal) (q : Queue) → is_wait (flush_outcome t q) ≡ false
flush_waits t queue.Input = refl
flush_waits t queue.Output = refl
flush_waits t queue.Both = refl

sending_waits : (t : Terminal) (bytes : List ℕ) (d : Disc) → is_wait (sending_outcome t bytes d) ≡ false
sending_waits t bytes (disc.Tty tty) = refl
sending_waits t bytes (disc.Slip slip) = wait_either (nat_lt max_packet (length bytes)) _ _ refl
    (wait_either (nat_lt (room_of t.output) (length (spelling_of bytes))) (refuses EAGAIN t)
    (does (with_packet_sent t bytes)) refl refl)

taking_waits : (t : Terminal) (d : Disc) → is_wait (taking_outcome t d) ≡ false
taking_waits t (disc.Tty tty) = refl
taking_waits t (disc.Slip slip) = wait_either (length slip.packets == 0) _ _ refl refl

drained_waits : (live drained : Bool) (x y : Outcome)
    → is_wait x ≡ false
    → is_wait y ≡ false
    → is_wait (if live then (if drained then x else waits) else y) ≡ (live && not drained)
drained_waits true true x y p q = p
drained_waits true false x y p q = refl
drained_waits false drained x y p q = q

modes_waits : (t : Terminal) (o : Option HandleState) (w : When) (new : Settings)
    → is_wait (on_live t o (modes_outcome t w new)) ≡ (drains_first w && must_drain t o)
modes_waits t o when.Now new = live_waits t o _ refl
modes_waits t None when.Drain new = refl
modes_waits t (Some handle) when.Drain new = drained_waits handle.live (is_drained t) _ _ refl refl
modes_waits t None when.Flush new = refl
modes_waits t (Some handle) when.Flush new = drained_waits handle.live (is_drained t) _ _ refl refl

drain_waits : (t : Terminal) (o : Option HandleState) → is_wait (on_live t o (drain_outcome t)) ≡ must_drain t o
drain_waits t None = refl
drain_waits t (Some handle) = drained_waits handle.live (is_drained t) _ _ refl refl

pub outcome_waits : (t : Terminal) (s : CallerState) (call : PlainCall)
    → is_wait (outcome t s call) ≡ call_waits t s call
outcome_waits t s (opens h access nonblock) =
    wait_either (is_some (handle_at t h)) _ _ refl (wait_either t.exclusive _ _ refl refl)
outcome_waits t s (closes h) = closing_waits t h (handle_at t h)
outcome_waits t s (reads h n) = refl
outcome_waits t s (writes h bytes) = refl
outcome_waits t s (gets_modes h) = live_waits t (handle_for t s h) _ refl
outcome_waits t s (sets_modes h w words) = modes_waits t (handle_for t s h) w _
outcome_waits t s (gets_disc h) = live_waits t (handle_for t s h) _ refl
outcome_waits t s (sets_disc h n) = live_waits t (handle_for t s h) _ (change_waits t n _)
outcome_waits t s (flushes h q) = live_waits t (handle_for t s h) _ (flush_waits t q)
outcome_waits t s (steers h act) = live_waits t (handle_for t s h) _ refl
outcome_waits t s (counts_input h) = live_waits t (handle_for t s h) _ refl
outcome_waits t s (counts_output h) = live_waits t (handle_for t s h) _ refl
outcome_waits t s (excludes h) = live_waits t (handle_for t s h) _ refl
outcome_waits t s (admits h) = live_waits t (handle_for t s h) _ refl
outcome_waits t s (drains h) = drain_waits t (handle_for t s h)
outcome_waits t s (gets_counts h) = live_waits t (handle_for t s h) _ refl
outcome_waits t s (hangs_up h) = live_waits t (handle_for t s h) _ refl
outcome_waits t s (sends_packet h bytes) = access_waits may_write t (handle_for t s h) _ (sending_waits t bytes t.disc)
outcome_waits t s (takes_packet h) = access_waits may_read t (handle_for t s h) _ (taking_waits t t.disc)

must_from : (o : Outcome) → is_wait o ≡ true → MustWait o
must_from unknown h = absurd (false≢true h)
must_from waits h = tt
must_from (takes taken left) h = absurd (false≢true h)
must_from (gives answer drops left) h = absurd (false≢true h)

wait_from : (o : Outcome) → MustWait o → is_wait o ≡ true
wait_from unknown h = absurd h
wait_from waits h = refl
wait_from (takes taken left) h = absurd h
wait_from (gives answer drops left) h = absurd h

-- the test is the fact
pub must_wait_is : (b : Bool) (o : Outcome) → b ≡ is_wait o → IsTrue b ↔ MustWait o
must_wait_is b o e = (λ h. must_from o (sym e ∙ h), λ h. e ∙ wait_from o h)

-- ---- dropping

closing_drops : (t : Terminal) (h : ℕ) (o : Option HandleState) → drops_of (closing_outcome t h o) ≡ false
closing_drops t h None = refl
closing_drops t h (Some handle) = refl

read_drops : (t : Terminal) (s : CallerState) (nonblock : Bool) (n : ℕ) (d : Disc)
    → drops_of (read_outcome t s nonblock n d) ≡ false
read_drops t s nonblock n (disc.Slip slip) = refl
read_drops t s nonblock n (disc.Tty tty) =
    drop_either (is_readable t.modes nonblock n (since_or s.waits t.tick) t.tick tty) _ _ refl
    (drop_either nonblock _ _ refl refl)

reading_drops : (t : Terminal) (s : CallerState) (n : ℕ) (o : Option HandleState)
    → drops_of (reading_outcome t s n o) ≡ false
reading_drops t s n None = refl
reading_drops t s n (Some handle) =
    drop_either (not (may_read handle.access)) _ _ refl
    (drop_either (not handle.live) _ _ refl (read_drops t s handle.nonblock n t.disc))

refusal_drops : (t : Terminal) (s : CallerState) (errno : Errno) → drops_of (write_refusal t s errno) ≡ false
refusal_drops t s errno = drop_either (has_parts s) _ _ refl refl

part_drops : (t : Terminal) (s : CallerState) (nonblock : Bool) (left fit : ℕ) (after : Terminal)
    → drops_of (part_outcome t s nonblock left fit after) ≡ false
part_drops t s nonblock left fit after =
    drop_either (fit == left) _ _ refl
    (drop_either (nat_lt 0 fit) _ _ refl (drop_either nonblock _ _ (refusal_drops t s _) refl))

write_drops : (t : Terminal) (s : CallerState) (nonblock : Bool) (rest : List ℕ) (d : Disc)
    → drops_of (write_outcome t s nonblock rest d) ≡ false
write_drops t s nonblock rest (disc.Slip slip) = refusal_drops t s _
write_drops t s nonblock rest (disc.Tty tty) =
    part_drops t s nonblock (length rest) (piece_size t.modes tty t.output rest) _

writing_drops : (t : Terminal) (s : CallerState) (bytes : List ℕ) (o : Option HandleState)
    → drops_of (writing_outcome t s bytes o) ≡ false
writing_drops t s bytes None = refusal_drops t s _
writing_drops t s bytes (Some handle) =
    drop_either (not (may_write handle.access)) _ _ (refusal_drops t s _)
    (drop_either (not handle.live) _ _ (refusal_drops t s _)
    (drop_either (is_outlived t s) _ _ refl (write_drops t s handle.nonblock (drop s.taken bytes) t.disc)))

change_drops : (t : Terminal) (n : ℕ) (o : Option Kind) → drops_of (change_outcome t n o) ≡ false
change_drops t n None = refl
change_drops t n (Some new) = refl

sending_drops : (t : Terminal) (bytes : List ℕ) (d : Disc) → drops_of (sending_outcome t bytes d) ≡ false
sending_drops t bytes (disc.Tty tty) = refl
sending_drops t bytes (disc.Slip slip) = drop_either (nat_lt max_packet (length bytes)) _ _ refl
    (drop_either (nat_lt (room_of t.output) (length (spelling_of bytes))) (refuses EAGAIN t)
    (does (with_packet_sent t bytes)) refl refl)

taking_drops : (t : Terminal) (d : Disc) → drops_of (taking_outcome t d) ≡ false
taking_drops t (disc.Tty tty) = refl
taking_drops t (disc.Slip slip) = drop_either (length slip.packets == 0) _ _ refl refl

live_drop : (live drops : Bool) (x y : Outcome)
    → drops_of x ≡ drops
    → drops_of y ≡ false
    → drops_of (if live then x else y) ≡ (live && drops)
live_drop true drops x y p q = p
live_drop false drops x y p q = q

drained_drop : (drained : Bool) (x : Outcome) → drops_of x ≡ true → drops_of (if drained then x else waits) ≡ drained
drained_drop true x p = p
drained_drop false x p = refl

modes_drops : (t : Terminal) (o : Option HandleState) (w : When) (new : Settings)
    → drops_of (on_live t o (modes_outcome t w new)) ≡ (is_live o && (drops_input w && is_drained t))
modes_drops t None w new = refl
modes_drops t (Some handle) when.Now new = live_drop handle.live false _ _ refl refl
modes_drops t (Some handle) when.Drain new =
    live_drop handle.live false _ _ (drop_either (is_drained t) _ _ refl refl) refl
modes_drops t (Some handle) when.Flush new =
    live_drop handle.live (is_drained t) _ _ (drained_drop (is_drained t) _ refl) refl

flush_drops : (t : Terminal) (o : Option HandleState) (q : Queue)
    → drops_of (on_live t o (flush_outcome t q)) ≡ (is_live o && is_of_input q)
flush_drops t None q = refl
flush_drops t (Some handle) queue.Input = live_drop handle.live true _ _ refl refl
flush_drops t (Some handle) queue.Output = live_drop handle.live false _ _ refl refl
flush_drops t (Some handle) queue.Both = live_drop handle.live true _ _ refl refl

and_true : (b : Bool) → (b && true) ≡ b
and_true true = refl
and_true false = refl

hangup_drops : (t : Terminal) (o : Option HandleState) (x : Outcome)
    → drops_of x ≡ true
    → drops_of (on_live t o x) ≡ is_live o
hangup_drops t None x h = refl
hangup_drops t (Some handle) x h = live_drop handle.live true x _ h refl ∙ and_true handle.live

pub outcome_drops : (t : Terminal) (s : CallerState) (call : PlainCall)
    → drops_of (outcome t s call) ≡ call_drops t s call
outcome_drops t s (opens h access nonblock) =
    drop_either (is_some (handle_at t h)) _ _ refl (drop_either t.exclusive _ _ refl refl)
outcome_drops t s (closes h) = closing_drops t h (handle_at t h)
outcome_drops t s (reads h n) = reading_drops t s n (handle_for t s h)
outcome_drops t s (writes h bytes) = writing_drops t s bytes (handle_for t s h)
outcome_drops t s (gets_modes h) = live_drops t (handle_for t s h) _ refl
outcome_drops t s (sets_modes h w words) = modes_drops t (handle_for t s h) w _
outcome_drops t s (gets_disc h) = live_drops t (handle_for t s h) _ refl
outcome_drops t s (sets_disc h n) = live_drops t (handle_for t s h) _ (change_drops t n _)
outcome_drops t s (flushes h q) = flush_drops t (handle_for t s h) q
outcome_drops t s (steers h act) = live_drops t (handle_for t s h) _ refl
outcome_drops t s (counts_input h) = live_drops t (handle_for t s h) _ refl
outcome_drops t s (counts_output h) = live_drops t (handle_for t s h) _ refl
outcome_drops t s (excludes h) = live_drops t (handle_for t s h) _ refl
outcome_drops t s (admits h) = live_drops t (handle_for t s h) _ refl
outcome_drops t s (drains h) = live_drops t (handle_for t s h) _ (drop_either (is_drained t) _ _ refl refl)
outcome_drops t s (gets_counts h) = live_drops t (handle_for t s h) _ refl
outcome_drops t s (hangs_up h) = hangup_drops t (handle_for t s h) _ refl
outcome_drops t s (sends_packet h bytes) = access_drops may_write t (handle_for t s h) _ (sending_drops t bytes t.disc)
outcome_drops t s (takes_packet h) = access_drops may_read t (handle_for t s h) _ (taking_drops t t.disc)
