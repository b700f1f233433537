-- The generation is the number of changes, last closes and hangups so far; and what a hangup leaves.
use Rattle.std.proofs.Common.{◌≡◌, ℕ, List, [], ◌∷◌, Bool, true, false, not, ◌&&◌, ◌==◌, Option, None, Some}
use Rattle.std.proofs.Common.{is_some, if◌then◌else◌, nat_lt, length, drop, map, cond, refl, ◌∙◌, ap, arith}
use Rattle.std.proofs.lemmas.List.Sums.{sum_by-cons}
use Rattle.tty_base.specs.declared.characters.Flagged.{Flagged}
use Rattle.tty_base.specs.declared.counters.Errno.{Errno}
use Rattle.tty_base.specs.declared.counters.Errno.TheVariants.{EAGAIN, EIO}
use Rattle.tty_calls.specs.declared.calls.Access.{Access}
use Rattle.tty_calls.specs.declared.calls.When.{When}
use Rattle.tty_calls.specs.declared.calls.When.TheVariants as when
use Rattle.tty_calls.specs.declared.calls.Queue.{Queue}
use Rattle.tty_calls.specs.declared.calls.Queue.TheVariants as queue
use Rattle.tty_calls.specs.declared.calls.Act.{Act}
use Rattle.tty_calls.specs.declared.calls.Act.TheVariants as act
use Rattle.tty_calls.specs.declared.journals.Who.{Who}
use Rattle.tty_calls.specs.declared.journals.Who.TheVariants.{Caller, Flusher, Line, Clock, Session}
use Rattle.tty_calls.specs.Plain.{PlainCall, opens, closes, reads, writes, gets_modes, sets_modes, gets_disc}
use Rattle.tty_calls.specs.Plain.{sets_disc, flushes, steers, counts_input, counts_output, excludes, admits, drains}
use Rattle.tty_calls.specs.Plain.{gets_counts, hangs_up, sends_packet, takes_packet, PlainEvent, answered, parted}
use Rattle.tty_calls.specs.Plain.{waited, flushed, ticked, line_ended, clock_ended, caller_ended, phase_ended}
use Rattle.tty_calls.specs.Plain.{hung_up, PlainEntry, refused}
use Rattle.tty_modes.specs.Settings.{Settings, character}
use Rattle.tty_modes.specs.declared.places.TheConstants.{VSTART, VSTOP}
use Rattle.flow_control.specs.Output.{on_wire, room_of}
use Rattle.n_tty.specs.Reading.{is_readable}
use Rattle.n_tty.specs.Writing.{piece_size}
use Rattle.slip_frames.specs.Slip.{max_packet, spelling_of}
use Rattle.handle_table.specs.declared.HandleState.{HandleState}
use Rattle.handle_table.specs.Handles as table
use Rattle.ldisc_switch.specs.declared.kinds.Kind.{Kind}
use Rattle.ldisc_switch.specs.declared.discipline.Disc.{Disc}
use Rattle.ldisc_switch.specs.declared.discipline.Disc.TheVariants as disc
use Rattle.ldisc_switch.specs.Disciplines.{kind_of_number}
use Rattle.tty_terminal.specs.declared.callers.CallerState.{CallerState}
use Rattle.tty_terminal.specs.Terminals.{Terminal, handle_at, handle_for, caller_at}
use Rattle.tty_terminal.specs.Receiving.{after_character, after_characters}
use Rattle.tty_terminal.specs.Generations.{after_change, after_close, after_last_close}
use Rattle.tty_terminal.specs.Outcomes.{Outcome, gives, refuses, does, may_read, may_write, on_live, on_access}
use Rattle.tty_terminal.specs.Opening.{is_last_live, closing_outcome}
use Rattle.tty_terminal.specs.Transfers.{since_or, has_parts, is_outlived, write_refusal, read_outcome}
use Rattle.tty_terminal.specs.Transfers.{reading_outcome, write_outcome, writing_outcome}
use Rattle.tty_terminal.specs.Modes.{is_drained, modes_outcome}
use Rattle.tty_terminal.specs.Switching.{number_of, change_outcome, hangup_outcome}
use Rattle.tty_terminal.specs.Flow.{flush_outcome, after_act}
use Rattle.tty_terminal.specs.Packets.{with_packet_sent, sending_outcome, taking_outcome}
use Rattle.tty_terminal.specs.Calls.{outcome, outcome_of}
use Rattle.tty_terminal.specs.Steps.{left_by, IsAllowed, after_event, Allowed, after}
use Rattle.tty_terminal.specs.Begins.{is_last_close, is_change, call_begins}
use Rattle.tty_terminal.specs.Begins.{known_call_begins, begins_generation, generation_after}
use Rattle.tty_terminal.proofs.Effects.{outcome_keeps}

-- an outcome begins a generation, or none
abbrev pub Begins : Terminal → Outcome → Bool → Type 0
Begins t o b = (left_by o t).generation ≡ generation_after b t.generation

neither : (t : Terminal) (b : Bool) (x y : Outcome)
    → Begins t x false
    → Begins t y false
    → Begins t (if b then x else y) false
neither t true x y p q = p
neither t false x y p q = q

live_none : (t : Terminal) (o : Option HandleState) (x : Outcome) → Begins t x false → Begins t (on_live t o x) false
live_none t None x h = refl
live_none t (Some handle) x h = neither t handle.live x _ h refl

access_none : (may : Access → Bool) (t : Terminal) (o : Option HandleState) (x : Outcome)
    → Begins t x false
    → Begins t (on_access may t o x) false
access_none may t None x h = refl
access_none may t (Some handle) x h = neither t (may handle.access) _ _ (live_none t (Some handle) x h) refl

live_case : (t : Terminal) (live : Bool) (x : Outcome) (b : Bool)
    → Begins t x b
    → Begins t (if live then x else gives (refused EIO) false t) (live && b)
live_case t true x b h = h
live_case t false x b h = refl

live_begins : (t : Terminal) (o : Option HandleState) (x : Outcome) (b : Bool)
    → Begins t x b
    → Begins t (on_live t o x) (table.is_live o && b)
live_begins t None x b h = refl
live_begins t (Some handle) x b h = live_case t handle.live x b h

close_case : (t : Terminal) (h : ℕ) (last : Bool)
    → (if last then after_last_close (after_close t h) else after_close t h).generation
    ≡ generation_after last t.generation
close_case t h true = refl
close_case t h false = refl

closing_begins : (t : Terminal) (h : ℕ) (o : Option HandleState) → Begins t (closing_outcome t h o) (is_last_close t o)
closing_begins t h None = refl
closing_begins t h (Some handle) = close_case t h (is_last_live t handle)

read_none : (t : Terminal) (s : CallerState) (nonblock : Bool) (n : ℕ) (d : Disc)
    → Begins t (read_outcome t s nonblock n d) false
read_none t s nonblock n (disc.Slip slip) = refl
read_none t s nonblock n (disc.Tty tty) =
    neither t (is_readable t.modes nonblock n (since_or s.waits t.tick) t.tick tty) _ _ refl
    (neither t nonblock _ _ refl refl)

reading_none : (t : Terminal) (s : CallerState) (n : ℕ) (o : Option HandleState)
    → Begins t (reading_outcome t s n o) false
reading_none t s n None = refl
reading_none t s n (Some handle) =
    neither t (not (may_read handle.access)) _ _ refl
    (neither t (not handle.live) _ _ refl (read_none t s handle.nonblock n t.disc))

refusal_none : (t : Terminal) (s : CallerState) (errno : Errno) → Begins t (write_refusal t s errno) false
refusal_none t s errno = neither t (has_parts s) _ _ refl refl

write_none : (t : Terminal) (s : CallerState) (nonblock : Bool) (rest : List ℕ) (d : Disc)
    → Begins t (write_outcome t s nonblock rest d) false
write_none t s nonblock rest (disc.Slip slip) = refusal_none t s _
write_none t s nonblock rest (disc.Tty tty) =
    let fit = piece_size t.modes tty t.output rest in
    neither t (fit == length rest) _ _ refl
    (neither t (nat_lt 0 fit) _ _ refl (neither t nonblock _ _ (refusal_none t s _) refl))

writing_none : (t : Terminal) (s : CallerState) (bytes : List ℕ) (o : Option HandleState)
    → Begins t (writing_outcome t s bytes o) false
writing_none t s bytes None = refusal_none t s _
writing_none t s bytes (Some handle) =
    neither t (not (may_write handle.access)) _ _ (refusal_none t s _)
    (neither t (not handle.live) _ _ (refusal_none t s _)
    (neither t (is_outlived t s) _ _ refl (write_none t s handle.nonblock (drop s.taken bytes) t.disc)))

modes_none : (t : Terminal) (w : When) (new : Settings) → Begins t (modes_outcome t w new) false
modes_none t when.Now new = refl
modes_none t when.Drain new = neither t (is_drained t) _ _ refl refl
modes_none t when.Flush new = neither t (is_drained t) _ _ refl refl

change_case : (t : Terminal) (new : Kind) (same : Bool)
    → (if same then t else after_change t new).generation ≡ generation_after (not same) t.generation
change_case t new true = refl
change_case t new false = refl

change_begins : (t : Terminal) (n : ℕ) (o : Option Kind) → Begins t (change_outcome t n o) (is_change t n o)
change_begins t n None = refl
change_begins t n (Some new) = change_case t new (number_of t.disc == n)

flush_none : (t : Terminal) (q : Queue) → Begins t (flush_outcome t q) false
flush_none t queue.Input = refl
flush_none t queue.Output = refl
flush_none t queue.Both = refl

same_either : (b : Bool) (x y : Terminal) (n : ℕ)
    → x.generation ≡ n
    → y.generation ≡ n
    → (if b then x else y).generation ≡ n
same_either true x y n p q = p
same_either false x y n p q = q

act_none : (t : Terminal) (a : Act) → (after_act t a).generation ≡ t.generation
act_none t act.Ooff = refl
act_none t act.Oon = refl
act_none t act.Ioff = same_either (character t.modes VSTOP == 0) t
    (record t { output = on_wire t.output (character t.modes VSTOP ∷ []) }) t.generation refl refl
act_none t act.Ion = same_either (character t.modes VSTART == 0) t
    (record t { output = on_wire t.output (character t.modes VSTART ∷ []) }) t.generation refl refl

sending_none : (t : Terminal) (bytes : List ℕ) (d : Disc) → Begins t (sending_outcome t bytes d) false
sending_none t bytes (disc.Tty tty) = refl
sending_none t bytes (disc.Slip slip) = neither t (nat_lt max_packet (length bytes)) _ _ refl
    (neither t (nat_lt (room_of t.output) (length (spelling_of bytes))) (refuses EAGAIN t)
    (does (with_packet_sent t bytes)) refl refl)

taking_none : (t : Terminal) (d : Disc) → Begins t (taking_outcome t d) false
taking_none t (disc.Tty tty) = refl
taking_none t (disc.Slip slip) = neither t (length slip.packets == 0) _ _ refl refl

and_true : (b : Bool) → (b && true) ≡ b
and_true true = refl
and_true false = refl

call_generation : (t : Terminal) (s : CallerState) (call : PlainCall)
    → Begins t (outcome t s call) (call_begins t s call)
call_generation t s (opens h access nonblock) =
    neither t (is_some (handle_at t h)) _ _ refl (neither t t.exclusive _ _ refl refl)
call_generation t s (closes h) = closing_begins t h (handle_at t h)
call_generation t s (reads h n) = reading_none t s n (handle_for t s h)
call_generation t s (writes h bytes) = writing_none t s bytes (handle_for t s h)
call_generation t s (gets_modes h) = live_none t (handle_for t s h) _ refl
call_generation t s (sets_modes h w words) = live_none t (handle_for t s h) _ (modes_none t w _)
call_generation t s (gets_disc h) = live_none t (handle_for t s h) _ refl
call_generation t s (sets_disc h n) =
    live_begins t (handle_for t s h) _ (is_change t n (kind_of_number n)) (change_begins t n (kind_of_number n))
call_generation t s (flushes h q) = live_none t (handle_for t s h) _ (flush_none t q)
call_generation t s (steers h a) = live_none t (handle_for t s h) _ (act_none t a)
call_generation t s (counts_input h) = live_none t (handle_for t s h) _ refl
call_generation t s (counts_output h) = live_none t (handle_for t s h) _ refl
call_generation t s (excludes h) = live_none t (handle_for t s h) _ refl
call_generation t s (admits h) = live_none t (handle_for t s h) _ refl
call_generation t s (drains h) = live_none t (handle_for t s h) _ (neither t (is_drained t) _ _ refl refl)
call_generation t s (gets_counts h) = live_none t (handle_for t s h) _ refl
call_generation t s (hangs_up h) =
    live_begins t (handle_for t s h) (hangup_outcome t) true refl
    ∙ ap (λ (b : Bool). generation_after b t.generation) (and_true (table.is_live (handle_for t s h)))
call_generation t s (sends_packet h bytes) = access_none may_write t (handle_for t s h) _ (sending_none t bytes t.disc)
call_generation t s (takes_packet h) = access_none may_read t (handle_for t s h) _ (taking_none t t.disc)

pub known_generation : (t : Terminal) (s : CallerState) (o : Option PlainCall)
    → Begins t (outcome_of t s o) (known_call_begins t s o)
known_generation t s None = refl
known_generation t s (Some call) = call_generation t s call

receiving_none : (t : Terminal) (chars : List Flagged) → (after_characters t chars).generation ≡ t.generation
receiving_none t [] = refl
receiving_none t (c ∷ cs) = receiving_none (after_character t c) cs

event_generation : (f : ℕ → ℕ → Option PlainCall) (counts : List ℕ) (t : Terminal) (who : Who) (step part : ℕ)
    (event : PlainEvent)
    → IsAllowed f counts t who step part event
    → (after_event f t who step part event).generation
    ≡ generation_after (begins_generation f t who step event) t.generation
event_generation f counts t (Caller c) step part (answered a dropped) h = known_generation t (caller_at t c) (f c step)
event_generation f counts t Flusher step part (answered a dropped) h = absurd h
event_generation f counts t Line step part (answered a dropped) h = absurd h
event_generation f counts t Clock step part (answered a dropped) h = absurd h
event_generation f counts t Session step part (answered a dropped) h = absurd h
event_generation f counts t (Caller c) step part (parted n) h =
    ((outcome_keeps t (caller_at t c) (f c step)).part n h.takes).generation
event_generation f counts t Flusher step part (parted n) h = absurd h
event_generation f counts t Line step part (parted n) h = absurd h
event_generation f counts t Clock step part (parted n) h = absurd h
event_generation f counts t Session step part (parted n) h = absurd h
event_generation f counts t (Caller c) step part waited h = refl
event_generation f counts t Flusher step part waited h = absurd h
event_generation f counts t Line step part waited h = absurd h
event_generation f counts t Clock step part waited h = absurd h
event_generation f counts t Session step part waited h = absurd h
event_generation f counts t who step part (flushed chars) h = receiving_none t chars
event_generation f counts t who step part ticked h = refl
event_generation f counts t who step part (line_ended n) h = refl
event_generation f counts t who step part clock_ended h = refl
event_generation f counts t (Caller c) step part caller_ended h = refl
event_generation f counts t Flusher step part caller_ended h = absurd h
event_generation f counts t Line step part caller_ended h = absurd h
event_generation f counts t Clock step part caller_ended h = absurd h
event_generation f counts t Session step part caller_ended h = absurd h
event_generation f counts t who step part phase_ended h = refl
event_generation f counts t who step part (hung_up dropped) h = refl

-- an entry raises the generation by one where it begins one, and else leaves it
pub step_generation : (f : ℕ → ℕ → Option PlainCall) (counts : List ℕ) (t : Terminal) (e : PlainEntry)
    → Allowed f counts t e
    → (after f t e).generation ≡ generation_after (begins_generation f t e.who e.step e.event) t.generation
step_generation f counts t e h = event_generation f counts t e.who e.step e.part e.event h.1

-- ---- hangups

abbrev bit : Bool → ℕ
bit b = cond b 1 0

dead_one : (o : Option HandleState) → bit (table.is_live (table.handle_after_hangup o)) ≡ 0
dead_one None = refl
dead_one (Some handle) = refl

pub none_live : (handles : table.HandleMap) → table.live_count (table.after_hangup handles) ≡ 0
none_live [] = refl
none_live (o ∷ os) =
    omega (
      arith,
      sum_by-cons (λ (x : Option HandleState). bit (table.is_live x)) (table.handle_after_hangup o)
          (map table.handle_after_hangup os),
      dead_one o,
      none_live os,
    )
