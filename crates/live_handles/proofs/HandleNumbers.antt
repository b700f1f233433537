-- A terminal has 32 numbers of handles, whatever happens to it.
use Rattle.std.proofs.Common.{◌≡◌, ◌<◌, ◌≤◌, inl, inr, cond, lt-ltb, le-ltb, ℕ, ◌+◌, ◌==◌, Bool}
use Rattle.std.proofs.Common.{true, false, not, List, [], ◌∷◌, Option, None, Some, is_some}
use Rattle.std.proofs.Common.{if◌then◌else◌, nat_lt, length, drop, sum, refl, ap, ◌∙◌, arith}
use Rattle.std.specs.Prelude.{position}
use Rattle.std.specs.List.{position_or_len}
use Rattle.std.proofs.lemmas.Bool.{cases_eq}
use Rattle.std.proofs.lemmas.List.{length-map, length-set, length-replicate}
use Rattle.std.proofs.lemmas.List.Sums.{position_or_len_is}
use Rattle.tty_base.specs.Sizes.{MOST_HANDLES}
use Rattle.tty_base.specs.declared.characters.Flagged.{Flagged}
use Rattle.tty_base.specs.declared.counters.Errno.{Errno}
use Rattle.tty_calls.specs.declared.calls.Access.{Access}
use Rattle.tty_calls.specs.declared.calls.When.{When}
use Rattle.tty_calls.specs.declared.calls.When.TheVariants as when
use Rattle.tty_calls.specs.declared.calls.Queue.{Queue}
use Rattle.tty_calls.specs.declared.calls.Queue.TheVariants as queue
use Rattle.tty_calls.specs.declared.calls.Act.{Act}
use Rattle.tty_calls.specs.declared.calls.Act.TheVariants as act
use Rattle.tty_calls.specs.declared.journals.Who.{Who}
use Rattle.tty_calls.specs.declared.journals.Who.TheVariants.{Caller, Flusher, Line, Clock, Session}
use Rattle.tty_calls.specs.Plain.{PlainCall, opens, closes, reads, writes, gets_modes, sets_modes, gets_disc, sets_disc}
use Rattle.tty_calls.specs.Plain.{flushes, steers, counts_input, counts_output, excludes, admits, drains, gets_counts}
use Rattle.tty_calls.specs.Plain.{hangs_up, sends_packet, takes_packet, PlainEvent, answered, parted, waited, flushed}
use Rattle.tty_calls.specs.Plain.{ticked, line_ended, clock_ended, caller_ended, phase_ended, hung_up, PlainEntry}
use Rattle.tty_modes.specs.Settings.{Settings, character}
use Rattle.tty_modes.specs.declared.places.TheConstants.{VSTART, VSTOP}
use Rattle.flow_control.specs.Output.{on_wire, room_of}
use Rattle.slip_frames.specs.Slip.{max_packet, spelling_of}
use Rattle.n_tty.specs.Reading.{is_readable}
use Rattle.n_tty.specs.Writing.{piece_size}
use Rattle.handle_table.specs.declared.HandleState.{HandleState}
use Rattle.handle_table.specs.Handles as table
use Rattle.ldisc_switch.specs.declared.kinds.Kind.{Kind}
use Rattle.ldisc_switch.specs.declared.discipline.Disc.{Disc}
use Rattle.ldisc_switch.specs.declared.discipline.Disc.TheVariants as disc
use Rattle.tty_terminal.specs.declared.callers.CallerState.{CallerState}
use Rattle.tty_terminal.specs.Terminals.{Terminal, opening, caller_at, handle_at, handle_for}
use Rattle.tty_terminal.specs.Generations.{after_change, after_last_close, after_close}
use Rattle.tty_terminal.specs.Outcomes.{Outcome, may_read, may_write, on_live, on_access}
use Rattle.tty_terminal.specs.Opening.{opening_outcome, is_last_live, closing_outcome}
use Rattle.tty_terminal.specs.Receiving.{after_character, after_characters}
use Rattle.tty_terminal.specs.Transfers.{since_or, has_parts, is_outlived, write_refusal, read_outcome, reading_outcome}
use Rattle.tty_terminal.specs.Transfers.{with_piece_posted, part_outcome, write_outcome, writing_outcome}
use Rattle.tty_terminal.specs.Modes.{is_drained, modes_outcome, drain_outcome}
use Rattle.tty_terminal.specs.Switching.{number_of, change_outcome}
use Rattle.tty_terminal.specs.Flow.{flush_outcome, after_act, with_character_sent}
use Rattle.tty_terminal.specs.Packets.{sending_outcome, taking_outcome}
use Rattle.tty_terminal.specs.Calls.{outcome, outcome_of}
use Rattle.tty_terminal.specs.Steps.{left_by, after, after_event}
use Rattle.tty_terminal.specs.Runs.{Leads}
use Rattle.port_core.specs.Ports.{PortValue, IsPort, call_in}

-- as many numbers as before
abbrev Same : Terminal → Terminal → Type 0
Same t u = length u.handles ≡ length t.handles

abbrev Stays : Terminal → Outcome → Type 0
Stays t o = Same t (left_by o t)

either : (t : Terminal) (b : Bool) (x y : Outcome) → Stays t x → Stays t y → Stays t (if b then x else y)
either t true x y h k = h
either t false x y h k = k

left_either : (t : Terminal) (b : Bool) (x y : Terminal) → Same t x → Same t y → Same t (if b then x else y)
left_either t true x y h k = h
left_either t false x y h k = k

opening_stays : (t : Terminal) (h : ℕ) (access : Access) (nonblock : Bool)
    → Stays t (opening_outcome t h access nonblock)
opening_stays t h access nonblock =
    either t (is_some (handle_at t h)) _ _ refl
    (either t t.exclusive _ _ refl
    (length-set t.handles h (Some (record { access = access; nonblock = nonblock; live = true }))))

closing_stays : (t : Terminal) (h : ℕ) (o : Option HandleState) → Stays t (closing_outcome t h o)
closing_stays t h None = refl
closing_stays t h (Some handle) =
    left_either t (is_last_live t handle) (after_last_close (after_close t h)) (after_close t h)
    (length-set t.handles h None) (length-set t.handles h None)

read_stays : (t : Terminal) (s : CallerState) (nonblock : Bool) (n : ℕ) (d : Disc)
    → Stays t (read_outcome t s nonblock n d)
read_stays t s nonblock n (disc.Slip slip) = refl
read_stays t s nonblock n (disc.Tty tty) = either t
    (is_readable t.modes nonblock n (since_or s.waits t.tick) t.tick tty) _ _ refl (either t nonblock _ _ refl refl)

reading_stays : (t : Terminal) (s : CallerState) (n : ℕ) (o : Option HandleState) → Stays t (reading_outcome t s n o)
reading_stays t s n None = refl
reading_stays t s n (Some handle) =
    either t (not (may_read handle.access)) _ _ refl
    (either t (not handle.live) _ _ refl (read_stays t s handle.nonblock n t.disc))

refusal_stays : (t : Terminal) (s : CallerState) (errno : Errno) → Stays t (write_refusal t s errno)
refusal_stays t s errno = either t (has_parts s) _ _ refl refl

part_stays : (t : Terminal) (s : CallerState) (nonblock : Bool) (left fit : ℕ) (u : Terminal)
    → Same t u
    → Stays t (part_outcome t s nonblock left fit u)
part_stays t s nonblock left fit u h =
    either t (fit == left) _ _ h (either t (nat_lt 0 fit) _ _ h (either t nonblock _ _ (refusal_stays t s _) refl))

write_stays : (t : Terminal) (s : CallerState) (nonblock : Bool) (rest : List ℕ) (d : Disc)
    → Stays t (write_outcome t s nonblock rest d)
write_stays t s nonblock rest (disc.Slip slip) = refusal_stays t s _
write_stays t s nonblock rest (disc.Tty tty) =
    part_stays t s nonblock (length rest) (piece_size t.modes tty t.output rest) (with_piece_posted t tty rest) refl

writing_stays : (t : Terminal) (s : CallerState) (bytes : List ℕ) (o : Option HandleState)
    → Stays t (writing_outcome t s bytes o)
writing_stays t s bytes None = refusal_stays t s _
writing_stays t s bytes (Some handle) =
    either t (not (may_write handle.access)) _ _ (refusal_stays t s _)
    (either t (not handle.live) _ _ (refusal_stays t s _)
    (either t (is_outlived t s) _ _ refl (write_stays t s handle.nonblock (drop s.taken bytes) t.disc)))

on_live_stays : (t : Terminal) (o : Option HandleState) (live : Outcome) → Stays t live → Stays t (on_live t o live)
on_live_stays t None live h = refl
on_live_stays t (Some handle) live h = either t handle.live _ _ h refl

on_access_stays : (may : Access → Bool) (t : Terminal) (o : Option HandleState) (live : Outcome)
    → Stays t live
    → Stays t (on_access may t o live)
on_access_stays may t None live h = refl
on_access_stays may t (Some handle) live h =
    either t (may handle.access) _ _ (on_live_stays t (Some handle) live h) refl

modes_stays : (t : Terminal) (w : When) (new : Settings) → Stays t (modes_outcome t w new)
modes_stays t when.Now new = refl
modes_stays t when.Drain new = either t (is_drained t) _ _ refl refl
modes_stays t when.Flush new = either t (is_drained t) _ _ refl refl

change_stays : (t : Terminal) (number : ℕ) (o : Option Kind) → Stays t (change_outcome t number o)
change_stays t number None = refl
change_stays t number (Some new) = left_either t (number_of t.disc == number) t (after_change t new) refl refl

flush_stays : (t : Terminal) (q : Queue) → Stays t (flush_outcome t q)
flush_stays t queue.Input = refl
flush_stays t queue.Output = refl
flush_stays t queue.Both = refl

sent_stays : (t : Terminal) (place : ℕ) → Same t (with_character_sent t place)
sent_stays t place = left_either t (character t.modes place == 0) t
    (record t { output = on_wire t.output (character t.modes place ∷ []) }) refl refl

act_stays : (t : Terminal) (a : Act) → Same t (after_act t a)
act_stays t act.Ooff = refl
act_stays t act.Oon = refl
act_stays t act.Ioff = sent_stays t VSTOP
act_stays t act.Ion = sent_stays t VSTART

drain_stays : (t : Terminal) → Stays t (drain_outcome t)
drain_stays t = either t (is_drained t) _ _ refl refl

sending_stays : (t : Terminal) (bytes : List ℕ) (d : Disc) → Stays t (sending_outcome t bytes d)
sending_stays t bytes (disc.Tty tty) = refl
sending_stays t bytes (disc.Slip slip) =
    either t (nat_lt max_packet (length bytes)) _ _ refl
    (either t (nat_lt (room_of t.output) (length (spelling_of bytes))) _ _ refl refl)

taking_stays : (t : Terminal) (d : Disc) → Stays t (taking_outcome t d)
taking_stays t (disc.Tty tty) = refl
taking_stays t (disc.Slip slip) = either t (length slip.packets == 0) _ _ refl refl

call_stays : (t : Terminal) (s : CallerState) (call : PlainCall) → Stays t (outcome t s call)
call_stays t s (opens h access nonblock) = opening_stays t h access nonblock
call_stays t s (closes h) = closing_stays t h (handle_at t h)
call_stays t s (reads h n) = reading_stays t s n (handle_for t s h)
call_stays t s (writes h bytes) = writing_stays t s bytes (handle_for t s h)
call_stays t s (gets_modes h) = on_live_stays t (handle_for t s h) _ refl
call_stays t s (sets_modes h w words) = on_live_stays t (handle_for t s h) _ (modes_stays t w _)
call_stays t s (gets_disc h) = on_live_stays t (handle_for t s h) _ refl
call_stays t s (sets_disc h n) = on_live_stays t (handle_for t s h) _ (change_stays t n _)
call_stays t s (flushes h q) = on_live_stays t (handle_for t s h) _ (flush_stays t q)
call_stays t s (steers h a) = on_live_stays t (handle_for t s h) _ (act_stays t a)
call_stays t s (counts_input h) = on_live_stays t (handle_for t s h) _ refl
call_stays t s (counts_output h) = on_live_stays t (handle_for t s h) _ refl
call_stays t s (excludes h) = on_live_stays t (handle_for t s h) _ refl
call_stays t s (admits h) = on_live_stays t (handle_for t s h) _ refl
call_stays t s (drains h) = on_live_stays t (handle_for t s h) _ (drain_stays t)
call_stays t s (gets_counts h) = on_live_stays t (handle_for t s h) _ refl
call_stays t s (hangs_up h) = on_live_stays t (handle_for t s h) _ (length-map t.handles table.handle_after_hangup)
call_stays t s (sends_packet h bytes) = on_access_stays may_write t (handle_for t s h) _ (sending_stays t bytes t.disc)
call_stays t s (takes_packet h) = on_access_stays may_read t (handle_for t s h) _ (taking_stays t t.disc)

outcome_stays : (t : Terminal) (s : CallerState) (call : Option PlainCall) → Stays t (outcome_of t s call)
outcome_stays t s None = refl
outcome_stays t s (Some call) = call_stays t s call

characters_stay : (t : Terminal) (cs : List Flagged) → Same t (after_characters t cs)
characters_stay t [] = refl
characters_stay t (c ∷ cs) = characters_stay (after_character t c) cs

event_stays : (f : ℕ → ℕ → Option PlainCall) (t : Terminal) (who : Who) (step part : ℕ) (event : PlainEvent)
    → Same t (after_event f t who step part event)
event_stays f t (Caller c) step part (answered a dropped) = outcome_stays t (caller_at t c) (f c step)
event_stays f t Flusher step part (answered a dropped) = refl
event_stays f t Line step part (answered a dropped) = refl
event_stays f t Clock step part (answered a dropped) = refl
event_stays f t Session step part (answered a dropped) = refl
event_stays f t (Caller c) step part (parted n) = outcome_stays t (caller_at t c) (f c step)
event_stays f t Flusher step part (parted n) = refl
event_stays f t Line step part (parted n) = refl
event_stays f t Clock step part (parted n) = refl
event_stays f t Session step part (parted n) = refl
event_stays f t (Caller c) step part waited = refl
event_stays f t Flusher step part waited = refl
event_stays f t Line step part waited = refl
event_stays f t Clock step part waited = refl
event_stays f t Session step part waited = refl
event_stays f t who step part (flushed chars) = characters_stay t chars
event_stays f t who step part ticked = refl
event_stays f t who step part (line_ended n) = refl
event_stays f t who step part clock_ended = refl
event_stays f t (Caller c) step part caller_ended = refl
event_stays f t Flusher step part caller_ended = refl
event_stays f t Line step part caller_ended = refl
event_stays f t Clock step part caller_ended = refl
event_stays f t Session step part caller_ended = refl
event_stays f t who step part phase_ended = refl
event_stays f t who step part (hung_up dropped) = length-map t.handles table.handle_after_hangup

leads_stay : (f : ℕ → ℕ → Option PlainCall) (counts : List ℕ) (t : Terminal) (es : List PlainEntry) (u : Terminal)
    → Leads f counts t es u
    → Same t u
leads_stay f counts t [] u h = ap (λ (x : Terminal). length x.handles) h
leads_stay f counts t (e ∷ es) u h =
    leads_stay f counts (after f t e) es u h.1 ∙ event_stays f t e.who e.step e.part e.event

no_handle : Option HandleState
no_handle = None

pub are_numbers : (v : PortValue) → IsPort v → length v.terminal.handles ≡ MOST_HANDLES
are_numbers v port =
    leads_stay (call_in v.kept) v.counts (opening (sum v.counts) v.flip.capacity) v.journal v.terminal port.run
    ∙ length-replicate MOST_HANDLES no_handle

-- ---- the least that is live

pub first_live : (v : PortValue) (h : ℕ)
    → IsPort v
    → h < MOST_HANDLES
    → table.is_live (handle_at v.terminal h) ≡ true
    → ((k : ℕ) → k < h → table.is_live (handle_at v.terminal k) ≡ false)
    → position table.is_live v.terminal.handles ≡ Some h
first_live v h port few live before =
    let hs = v.terminal.handles in
    let many = are_numbers v port in
    let lt : h < length hs = omega (arith, few, many) in
    let first : position_or_len table.is_live hs ≡ h =
    position_or_len_is table.is_live hs h None (omega (arith, lt)) before (λ _. live) in
    ap (λ (n : ℕ). cond (nat_lt n (length hs)) (Some n) None) first
    ∙ ap (λ (b : Bool). cond b (Some h) None) (lt-ltb h (length hs) lt)

pub none_live : (v : PortValue) (h : ℕ)
    → IsPort v
    → MOST_HANDLES ≤ h
    → ((k : ℕ) → k < h → table.is_live (handle_at v.terminal k) ≡ false)
    → position table.is_live v.terminal.handles ≡ None
none_live v h port all before =
    let hs = v.terminal.handles in
    let many = are_numbers v port in
    let none : position_or_len table.is_live hs ≡ length hs =
    position_or_len_is table.is_live hs (length hs) None (omega arith) (λ k lt. before k (omega (arith, lt, many, all)))
    (λ lt. absurd (omega (arith, lt))) in
    ap (λ (n : ℕ). cond (nat_lt n (length hs)) (Some n) None) none
    ∙ ap (λ (b : Bool). cond b (Some (length hs)) None) (le-ltb (length hs) (length hs) (omega arith))

pub not_yet : (v : PortValue) (h : ℕ)
    → table.is_live (handle_at v.terminal h) ≡ false
    → ((k : ℕ) → k < h → table.is_live (handle_at v.terminal k) ≡ false)
    → (k : ℕ)
    → k < h + 1
    → table.is_live (handle_at v.terminal k) ≡ false
not_yet v h dead before k lt = elim (cases_eq k h) [
  | inl same ↦ ap (λ (n : ℕ). table.is_live (handle_at v.terminal n)) same ∙ dead
  | inr other ↦ before k (omega (arith, lt, other))
]
