-- What no call changes, whatever its outcome, and what a part of a call is.
use Rattle.std.proofs.Common.{◌≡◌, ℕ, suc, ◌+◌, ◌-◌, ◌<◌, ◌≤◌, List, [], ◌∷◌, Bool, true, false, not, ◌&&◌, ◌==◌}
use Rattle.std.proofs.Common.{Option, None, Some, is_some, if◌then◌else◌, nat_lt, length, take, drop, refl, sym}
use Rattle.std.proofs.Common.{arith}
use Rattle.std.proofs.lemmas.List.{length-map, length-drop, length-take}
use Rattle.std.proofs.lemmas.Bool.{eqb-true, false≢true}
use Rattle.std.proofs.lemmas.Bool.Decides.{nat_tests}
use Rattle.tty_base.specs.Sizes.{PIECE}
use Rattle.tty_modes.specs.Settings.{Settings, character}
use Rattle.tty_modes.specs.declared.places.TheConstants.{VSTART, VSTOP}
use Rattle.flow_control.specs.Output.{Output, has_room, after_send, on_wire}
use Rattle.opost_out.specs.Posted.{posted_bytes}
use Rattle.n_tty.specs.States.{NTtyState}
use Rattle.n_tty.specs.Posting.{column_past_text}
use Rattle.n_tty.specs.Reading.{is_readable}
use Rattle.n_tty.specs.Writing.{fitting_count, piece_size}
use Rattle.slip_frames.specs.Slip.{max_packet}
use Rattle.flow_control.specs.declared.tally.Tally.{Tally}
use Rattle.handle_table.specs.Handles.{HandleMap}
use Rattle.handle_table.specs.declared.HandleState.{HandleState}
use Rattle.ldisc_switch.specs.declared.kinds.Kind.{Kind}
use Rattle.ldisc_switch.specs.declared.discipline.Disc.{Disc}
use Rattle.ldisc_switch.specs.declared.discipline.Disc.TheVariants as disc
use Rattle.tty_base.specs.declared.counters.Errno.{Errno}
use Rattle.tty_calls.specs.declared.calls.Access.{Access}
use Rattle.tty_calls.specs.declared.calls.When.{When}
use Rattle.tty_calls.specs.declared.calls.When.TheVariants as when
use Rattle.tty_calls.specs.declared.calls.Queue.{Queue}
use Rattle.tty_calls.specs.declared.calls.Queue.TheVariants as queue
use Rattle.tty_calls.specs.declared.calls.Act.{Act}
use Rattle.tty_calls.specs.declared.calls.Act.TheVariants as act
use Rattle.tty_calls.specs.Plain.{PlainCall, opens, closes, reads, writes, gets_modes, sets_modes, gets_disc}
use Rattle.tty_calls.specs.Plain.{sets_disc, flushes, steers, counts_input, counts_output, excludes, admits, drains}
use Rattle.tty_calls.specs.Plain.{gets_counts, hangs_up, sends_packet, takes_packet, PlainAnswer, done}
use Rattle.tty_calls.specs.Limits.{byte_count}
use Rattle.tty_terminal.specs.declared.callers.CallerState.{CallerState}
use Rattle.tty_terminal.specs.Terminals.{Terminal, handle_at, handle_for, caller_at}
use Rattle.tty_terminal.specs.Generations.{after_change, after_last_close, after_hangup}
use Rattle.tty_terminal.specs.Generations.{after_close, caller_after_close, caller_after_hangup}
use Rattle.tty_terminal.specs.Outcomes.{Outcome, waits, takes, gives, may_read, may_write, on_live, on_access}
use Rattle.tty_terminal.specs.Opening.{opening_outcome, is_last_live, closing_outcome}
use Rattle.tty_terminal.specs.Transfers.{since_or, has_parts, is_outlived, write_refusal, read_outcome}
use Rattle.tty_terminal.specs.Transfers.{reading_outcome, with_piece_posted, write_outcome, writing_outcome}
use Rattle.tty_terminal.specs.Modes.{is_drained, modes_outcome, drain_outcome}
use Rattle.tty_terminal.specs.Switching.{number_of, change_outcome}
use Rattle.tty_terminal.specs.Flow.{flush_outcome, after_act, with_character_sent}
use Rattle.tty_terminal.specs.Packets.{sending_outcome, taking_outcome}
use Rattle.tty_terminal.specs.Calls.{outcome, outcome_of}
use Rattle.tty_terminal.specs.Steps.{left_by, TakesPart}
use Rattle.tty_terminal.proofs.CallerLists.{Stays, stays, close_stays, hangup_stays, map_relates}

-- what stays of a terminal, whatever a call does
pub record Leaves (t u : Terminal) : Type 0 where
  pub callers : length u.callers ≡ length t.callers
  pub caller : (c : ℕ) → Stays (caller_at t c) (caller_at u c)
  pub least : t.generation ≤ u.generation
  pub generation : u.generation ≤ t.generation + 1
  pub tick : u.tick ≡ t.tick
  pub capacity : u.capacity ≡ t.capacity
  pub taken : u.taken ≡ t.taken
  pub sent : u.sent ≡ t.sent
  pub phase : u.phase ≡ t.phase
  pub line_over : u.line_over ≡ t.line_over
  pub clock_over : u.clock_over ≡ t.clock_over
  pub flushed : u.flushed ≡ t.flushed

-- a part of a call: so many bytes, some and not all that were left, in the generation of now
pub record IsPartOf (t u : Terminal) (s : CallerState) (total n : ℕ) : Type 0 where
  pub some : 1 ≤ n
  pub more : s.taken + n < total
  -- parts that were taken before are of this generation
  pub own : nat_lt 0 s.parts ≡ true → s.generation ≡ t.generation
  pub generation : u.generation ≡ t.generation
  pub handles : u.handles ≡ t.handles
  pub callers : u.callers ≡ t.callers

-- an outcome leaves all this, and its part is one
pub record Keeps (t : Terminal) (s : CallerState) (total : ℕ) (o : Outcome) : Type 0 where
  pub left : Leaves t (left_by o t)
  pub part : (n : ℕ) → TakesPart o n → IsPartOf t (left_by o t) s total n

leaves : (t : Terminal) → Leaves t t
leaves t =
    record {
      callers = refl;
      caller = λ c. stays (caller_at t c);
      least = omega arith;
      generation = omega arith;
      tick = refl;
      capacity = refl;
      taken = refl;
      sent = refl;
      phase = refl;
      line_over = refl;
      clock_over = refl;
      flushed = refl;
    }

-- the callers and all numbers stay as they are
record IsSame (t u : Terminal) : Type 0 where
  callers : u.callers ≡ t.callers
  generation : u.generation ≡ t.generation
  tick : u.tick ≡ t.tick
  capacity : u.capacity ≡ t.capacity
  taken : u.taken ≡ t.taken
  sent : u.sent ≡ t.sent
  phase : u.phase ≡ t.phase
  line_over : u.line_over ≡ t.line_over
  clock_over : u.clock_over ≡ t.clock_over
  flushed : u.flushed ≡ t.flushed

same_leaves : (t u : Terminal) → IsSame t u → Leaves t u
same_leaves t u h =
    record {
      callers = rw h.callers refl;
      caller = λ c. rw h.callers (stays (caller_at t c));
      least = omega (arith, h.generation);
      generation = omega (arith, h.generation);
      tick = h.tick;
      capacity = h.capacity;
      taken = h.taken;
      sent = h.sent;
      phase = h.phase;
      line_over = h.line_over;
      clock_over = h.clock_over;
      flushed = h.flushed;
    }

-- a call changes the discipline, the modes, the output, the tally, the handles and exclusive use
effect_same : (t : Terminal) (d : Disc) (modes : Settings) (output : Output) (tally : Tally) (handles : HandleMap)
    (exclusive : Bool)
    → IsSame t
    (record t { disc = d; modes = modes; output = output; tally = tally; handles = handles; exclusive = exclusive })
effect_same t d modes output tally handles exclusive = record {
  callers = refl;
  generation = refl;
  tick = refl;
  capacity = refl;
  taken = refl;
  sent = refl;
  phase = refl;
  line_over = refl;
  clock_over = refl;
  flushed = refl;
}

pub either : (t : Terminal) (s : CallerState) (total : ℕ) (b : Bool) (x y : Outcome)
    → Keeps t s total x
    → Keeps t s total y
    → Keeps t s total (if b then x else y)
either t s total true x y p q = p
either t s total false x y p q = q

-- an answer that leaves the callers and all numbers
same : (t : Terminal) (s : CallerState) (total : ℕ) (a : PlainAnswer) (drops : Bool) (u : Terminal)
    → IsSame t u
    → Keeps t s total (gives a drops u)
same t s total a drops u h =
    record {
      left = same_leaves t _
          (record {
            callers = h.callers;
            generation = h.generation;
            tick = h.tick;
            capacity = h.capacity;
            taken = h.taken;
            sent = h.sent;
            phase = h.phase;
            line_over = h.line_over;
            clock_over = h.clock_over;
            flushed = h.flushed;
          });
      part = λ n e. absurd e;
    }

is_same : (t : Terminal) → IsSame t t
is_same t = record {
  callers = refl;
  generation = refl;
  tick = refl;
  capacity = refl;
  taken = refl;
  sent = refl;
  phase = refl;
  line_over = refl;
  clock_over = refl;
  flushed = refl;
}

-- an answer that leaves the terminal as it is, but for the rule for ixoff
told : (t : Terminal) (s : CallerState) (total : ℕ) (a : PlainAnswer) → Keeps t s total (gives a false t)
told t s total a = same t s total a false t (is_same t)

waiting : (t : Terminal) (s : CallerState) (total : ℕ) → Keeps t s total waits
waiting t s total = record { left = leaves t; part = λ n e. absurd e }

-- ---- opens and closes

opening_keeps : (t : Terminal) (s : CallerState) (total h : ℕ) (access : Access) (nonblock : Bool)
    → Keeps t s total (opening_outcome t h access nonblock)
opening_keeps t s total h access nonblock =
    either t s total (is_some (handle_at t h)) _ _ (told t s total _)
    (either t s total t.exclusive _ _ (told t s total _) (same t s total _ _ _ (effect_same t _ _ _ _ _ _)))

close_leaves : (t : Terminal) (h : ℕ) → Leaves t (after_close t h)
close_leaves t h = record {
  callers = length-map t.callers (caller_after_close h);
  caller = λ c. map_relates Stays (caller_after_close h) (stays _) (close_stays h) t.callers c;
  least = omega arith;
  generation = omega arith;
  tick = refl;
  capacity = refl;
  taken = refl;
  sent = refl;
  phase = refl;
  line_over = refl;
  clock_over = refl;
  flushed = refl;
}

last_close_leaves : (t : Terminal) (h : ℕ) → Leaves t (after_last_close (after_close t h))
last_close_leaves t h = record {
  callers = length-map t.callers (caller_after_close h);
  caller = λ c. map_relates Stays (caller_after_close h) (stays _) (close_stays h) t.callers c;
  least = omega arith;
  generation = omega arith;
  tick = refl;
  capacity = refl;
  taken = refl;
  sent = refl;
  phase = refl;
  line_over = refl;
  clock_over = refl;
  flushed = refl;
}

change_leaves : (t : Terminal) (new : Kind) → Leaves t (after_change t new)
change_leaves t new = record {
  callers = refl;
  caller = λ c. stays (caller_at t c);
  least = omega arith;
  generation = omega arith;
  tick = refl;
  capacity = refl;
  taken = refl;
  sent = refl;
  phase = refl;
  line_over = refl;
  clock_over = refl;
  flushed = refl;
}

pub hangup_leaves : (t : Terminal) → Leaves t (after_hangup t)
hangup_leaves t = record {
  callers = length-map t.callers caller_after_hangup;
  caller = λ c. map_relates Stays caller_after_hangup (stays _) hangup_stays t.callers c;
  least = omega arith;
  generation = omega arith;
  tick = refl;
  capacity = refl;
  taken = refl;
  sent = refl;
  phase = refl;
  line_over = refl;
  clock_over = refl;
  flushed = refl;
}

-- an answer is followed by the rule for ixoff, which none of this sees
gives_keeps : (t : Terminal) (s : CallerState) (total : ℕ) (a : PlainAnswer) (drops : Bool) (u : Terminal)
    → Leaves t u
    → Keeps t s total (gives a drops u)
gives_keeps t s total a drops u h = record {
  left = record {
    callers = h.callers;
    caller = h.caller;
    least = h.least;
    generation = h.generation;
    tick = h.tick;
    capacity = h.capacity;
    taken = h.taken;
    sent = h.sent;
    phase = h.phase;
    line_over = h.line_over;
    clock_over = h.clock_over;
    flushed = h.flushed;
  };
  part = λ n e. absurd e;
}

left_either : (t : Terminal) (b : Bool) (x y : Terminal) → Leaves t x → Leaves t y → Leaves t (if b then x else y)
left_either t true x y p q = p
left_either t false x y p q = q

closing_keeps : (t : Terminal) (s : CallerState) (total h : ℕ) (o : Option HandleState)
    → Keeps t s total (closing_outcome t h o)
closing_keeps t s total h None = told t s total _
closing_keeps t s total h (Some handle) =
    gives_keeps t s total _ _ _ (left_either t (is_last_live t handle) _ _ (last_close_leaves t h) (close_leaves t h))

-- ---- reading and writing

read_keeps : (t : Terminal) (s : CallerState) (total : ℕ) (nonblock : Bool) (n : ℕ) (d : Disc)
    → Keeps t s total (read_outcome t s nonblock n d)
read_keeps t s total nonblock n (disc.Slip slip) = told t s total _
read_keeps t s total nonblock n (disc.Tty tty) =
    either t s total (is_readable t.modes nonblock n (since_or s.waits t.tick) t.tick tty) _ _
    (same t s total _ _ _ (effect_same t _ _ _ _ _ _))
    (either t s total nonblock _ _ (told t s total _) (waiting t s total))

reading_keeps : (t : Terminal) (s : CallerState) (total n : ℕ) (o : Option HandleState)
    → Keeps t s total (reading_outcome t s n o)
reading_keeps t s total n None = told t s total _
reading_keeps t s total n (Some handle) =
    either t s total (not (may_read handle.access)) _ _ (told t s total _)
    (either t s total (not handle.live) _ _ (told t s total _) (read_keeps t s total handle.nonblock n t.disc))

refusal_keeps : (t : Terminal) (s : CallerState) (total : ℕ) (errno : Errno) → Keeps t s total (write_refusal t s errno)
refusal_keeps t s total errno = either t s total (has_parts s) _ _ (told t s total _) (told t s total _)

if_at_most : (b : Bool) (x n : ℕ) → x ≤ n → (if b then suc x else 0) ≤ suc n
if_at_most true x n h = omega (arith, h)
if_at_most false x n h = omega arith

fitting_most : (modes : Settings) (column : ℕ) (output : Output) (bytes : List ℕ)
    → fitting_count modes column output bytes ≤ length bytes
fitting_most modes column output [] = omega arith
fitting_most modes column output (byte ∷ bytes) =
    if_at_most (has_room output (posted_bytes modes column byte)) _ (length bytes)
    (fitting_most modes (column_past_text modes column (posted_bytes modes column byte))
    (after_send output (posted_bytes modes column byte)) bytes)

pub piece_most : (modes : Settings) (tty : NTtyState) (output : Output) (bytes : List ℕ)
    → piece_size modes tty output bytes ≤ length bytes
piece_most modes tty output bytes =
    omega (arith, fitting_most modes tty.column output (take PIECE bytes), length-take PIECE bytes)

abbrev OfNow : Terminal → CallerState → Type 0
OfNow t s = nat_lt 0 s.parts ≡ true → s.generation ≡ t.generation

takes_keeps : (t : Terminal) (s : CallerState) (total fit : ℕ) (after : Terminal) → IsSame t after
    → after.handles ≡ t.handles → OfNow t s → 1 ≤ fit → s.taken + fit < total → Keeps t s total (takes fit after)
takes_keeps t s total fit after h handles own some more =
    record {
      left = same_leaves t after h;
      part = λ n e. record {
        some = omega (arith, e);
        more = omega (arith, e);
        own = own;
        generation = h.generation;
        handles = handles;
        callers = h.callers;
      };
    }

-- the tests of a part, as facts
part_keeps : (t : Terminal) (s : CallerState) (total : ℕ) (nonblock : Bool) (left fit : ℕ) (after : Terminal)
    → IsSame t after → after.handles ≡ t.handles → OfNow t s → (all some : Bool)
    → (all ≡ false → some ≡ true → (1 ≤ fit) × (s.taken + fit < total)) → (rest : Outcome) → Keeps t s total rest
    → (whole : PlainAnswer)
    → Keeps t s total (if all then gives whole false after else if some then takes fit after else rest)
part_keeps t s total nonblock left fit after h handles own true some facts rest keeps whole =
    same t s total whole false after h
part_keeps t s total nonblock left fit after h handles own false true facts rest keeps whole =
    let f = facts refl refl in takes_keeps t s total fit after h handles own f.0 f.1
part_keeps t s total nonblock left fit after h handles own false false facts rest keeps whole = keeps

part_facts : (taken total left fit : ℕ)
    → fit ≤ left
    → left ≡ total - taken
    → (fit == left) ≡ false
    → nat_lt 0 fit ≡ true
    → (1 ≤ fit) × (taken + fit < total)
part_facts taken total left fit most is not_all some = (grind (arith, nat_tests), grind (arith, nat_tests))

write_keeps : (t : Terminal) (s : CallerState) (bytes : List ℕ) (nonblock : Bool) (d : Disc)
    → OfNow t s
    → Keeps t s (length bytes) (write_outcome t s nonblock (drop s.taken bytes) d)
write_keeps t s bytes nonblock (disc.Slip slip) own = refusal_keeps t s (length bytes) _
write_keeps t s bytes nonblock (disc.Tty tty) own =
    let rest = drop s.taken bytes in
    let fit = piece_size t.modes tty t.output rest in
    part_keeps t s (length bytes) nonblock (length rest) fit (with_piece_posted t tty rest)
    (effect_same t _ _ _ _ _ _) refl own
    (fit == length rest) (nat_lt 0 fit)
    (part_facts s.taken (length bytes) (length rest) fit (piece_most t.modes tty t.output rest)
    (length-drop s.taken bytes))
    _ (either t s (length bytes) nonblock _ _ (refusal_keeps t s (length bytes) _) (waiting t s (length bytes))) _

-- the second outcome, where the test is known to fail
unless : (t : Terminal) (s : CallerState) (total : ℕ) (b : Bool) (x y : Outcome)
    → Keeps t s total x
    → (b ≡ false → Keeps t s total y)
    → Keeps t s total (if b then x else y)
unless t s total true x y p q = p
unless t s total false x y p q = q refl

second_true : (a b : Bool) → (a && not b) ≡ false → a ≡ true → b ≡ true
second_true true true h e = refl
second_true true false h e = absurd (false≢true (sym h))
second_true false b h e = absurd (false≢true e)

of_now : (t : Terminal) (s : CallerState) → is_outlived t s ≡ false → OfNow t s
of_now t s h parts =
    eqb-true s.generation t.generation (second_true (has_parts s) (s.generation == t.generation) h parts)

writing_keeps : (t : Terminal) (s : CallerState) (bytes : List ℕ) (o : Option HandleState)
    → Keeps t s (length bytes) (writing_outcome t s bytes o)
writing_keeps t s bytes None = refusal_keeps t s (length bytes) _
writing_keeps t s bytes (Some handle) =
    either t s (length bytes) (not (may_write handle.access)) _ _ (refusal_keeps t s (length bytes) _)
    (either t s (length bytes) (not handle.live) _ _ (refusal_keeps t s (length bytes) _)
    (unless t s (length bytes) (is_outlived t s) _ _ (told t s (length bytes) _)
    (λ e. write_keeps t s bytes handle.nonblock t.disc (of_now t s e))))

-- ---- the calls that any live handle serves

on_live_keeps : (t : Terminal) (s : CallerState) (total : ℕ) (handle : Option HandleState) (live : Outcome)
    → Keeps t s total live
    → Keeps t s total (on_live t handle live)
on_live_keeps t s total None live h = told t s total _
on_live_keeps t s total (Some handle) live h = either t s total handle.live _ _ h (told t s total _)

on_access_keeps : (may : Access → Bool) (t : Terminal) (s : CallerState) (total : ℕ) (handle : Option HandleState)
    (live : Outcome)
    → Keeps t s total live
    → Keeps t s total (on_access may t handle live)
on_access_keeps may t s total None live h = told t s total _
on_access_keeps may t s total (Some handle) live h =
    either t s total (may handle.access) _ _ (on_live_keeps t s total (Some handle) live h) (told t s total _)

modes_keeps : (t : Terminal) (s : CallerState) (total : ℕ) (w : When) (new : Settings)
    → Keeps t s total (modes_outcome t w new)
modes_keeps t s total when.Now new = same t s total _ _ _ (effect_same t _ _ _ _ _ _)
modes_keeps t s total when.Drain new =
    either t s total (is_drained t) _ _ (same t s total _ _ _ (effect_same t _ _ _ _ _ _)) (waiting t s total)
modes_keeps t s total when.Flush new =
    either t s total (is_drained t) _ _ (same t s total _ _ _ (effect_same t _ _ _ _ _ _)) (waiting t s total)

change_keeps : (t : Terminal) (s : CallerState) (total number : ℕ) (o : Option Kind)
    → Keeps t s total (change_outcome t number o)
change_keeps t s total number None = told t s total _
change_keeps t s total number (Some new) =
    gives_keeps t s total _ _ _ (left_either t (number_of t.disc == number) _ _ (leaves t) (change_leaves t new))

flush_keeps : (t : Terminal) (s : CallerState) (total : ℕ) (q : Queue) → Keeps t s total (flush_outcome t q)
flush_keeps t s total queue.Input = same t s total _ _ _ (effect_same t _ _ _ _ _ _)
flush_keeps t s total queue.Output = same t s total _ _ _ (effect_same t _ _ _ _ _ _)
flush_keeps t s total queue.Both = same t s total _ _ _ (effect_same t _ _ _ _ _ _)

same_either : (t : Terminal) (b : Bool) (x y : Terminal) → IsSame t x → IsSame t y → IsSame t (if b then x else y)
same_either t true x y p q = p
same_either t false x y p q = q

sent_same : (t : Terminal) (place : ℕ) → IsSame t (with_character_sent t place)
sent_same t place =
    same_either t (character t.modes place == 0) t
    (record t { output = on_wire t.output (character t.modes place ∷ []) }) (is_same t)
    (effect_same t t.disc t.modes (on_wire t.output (character t.modes place ∷ [])) t.tally t.handles t.exclusive)

act_same : (t : Terminal) (a : Act) → IsSame t (after_act t a)
act_same t act.Ooff = effect_same t _ _ _ _ _ _
act_same t act.Oon = effect_same t _ _ _ _ _ _
act_same t act.Ioff = sent_same t VSTOP
act_same t act.Ion = sent_same t VSTART

exclusive_keeps : (t : Terminal) (s : CallerState) (total : ℕ) (on : Bool)
    → Keeps t s total (gives done false (record t { exclusive = on }))
exclusive_keeps t s total on = same t s total _ _ _ (effect_same t _ _ _ _ _ _)

drain_keeps : (t : Terminal) (s : CallerState) (total : ℕ) → Keeps t s total (drain_outcome t)
drain_keeps t s total = either t s total (is_drained t) _ _ (told t s total _) (waiting t s total)

sending_keeps : (t : Terminal) (s : CallerState) (total : ℕ) (bytes : List ℕ) (d : Disc)
    → Keeps t s total (sending_outcome t bytes d)
sending_keeps t s total bytes (disc.Tty tty) = told t s total _
sending_keeps t s total bytes (disc.Slip slip) =
    either t s total (nat_lt max_packet (length bytes)) _ _ (told t s total _)
    (either t s total _ _ _ (told t s total _)
    (same t s total _ _ _ (effect_same t _ _ _ _ _ _)))

taking_keeps : (t : Terminal) (s : CallerState) (total : ℕ) (d : Disc) → Keeps t s total (taking_outcome t d)
taking_keeps t s total (disc.Tty tty) = told t s total _
taking_keeps t s total (disc.Slip slip) =
    either t s total _ _ _ (told t s total _)
    (same t s total _ _ _ (effect_same t _ _ _ _ _ _))

-- ---- all calls

call_keeps : (t : Terminal) (s : CallerState) (call : PlainCall) → Keeps t s (byte_count call) (outcome t s call)
call_keeps t s (opens h access nonblock) = opening_keeps t s 0 h access nonblock
call_keeps t s (closes h) = closing_keeps t s 0 h (handle_at t h)
call_keeps t s (reads h n) = reading_keeps t s 0 n (handle_for t s h)
call_keeps t s (writes h bytes) = writing_keeps t s bytes (handle_for t s h)
call_keeps t s (gets_modes h) = on_live_keeps t s 0 (handle_for t s h) _ (told t s 0 _)
call_keeps t s (sets_modes h when words) = on_live_keeps t s 0 (handle_for t s h) _ (modes_keeps t s 0 when _)
call_keeps t s (gets_disc h) = on_live_keeps t s 0 (handle_for t s h) _ (told t s 0 _)
call_keeps t s (sets_disc h n) = on_live_keeps t s 0 (handle_for t s h) _ (change_keeps t s 0 n _)
call_keeps t s (flushes h queue) = on_live_keeps t s 0 (handle_for t s h) _ (flush_keeps t s 0 queue)
call_keeps t s (steers h act) = on_live_keeps t s 0 (handle_for t s h) _ (same t s 0 _ _ _ (act_same t act))
call_keeps t s (counts_input h) = on_live_keeps t s 0 (handle_for t s h) _ (told t s 0 _)
call_keeps t s (counts_output h) = on_live_keeps t s 0 (handle_for t s h) _ (told t s 0 _)
call_keeps t s (excludes h) = on_live_keeps t s 0 (handle_for t s h) _ (exclusive_keeps t s 0 true)
call_keeps t s (admits h) = on_live_keeps t s 0 (handle_for t s h) _ (exclusive_keeps t s 0 false)
call_keeps t s (drains h) = on_live_keeps t s 0 (handle_for t s h) _ (drain_keeps t s 0)
call_keeps t s (gets_counts h) = on_live_keeps t s 0 (handle_for t s h) _ (told t s 0 _)
call_keeps t s (hangs_up h) = on_live_keeps t s 0 (handle_for t s h) _ (gives_keeps t s 0 _ _ _ (hangup_leaves t))
call_keeps t s (sends_packet h bytes) =
    on_access_keeps may_write t s (length bytes) (handle_for t s h) _ (sending_keeps t s (length bytes) bytes t.disc)
call_keeps t s (takes_packet h) = on_access_keeps may_read t s 0 (handle_for t s h) _ (taking_keeps t s 0 t.disc)

-- how many bytes a call hands over, where it is known
abbrev pub total_of : Option PlainCall → ℕ
total_of None = 0
total_of (Some call) = byte_count call

pub outcome_keeps : (t : Terminal) (s : CallerState) (call : Option PlainCall)
    → Keeps t s (total_of call) (outcome_of t s call)
outcome_keeps t s None = record { left = leaves t; part = λ n e. absurd e }
outcome_keeps t s (Some call) = call_keeps t s call
