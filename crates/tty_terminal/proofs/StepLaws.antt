-- What each step changes, and what it keeps.
use Rattle.std.proofs.Common.{◌≡◌, ℕ, ◌+◌, ◌-◌, ◌≤◌, List, [], ◌∷◌, Bool, true, false, IsTrue, ◌&&◌, ◌==◌}
use Rattle.std.proofs.Common.{Option, None, Some, inl, inr, if◌then◌else◌, length, refl, sym, ◌∙◌, ap, arith}
use Rattle.std.proofs.lemmas.List.{length-map, length-set}
use Rattle.std.proofs.lemmas.Bool.{and_parts, or_cases, eqb-true, false≢true}
use Rattle.tty_base.specs.declared.characters.Flagged.{Flagged}
use Rattle.tty_calls.specs.declared.journals.Who.{Who}
use Rattle.tty_calls.specs.declared.journals.Who.TheVariants.{Caller, Flusher, Line, Clock, Session}
use Rattle.tty_calls.specs.Plain.{PlainCall, PlainAnswer, PlainEvent, answered, parted, waited, flushed, ticked}
use Rattle.tty_calls.specs.Plain.{line_ended, clock_ended, caller_ended, phase_ended, hung_up, PlainEntry, chars_in}
use Rattle.tty_terminal.specs.declared.callers.Bound.{Bound}
use Rattle.tty_terminal.specs.declared.callers.CallerState.{CallerState}
use Rattle.tty_terminal.specs.declared.callers.Piece.{Piece}
use Rattle.tty_terminal.specs.Terminals.{Terminal, idle_caller, caller_at, is_bound, begun_of}
use Rattle.tty_terminal.specs.Receiving.{after_character, after_characters}
use Rattle.tty_terminal.specs.Generations.{after_hangup, caller_after_hangup}
use Rattle.tty_terminal.specs.Outcomes.{Outcome, unknown, waits, takes, gives}
use Rattle.tty_terminal.specs.Calls.{outcome_of}
use Rattle.tty_terminal.specs.Steps.{Drops, left_by, IsAnswer, IsPart, IsWait, IsFlush, IsCallerEnd, ByCaller}
use Rattle.tty_terminal.specs.Steps.{by_caller, IsAllowed, after_event, Allowed, after, with_dropped, with_caller}
use Rattle.tty_terminal.specs.Steps.{bound_at, caller_after_answer, after_answer, caller_after_wait, after_wait}
use Rattle.tty_terminal.specs.Steps.{caller_after_part, after_part, after_caller_end, caller_after_phase}
use Rattle.tty_terminal.specs.Steps.{handle_number, next_phase, follows}
use Rattle.tty_terminal.proofs.CallerLists.{set_relates, map_relates, Stays, hangup_stays, begun_most}
use Rattle.tty_terminal.proofs.Effects.{Keeps, outcome_keeps, total_of}

-- how many characters the latest line end says were sent
abbrev pub sent_of : PlainEvent → ℕ → ℕ
sent_of (answered a dropped) sent = sent
sent_of (parted taken) sent = sent
sent_of waited sent = sent
sent_of (flushed chars) sent = sent
sent_of ticked sent = sent
sent_of (line_ended n) sent = n
sent_of clock_ended sent = sent
sent_of caller_ended sent = sent
sent_of phase_ended sent = sent
sent_of (hung_up dropped) sent = sent

-- how many flush runs have begun
abbrev pub runs_of : Option Piece → ℕ
runs_of None = 0
runs_of (Some p) = p.run + 1

-- after the line's end no more is taken than was sent
abbrev pub InLine : Terminal → Type 0
InLine t = IsTrue t.line_over → t.taken ≤ t.sent

-- no more is sent than was taken and fits in the flip buffer
abbrev pub Within : Terminal → Type 0
Within t = t.sent ≤ t.taken + t.capacity

-- a caller goes on: no step is taken back, and at most one is answered
pub record Goes (s u : CallerState) : Type 0 where
  pub least : s.next ≤ u.next
  pub most : u.next ≤ s.next + 1
  pub begun : begun_of s ≤ begun_of u

pub record Does (t u : Terminal) (event : PlainEvent) : Type 0 where
  pub taken : u.taken ≡ t.taken + length (chars_in event)
  pub sent : u.sent ≡ sent_of event t.sent
  pub capacity : u.capacity ≡ t.capacity
  pub callers : length u.callers ≡ length t.callers
  pub caller : (c : ℕ) → Goes (caller_at t c) (caller_at u c)
  pub least : t.generation ≤ u.generation
  pub generation : u.generation ≤ t.generation + 1
  pub tick : u.tick ≤ t.tick + 1
  pub phase : u.phase ≤ t.phase + 1
  pub runs : runs_of t.flushed ≤ runs_of u.flushed
  pub in_line : InLine t → InLine u
  pub within : Within t → Within u

goes : (s : CallerState) → Goes s s
goes s = record { least = omega arith; most = omega arith; begun = omega arith }

stays_goes : (s u : CallerState) → Stays s u → Goes s u
stays_goes s u h =
    record { least = omega (arith, h.next); most = omega (arith, h.next); begun = omega (arith, h.begun) }

goes_on : (s u v : CallerState) → Stays s u → Goes u v → Goes s v
goes_on s u v h k = record {
  least = omega (arith, h.next, k.least);
  most = omega (arith, h.next, k.most);
  begun = omega (arith, h.begun, k.begun);
}

-- one caller's state is replaced by one that goes on from it
set_goes : (t : Terminal) (c : ℕ) (s : CallerState) (d : ℕ)
    → Goes (caller_at t c) s
    → Goes (caller_at t d) (caller_at (with_caller t c s) d)
set_goes t c s d h = set_relates Goes goes t.callers c s d h

answered_goes : (s : CallerState) → Goes s (caller_after_answer s)
answered_goes s = record { least = omega arith; most = omega arith; begun = begun_most s }

drops_in_line : (t : Terminal) (o : Outcome) (n : ℕ)
    → Drops t o n
    → IsTrue t.line_over
    → t.taken ≤ t.sent
    → t.taken + n ≤ t.sent
drops_in_line t unknown n d over h = omega (arith, d)
drops_in_line t waits n d over h = omega (arith, d)
drops_in_line t (takes taken left) n d over h = omega (arith, d)
drops_in_line t (gives answer false left) n d over h = omega (arith, d)
drops_in_line t (gives answer true left) n d over h = omega (arith, d.2 over)

answered_does : (t : Terminal) (s : CallerState) (total : ℕ) (o : Outcome) (c : ℕ) (a : PlainAnswer)
    (dropped : List Flagged)
    → Keeps t s total o
    → Drops t o (length dropped)
    → Does t (after_answer (with_dropped (left_by o t) (length dropped)) c) (answered a dropped)
answered_does t s total o c a dropped k d =
    let l = k.left in
    record {
      taken = omega (arith, l.taken);
      sent = l.sent;
      capacity = l.capacity;
      callers = length-set (left_by o t).callers c (caller_after_answer (caller_at (left_by o t) c)) ∙ l.callers;
      caller = λ n. goes_on _ _ _ (l.caller n)
          (set_goes (left_by o t) c (caller_after_answer (caller_at (left_by o t) c)) n
          (answered_goes (caller_at (left_by o t) c)));
      least = l.least;
      generation = l.generation;
      tick = omega (arith, l.tick);
      phase = omega (arith, l.phase);
      runs = rw l.flushed (omega arith);
      in_line = λ h over.
          let kept : t.taken + length dropped ≤ t.sent =
          drops_in_line t o (length dropped) d (sym l.line_over ∙ over) (h (sym l.line_over ∙ over)) in
          omega (arith, l.taken, l.sent);
      within = λ h. omega (arith, l.taken, l.sent, l.capacity);
    }

bound_is_bound : (t : Terminal) (b : Option Bound) (h : ℕ) → is_bound (bound_at t b h) ≡ true
bound_is_bound t None h = refl
bound_is_bound t (Some b) h = refl

bound_begun : (n : ℕ) (b : Bool) → b ≡ true → n + 1 ≤ (if b then n + 1 else n)
bound_begun n true h = omega arith
bound_begun n false h = absurd (false≢true h)

part_goes : (t : Terminal) (s : CallerState) (h n : ℕ) → Goes s (caller_after_part t s h n)
part_goes t s h n =
    let begun = bound_begun s.next (is_bound (bound_at t s.bound h)) (bound_is_bound t s.bound h) in
    record { least = omega arith; most = omega arith; begun = omega (arith, begun, begun_most s) }

waiting_goes : (t : Terminal) (s : CallerState) (h : ℕ) → Goes s (caller_after_wait t s h)
waiting_goes t s h =
    let begun = bound_begun s.next (is_bound (bound_at t s.bound h)) (bound_is_bound t s.bound h) in
    record { least = omega arith; most = omega arith; begun = omega (arith, begun, begun_most s) }

parted_does : (t : Terminal) (s : CallerState) (total : ℕ) (o : Outcome) (c h n : ℕ)
    → Keeps t s total o
    → Does t (after_part (left_by o t) c h n) (parted n)
parted_does t s total o c h n k =
    let l = k.left in
    let u = left_by o t in
    record {
      taken = omega (arith, l.taken);
      sent = l.sent;
      capacity = l.capacity;
      callers = length-set u.callers c (caller_after_part u (caller_at u c) h n) ∙ l.callers;
      caller = λ d. goes_on _ _ _ (l.caller d)
          (set_goes u c (caller_after_part u (caller_at u c) h n) d (part_goes u (caller_at u c) h n));
      least = l.least;
      generation = l.generation;
      tick = omega (arith, l.tick);
      phase = omega (arith, l.phase);
      runs = rw l.flushed (omega arith);
      in_line = λ g over. let kept : t.taken ≤ t.sent = g (sym l.line_over ∙ over) in omega (arith, l.taken, l.sent);
      within = λ g. omega (arith, l.taken, l.sent, l.capacity);
    }

-- a caller's state changes, and nothing else
changed_does : (t : Terminal) (c : ℕ) (s : CallerState) (event : PlainEvent)
    → length (chars_in event) ≡ 0
    → sent_of event t.sent ≡ t.sent
    → Goes (caller_at t c) s
    → Does t (with_caller t c s) event
changed_does t c s event none sent h =
    record {
      taken = omega (arith, none);
      sent = sym sent;
      capacity = refl;
      callers = length-set t.callers c s;
      caller = λ n. set_goes t c s n h;
      least = omega arith;
      generation = omega arith;
      tick = omega arith;
      phase = omega arith;
      runs = omega arith;
      in_line = λ k. k;
      within = λ k. k;
    }

ended_goes : (s : CallerState) → Goes s (record s { over = true })
ended_goes s = record { least = omega arith; most = omega arith; begun = omega arith }

again_goes : (s : CallerState) → Goes s (caller_after_phase s)
again_goes s = record { least = omega arith; most = omega arith; begun = omega arith }

dead_goes : (s : CallerState) → Goes s (caller_after_hangup s)
dead_goes s = stays_goes s (caller_after_hangup s) (hangup_stays s)

-- the terminal after some characters
record Receives (t u : Terminal) (n : ℕ) : Type 0 where
  taken : u.taken ≡ t.taken + n
  sent : u.sent ≡ t.sent
  capacity : u.capacity ≡ t.capacity
  callers : u.callers ≡ t.callers
  generation : u.generation ≡ t.generation
  tick : u.tick ≡ t.tick
  phase : u.phase ≡ t.phase
  line_over : u.line_over ≡ t.line_over

receives : (t : Terminal) (chars : List Flagged) → Receives t (after_characters t chars) (length chars)
receives t [] = record {
  taken = omega arith;
  sent = refl;
  capacity = refl;
  callers = refl;
  generation = refl;
  tick = refl;
  phase = refl;
  line_over = refl;
}
receives t (c ∷ cs) =
    let h = receives (after_character t c) cs in
    record {
      taken = omega (arith, h.taken);
      sent = h.sent;
      capacity = h.capacity;
      callers = h.callers;
      generation = h.generation;
      tick = h.tick;
      phase = h.phase;
      line_over = h.line_over;
    }

follows_runs : (p : Option Piece) (run part : ℕ) → IsTrue (follows p run part) → runs_of p ≤ run + 1
follows_runs None run part h = omega arith
follows_runs (Some p) run part h =
    elim (or_cases ((run == p.run) && (part == p.part + 1)) ((run == p.run + 1) && (part == 0)) h) [
      | inl e ↦ omega (arith, eqb-true run p.run (and_parts (run == p.run) (part == p.part + 1) e).0)
      | inr e ↦ omega (arith, eqb-true run (p.run + 1) (and_parts (run == p.run + 1) (part == 0) e).0)
    ]

flushed_does : (t : Terminal) (step part : ℕ) (chars : List Flagged)
    → IsFlush t step part chars
    → Does t (record (after_characters t chars) { flushed = Some (record { run = step; part = part }) }) (flushed chars)
flushed_does t step part chars f =
    let h = receives t chars in
    record {
      taken = h.taken;
      sent = h.sent;
      capacity = h.capacity;
      callers = ap length h.callers;
      caller = λ c. rw h.callers (goes (caller_at t c));
      least = omega (arith, h.generation);
      generation = omega (arith, h.generation);
      tick = omega (arith, h.tick);
      phase = omega (arith, h.phase);
      runs = follows_runs t.flushed step part f.numbered;
      in_line = λ k over.
          let kept : t.taken + length chars ≤ t.sent = f.sent (sym h.line_over ∙ over) in
          omega (arith, h.taken, h.sent);
      within = λ k. omega (arith, h.taken, h.sent, h.capacity);
    }

phase_does : (t : Terminal) → Does t (next_phase t) phase_ended
phase_does t =
    record {
      taken = omega arith;
      sent = refl;
      capacity = refl;
      callers = length-map t.callers caller_after_phase;
      caller = λ c. map_relates Goes caller_after_phase (goes idle_caller) again_goes t.callers c;
      least = omega arith;
      generation = omega arith;
      tick = omega arith;
      phase = omega arith;
      runs = omega arith;
      in_line = λ k over. absurd (false≢true over);
      within = λ k. k;
    }

hangup_does : (t : Terminal) (dropped : List Flagged)
    → length dropped ≡ t.sent - t.taken
    → Does t (with_dropped (after_hangup t) (length dropped)) (hung_up dropped)
hangup_does t dropped all =
    record {
      taken = refl;
      sent = refl;
      capacity = refl;
      callers = length-map t.callers caller_after_hangup;
      caller = λ c. map_relates Goes caller_after_hangup (goes idle_caller) dead_goes t.callers c;
      least = omega arith;
      generation = omega arith;
      tick = omega arith;
      phase = omega arith;
      runs = omega arith;
      in_line = λ k over. let kept : t.taken ≤ t.sent = k over in omega (arith, all);
      within = λ k. omega (arith, k);
    }

-- line, clock and callers stay as they are
same_does : (t : Terminal) (event : PlainEvent) (n : ℕ) (tick : ℕ) (line clock : Bool)
    → length (chars_in event) ≡ 0
    → sent_of event t.sent ≡ n
    → tick ≤ t.tick + 1
    → (InLine t → IsTrue line → t.taken ≤ n)
    → (Within t → n ≤ t.taken + t.capacity)
    → Does t (record t { tick = tick; sent = n; line_over = line; clock_over = clock }) event
same_does t event n tick line clock none sent ticks over within =
    record {
      taken = omega (arith, none);
      sent = sym sent;
      capacity = refl;
      callers = refl;
      caller = λ c. goes (caller_at t c);
      least = omega arith;
      generation = omega arith;
      tick = ticks;
      phase = omega arith;
      runs = omega arith;
      in_line = over;
      within = within;
    }

by_caller_does : (who : Who) (t : Terminal) (P : ℕ → Type 0) (f : ℕ → Terminal) (event : PlainEvent)
    → ((c : ℕ) → P c → Does t (f c) event)
    → ByCaller who P
    → Does t (by_caller who t f) event
by_caller_does (Caller c) t P f event each h = each c h
by_caller_does Flusher t P f event each h = absurd h
by_caller_does Line t P f event each h = absurd h
by_caller_does Clock t P f event each h = absurd h
by_caller_does Session t P f event each h = absurd h

event_does : (f : ℕ → ℕ → Option PlainCall) (counts : List ℕ) (t : Terminal) (who : Who) (step part : ℕ)
    (event : PlainEvent)
    → IsAllowed f counts t who step part event
    → Does t (after_event f t who step part event) event
event_does f counts t who step part (answered a dropped) h =
    by_caller_does who t (λ c. IsAnswer f counts t c step part a dropped)
    (λ c. after_answer (with_dropped (left_by (outcome_of t (caller_at t c) (f c step)) t) (length dropped)) c)
    (answered a dropped)
    (λ c k. answered_does t (caller_at t c) (total_of (f c step)) (outcome_of t (caller_at t c) (f c step)) c a dropped
    (outcome_keeps t (caller_at t c) (f c step)) k.drops) h
event_does f counts t who step part (parted taken) h =
    by_caller_does who t (λ c. IsPart f t c step part taken)
    (λ c. after_part (left_by (outcome_of t (caller_at t c) (f c step)) t) c (handle_number (f c step)) taken)
    (parted taken)
    (λ c k. parted_does t (caller_at t c) (total_of (f c step)) (outcome_of t (caller_at t c) (f c step)) c
    (handle_number (f c step)) taken (outcome_keeps t (caller_at t c) (f c step))) h
event_does f counts t who step part waited h =
    by_caller_does who t (λ c. IsWait f t c step part) (λ c. after_wait t c (handle_number (f c step))) waited
    (λ c k. changed_does t c (caller_after_wait t (caller_at t c) (handle_number (f c step))) waited refl refl
    (waiting_goes t (caller_at t c) (handle_number (f c step)))) h
event_does f counts t who step part (flushed chars) h = flushed_does t step part chars h.1
event_does f counts t who step part ticked h =
    same_does t ticked t.sent (t.tick + 1) t.line_over t.clock_over refl refl (omega arith) (λ k. k) (λ k. k)
event_does f counts t who step part (line_ended n) h =
    same_does t (line_ended n) n t.tick true t.clock_over refl refl (omega arith) (λ k over. h.1.taken) (λ k. h.1.fits)
event_does f counts t who step part clock_ended h =
    same_does t clock_ended t.sent t.tick t.line_over true refl refl (omega arith) (λ k. k) (λ k. k)
event_does f counts t who step part caller_ended h =
    by_caller_does who t (λ c. IsCallerEnd t c step part) (after_caller_end t) caller_ended
    (λ c k.
    changed_does t c (record (caller_at t c) { over = true }) caller_ended refl refl (ended_goes (caller_at t c))) h
event_does f counts t who step part phase_ended h = phase_does t
event_does f counts t who step part (hung_up dropped) h = hangup_does t dropped h.1.all

pub step_does : (f : ℕ → ℕ → Option PlainCall) (counts : List ℕ) (t : Terminal) (e : PlainEntry)
    → Allowed f counts t e
    → Does t (after f t e) e.event
step_does f counts t e h = event_does f counts t e.who e.step e.part e.event h.1

pub taken_after : (f : ℕ → ℕ → Option PlainCall) (counts : List ℕ) (t : Terminal) (e : PlainEntry)
    → Allowed f counts t e
    → (after f t e).taken ≡ t.taken + length (chars_in e.event)
taken_after f counts t e h = (step_does f counts t e h).taken

pub sent_after : (f : ℕ → ℕ → Option PlainCall) (counts : List ℕ) (t : Terminal) (e : PlainEntry)
    → Allowed f counts t e
    → (after f t e).sent ≡ sent_of e.event t.sent
sent_after f counts t e h = (step_does f counts t e h).sent

pub begun_after : (f : ℕ → ℕ → Option PlainCall) (counts : List ℕ) (t : Terminal) (e : PlainEntry)
    → Allowed f counts t e
    → (c : ℕ)
    → begun_of (caller_at t c) ≤ begun_of (caller_at (after f t e) c)
begun_after f counts t e h c = ((step_does f counts t e h).caller c).begun
