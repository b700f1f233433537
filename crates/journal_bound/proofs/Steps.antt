-- Each entry but a hangup uses up some of what a session allows.
use Rattle.std.proofs.Common.{◌≡◌, ℕ, ◌+◌, ◌*◌, ◌<◌, ◌≤◌, Bool, true, false, ◌==◌, if◌then◌else◌, List, []}
use Rattle.std.proofs.Common.{◌∷◌, Option, None, Some, is_some, length, refl, sym, ap, subst, ◌∙◌, arith}
use Rattle.std.proofs.lemmas.Bool.{eqb-true, eq-eqb}
use Rattle.std.specs.Prelude.{nat_lt}
use Rattle.tty_base.specs.declared.counters.Errno.TheVariants.{EAGAIN, EMSGSIZE}
use Rattle.tty_calls.specs.declared.journals.Who.{Who}
use Rattle.tty_calls.specs.declared.journals.Who.TheVariants.{Caller, Flusher, Line, Clock, Session}
use Rattle.tty_calls.specs.Plain.{PlainCall, opens, closes, reads, writes, gets_modes, sets_modes, gets_disc}
use Rattle.tty_calls.specs.Plain.{sets_disc, flushes, steers, counts_input, counts_output, excludes, admits}
use Rattle.tty_calls.specs.Plain.{drains, gets_counts, hangs_up, sends_packet, takes_packet, PlainAnswer, done}
use Rattle.tty_calls.specs.Plain.{refused, PlainEvent, answered, parted, waited, flushed, ticked, line_ended}
use Rattle.tty_calls.specs.Plain.{clock_ended, caller_ended, phase_ended, hung_up, PlainEntry, is_caller, chars_in}
use Rattle.tty_calls.specs.Sessions.{PlainSession, scripts_on, call_at, counts_on}
use Rattle.flow_control.specs.Output.{room_of}
use Rattle.slip_frames.specs.Slip.{max_packet, spelling_of}
use Rattle.handle_table.specs.declared.HandleState.{HandleState}
use Rattle.ldisc_switch.specs.declared.discipline.Disc.{Disc}
use Rattle.ldisc_switch.specs.declared.discipline.Disc.TheVariants as disc
use Rattle.tty_terminal.specs.declared.callers.CallerState.{CallerState}
use Rattle.tty_terminal.specs.Terminals.{Terminal, caller_at, handle_for}
use Rattle.tty_terminal.specs.Outcomes.{Outcome, gives, refuses, does, on_access, may_write}
use Rattle.tty_terminal.specs.Packets.{with_packet_sent, sending_outcome}
use Rattle.tty_terminal.specs.Calls.{outcome_of}
use Rattle.tty_terminal.specs.Steps.{Answers, MustWait, TakesPart, left_by, IsAllowed, after_event, Allowed, after}
use Rattle.tty_terminal.specs.Runs.{Leads, phase_after}
use Rattle.tty_terminal.specs.Standing.{Standing, standing_of, standing_after_own, standing_after_other, standing_after}
use Rattle.tty_terminal.specs.Marks.{Marks, marks_of, marks_after}
use Rattle.tty_terminal.proofs.StandingLaws.{step_stands}
use Rattle.tty_terminal.proofs.MarkLaws.{step_marks}
use Rattle.tty_terminal.proofs.StepLaws.{step_does}
use Rattle.tty_terminal.proofs.WaitLaws.{part_some, part_more as part_leaves}
use Rattle.legal_runs.specs.Legal.{phase_at, name_at, IsInPhase, AreInPhases}
use Rattle.legal_runs.specs.Short.{is_tick}
use Rattle.legal_runs.proofs.PhaseLemmas.{phase-after}
use Rattle.legal_runs.proofs.Truths.{if_true}
use Rattle.journal_bound.proofs.Totals.{total, total_least, total_paid}
use Rattle.journal_bound.proofs.Names.{worth_of, one_each, caller_worth}
use Rattle.journal_bound.proofs.Crowded.{crowd, pay, write_pays}
use Rattle.journal_bound.proofs.Spent.{bit, bit_small, bytes_of, text_of, known, spent, IsSound, IsMore}
use Rattle.journal_bound.proofs.Spent.{answer_more, part_more, wait_more, end_more, same_more, phase_more}

-- ---- what the events of a call need

answers_known : (may : Bool) (t : Terminal) (s : CallerState) (call : Option PlainCall) (a : PlainAnswer)
    → Answers may (outcome_of t s call) a
    → known call ≡ 1
answers_known may t s None a h = absurd h
answers_known may t s (Some call) a h = refl

waits_known : (t : Terminal) (s : CallerState) (call : Option PlainCall)
    → MustWait (outcome_of t s call)
    → known call ≡ 1
waits_known t s None h = absurd h
waits_known t s (Some call) h = refl

-- no part is taken
record TakesNone (o : Outcome) : Type 0 where
  none : (n : ℕ) → TakesPart o n → ⊥

gives_takes_none : (a : PlainAnswer) (drops : Bool) (left : Terminal) → TakesNone (gives a drops left)
gives_takes_none a drops left = record { none = λ n h. h }

if_takes_none : (b : Bool) (x y : Outcome) → TakesNone x → TakesNone y → TakesNone (if b then x else y)
if_takes_none true x y h k = h
if_takes_none false x y h k = k

-- nor is one of a packet
sending_takes_none : (t : Terminal) (bytes : List ℕ) (d : Disc) → TakesNone (sending_outcome t bytes d)
sending_takes_none t bytes (disc.Tty tty) = gives_takes_none _ _ _
sending_takes_none t bytes (disc.Slip slip) =
    if_takes_none (nat_lt max_packet (length bytes)) (refuses EMSGSIZE t)
    (if nat_lt (room_of t.output) (length (spelling_of bytes))
    then refuses EAGAIN t
    else does (with_packet_sent t bytes))
    (gives_takes_none (refused EMSGSIZE) false t)
    (if_takes_none (nat_lt (room_of t.output) (length (spelling_of bytes))) (refuses EAGAIN t)
    (does (with_packet_sent t bytes)) (gives_takes_none (refused EAGAIN) false t)
    (gives_takes_none done false (with_packet_sent t bytes)))

packet_takes_none : (t : Terminal) (handle : Option HandleState) (o : Outcome)
    → TakesNone o
    → TakesNone (on_access may_write t handle o)
packet_takes_none t None o h = gives_takes_none _ _ _
packet_takes_none t (Some handle) o h =
    if_takes_none _ _ _ (if_takes_none _ _ _ h (gives_takes_none _ _ _)) (gives_takes_none _ _ _)

takes_some : (t : Terminal) (s : CallerState) (call : Option PlainCall) (n : ℕ)
    → TakesPart (outcome_of t s call) n
    → 1 ≤ n
takes_some t s None n h = absurd h
takes_some t s (Some call) n h = part_some t s call n h

-- no part of any call but a write is taken
takes_within : (t : Terminal) (s : CallerState) (call : PlainCall) (n : ℕ)
    → TakesPart (outcome_of t s (Some call)) n
    → s.taken + n < bytes_of (Some call)
takes_within t s (opens h access nonblock) n k = omega (arith, part_leaves t s (opens h access nonblock) n k)
takes_within t s (closes h) n k = omega (arith, part_leaves t s (closes h) n k)
takes_within t s (reads h m) n k = omega (arith, part_leaves t s (reads h m) n k)
takes_within t s (writes h bytes) n k = omega (arith, part_leaves t s (writes h bytes) n k)
takes_within t s (gets_modes h) n k = omega (arith, part_leaves t s (gets_modes h) n k)
takes_within t s (sets_modes h when words) n k = omega (arith, part_leaves t s (sets_modes h when words) n k)
takes_within t s (gets_disc h) n k = omega (arith, part_leaves t s (gets_disc h) n k)
takes_within t s (sets_disc h m) n k = omega (arith, part_leaves t s (sets_disc h m) n k)
takes_within t s (flushes h queue) n k = omega (arith, part_leaves t s (flushes h queue) n k)
takes_within t s (steers h act) n k = omega (arith, part_leaves t s (steers h act) n k)
takes_within t s (counts_input h) n k = omega (arith, part_leaves t s (counts_input h) n k)
takes_within t s (counts_output h) n k = omega (arith, part_leaves t s (counts_output h) n k)
takes_within t s (excludes h) n k = omega (arith, part_leaves t s (excludes h) n k)
takes_within t s (admits h) n k = omega (arith, part_leaves t s (admits h) n k)
takes_within t s (drains h) n k = omega (arith, part_leaves t s (drains h) n k)
takes_within t s (gets_counts h) n k = omega (arith, part_leaves t s (gets_counts h) n k)
takes_within t s (hangs_up h) n k = omega (arith, part_leaves t s (hangs_up h) n k)
takes_within t s (sends_packet h bytes) n k = absurd (
    (packet_takes_none t (handle_for t s h) (sending_outcome t bytes t.disc) (sending_takes_none t bytes t.disc)).none
    n k)
takes_within t s (takes_packet h) n k = omega (arith, part_leaves t s (takes_packet h) n k)

takes_fits : (t : Terminal) (s : CallerState) (call : Option PlainCall) (n : ℕ)
    → TakesPart (outcome_of t s call) n
    → s.taken + n < bytes_of call
takes_fits t s None n h = absurd h
takes_fits t s (Some call) n h = takes_within t s call n h

-- twice as many as there are taken of the last eight places for held output
abbrev pub crowding : Terminal → ℕ
crowding t = 2 * crowd t.output

-- a part pays for two entries
abbrev PaysFor : Terminal → CallerState → Option PlainCall → ℕ → Type 0
PaysFor t s call n =
    (32 + pay (text_of call) s.taken) + crowding t
    ≤ pay (text_of call) (s.taken + n) + crowding (left_by (outcome_of t s call) t)

none_within : (t : Terminal) (s : CallerState) (call : PlainCall) (n : ℕ)
    → bytes_of (Some call) ≡ 0
    → TakesPart (outcome_of t s (Some call)) n
    → ⊥
none_within t s call n none h = omega (arith, takes_within t s call n h, none)

takes_pays : (t : Terminal) (s : CallerState) (call : Option PlainCall) (n : ℕ)
    → TakesPart (outcome_of t s call) n
    → PaysFor t s call n
takes_pays t s None n h = absurd h
takes_pays t s (Some (opens h access nonblock)) n k = absurd (none_within t s (opens h access nonblock) n refl k)
takes_pays t s (Some (closes h)) n k = absurd (none_within t s (closes h) n refl k)
takes_pays t s (Some (reads h m)) n k = absurd (none_within t s (reads h m) n refl k)
takes_pays t s (Some (writes h bytes)) n k =
    (write_pays t s h bytes).pays n k (part_some t s (writes h bytes) n k) (takes_within t s (writes h bytes) n k)
takes_pays t s (Some (gets_modes h)) n k = absurd (none_within t s (gets_modes h) n refl k)
takes_pays t s (Some (sets_modes h when words)) n k = absurd (none_within t s (sets_modes h when words) n refl k)
takes_pays t s (Some (gets_disc h)) n k = absurd (none_within t s (gets_disc h) n refl k)
takes_pays t s (Some (sets_disc h m)) n k = absurd (none_within t s (sets_disc h m) n refl k)
takes_pays t s (Some (flushes h queue)) n k = absurd (none_within t s (flushes h queue) n refl k)
takes_pays t s (Some (steers h act)) n k = absurd (none_within t s (steers h act) n refl k)
takes_pays t s (Some (counts_input h)) n k = absurd (none_within t s (counts_input h) n refl k)
takes_pays t s (Some (counts_output h)) n k = absurd (none_within t s (counts_output h) n refl k)
takes_pays t s (Some (excludes h)) n k = absurd (none_within t s (excludes h) n refl k)
takes_pays t s (Some (admits h)) n k = absurd (none_within t s (admits h) n refl k)
takes_pays t s (Some (drains h)) n k = absurd (none_within t s (drains h) n refl k)
takes_pays t s (Some (gets_counts h)) n k = absurd (none_within t s (gets_counts h) n refl k)
takes_pays t s (Some (hangs_up h)) n k = absurd (none_within t s (hangs_up h) n refl k)
takes_pays t s (Some (sends_packet h bytes)) n k = absurd (none_within t s (sends_packet h bytes) n refl k)
takes_pays t s (Some (takes_packet h)) n k = absurd (none_within t s (takes_packet h) n refl k)

not_waiting : (s : CallerState) → s.waits ≡ None → is_some s.waits ≡ false
not_waiting s e = ap (λ (w : Option ℕ). is_some w) e

-- ---- one entry, caller by caller

-- in how many scripts of a phase a caller has its calls
abbrev pub own : ℕ → PlainSession → ℕ → ℕ → ℕ
own p session c k = worth_of one_each (scripts_on p (phase_at session k)) (name_at p session c)

-- of the caller that made it
own_event : (p : ℕ) (session : PlainSession) (t : Terminal) (d step part : ℕ) (event : PlainEvent) (generation : ℕ)
    → IsAllowed (call_at p session) (counts_on p session) t (Caller d) step part event
    → IsInPhase p session t.phase (Caller d) step event
    → IsSound (call_at p session d) (own p session d) t.phase (standing_of (caller_at t d))
    → IsMore (16 + crowding t) (crowding (after_event (call_at p session) t (Caller d) step part event))
    (call_at p session d) (own p session d) t.phase (phase_after event t.phase) (standing_of (caller_at t d))
    (standing_after_own event generation (standing_of (caller_at t d)))
own_event p session t d step part (answered a dropped) generation h k sound =
    let call : known (call_at p session d (caller_at t d).next) ≡ 1 =
    subst (λ (n : ℕ). known (call_at p session d n) ≡ 1) h.next.at_step
    (answers_known _ t (caller_at t d) (call_at p session d step) a h.answer) in
    answer_more (call_at p session d) (own p session d) t.phase (standing_of (caller_at t d)) sound a dropped generation
    (crowding t) _ call (omega arith)
own_event p session t d step part (parted n) generation h k sound =
    let fits : (caller_at t d).taken + n < bytes_of (call_at p session d (caller_at t d).next) =
    subst (λ (i : ℕ). (caller_at t d).taken + n < bytes_of (call_at p session d i)) h.next.at_step
    (takes_fits t (caller_at t d) (call_at p session d step) n h.takes) in
    let pays = subst (λ (i : ℕ).
    (32 + pay (text_of (call_at p session d i)) (caller_at t d).taken) + crowding t
    ≤ pay (text_of (call_at p session d i)) ((caller_at t d).taken + n)
    + crowding (left_by (outcome_of t (caller_at t d) (call_at p session d step)) t)) h.next.at_step
    (takes_pays t (caller_at t d) (call_at p session d step) n h.takes) in
    part_more (call_at p session d) (own p session d) t.phase (standing_of (caller_at t d)) sound n generation
    (crowding t) (crowding (left_by (outcome_of t (caller_at t d) (call_at p session d step)) t))
    (takes_some t (caller_at t d) (call_at p session d step) n h.takes) fits pays
own_event p session t d step part waited generation h k sound =
    let call : known (call_at p session d (caller_at t d).next) ≡ 1 =
    subst (λ (n : ℕ). known (call_at p session d n) ≡ 1) h.next.at_step
    (waits_known t (caller_at t d) (call_at p session d step) h.must) in
    wait_more (call_at p session d) (own p session d) t.phase (standing_of (caller_at t d)) sound generation
    (crowding t) (not_waiting (caller_at t d) h.first) call
own_event p session t d step part (flushed chars) generation h k sound = absurd (not_by d h.0)
  where
    not_by : (c : ℕ) → Caller c ≡ Flusher → ⊥
    not_by c e = cc
own_event p session t d step part ticked generation h k sound = absurd (not_by d h.0)
  where
    not_by : (c : ℕ) → Caller c ≡ Clock → ⊥
    not_by c e = cc
own_event p session t d step part (line_ended n) generation h k sound = absurd (not_by d h.0)
  where
    not_by : (c : ℕ) → Caller c ≡ Line → ⊥
    not_by c e = cc
own_event p session t d step part clock_ended generation h k sound = absurd (not_by d h.0)
  where
    not_by : (c : ℕ) → Caller c ≡ Clock → ⊥
    not_by c e = cc
own_event p session t d step part caller_ended generation h k sound =
    end_more (call_at p session d) (own p session d) t.phase (standing_of (caller_at t d)) sound generation (crowding t)
    h.not_over (caller_worth (scripts_on p (phase_at session t.phase)) (name_at p session d) k.0)
own_event p session t d step part phase_ended generation h k sound = absurd (not_by d h.0)
  where
    not_by : (c : ℕ) → Caller c ≡ Session → ⊥
    not_by c e = cc
own_event p session t d step part (hung_up dropped) generation h k sound = absurd (not_by d h.0)
  where
    not_by : (c : ℕ) → Caller c ≡ Session → ⊥
    not_by c e = cc

-- of another
other_event : (calls : ℕ → Option PlainCall) (owned : ℕ → ℕ) (k : ℕ) (event : PlainEvent) (s : Standing)
    → IsSound calls owned k s
    → IsMore 0 0 calls owned k (phase_after event k) s (standing_after_other event s)
other_event calls owned k (answered a dropped) s h = same_more calls owned k s h
other_event calls owned k (parted n) s h = same_more calls owned k s h
other_event calls owned k waited s h = same_more calls owned k s h
other_event calls owned k (flushed chars) s h = same_more calls owned k s h
other_event calls owned k ticked s h = same_more calls owned k s h
other_event calls owned k (line_ended n) s h = same_more calls owned k s h
other_event calls owned k clock_ended s h = same_more calls owned k s h
other_event calls owned k caller_ended s h = same_more calls owned k s h
other_event calls owned k phase_ended s h = phase_more calls owned k s h
other_event calls owned k (hung_up dropped) s h = same_more calls owned k s h

abbrev AreSound : ℕ → PlainSession → Terminal → Type 0
AreSound p session t = (c : ℕ) → IsSound (call_at p session c) (own p session c) t.phase (standing_of (caller_at t c))

-- what an entry makes of any caller
record Keeps (p : ℕ) (session : PlainSession) (c k l : ℕ) (s u : Standing) : Type 0 where
  least : spent (call_at p session c) (own p session c) k s ≤ spent (call_at p session c) (own p session c) l u
  sound : IsSound (call_at p session c) (own p session c) l u

keeps : (p : ℕ) (session : PlainSession) (c k l d room : ℕ) (s u : Standing)
    → IsMore d room (call_at p session c) (own p session c) k l s u
    → Keeps p session c k l s u
keeps p session c k l d room s u h = record { least = h.least; sound = h.sound }

either_keeps : (p : ℕ) (session : PlainSession) (c k l : ℕ) (s u v : Standing) (b : Bool)
    → (b ≡ true → Keeps p session c k l s u)
    → Keeps p session c k l s v
    → Keeps p session c k l s (if b then u else v)
either_keeps p session c k l s u v true mine others = mine refl
either_keeps p session c k l s u v false mine others = others

other_keeps : (p : ℕ) (session : PlainSession) (t : Terminal) (event : PlainEvent) (c : ℕ)
    → AreSound p session t
    → Keeps p session c t.phase (phase_after event t.phase) (standing_of (caller_at t c))
    (standing_after_other event (standing_of (caller_at t c)))
other_keeps p session t event c sound =
    keeps p session c t.phase (phase_after event t.phase) 0 0 (standing_of (caller_at t c))
    (standing_after_other event (standing_of (caller_at t c)))
    (other_event (call_at p session c) (own p session c) t.phase event (standing_of (caller_at t c)) (sound c))

each_event : (p : ℕ) (session : PlainSession) (t : Terminal) (who : Who) (step part : ℕ) (event : PlainEvent)
    (generation : ℕ)
    → IsAllowed (call_at p session) (counts_on p session) t who step part event
    → IsInPhase p session t.phase who step event
    → AreSound p session t
    → (c : ℕ)
    → Keeps p session c t.phase (phase_after event t.phase) (standing_of (caller_at t c))
    (if is_caller who c
    then standing_after_own event generation (standing_of (caller_at t c))
    else standing_after_other event (standing_of (caller_at t c)))
each_event p session t (Caller d) step part event generation h k sound c =
    either_keeps p session c t.phase (phase_after event t.phase) (standing_of (caller_at t c))
    (standing_after_own event generation (standing_of (caller_at t c)))
    (standing_after_other event (standing_of (caller_at t c))) (d == c)
    (λ e. subst (λ (i : ℕ). Keeps p session i t.phase (phase_after event t.phase) (standing_of (caller_at t i))
    (standing_after_own event generation (standing_of (caller_at t i))))
    (eqb-true d c e)
    (keeps p session d t.phase (phase_after event t.phase) _ _ (standing_of (caller_at t d))
    (standing_after_own event generation (standing_of (caller_at t d)))
    (own_event p session t d step part event generation h k (sound d))))
    (other_keeps p session t event c sound)
each_event p session t Flusher step part event generation h k sound c = other_keeps p session t event c sound
each_event p session t Line step part event generation h k sound c = other_keeps p session t event c sound
each_event p session t Clock step part event generation h k sound c = other_keeps p session t event c sound
each_event p session t Session step part event generation h k sound c = other_keeps p session t event c sound

-- ---- one entry

-- what line, clock and phases allow
abbrev pub mark_count : Marks → ℕ
mark_count m = 3 * m.phase + bit m.line_over + bit m.clock_over

-- what the first n callers have spent
abbrev pub spent_in : ℕ → PlainSession → ℕ → ℕ → (ℕ → Standing) → ℕ
spent_in p session n k stands = total (λ c. spent (call_at p session c) (own p session c) k (stands c)) n

abbrev pub is_hangup : PlainEvent → Bool
is_hangup (answered a dropped) = false
is_hangup (parted n) = false
is_hangup waited = false
is_hangup (flushed chars) = false
is_hangup ticked = false
is_hangup (line_ended n) = false
is_hangup clock_ended = false
is_hangup caller_ended = false
is_hangup phase_ended = false
is_hangup (hung_up dropped) = true

-- a tick counts by itself; a hangup and each character count twice, since they can make room
abbrev pub extra : PlainEvent → ℕ
extra event = 16 * bit (is_tick event) + 32 * length (chars_in event) + 32 * bit (is_hangup event)

abbrev after_entry : PlainEvent → Who → ℕ → (ℕ → Standing) → ℕ → Standing
after_entry event who generation stands c =
    if is_caller who c then standing_after_own event generation (stands c) else standing_after_other event (stands c)

-- from one place to another at most so much is used up, in sixteenths of an entry
abbrev pub used_by : ℕ → PlainSession → ℕ → Marks → (ℕ → Standing) → (room : ℕ) → ℕ
used_by p session n m stands room = spent_in p session n m.phase stands + 16 * mark_count m + room

record Uses (p : ℕ) (session : PlainSession) (n : ℕ) (m : Marks) (stands : ℕ → Standing) (room : ℕ) (v : Marks)
    (others : ℕ → Standing) (left : ℕ) (extras : ℕ) : Type 0 where
  some : 16 + used_by p session n m stands room ≤ used_by p session n v others left + extras

abbrev standings : Terminal → ℕ → Standing
standings t c = standing_of (caller_at t c)

-- the caller's number is below n
by_a_caller : (p : ℕ) (session : PlainSession) (t : Terminal) (d step part n : ℕ) (event : PlainEvent) (generation : ℕ)
    → IsAllowed (call_at p session) (counts_on p session) t (Caller d) step part event
    → IsInPhase p session t.phase (Caller d) step event
    → AreSound p session t
    → d < n
    → spent_in p session n t.phase (standings t) + (16 + crowding t)
    ≤ spent_in p session n (phase_after event t.phase) (after_entry event (Caller d) generation (standings t))
    + crowding (after_event (call_at p session) t (Caller d) step part event)
by_a_caller p session t d step part n event generation h k sound below =
    let each = each_event p session t (Caller d) step part event generation h k sound in
    let mine = own_event p session t d step part event generation h k (sound d) in
    let own_bit : (d == d) ≡ true = eq-eqb d d refl in
    let stands = after_entry event (Caller d) generation (standings t) in
    let is : stands d ≡ standing_after_own event generation (standings t d) = if_true (d == d) _ _ own_bit in
    let gain = subst (λ (s : Standing).
    spent (call_at p session d) (own p session d) t.phase (standings t d) + (16 + crowding t)
    ≤ spent (call_at p session d) (own p session d) (phase_after event t.phase) s
    + crowding (after_event (call_at p session) t (Caller d) step part event))
    (sym is) mine.gain in
    total_paid (λ c. spent (call_at p session c) (own p session c) t.phase (standings t c))
    (λ c. spent (call_at p session c) (own p session c) (phase_after event t.phase) (stands c)) n d (16 + crowding t)
    (crowding (after_event (call_at p session) t (Caller d) step part event)) below (λ c. (each c).least) gain

by_any : (p : ℕ) (session : PlainSession) (t : Terminal) (who : Who) (step part n : ℕ) (event : PlainEvent)
    (generation : ℕ)
    → IsAllowed (call_at p session) (counts_on p session) t who step part event
    → IsInPhase p session t.phase who step event
    → AreSound p session t
    → spent_in p session n t.phase (standings t)
    ≤ spent_in p session n (phase_after event t.phase) (after_entry event who generation (standings t))
by_any p session t who step part n event generation h k sound =
    let each = each_event p session t who step part event generation h k sound in
    total_least (λ c. spent (call_at p session c) (own p session c) t.phase (standings t c))
    (λ c. spent (call_at p session c) (own p session c) (phase_after event t.phase)
    (after_entry event who generation (standings t) c)) n (λ c. (each c).least)

event_uses : (p : ℕ) (session : PlainSession) (t : Terminal) (who : Who) (step part : ℕ) (event : PlainEvent)
    (generation n : ℕ)
    → IsAllowed (call_at p session) (counts_on p session) t who step part event
    → IsInPhase p session t.phase who step event
    → AreSound p session t
    → n ≡ length t.callers
    → Uses p session n (marks_of t) (standings t) (crowding t) (marks_after event step part (marks_of t))
    (after_entry event who generation (standings t)) (crowding (after_event (call_at p session) t who step part event))
    (extra event)
event_uses p session t (Caller d) step part (answered a dropped) generation n h k sound e =
    record {
      some = omega (
        arith,
        by_a_caller p session t d step part n (answered a dropped) generation h k sound
            (omega (arith, e, h.next.known)),
      );
    }
event_uses p session t Flusher step part (answered a dropped) generation n h k sound e = absurd h
event_uses p session t Line step part (answered a dropped) generation n h k sound e = absurd h
event_uses p session t Clock step part (answered a dropped) generation n h k sound e = absurd h
event_uses p session t Session step part (answered a dropped) generation n h k sound e = absurd h
event_uses p session t (Caller d) step part (parted m) generation n h k sound e =
    record {
      some = omega (
        arith,
        by_a_caller p session t d step part n (parted m) generation h k sound (omega (arith, e, h.next.known)),
      );
    }
event_uses p session t Flusher step part (parted m) generation n h k sound e = absurd h
event_uses p session t Line step part (parted m) generation n h k sound e = absurd h
event_uses p session t Clock step part (parted m) generation n h k sound e = absurd h
event_uses p session t Session step part (parted m) generation n h k sound e = absurd h
event_uses p session t (Caller d) step part waited generation n h k sound e =
    record {
      some = omega
          (arith, by_a_caller p session t d step part n waited generation h k sound (omega (arith, e, h.next.known)));
    }
event_uses p session t Flusher step part waited generation n h k sound e = absurd h
event_uses p session t Line step part waited generation n h k sound e = absurd h
event_uses p session t Clock step part waited generation n h k sound e = absurd h
event_uses p session t Session step part waited generation n h k sound e = absurd h
event_uses p session t who step part (flushed chars) generation n h k sound e =
    record { some = omega (arith, by_any p session t who step part n (flushed chars) generation h k sound, h.1.some) }
event_uses p session t who step part ticked generation n h k sound e =
    record { some = omega (arith, by_any p session t who step part n ticked generation h k sound) }
event_uses p session t who step part (line_ended m) generation n h k sound e =
    let not_yet : bit t.line_over ≡ 0 = ap bit h.1.not_over in
    record { some = omega (arith, by_any p session t who step part n (line_ended m) generation h k sound, not_yet) }
event_uses p session t who step part clock_ended generation n h k sound e =
    let not_yet : bit t.clock_over ≡ 0 = ap bit h.1.not_over in
    record { some = omega (arith, by_any p session t who step part n clock_ended generation h k sound, not_yet) }
event_uses p session t (Caller d) step part caller_ended generation n h k sound e =
    record {
      some = omega
          (arith, by_a_caller p session t d step part n caller_ended generation h k sound (omega (arith, e, h.known)));
    }
event_uses p session t Flusher step part caller_ended generation n h k sound e = absurd h
event_uses p session t Line step part caller_ended generation n h k sound e = absurd h
event_uses p session t Clock step part caller_ended generation n h k sound e = absurd h
event_uses p session t Session step part caller_ended generation n h k sound e = absurd h
event_uses p session t who step part phase_ended generation n h k sound e =
    record {
      some = omega (
        arith,
        by_any p session t who step part n phase_ended generation h k sound,
        bit_small t.line_over,
        bit_small t.clock_over,
      );
    }
event_uses p session t who step part (hung_up dropped) generation n h k sound e =
    record { some = omega (arith, by_any p session t who step part n (hung_up dropped) generation h k sound) }

-- ---- a journal

abbrev pub extras : List PlainEntry → ℕ
extras [] = 0
extras (e ∷ es) = extra e.event + extras es

-- what the first n callers, the line, the clock and the phases have used up, and what is taken of the last places for
-- held output
abbrev pub used : ℕ → PlainSession → ℕ → Terminal → ℕ
used p session n t = used_by p session n (marks_of t) (λ c. standing_of (caller_at t c)) (crowding t)

sound_after : (p : ℕ) (session : PlainSession) (t : Terminal) (e : PlainEntry)
    → Allowed (call_at p session) (counts_on p session) t e
    → IsInPhase p session t.phase e.who e.step e.event
    → AreSound p session t
    → AreSound p session (after (call_at p session) t e)
sound_after p session t e h k sound c =
    let each = each_event p session t e.who e.step e.part e.event e.generation h.1 k sound c in
    let stands = step_stands (call_at p session) (counts_on p session) t e h c in
    let phase = phase-after (call_at p session) (counts_on p session) t e h in
    subst (λ (s : Standing). IsSound (call_at p session c) (own p session c) (after (call_at p session) t e).phase s)
    (sym stands)
    (subst
    (λ (l : ℕ). IsSound (call_at p session c) (own p session c) l (standing_after c e (standing_of (caller_at t c))))
    (sym phase) each.sound)

used_after : (p : ℕ) (session : PlainSession) (n : ℕ) (t : Terminal) (e : PlainEntry)
    → Allowed (call_at p session) (counts_on p session) t e
    → IsInPhase p session t.phase e.who e.step e.event
    → AreSound p session t
    → n ≡ length t.callers
    → 16 + used p session n t ≤ used p session n (after (call_at p session) t e) + extra e.event
used_after p session n t e h k sound is =
    let u = after (call_at p session) t e in
    let uses = event_uses p session t e.who e.step e.part e.event e.generation n h.1 k sound is in
    let marks : marks_of u ≡ marks_after e.event e.step e.part (marks_of t) =
    step_marks (call_at p session) (counts_on p session) t e h in
    let stands = step_stands (call_at p session) (counts_on p session) t e h in
    same_used (crowding u) (marks_after e.event e.step e.part (marks_of t)) (marks_of u) (sym marks)
    (λ c. standing_after c e (standing_of (caller_at t c))) (λ c. standing_of (caller_at u c)) stands uses.some
  where
    same_used : (room : ℕ) (v w : Marks)
        → v ≡ w
        → (us ss : ℕ → Standing)
        → ((c : ℕ) → ss c ≡ us c)
        → 16 + used p session n t ≤ used_by p session n v us room + extra e.event
        → 16 + used p session n t ≤ used_by p session n w ss room + extra e.event
    same_used room v w is us ss each few =
        let least : spent_in p session n v.phase us ≤ spent_in p session n v.phase ss =
        total_least (λ c. spent (call_at p session c) (own p session c) v.phase (us c))
        (λ c. spent (call_at p session c) (own p session c) v.phase (ss c)) n
        (λ c.
        let same : spent (call_at p session c) (own p session c) v.phase (ss c)
        ≡ spent (call_at p session c) (own p session c) v.phase (us c) =
        ap (λ (s : Standing). spent (call_at p session c) (own p session c) v.phase s) (each c) in
        omega (arith, same)) in
        let here : 16 + used p session n t ≤ used_by p session n v ss room + extra e.event =
        omega (arith, least, few) in
        subst (λ (m : Marks). 16 + used p session n t ≤ used_by p session n m ss room + extra e.event) is here

-- each entry uses up some of what the session allows
pub record UsesUp (p : ℕ) (session : PlainSession) (n : ℕ) (t : Terminal) (es : List PlainEntry)
    (u : Terminal) : Type 0 where
  pub few : 16 * length es + used p session n t ≤ used p session n u + extras es
  pub sound : (c : ℕ) → IsSound (call_at p session c) (own p session c) u.phase (standing_of (caller_at u c))

pub leads_uses : (p : ℕ) (session : PlainSession) (n : ℕ) (t : Terminal) (es : List PlainEntry) (u : Terminal)
    → Leads (call_at p session) (counts_on p session) t es u
    → AreInPhases p session t.phase es
    → ((c : ℕ) → IsSound (call_at p session c) (own p session c) t.phase (standing_of (caller_at t c)))
    → n ≡ length t.callers
    → UsesUp p session n t es u
leads_uses p session n t [] u h k sound is =
    subst (λ (v : Terminal). UsesUp p session n t [] v) (sym h) (record { few = omega arith; sound = sound })
leads_uses p session n t (e ∷ es) u h k sound is =
    let phase = phase-after (call_at p session) (counts_on p session) t e h.0 in
    let here = used_after p session n t e h.0 k.0 sound is in
    let later = leads_uses p session n (after (call_at p session) t e) es u h.1
    (subst (λ (l : ℕ). AreInPhases p session l es) (sym phase) k.1) (sound_after p session t e h.0 k.0 sound)
    (is ∙ sym (step_does (call_at p session) (counts_on p session) t e h.0).callers) in
    record { few = omega (arith, here, later.few); sound = later.sound }
