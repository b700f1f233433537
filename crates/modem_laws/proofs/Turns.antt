-- Whose turn it is on a port with modem lines, and what that says.
use Rattle.std.proofs.Common.{◌≡◌, ◌⊎◌, inl, inr, ℕ, ◌+◌, ◌==◌, ◌&&◌, ◌||◌, Bool, true, false, not, List, [], ◌∷◌}
use Rattle.std.proofs.Common.{◌++◌, Option, None, Some, length, if◌then◌else◌, refl, sym, ap, ◌∙◌, subst, arith}
use Rattle.std.specs.Prelude.{nat_le}
use Rattle.std.proofs.lemmas.Bool.{false≢true}
use Rattle.tty_calls.specs.declared.journals.Who.{Who}
use Rattle.tty_calls.specs.declared.journals.Who.TheVariants.{Caller, Flusher, Line, Clock, Session}
use Rattle.tty_calls.specs.Plain.{PlainCall, PlainEvent, answered, parted, waited, flushed, ticked, line_ended}
use Rattle.tty_calls.specs.Plain.{clock_ended, caller_ended, phase_ended, hung_up, PlainEntry}
use Rattle.tty_calls.specs.Sessions.{PlainSession, call_at}
use Rattle.tty_terminal.specs.Terminals.{Terminal, caller_at}
use Rattle.tty_terminal.specs.Steps.{nothing_to_flush, is_wait}
use Rattle.tty_terminal.specs.Calls.{outcome_of}
use Rattle.tty_terminal.specs.Runs.{is_of_call}
use Rattle.legal_runs.specs.Order.{Place, next_place, place_after, turn, due, is_waiting, must_wait}
use Rattle.order_laws.specs.Growth.{HasShape}
use Rattle.order_laws.proofs.Growing.{WaitAlike, turn_same}
use Rattle.order_laws.proofs.NextEntry.{AreOrderly}
use Rattle.order_laws.proofs.Shapes.{phases_same}
use Rattle.order_laws.proofs.TheEntry.{is_fixed}
use Rattle.order_laws.proofs.Comings.{IsPartBy}
use Rattle.order_laws.proofs.Journeys.{answer_count}
use Rattle.passed_calls.specs.Scripts.{plain, further}
use Rattle.modem_text.specs.Events.{ModemLog}
use Rattle.modem_text.specs.Sessions.{ModemCall, ModemSession}
use Rattle.modem_steps.specs.Derived.{carrier_on}
use Rattle.modem_steps.specs.Steps.{Port, ModemState, first_state, next_call, callers_in, waits_for_carrier}
use Rattle.modem_steps.specs.Order.{Turn, goes_on, sets_pin, is_told, can_go_on}
use Rattle.modem_steps.specs.Order.{first_such, turn_of_others, turn_by_rank, after_part_of, after_part, modem_turn}
use Rattle.modem_steps.specs.Order.{state_before, AreEntriesInTurn, own_turn}
use Rattle.modem_one.specs.Played.{port_in}
use Rattle.modem_one.proofs.Ranks.{first_same, Reason, idle_reason, CallReason, call_reason, told_reason_of}
use Rattle.modem_one.proofs.Ranks.{it_can, its_end, in_vain}

-- ---- turns

pub same_who : (a b : Who) → goes_on a ≡ goes_on b → a ≡ b
same_who a b e = cc

abbrev caller_of : Turn → ℕ
caller_of (goes_on (Caller c)) = c
caller_of (goes_on Flusher) = 0
caller_of (goes_on Line) = 0
caller_of (goes_on Clock) = 0
caller_of (goes_on Session) = 0
caller_of sets_pin = 0
caller_of (is_told c) = c

own_caller : (o : Option ModemCall) (c : ℕ) → caller_of (own_turn o c) ≡ c
own_caller None c = refl
own_caller (Some (plain call)) c = refl
own_caller (Some (further call)) c = refl

-- a call that the port does not see is of one caller
pub same_own : (o o' : Option ModemCall) (c c' : ℕ) → own_turn o c ≡ own_turn o' c' → c ≡ c'
same_own o o' c c' e = sym (own_caller o c) ∙ (ap caller_of e ∙ own_caller o' c')

pub own_no_pin : (o : Option ModemCall) (c : ℕ) → own_turn o c ≡ sets_pin → ⊥
own_no_pin None c e = cc
own_no_pin (Some (plain call)) c e = cc
own_no_pin (Some (further call)) c e = cc

-- it goes on, or is told
pub own_case : (o : Option ModemCall) (c : ℕ)
    → (own_turn o c ≡ goes_on (Caller c)) ⊎ (own_turn o c ≡ is_told c)
own_case None c = inl refl
own_case (Some (plain call)) c = inr refl
own_case (Some (further call)) c = inl refl

-- who goes on with a call makes no call of the port that is told
pub no_plain : (o : Option ModemCall) (c : ℕ) (who : Who) (call : PlainCall)
    → own_turn o c ≡ goes_on who
    → o ≡ Some (plain call)
    → ⊥
no_plain o c who call e is = (let told = ap (λ (x : Option ModemCall). own_turn x c) (sym is) ∙ e in cc)

-- ---- whose turn it is

-- where it is the order of one thread no caller goes on
fixed_none : (a b d : Bool) (x : Who) (c : ℕ)
    → (a || not b) ≡ true
    → (if a then Session else if not b then (if d then Line else Flusher) else x) ≡ Caller c
    → ⊥
fixed_none true b d x c fixed e = cc
fixed_none false false true x c fixed e = cc
fixed_none false false false x c fixed e = cc
fixed_none false true d x c fixed e = absurd (false≢true fixed)

part_case : (before : Option PlainEntry) (other : Turn) (turn : Turn)
    → after_part before other ≡ turn
    → (other ≡ turn) ⊎ ((e : PlainEntry) × (before ≡ Some e) × (is_of_call e.event ≡ true) × (answer_count e.event ≡ 0)
    × (goes_on e.who ≡ turn))
part_case None other turn e = inl e
part_case (Some x) other turn t = by_event x.event refl
  where
    by_event : (event : PlainEvent)
        → x.event ≡ event
        → (other ≡ turn) ⊎ ((e : PlainEntry) × (Some x ≡ Some e) × (is_of_call e.event ≡ true)
        × (answer_count e.event ≡ 0) × (goes_on e.who ≡ turn))
    by_event (answered a dropped) is = inl (sym (ap (λ (v : PlainEvent). after_part_of v x.who other) is) ∙ t)
    by_event (parted n) is = inr (
      x,
      refl,
      ap is_of_call is,
      ap answer_count is,
      sym (ap (λ (v : PlainEvent). after_part_of v x.who other) is) ∙ t,
    )
    by_event waited is = inl (sym (ap (λ (v : PlainEvent). after_part_of v x.who other) is) ∙ t)
    by_event (flushed chars) is = inl (sym (ap (λ (v : PlainEvent). after_part_of v x.who other) is) ∙ t)
    by_event ticked is = inl (sym (ap (λ (v : PlainEvent). after_part_of v x.who other) is) ∙ t)
    by_event (line_ended n) is = inl (sym (ap (λ (v : PlainEvent). after_part_of v x.who other) is) ∙ t)
    by_event clock_ended is = inl (sym (ap (λ (v : PlainEvent). after_part_of v x.who other) is) ∙ t)
    by_event caller_ended is = inl (sym (ap (λ (v : PlainEvent). after_part_of v x.who other) is) ∙ t)
    by_event phase_ended is = inl (sym (ap (λ (v : PlainEvent). after_part_of v x.who other) is) ∙ t)
    by_event (hung_up dropped) is = inl (sym (ap (λ (v : PlainEvent). after_part_of v x.who other) is) ∙ t)

-- by rank, where no hangup is due
rank_reason : (port : Port) (u : ModemState) (t : Terminal) → u.due ≡ [] → Reason port u t (turn_by_rank port u t)
rank_reason port u t idle =
    subst (λ (due : List ℕ). Reason port u t
    (if not (length due == 0) then goes_on (Caller (carrier_on port.number port.session))
    else if not (nothing_to_flush t) then goes_on Flusher
    else first_such (can_go_on port u t) (λ c. goes_on (Caller c)) (callers_in port t.phase)
    (turn_of_others port u t (callers_in port t.phase)))) (sym idle)
    (idle_reason port u t (nothing_to_flush t) refl)

open_case : (b : Bool) (who : Who) (x turn : Turn)
    → (if b then goes_on who else x) ≡ turn
    → ((b ≡ true) × (goes_on who ≡ turn)) ⊎ ((b ≡ false) × (x ≡ turn))
open_case true who x turn e = inl (refl, e)
open_case false who x turn e = inr (refl, e)

not_over : (over b : Bool) → (not over && b) ≡ true → over ≡ false
not_over true b e = absurd (false≢true e)
not_over false b e = refl

module _ (played : PlainSession) (port : Port) (u : ModemState) (s : Place) (idle : u.due ≡ []) (c : ℕ) where
  -- a caller goes on that took a part, or waits, or is not over
  pub data Goes : Type 0 where
    by_part : IsPartBy c s.before → Goes
    by_wait : is_waiting s.terminal c ≡ true → Goes
    by_test : (caller_at s.terminal c).over ≡ false → Goes

  by_reason : CallReason port u s.terminal c → Goes
  by_reason (it_can one can) = by_test (not_over (caller_at s.terminal c).over _ can)
  by_reason (its_end rest none same runs) = by_test runs
  by_reason (in_vain vain unheld waits) = by_wait waits

  pub goes_case : modem_turn played port u s ≡ goes_on (Caller c) → Goes
  goes_case e =
      elim (open_case (is_fixed played s) (turn port.number played s)
      (after_part s.before (turn_by_rank port u s.terminal)) (goes_on (Caller c)) e) [
        | inl fixed ↦ absurd (fixed_none (nat_le (length played.phases) s.terminal.phase) s.terminal.line_over
            (length (due port.number played s) == 0) _ c fixed.0
            (same_who (turn port.number played s) (Caller c) fixed.1))
        | inr ranked ↦ elim (part_case s.before (turn_by_rank port u s.terminal) (goes_on (Caller c)) ranked.1) [
          | inl by_rank ↦ by_reason (call_reason port u s.terminal (turn_by_rank port u s.terminal) c
              (rank_reason port u s.terminal idle) by_rank)
          | inr part ↦ by_part (record {
            entry = part.0;
            is = part.1;
            who = same_who part.0.who (Caller c) part.4;
            of_call = part.2;
            none = part.3;
          })
        ]
      ]

  -- who is told is not over
  pub told_case : modem_turn played port u s ≡ is_told c → (caller_at s.terminal c).over ≡ false
  told_case e =
      elim (open_case (is_fixed played s) (turn port.number played s)
      (after_part s.before (turn_by_rank port u s.terminal)) (is_told c) e) [
        | inl fixed ↦ (let never = fixed.1 in absurd (cc))
        | inr ranked ↦ elim (part_case s.before (turn_by_rank port u s.terminal) (is_told c) ranked.1) [
          | inl by_rank ↦ not_over (caller_at s.terminal c).over _
              (told_reason_of port u s.terminal (turn_by_rank port u s.terminal) c
              (rank_reason port u s.terminal idle) by_rank).1
          | inr part ↦ (let never = part.4 in absurd (cc))
        ]
      ]

past_case : (a b : Bool) (x : Who) (y : Turn)
    → a ≡ true
    → (if a || b then goes_on (if a then Session else x) else y) ≡ goes_on Session
past_case true b x y e = refl
past_case false b x y e = absurd (false≢true e)

-- past the last phase the session goes on
pub past_turn : (played : PlainSession) (port : Port) (u : ModemState) (s : Place)
    → nat_le (length played.phases) s.terminal.phase ≡ true
    → modem_turn played port u s ≡ goes_on Session
past_turn played port u s past =
    past_case (nat_le (length played.phases) s.terminal.phase) (not s.terminal.line_over) _ _ past

-- ---- a journal in turn

-- it keeps an order
pub are_orderly : (played : PlainSession) (port : Port) (log : ModemLog) (s : Place) (n : ℕ) (es : List PlainEntry)
    → AreEntriesInTurn played port log s n es
    → AreOrderly port.number played s es
are_orderly played port log s n [] h = tt
are_orderly played port log s n (e ∷ es) h = (
  record {
    by_turn = λ fixed. same_who e.who (turn port.number played s)
        (sym (sym (ap (λ (b : Bool). if b then goes_on (turn port.number played s)
        else after_part s.before
        (turn_by_rank port (state_before port (first_state port.number port.session) log n) s.terminal)) fixed) ∙ h.0));
    piece = h.1;
  },
  are_orderly played port log (next_place (call_at port.number played) s e) (n + 1) es h.2,
)

pub turn_in : (played : PlainSession) (port : Port) (log : ModemLog) (s : Place) (n : ℕ) (xs ys : List PlainEntry)
    (e : PlainEntry)
    → AreEntriesInTurn played port log s n (xs ++ e ∷ ys)
    → modem_turn played port (state_before port (first_state port.number port.session) log (n + length xs))
    (place_after (call_at port.number played) s xs)
    ≡ goes_on e.who
turn_in played port log s n [] ys e h =
    (let same : n + 0 ≡ n = omega arith in
    ap (λ (m : ℕ). modem_turn played port (state_before port (first_state port.number port.session) log m) s) same
    ∙ h.0)
turn_in played port log s n (x ∷ xs) ys e h =
    (let same : n + length (x ∷ xs) ≡ (n + 1) + length xs = omega arith in
    ap (λ (m : ℕ). modem_turn played port (state_before port (first_state port.number port.session) log m)
    (place_after (call_at port.number played) (next_place (call_at port.number played) s x) xs)) same
    ∙ turn_in played port log (next_place (call_at port.number played) s x) (n + 1) xs ys e h.2)

-- ---- in two sessions

can_case : (over waits held x y : Bool)
    → (waits ≡ true → x ≡ y)
    → (not over && (if waits then not x else not held)) ≡ (not over && (if waits then not y else not held))
can_case over true held x y h = ap (λ (z : Bool). not over && not z) (h refl)
can_case over false held x y h = refl

-- whose turn it is, where the calls of those who wait are the same
pub turned_alike : (p : ℕ) (session : ModemSession) (played later : PlainSession) (journal other : List PlainEntry)
    (u : ModemState) (s : Place)
    → HasShape p played later
    → WaitAlike p played later s.terminal
    → modem_turn played (port_in session played p journal) u s ≡ modem_turn later (port_in session later p other) u s
turned_alike p session played later journal other u s shape alike =
    let one = port_in session played p journal in
    let two = port_in session later p other in
    let t = s.terminal in
    let phases = sym (phases_same p played later shape) in
    let same = turn_same p played later s shape alike in
    let can : (c : ℕ) → can_go_on one u t c ≡ can_go_on two u t c = λ c.
    can_case (caller_at t c).over (is_waiting t c) (waits_for_carrier u.lines t (next_call one u t c))
    (must_wait (call_at p played) t c) (must_wait (call_at p later) t c)
    (λ waits. ap (λ (o : Option PlainCall). is_wait (outcome_of t (caller_at t c) o)) (alike c waits)) in
    let first = first_same (can_go_on one u t) (can_go_on two u t) (λ c. goes_on (Caller c)) (callers_in one t.phase)
    (turn_of_others one u t (callers_in one t.phase)) can in
    λ i.
    if nat_le (phases i) t.phase || not t.line_over
    then goes_on (same i)
    else after_part s.before
    (if not (length u.due == 0) then goes_on (Caller (carrier_on p session))
    else if not (nothing_to_flush t) then goes_on Flusher
    else first i)
