-- Whose turn it is by rank, and what this says.
use Rattle.std.proofs.Common.{◌≡◌, ◌<◌, ℕ, zero, suc, Bool, true, false, not, ◌&&◌, ◌||◌, List, []}
use Rattle.std.proofs.Common.{◌∷◌, ◌++◌, length, if◌then◌else◌, refl, sym, ap, ◌∙◌, subst, arith}
use Rattle.std.specs.Prelude.{slice_index, ◌==◌}
use Rattle.std.specs.List.{list_all}
use Rattle.std.proofs.lemmas.Bool.{false≢true}
use Rattle.tty_calls.specs.declared.journals.Who.TheVariants.{Caller, Flusher, Clock, Session}
use Rattle.tty_terminal.specs.Terminals.{Terminal, caller_at}
use Rattle.tty_terminal.specs.Steps.{nothing_to_flush}
use Rattle.legal_runs.specs.Order.{must_wait, is_waiting, can_go_on as port_goes_on}
use Rattle.modem_steps.specs.Derived.{carrier_on}
use Rattle.modem_steps.specs.Steps.{Port, ModemState, next_call, callers_in, waits_for_carrier, is_held_up}
use Rattle.modem_steps.specs.Order.{Turn, goes_on, sets_pin, is_told, open_is_held}
use Rattle.modem_steps.specs.Order.{can_go_on, has_item, first_such, turn_in_vain, turn_of_others, turn_by_rank}
use Rattle.modem_one.specs.Desk.{DeskState, state_at}

-- ---- the first of some callers

abbrev pub NoneIn : (ℕ → Bool) → List ℕ → Type 0
NoneIn f [] = Unit {0}
NoneIn f (c ∷ cs) = (f c ≡ false) × NoneIn f cs

-- one of some callers
pub record IsOneOf (cs : List ℕ) (c : ℕ) : Type 0 where
  pub place : ℕ
  pub within : place < length cs
  pub is : slice_index cs place ≡ c

pub data First (f : ℕ → Bool) (g : ℕ → Turn) (cs : List ℕ) (other turn : Turn) : Type 0 where
  found : (c : ℕ) → IsOneOf cs c → f c ≡ true → turn ≡ g c → First f g cs other turn
  none : NoneIn f cs → turn ≡ other → First f g cs other turn

later_first : (f : ℕ → Bool) (g : ℕ → Turn) (c : ℕ) (cs : List ℕ) (other turn : Turn)
    → f c ≡ false
    → First f g cs other turn
    → First f g (c ∷ cs) other turn
later_first f g c cs other turn not (found d one is e) =
    found d (record { place = suc one.place; within = omega (arith, one.within); is = one.is }) is e
later_first f g c cs other turn not (none all e) = none (not, all) e

first_at : (f : ℕ → Bool) (g : ℕ → Turn) (c : ℕ) (cs : List ℕ) (other : Turn) (b : Bool)
    → f c ≡ b
    → First f g cs other (first_such f g cs other)
    → First f g (c ∷ cs) other (if b then g c else first_such f g cs other)
first_at f g c cs other true is rest = found c (record { place = 0; within = omega arith; is = refl }) is refl
first_at f g c cs other false is rest = later_first f g c cs other (first_such f g cs other) is rest

pub first_split : (f : ℕ → Bool) (g : ℕ → Turn) (cs : List ℕ) (other : Turn)
    → First f g cs other (first_such f g cs other)
first_split f g [] other = none tt refl
first_split f g (c ∷ cs) other = first_at f g c cs other (f c) refl (first_split f g cs other)

-- tests that agree have the same first
pub first_same : (f g : ℕ → Bool) (h : ℕ → Turn) (cs : List ℕ) (other : Turn)
    → ((c : ℕ) → f c ≡ g c)
    → first_such f h cs other ≡ first_such g h cs other
first_same f g h [] other same = refl
first_same f g h (c ∷ cs) other same =
    let rest = first_same f g h cs other same in
    λ i. if same c i then h c else rest i

pub none_both : (f g k : ℕ → Bool) (cs : List ℕ)
    → ((c : ℕ) → f c ≡ false → g c ≡ false → k c ≡ false)
    → NoneIn f cs
    → NoneIn g cs
    → NoneIn k cs
none_both f g k [] h a b = tt
none_both f g k (c ∷ cs) h a b = (h c a.0 b.0, none_both f g k cs h a.1 b.1)

pub none_at : (f : ℕ → Bool) (cs : List ℕ) (i : ℕ) → NoneIn f cs → i < length cs → f (slice_index cs i) ≡ false
none_at f [] i h lt = absurd (omega (arith, lt))
none_at f (c ∷ cs) zero h lt = h.0
none_at f (c ∷ cs) (suc i) h lt = none_at f cs i h.1 (omega (arith, lt))

-- .. and one more
pub none_more : (f : ℕ → Bool) (cs : List ℕ) (c i : ℕ)
    → NoneIn f cs
    → f c ≡ false
    → i < length (cs ++ c ∷ [])
    → f (slice_index (cs ++ c ∷ []) i) ≡ false
none_more f [] c zero h last lt = last
none_more f [] c (suc i) h last lt = absurd (omega (arith, lt))
none_more f (x ∷ cs) c zero h last lt = h.0
none_more f (x ∷ cs) c (suc i) h last lt = none_more f cs c i h.1 last (omega (arith, lt))

-- ---- what a caller's tests say

-- a caller that cannot go on is held up
held_case : (over waits must held : Bool)
    → (not over && (if waits then not must else not held)) ≡ false
    → (over || (waits && must) || held) ≡ true
held_case true waits must held e = refl
held_case false true true held e = refl
held_case false true false held e = absurd (false≢true (sym e))
held_case false false must true e = refl
held_case false false must false e = absurd (false≢true (sym e))

or_and : (a b c : Bool) → b ≡ true → c ≡ true → ((a || b) && c) ≡ true
or_and true b true e f = refl
or_and true b false e f = absurd (false≢true f)
or_and false true true e f = refl
or_and false true false e f = absurd (false≢true f)
or_and false false c e f = absurd (false≢true e)

pub all_held : (port : Port) (s : ModemState) (t : Terminal) (c : ℕ) (cs : List ℕ)
    → NoneIn (can_go_on port s t) cs
    → list_all (λ other. (other == c) || is_held_up port s t other) cs ≡ true
all_held port s t c [] h = refl
all_held port s t c (d ∷ cs) h =
    let here = held_case (caller_at t d).over (is_waiting t d) (must_wait port.journal.calls t d)
    (waits_for_carrier s.lines t (next_call port s t d)) h.0 in
    or_and (d == c) (is_held_up port s t d) (list_all (λ other. (other == c) || is_held_up port s t other) cs) here
    (all_held port s t c cs h.1)

-- where it can go on, it can by the port alone
pub may_case : (over waits must held : Bool)
    → (not over && (if waits then not must else not held)) ≡ true
    → (not over && (not waits || not must)) ≡ true
may_case true waits must held e = e
may_case false true must held e = e
may_case false false must held e = refl

-- where it cannot, and its open is not held, it cannot by the port either
may_not_case : (over waits must held : Bool)
    → (not over && (if waits then not must else not held)) ≡ false
    → (not over && held) ≡ false
    → (not over && (not waits || not must)) ≡ false
may_not_case true waits must held e f = refl
may_not_case false true must held e f = e
may_not_case false false must true e f = absurd (false≢true (sym f))
may_not_case false false must false e f = absurd (false≢true (sym e))

pub not_by_port : (port : Port) (s : ModemState) (t : Terminal) (c : ℕ)
    → can_go_on port s t c ≡ false
    → open_is_held port s t c ≡ false
    → port_goes_on port.journal.calls t c ≡ false
not_by_port port s t c e f =
    may_not_case (caller_at t c).over (is_waiting t c) (must_wait port.journal.calls t c)
    (waits_for_carrier s.lines t (next_call port s t c)) e f

pub by_port : (port : Port) (s : ModemState) (t : Terminal) (c : ℕ)
    → can_go_on port s t c ≡ true
    → port_goes_on port.journal.calls t c ≡ true
by_port port s t c e =
    may_case (caller_at t c).over (is_waiting t c) (must_wait port.journal.calls t c)
    (waits_for_carrier s.lines t (next_call port s t c)) e

-- ---- why it is whose turn

-- nothing can be flushed, and no caller can go on
pub record AllRest (port : Port) (s : ModemState) (t : Terminal) : Type 0 where
  pub idle : nothing_to_flush t ≡ true
  pub none_can : NoneIn (can_go_on port s t) (callers_in port t.phase)

-- .. and line, clock and modem block are over
pub record AllInVain (port : Port) (s : ModemState) (t : Terminal) : Type 0 where
  pub rest : AllRest port s t
  pub no_item : has_item port s t ≡ false
  pub carrier : (caller_at t (carrier_on port.number port.session)).over ≡ true
  pub clock : t.clock_over ≡ true

pub data Reason (port : Port) (s : ModemState) (t : Terminal) (turn : Turn) : Type 0 where
  flushes : nothing_to_flush t ≡ false → turn ≡ goes_on Flusher → Reason port s t turn
  can : (c : ℕ) → IsOneOf (callers_in port t.phase) c → can_go_on port s t c ≡ true → turn ≡ goes_on (Caller c)
      → Reason port s t turn
  item : AllRest port s t → has_item port s t ≡ true → turn ≡ sets_pin → Reason port s t turn
  carrier_ends : AllRest port s t → has_item port s t ≡ false
      → (caller_at t (carrier_on port.number port.session)).over ≡ false
      → turn ≡ goes_on (Caller (carrier_on port.number port.session)) → Reason port s t turn
  clock_runs : AllRest port s t → t.clock_over ≡ false → turn ≡ goes_on Clock → Reason port s t turn
  told : (c : ℕ) → AllInVain port s t → open_is_held port s t c ≡ true → turn ≡ is_told c → Reason port s t turn
  waits : (c : ℕ) → AllInVain port s t → NoneIn (open_is_held port s t) (callers_in port t.phase)
      → is_waiting t c ≡ true → turn ≡ goes_on (Caller c) → Reason port s t turn
  over : AllInVain port s t → NoneIn (open_is_held port s t) (callers_in port t.phase)
      → NoneIn (is_waiting t) (callers_in port t.phase) → turn ≡ goes_on Session → Reason port s t turn

module _ (port : Port) (s : ModemState) (t : Terminal) where
  abbrev cs : List ℕ
  cs = callers_in port t.phase

  waits_reason : AllInVain port s t
      → NoneIn (open_is_held port s t) cs
      → (turn : Turn)
      → First (is_waiting t) (λ c. goes_on (Caller c)) cs (goes_on Session) turn
      → Reason port s t turn
  waits_reason vain unheld turn (found c one is e) = waits c vain unheld is e
  waits_reason vain unheld turn (none all e) = over vain unheld all e

  told_reason : AllInVain port s t
      → (turn : Turn)
      → First (open_is_held port s t) is_told cs
      (first_such (is_waiting t) (λ c. goes_on (Caller c)) cs (goes_on Session)) turn
      → Reason port s t turn
  told_reason vain turn (found c one is e) = told c vain is e
  told_reason vain turn (none all e) =
      waits_reason vain all turn
      (subst (First (is_waiting t) (λ c. goes_on (Caller c)) cs (goes_on Session)) (sym e)
      (first_split (is_waiting t) (λ c. goes_on (Caller c)) cs (goes_on Session)))

  clock_reason : (clock : Bool)
      → t.clock_over ≡ clock
      → AllRest port s t
      → has_item port s t ≡ false
      → (caller_at t (carrier_on port.number port.session)).over ≡ true
      → Reason port s t
      (if not clock then goes_on Clock
      else first_such (open_is_held port s t) is_told cs
      (first_such (is_waiting t) (λ c. goes_on (Caller c)) cs (goes_on Session)))
  clock_reason false e rest no_item carrier = clock_runs rest e refl
  clock_reason true e rest no_item carrier =
      told_reason (record { rest = rest; no_item = no_item; carrier = carrier; clock = e })
      (first_such (open_is_held port s t) is_told cs
      (first_such (is_waiting t) (λ c. goes_on (Caller c)) cs (goes_on Session)))
      (first_split (open_is_held port s t) is_told cs
      (first_such (is_waiting t) (λ c. goes_on (Caller c)) cs (goes_on Session)))

  carrier_reason : (ended : Bool)
      → (caller_at t (carrier_on port.number port.session)).over ≡ ended
      → AllRest port s t
      → has_item port s t ≡ false
      → Reason port s t
      (if not ended then goes_on (Caller (carrier_on port.number port.session)) else turn_in_vain port s t cs)
  carrier_reason false e rest no_item = carrier_ends rest no_item e refl
  carrier_reason true e rest no_item = clock_reason t.clock_over refl rest no_item e

  item_reason : (has : Bool)
      → has_item port s t ≡ has
      → AllRest port s t
      → Reason port s t
      (if has then sets_pin
      else if not (caller_at t (carrier_on port.number port.session)).over then goes_on
      (Caller (carrier_on port.number port.session))
      else turn_in_vain port s t cs)
  item_reason true e rest = item rest e refl
  item_reason false e rest = carrier_reason (caller_at t (carrier_on port.number port.session)).over refl rest e

  can_reason : nothing_to_flush t ≡ true
      → (turn : Turn)
      → First (can_go_on port s t) (λ c. goes_on (Caller c)) cs (turn_of_others port s t cs) turn
      → Reason port s t turn
  can_reason idle turn (found c one is e) = can c one is e
  can_reason idle turn (none all e) =
      subst (Reason port s t) (sym e)
      (item_reason (has_item port s t) refl (record { idle = idle; none_can = all }))

  pub idle_reason : (idle : Bool)
      → nothing_to_flush t ≡ idle
      → Reason port s t
      (if not idle then goes_on Flusher
      else first_such (can_go_on port s t) (λ c. goes_on (Caller c)) cs (turn_of_others port s t cs))
  idle_reason false e = flushes e refl
  idle_reason true e =
      can_reason e (first_such (can_go_on port s t) (λ c. goes_on (Caller c)) cs (turn_of_others port s t cs))
      (first_split (can_go_on port s t) (λ c. goes_on (Caller c)) cs (turn_of_others port s t cs))

-- where no hangup is due
pub reason_of : (port : Port) (d : DeskState) (at : ℕ) (t : Terminal)
    → Reason port (state_at d at []) t (turn_by_rank port (state_at d at []) t)
reason_of port d at t = idle_reason port (state_at d at []) t (nothing_to_flush t) refl

-- ---- which it is

number_of : Turn → ℕ
number_of (goes_on (Caller c)) = c
number_of other = 0

told_of : Turn → ℕ
told_of (is_told c) = c
told_of other = 0

pub same_turn_caller : (c d : ℕ) → goes_on (Caller c) ≡ goes_on (Caller d) → c ≡ d
unfolding number_of
same_turn_caller c d e = ap number_of e

same_told : (c d : ℕ) → is_told c ≡ is_told d → c ≡ d
unfolding told_of
same_told c d e = ap told_of e

pub flush_reason : (port : Port) (s : ModemState) (t : Terminal) (turn : Turn)
    → Reason port s t turn
    → turn ≡ goes_on Flusher
    → nothing_to_flush t ≡ false
flush_reason port s t turn (flushes h e) is = h
flush_reason port s t turn (can c one h e) is = absurd (cc)
flush_reason port s t turn (item rest h e) is = absurd (cc)
flush_reason port s t turn (carrier_ends rest h o e) is = absurd (cc)
flush_reason port s t turn (clock_runs rest h e) is = absurd (cc)
flush_reason port s t turn (told c vain h e) is = absurd (cc)
flush_reason port s t turn (waits c vain unheld h e) is = absurd (cc)
flush_reason port s t turn (over vain unheld h e) is = absurd (cc)

pub clock_reason_of : (port : Port) (s : ModemState) (t : Terminal) (turn : Turn)
    → Reason port s t turn
    → turn ≡ goes_on Clock
    → t.clock_over ≡ false
clock_reason_of port s t turn (flushes h e) is = absurd (cc)
clock_reason_of port s t turn (can c one h e) is = absurd (cc)
clock_reason_of port s t turn (item rest h e) is = absurd (cc)
clock_reason_of port s t turn (carrier_ends rest h o e) is = absurd (cc)
clock_reason_of port s t turn (clock_runs rest h e) is = h
clock_reason_of port s t turn (told c vain h e) is = absurd (cc)
clock_reason_of port s t turn (waits c vain unheld h e) is = absurd (cc)
clock_reason_of port s t turn (over vain unheld h e) is = absurd (cc)

pub pin_reason : (port : Port) (s : ModemState) (t : Terminal) (turn : Turn)
    → Reason port s t turn
    → turn ≡ sets_pin
    → AllRest port s t × (has_item port s t ≡ true)
pin_reason port s t turn (flushes h e) is = absurd (cc)
pin_reason port s t turn (can c one h e) is = absurd (cc)
pin_reason port s t turn (item rest h e) is = (rest, h)
pin_reason port s t turn (carrier_ends rest h o e) is = absurd (cc)
pin_reason port s t turn (clock_runs rest h e) is = absurd (cc)
pin_reason port s t turn (told c vain h e) is = absurd (cc)
pin_reason port s t turn (waits c vain unheld h e) is = absurd (cc)
pin_reason port s t turn (over vain unheld h e) is = absurd (cc)

pub told_reason_of : (port : Port) (s : ModemState) (t : Terminal) (turn : Turn) (c : ℕ)
    → Reason port s t turn
    → turn ≡ is_told c
    → AllInVain port s t × (open_is_held port s t c ≡ true)
told_reason_of port s t turn c (flushes h e) is = absurd (cc)
told_reason_of port s t turn c (can d one h e) is = absurd (cc)
told_reason_of port s t turn c (item rest h e) is = absurd (cc)
told_reason_of port s t turn c (carrier_ends rest h o e) is = absurd (cc)
told_reason_of port s t turn c (clock_runs rest h e) is = absurd (cc)
told_reason_of port s t turn c (told d vain h e) is =
    (vain, ap (open_is_held port s t) (same_told c d (sym is ∙ e)) ∙ h)
told_reason_of port s t turn c (waits d vain unheld h e) is = absurd (cc)
told_reason_of port s t turn c (over vain unheld h e) is = absurd (cc)

pub end_reason : (port : Port) (s : ModemState) (t : Terminal) (turn : Turn)
    → Reason port s t turn
    → turn ≡ goes_on Session
    → AllInVain port s t
    × NoneIn (open_is_held port s t) (callers_in port t.phase)
    × NoneIn (is_waiting t) (callers_in port t.phase)
end_reason port s t turn (flushes h e) is = absurd (cc)
end_reason port s t turn (can c one h e) is = absurd (cc)
end_reason port s t turn (item rest h e) is = absurd (cc)
end_reason port s t turn (carrier_ends rest h o e) is = absurd (cc)
end_reason port s t turn (clock_runs rest h e) is = absurd (cc)
end_reason port s t turn (told c vain h e) is = absurd (cc)
end_reason port s t turn (waits c vain unheld h e) is = absurd (cc)
end_reason port s t turn (over vain unheld h e) is = (vain, unheld, h)

-- a caller that can go on, `carrier` at its end, or a caller that waits in vain
pub data CallReason (port : Port) (s : ModemState) (t : Terminal) (c : ℕ) : Type 0 where
  it_can : IsOneOf (callers_in port t.phase) c → can_go_on port s t c ≡ true → CallReason port s t c
  its_end : AllRest port s t → has_item port s t ≡ false → c ≡ carrier_on port.number port.session
      → (caller_at t c).over ≡ false → CallReason port s t c
  in_vain : AllInVain port s t → NoneIn (open_is_held port s t) (callers_in port t.phase) → is_waiting t c ≡ true
      → CallReason port s t c

pub call_reason : (port : Port) (s : ModemState) (t : Terminal) (turn : Turn) (c : ℕ)
    → Reason port s t turn
    → turn ≡ goes_on (Caller c)
    → CallReason port s t c
call_reason port s t turn c (flushes h e) is = absurd (cc)
call_reason port s t turn c (can d one h e) is =
    let same = same_turn_caller c d (sym is ∙ e) in
    it_can (subst (IsOneOf (callers_in port t.phase)) (sym same) one) (ap (can_go_on port s t) same ∙ h)
call_reason port s t turn c (item rest h e) is = absurd (cc)
call_reason port s t turn c (carrier_ends rest h o e) is =
    let same = same_turn_caller c (carrier_on port.number port.session) (sym is ∙ e) in
    its_end rest h same (ap (λ (x : ℕ). (caller_at t x).over) same ∙ o)
call_reason port s t turn c (clock_runs rest h e) is = absurd (cc)
call_reason port s t turn c (told d vain h e) is = absurd (cc)
call_reason port s t turn c (waits d vain unheld h e) is =
    in_vain vain unheld (ap (is_waiting t) (same_turn_caller c d (sym is ∙ e)) ∙ h)
call_reason port s t turn c (over vain unheld h e) is = absurd (cc)
