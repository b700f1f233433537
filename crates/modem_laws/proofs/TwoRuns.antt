-- Two whole runs of a port with modem lines, each with its log: what they have in common at a place.
use Rattle.std.proofs.Common.{◌≡◌, ◌⊎◌, inl, inr, ℕ, ◌+◌, ◌-◌, Bool, false, if◌then◌else◌, List, [], Option}
use Rattle.std.proofs.Common.{None, Some, refl, sym, ap, ◌∙◌, subst, arith, get_or}
use Rattle.std.specs.Prelude.{slice_get}
use Rattle.std.proofs.lemmas.Option.{slice_get-get_or, same_Some}
use Rattle.tty_calls.specs.declared.journals.Who.{Who}
use Rattle.tty_calls.specs.declared.journals.Who.TheVariants.{Caller, Session}
use Rattle.tty_calls.specs.Plain.{PlainCall, PlainAnswer, hung_up, PlainEntry}
use Rattle.tty_calls.specs.Sessions.{PlainSession}
use Rattle.tty_terminal.specs.Terminals.{Terminal, caller_at, has_begun, handle_at, live_count}
use Rattle.legal_runs.specs.Order.{Place}
use Rattle.order_laws.specs.Growth.{HasShape}
use Rattle.modem_lines.specs.declared.pins.Pin.{Pin}
use Rattle.modem_lines.specs.Lines.{with_pin, loses_carrier}
use Rattle.passed_calls.specs.Journals.{terminal_at}
use Rattle.passed_calls.specs.Scripts.{plain, further}
use Rattle.order_laws.proofs.Together.{terminal_of as one_terminal, there as both_there, waits as both_wait}
use Rattle.logged_laws.proofs.Places.{IsPast, Here, before_none as log_before_none}
use Rattle.logged_laws.proofs.TwoLogs.{SameHead, Both, Settled, StandAt, AreOfCaller, LogsAlike}
use Rattle.modem_text.specs.Events.{ModemEvent, pin_set, own, passed, carrier_lost, ModemLog}
use Rattle.modem_text.specs.Sessions.{ModemCall, ModemSession}
use Rattle.modem_steps.specs.Derived.{carrier_on}
use Rattle.modem_steps.specs.Steps.{Port, ModemState, PlacedItem, first_state, next_of, next_call, answered_for}
use Rattle.modem_steps.specs.Steps.{OwnAnswer, through, modem_handle, modem_gives, lines_after_own, lines_after_answer}
use Rattle.modem_steps.specs.Steps.{least_live, after_event}
use Rattle.modem_steps.specs.Order.{Turn, goes_on, sets_pin, is_told, modem_turn, own_turn, place_at, state_before}
use Rattle.modem_one.specs.Played.{port_in}
use Rattle.modem_laws.proofs.Deciding.{decides, entry_there, own_some, place_is, who_of}
use Rattle.modem_laws.proofs.Heads.{PinHead, OwnHead, Heads, heads as next_heads}
use Rattle.modem_laws.proofs.Steps.{answer_in, modem_log, idle_of, before_is}
use Rattle.modem_laws.proofs.Turns.{same_who as one_who, same_own, own_no_pin, own_case, no_plain, turned_alike}
use Rattle.modem_laws.proofs.Whole.{Whole}

-- ---- one event of both

own_same : (one two : Port) (u : ModemState) (t t' : Terminal) (c : ℕ) (o : Option ModemCall)
    (answer other : PlainAnswer)
    → t ≡ t'
    → OwnAnswer one u t c o answer
    → OwnAnswer two u t' c o other
    → answer ≡ other
own_same one two u t t' c None answer other same h k = absurd h
own_same one two u t t' c (Some (plain call)) answer other same h k = h.0 ∙ sym k.0
own_same one two u t t' c (Some (further call)) answer other same h k =
    h ∙ (ap (λ (x : Terminal). through (handle_at x (modem_handle call)) (modem_gives u.lines call)) same ∙ sym k)

-- an item of the phase that runs
abbrev item_of : Terminal → Pin → Bool → PlacedItem
item_of t pin up = record { phase = t.phase; step = record { pin = pin; up = up } }

abbrev pin_in : PlacedItem → Pin
pin_in item = item.step.pin

abbrev up_in : PlacedItem → Bool
up_in item = item.step.up

abbrev as_plain : PlainCall → ModemCall
as_plain call = plain call

-- an event that no entry tells of in the one run, and none in the other
module _ (p : ℕ) (session : ModemSession) (played later : PlainSession) (journal other : List PlainEntry)
    (last' : Terminal) (end' : ModemState) (whole' : ModemLog) (u : ModemState) (log log' : ModemLog) (n : ℕ)
    (w' : Whole p session later other last' end' whole')
    (stands : (place_at played (port_in session played p journal) n).terminal
    ≡ terminal_at (port_in session played p journal).journal n)
    (there : terminal_at (port_in session played p journal).journal n
    ≡ terminal_at (port_in session later p other).journal n)
    (turned : modem_turn played (port_in session played p journal) u
    (place_at played (port_in session played p journal) n)
    ≡ modem_turn later (port_in session later p other) u (place_at later (port_in session later p other) n))
    (idle : u.due ≡ []) (h : Here (modem_log p session) later other end' u log' n) (past : IsPast n log')
    (state : state_before (port_in session later p other) (first_state p session) whole' n ≡ u) where
  abbrev mine : Port
  mine = port_in session played p journal

  abbrev its_port : Port
  its_port = port_in session later p other

  nothing : PlainEntry
  nothing = record { who = Session; step = 0; part = 0; generation = 0; event = hung_up [] }

  -- the next entry of the other run
  next_entry : (modem_turn later its_port u (place_at later its_port n) ≡ goes_on Session → ⊥)
      → (e : PlainEntry) × (slice_get other n ≡ Some e)
      × (modem_turn later its_port u (place_at later its_port n) ≡ goes_on e.who)
  next_entry going =
      let lt = entry_there p session later other last' end' whole' w' u n h.within going in
      let e : PlainEntry = get_or other n nothing in
      let is : slice_get other n ≡ Some e = slice_get-get_or other n nothing lt in
      (e, is, who_of p session later other last' end' whole' w' u n e state is)

  pin_goes : (turn : Turn) (who : Who) → turn ≡ sets_pin → turn ≡ goes_on who → ⊥
  pin_goes turn who e f = (let never = sym e ∙ f in cc)

  by_pin : PinHead played mine u log n → ⊥
  by_pin o =
      let turn : modem_turn later its_port u (place_at later its_port n) ≡ sets_pin = sym turned ∙ o.turn in
      let e = next_entry (λ over. pin_goes _ Session turn over) in
      pin_goes _ e.0.who turn e.2

  told_goes : (turn : Turn) (c : ℕ) (who : Who) → turn ≡ is_told c → turn ≡ goes_on who → ⊥
  told_goes turn c who e f = (let never = sym e ∙ f in cc)

  caller_goes : (turn : Turn) (c : ℕ) → turn ≡ goes_on (Caller c) → turn ≡ goes_on Session → ⊥
  caller_goes turn c e f = (let never = one_who (Caller c) Session (sym e ∙ f) in cc)

  by_own : OwnHead played mine u log n → ⊥
  by_own o =
      let c = o.caller in
      let call = next_call mine u (place_at played mine n).terminal c in
      let its : call ≡ next_call its_port u (terminal_at its_port.journal n) c =
      ap (λ (t : Terminal). next_call mine u t c) (stands ∙ there) in
      let turn : modem_turn later its_port u (place_at later its_port n) ≡ own_turn call c = sym turned ∙ o.turn in
      elim (own_case call c) [
        | inr told ↦
            let e = next_entry (λ over. told_goes _ c Session (turn ∙ told) over) in
            told_goes _ c e.0.who (turn ∙ told) e.2
        | inl goes ↦
            let e = next_entry (λ over. caller_goes _ c (turn ∙ goes) over) in
            let who : e.0.who ≡ Caller c = one_who e.0.who (Caller c) (sym e.2 ∙ (turn ∙ goes)) in
            let rest : has_begun (caller_at (terminal_at its_port.journal n) c) ≡ false =
            ap (λ (t : Terminal). has_begun (caller_at t c)) (sym there) ∙ o.owns.between in
            let some = own_some mine u (terminal_at mine.journal n) c
            (next_call mine u (terminal_at mine.journal n) c) o.answer o.owns.answers in
            elim (decides p session later other last' end' whole' w' u log' n c e.0 h idle past e.1 who
            rest) [
              | inl ends ↦ ends.none_left some.0
                  (ap (λ (t : Terminal). next_call mine u t c) (sym there) ∙ some.1)
              | inr begins ↦ no_plain call c (Caller c) begins.call goes (its ∙ begins.next)
            ]
      ]

  against : Heads played mine u log n → ⊥
  against head = elim head [ inl pin ↦ by_pin pin | inr own_one ↦ by_own own_one ]

-- ---- two whole runs

module _ (p : ℕ) (session : ModemSession) (played later : PlainSession) (journal other : List PlainEntry)
    (last last' : Terminal) (end end' : ModemState) (whole whole' : ModemLog)
    (w : Whole p session played journal last end whole) (w' : Whole p session later other last' end' whole')
    (shape : HasShape p played later) where
  abbrev one : Port
  one = port_in session played p journal

  abbrev two : Port
  two = port_in session later p other

  abbrev first : ModemState
  first = first_state p session

  abbrev BothAt : ℕ → Type 0
  BothAt n =
      Both (modem_log p session) p first played later journal other last last' end end' whole whole' w.run w'.run n

  abbrev SettledAt : ℕ → Type 0
  SettledAt n =
      Settled (modem_log p session) p first played later journal other last last' end end' whole whole' w.run w'.run n

  abbrev StandsAt : Place → ℕ → Type 0
  StandsAt s n =
      StandAt (modem_log p session) p first played later journal other last last' end end' whole whole' w.run w'.run s n

  there : (s : Place) (n : ℕ) → StandsAt s n → terminal_at one.journal n ≡ terminal_at two.journal n
  there s n h = both_there p played later journal other last last' w.run.journey w'.run.journey s n h

  turned : (s : Place) (n : ℕ)
      → StandsAt s n
      → (u : ModemState)
      → modem_turn played one u (place_at played one n) ≡ modem_turn later two u (place_at later two n)
  turned s n h u =
      ap (λ (x : Place). modem_turn played one u x) (sym h.place)
      ∙ (turned_alike p session played later journal other u s shape
      (both_wait p played later journal other last last' w.run.journey w'.run.journey s n h)
      ∙ ap (λ (x : Place). modem_turn later two u x) h.place')

  -- the state of both is that of each log behind its past
  before_one : (n : ℕ) (b : BothAt n) → IsPast n b.log → state_before one first whole n ≡ b.state
  before_one n b past =
      sym (before_is p session played journal first whole n)
      ∙ (b.before n (omega arith) ∙ log_before_none (modem_log p session) played journal b.state b.log n past)

  before_two : (n : ℕ) (b : BothAt n) → IsPast n b.log' → state_before two first whole' n ≡ b.state
  before_two n b past =
      sym (before_is p session later other first whole' n)
      ∙ (b.before' n (omega arith) ∙ log_before_none (modem_log p session) later other b.state b.log' n past)

  after_bare : (u : ModemState) (n : ℕ) (event : ModemEvent)
      → answer_in (carrier_on p session) event ≡ None
      → terminal_at one.journal n ≡ terminal_at two.journal n
      → after_event one u n event ≡ after_event two u n event
  after_bare u n (pin_set pin up) bare same = λ i.
      record u {
        lines = with_pin u.lines pin up;
        at = n;
        items = u.items + 1;
        due = if loses_carrier u.lines pin up then least_live (same i) else [];
      }
  after_bare u n (own c step answer) bare same = λ i.
      record (answered_for u c) { lines = lines_after_own u.lines (same i) (next_call one u (same i) c); at = n }
  after_bare u n (passed c step answer) bare same = absurd (cc)
  after_bare u n (carrier_lost handle) bare same = absurd (cc)

  after_answer : (u : ModemState) (n : ℕ) (event : ModemEvent)
      → terminal_at one.journal n ≡ terminal_at two.journal n
      → terminal_at one.journal (n + 1) ≡ terminal_at two.journal (n + 1)
      → after_event one u (n + 1) event ≡ after_event two u (n + 1) event
  after_answer u n (pin_set pin up) before now = after_bare u (n + 1) (pin_set pin up) refl now
  after_answer u n (own c step answer) before now = after_bare u (n + 1) (own c step answer) refl now
  after_answer u n (passed c step answer) before now =
      let back : n + 1 - 1 ≡ n = omega arith in
      let was : terminal_at one.journal (n + 1 - 1) ≡ terminal_at two.journal (n + 1 - 1) =
      ap (λ (m : ℕ). terminal_at one.journal m) back
      ∙ (before ∙ ap (λ (m : ℕ). terminal_at two.journal m) (sym back)) in
      λ i. record (answered_for u c) {
        lines = lines_after_answer u.lines (live_count (was i)) (live_count (now i)) (next_call one u (now i) c) answer;
        at = n + 1;
      }
  after_answer u n (carrier_lost handle) before now = refl

  pins_both : (n : ℕ) (b : BothAt n)
      → PinHead played one b.state b.log n
      → PinHead later two b.state b.log' n
      → SameHead (modem_log p session) n b.log b.log'
  pins_both n b h h' =
      let items = sym h.pins.item ∙ h'.pins.item in
      let item = same_Some (item_of (terminal_at one.journal n) h.pin h.up)
      (item_of (terminal_at two.journal n) h'.pin h'.up) items in
      record {
        head = h.head;
        head' = h'.head;
        rest = h.rest;
        rest' = h'.rest;
        is = h.is;
        is' = h'.is;
        at_place = h.at_place;
        at_place' = h'.at_place;
        same = h.event_is ∙ ((λ i. pin_set (pin_in (item i)) (up_in (item i))) ∙ sym h'.event_is);
        bare = ap (λ (e : ModemEvent). answer_in (carrier_on p session) e) h.event_is;
      }

  own_both : (s : Place) (n : ℕ) (b : BothAt n)
      → StandsAt s n
      → OwnHead played one b.state b.log n
      → OwnHead later two b.state b.log' n
      → SameHead (modem_log p session) n b.log b.log'
  own_both s n b stand h h' =
      let u = b.state in
      let t = terminal_at one.journal n in
      let t' = terminal_at two.journal n in
      let same_at = there s n stand in
      let caller : h.caller ≡ h'.caller =
      same_own (next_call one u (place_at played one n).terminal h.caller)
      (next_call two u (place_at later two n).terminal h'.caller) h.caller h'.caller
      (sym h.turn ∙ (turned s n stand u ∙ h'.turn)) in
      let step : h.step ≡ h'.step = h.owns.next ∙ (ap (λ (c : ℕ). next_of u c) caller ∙ sym h'.owns.next) in
      let answers : OwnAnswer one u t h'.caller (next_call one u t h'.caller) h.answer =
      subst (λ (c : ℕ). OwnAnswer one u t c (next_call one u t c) h.answer) caller h.owns.answers in
      let there_answers : OwnAnswer two u t' h'.caller (next_call one u t h'.caller) h'.answer =
      subst (λ (x : Terminal). OwnAnswer two u t' h'.caller (next_call two u x h'.caller) h'.answer) (sym same_at)
      h'.owns.answers in
      let answer : h.answer ≡ h'.answer =
      own_same one two u t t' h'.caller (next_call one u t h'.caller) h.answer h'.answer same_at answers there_answers
      in
      record {
        head = h.head;
        head' = h'.head;
        rest = h.rest;
        rest' = h'.rest;
        is = h.is;
        is' = h'.is;
        at_place = h.at_place;
        at_place' = h'.at_place;
        same = h.event_is ∙ ((λ i. own (caller i) (step i) (answer i)) ∙ sym h'.event_is);
        bare = ap (λ (e : ModemEvent). answer_in (carrier_on p session) e) h.event_is;
      }

  heads_both : (s : Place) (n : ℕ) (b : BothAt n)
      → StandsAt s n
      → Heads played one b.state b.log n
      → Heads later two b.state b.log' n
      → SameHead (modem_log p session) n b.log b.log'
  heads_both s n b stand head head' = elim head [
    | inl pin ↦ elim head' [
      | inl pin' ↦ pins_both n b pin pin'
      | inr own' ↦ absurd (own_no_pin (next_call two b.state (place_at later two n).terminal own'.caller) own'.caller
          (sym own'.turn ∙ (sym (turned s n stand b.state) ∙ pin.turn)))
    ]
    | inr own_one ↦ elim head' [
      | inl pin' ↦ absurd (own_no_pin (next_call one b.state (place_at played one n).terminal own_one.caller)
          own_one.caller (sym own_one.turn ∙ (turned s n stand b.state ∙ pin'.turn)))
      | inr own' ↦ own_both s n b stand own_one own'
    ]
  ]

  heads : (s : Place) (n : ℕ) (b : BothAt n)
      → StandsAt s n
      → b.state.due ≡ []
      → (IsPast n b.log × IsPast n b.log') ⊎ SameHead (modem_log p session) n b.log b.log'
  heads s n b stand idle =
      let u = b.state in
      let same_at = there s n stand in
      let turn = turned s n stand u in
      elim (next_heads p session played journal end u n idle b.log b.here) [
        | inl past ↦ elim (next_heads p session later other end' u n idle b.log' b.here') [
          | inl past' ↦ inl (past, past')
          | inr head' ↦ absurd (against p session later played other journal last end whole u b.log' b.log n w
              (place_is p session later other last' end' whole' w' n) (sym same_at) (sym turn) idle b.here past
              (before_one n b past) head')
        ]
        | inr head ↦ elim (next_heads p session later other end' u n idle b.log' b.here') [
          | inl past' ↦ absurd (against p session played later journal other last' end' whole' u b.log b.log' n w'
              (place_is p session played journal last end whole w n) same_at turn idle b.here' past'
              (before_two n b past') head)
          | inr head' ↦ inr (heads_both s n b stand head head')
        ]
      ]

  -- the next entry of each is by the one whose turn it is
  same_who : (s : Place) (n : ℕ) (x : SettledAt n) (e e' : PlainEntry)
      → StandsAt s n
      → slice_get journal n ≡ Some e
      → slice_get other n ≡ Some e'
      → e.who ≡ e'.who
  same_who s n x e e' stand is is' =
      let u = x.both.state in
      let turn = who_of p session played journal last end whole w u n e (before_one n x.both x.one_past) is in
      let turn' = who_of p session later other last' end' whole' w' u n e' (before_two n x.both x.two_past) is' in
      one_who e.who e'.who (sym turn ∙ (turned s n stand u ∙ turn'))

  of_caller : (s : Place) (n c : ℕ) (x : SettledAt n) (e e' : PlainEntry)
      → StandsAt s n
      → slice_get journal n ≡ Some e
      → slice_get other n ≡ Some e'
      → e.who ≡ Caller c
      → e'.who ≡ Caller c
      → x.both.state.due ≡ []
      → has_begun (caller_at s.terminal c) ≡ false
      → AreOfCaller (modem_log p session) p first played later journal other last last' end end' whole whole' w.run
      w'.run n c e e'
  of_caller s n c x e e' stand is is' who who' idle begun =
      let b = x.both in
      let at = one_terminal p played later journal other last last' w.run.journey w'.run.journey s n stand in
      let same_at = there s n stand in
      let rest : has_begun (caller_at (terminal_at one.journal n) c) ≡ false =
      subst (λ (t : Terminal). has_begun (caller_at t c) ≡ false) at begun in
      let d =
      decides p session played journal last end whole w b.state b.log n c e b.here idle x.one_past is who rest in
      let d' = decides p session later other last' end' whole' w' b.state b.log' n c e' b.here' idle x.two_past is' who'
      (subst (λ (t : Terminal). has_begun (caller_at t c) ≡ false) same_at rest) in
      let same : next_call one b.state (terminal_at one.journal n) c
      ≡ next_call two b.state (terminal_at two.journal n) c =
      ap (λ (t : Terminal). next_call one b.state t c) same_at in
      elim d [
        | inl ends ↦ elim d' [
          | inl ends' ↦ inl (ends.event, ends'.event)
          | inr begins' ↦ absurd (ends.none_left (plain begins'.call) (same ∙ begins'.next))
        ]
        | inr begins ↦ elim d' [
          | inl ends' ↦ absurd (ends'.none_left (plain begins.call) (sym same ∙ begins.next))
          | inr begins' ↦
              let one_call : begins.call ≡ begins'.call = same_plain begins.call begins'.call
              (same_Some (as_plain begins.call) (as_plain begins'.call)
              (sym begins.next ∙ (same ∙ begins'.next))) in
              inr (record {
                of_call = begins.of_call;
                of_call' = begins'.of_call;
                same = begins.asked ∙ (ap (λ (x : PlainCall). Some x) one_call ∙ sym begins'.asked);
              })
        ]
      ]
    where
      same_plain : (x y : PlainCall) → as_plain x ≡ as_plain y → x ≡ y
      same_plain x y e = cc

  pub logs_alike : LogsAlike (modem_log p session) p first played later journal other last last' end end' whole whole'
      w.run w'.run
  logs_alike = record {
    after_bare = λ u n event bare same. after_bare u n event bare same;
    after_answer = λ u n event before now. after_answer u n event before now;
    heads = λ s n b stand idle. heads s n b stand (idle_of b.state idle);
    same_who = λ s n x e e' stand is is'. same_who s n x e e' stand is is';
    of_caller = λ s n c x e e' stand is is' who who' idle begun.
        of_caller s n c x e e' stand is is' who who' (idle_of x.both.state idle) begun;
  }
