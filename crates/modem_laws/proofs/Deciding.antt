-- What an entry of a caller is that has begun no call: its end where it has no call left in the phase, and else its
-- next call, which is for the port then.
use Rattle.std.proofs.Common.{◌≡◌, ◌≢◌, ◌≤◌, ◌<◌, ◌⊎◌, inl, inr, ℕ, ◌+◌, Bool, true, false, List, []}
use Rattle.std.proofs.Common.{◌∷◌, ◌++◌, Option, None, Some, length, take, drop, if◌then◌else◌, refl, sym, ap, ◌∙◌}
use Rattle.std.proofs.Common.{subst, arith}
use Rattle.std.specs.Prelude.{slice_get, sum}
use Rattle.std.proofs.lemmas.Bool.{false≢true, cases_lt, cases_eq, eq-eqb, le-leb, ne_eqb}
use Rattle.std.proofs.lemmas.List.{take-append-drop, take_all, length-take-le}
use Rattle.std.proofs.lemmas.Option.{slice_get_within}
use Rattle.tty_calls.specs.declared.journals.Who.{Who}
use Rattle.tty_calls.specs.declared.journals.Who.TheVariants.{Caller, Session}
use Rattle.tty_calls.specs.Plain.{PlainCall, PlainAnswer, caller_ended, PlainEntry}
use Rattle.tty_calls.specs.Sessions.{PlainSession, call_at, counts_on}
use Rattle.tty_terminal.specs.Terminals.{Terminal, opening, caller_at, has_begun}
use Rattle.tty_terminal.specs.Steps.{IsAllowed as IsEntryAllowed}
use Rattle.tty_terminal.specs.Runs.{Leads as Run, is_of_call}
use Rattle.tty_terminal.proofs.WaitLaws.{run_waits}
use Rattle.legal_runs.specs.Legal.{flip_on}
use Rattle.legal_runs.specs.Order.{Place, first_place as place_first, place_after, is_waiting}
use Rattle.legal_runs.proofs.Places.{leads_place}
use Rattle.passed_calls.specs.Journals.{terminal_at}
use Rattle.passed_calls.specs.Scripts.{plain, further}
use Rattle.order_laws.proofs.Comings.{caller_event, part_begun}
use Rattle.order_laws.proofs.Journeys.{answers_in, drop_one, one_for, to_here, allowed_at}
use Rattle.order_laws.proofs.Steps.{step_other}
use Rattle.logged_laws.proofs.Ahead.{Search, ahead as first_ahead}
use Rattle.logged_laws.proofs.Entries.{stays_over, none_answered, is_answered, under_way, of_next as next_answered}
use Rattle.logged_laws.proofs.Places.{IsPast, Here, logged_for, logged_in, few_behind, no_due}
use Rattle.modem_text.specs.Events.{ModemEvent, pin_set, own, passed, carrier_lost, ModemLog}
use Rattle.modem_text.specs.Sessions.{ModemCall, ModemSession}
use Rattle.modem_steps.specs.Derived.{carrier_on, call_in_phase}
use Rattle.modem_steps.specs.Steps.{Port, ModemState, first_state, next_of, next_call, answered_for, IsOfCall}
use Rattle.modem_steps.specs.Steps.{OwnAnswer, IsOwn, IsPassed, IsAllowed, after_event}
use Rattle.modem_steps.specs.Order.{goes_on, modem_turn, own_turn, place_at, state_before, AreEntriesInTurn}
use Rattle.modem_steps.specs.Order.{IsEventInTurn}
use Rattle.modem_one.specs.Played.{port_in}
use Rattle.modem_laws.proofs.Steps.{answer_in, modem_log, log_steps}
use Rattle.modem_laws.proofs.Turns.{own_case, goes_case, told_case, by_part, by_wait, by_test, Goes, past_turn, turn_in}
use Rattle.modem_laws.proofs.Whole.{call_in, call_phase, Whole}

-- ---- small truths

-- the entry begins the caller's next call, which is for the port
pub record Begins (port : Port) (u : ModemState) (n c : ℕ) (e : PlainEntry) : Type 0 where
  pub of_call : is_of_call e.event ≡ true
  pub call : PlainCall
  pub next : next_call port u (terminal_at port.journal n) c ≡ Some (plain call)
  pub asked : port.journal.calls c (caller_at (terminal_at port.journal n) c).next ≡ Some call

-- .. or it is the end of its calls of the phase
pub record Ends (port : Port) (u : ModemState) (n c : ℕ) (e : PlainEntry) : Type 0 where
  pub event : e.event ≡ caller_ended
  pub none_left : (call : ModemCall) → next_call port u (terminal_at port.journal n) c ≡ Some call → ⊥

-- the call of an entry is the next call
of_next : (port : Port) (c step : ℕ) (o : Option ModemCall)
    → IsOfCall port c step o
    → (call : PlainCall) × (o ≡ Some (plain call)) × (port.journal.calls c step ≡ Some call)
of_next port c step None h = absurd h
of_next port c step (Some (plain call)) h = (call, refl, h)
of_next port c step (Some (further call)) h = absurd h

-- what is answered without the port is a call
pub own_some : (port : Port) (s : ModemState) (t : Terminal) (c : ℕ) (o : Option ModemCall) (answer : PlainAnswer)
    → OwnAnswer port s t c o answer
    → (call : ModemCall) × (o ≡ Some call)
own_some port s t c None answer h = absurd h
own_some port s t c (Some call) answer h = (call, refl)

-- whose next call the port has answered
passed_some : (port : Port) (c step : ℕ) (o : Option ModemCall)
    → IsOfCall port c step o
    → (call : ModemCall) × (o ≡ Some call)
passed_some port c step None h = absurd h
passed_some port c step (Some call) h = (call, refl)

-- ---- the next event that is about a caller

-- a call of another caller is answered
other_next : (s : ModemState) (c d : ℕ) → c ≢ d → next_of (answered_for s d) c ≡ next_of s c
other_next s c d other = step_other s.next d c (next_of s d + 1) other

no_one : (c d : ℕ) → c ≢ d → one_for c d ≡ 0
no_one c d other = ap (λ (b : Bool). if b then 1 else 0) (ne_eqb d c (λ e. other (sym e)))

-- it answers a call of the caller
abbrev Answers : ℕ → ModemEvent → Type 0
Answers c (pin_set pin up) = ⊥
Answers c (own d step answer) = d ≡ c
Answers c (passed d step answer) = d ≡ c
Answers c (carrier_lost handle) = ⊥

-- .. or is an item of the modem block, where the caller is `carrier`
abbrev IsAbout : (carrier c : ℕ) → ModemEvent → Type 0
IsAbout k c (pin_set pin up) = c ≡ k
IsAbout k c (own d step answer) = d ≡ c
IsAbout k c (passed d step answer) = d ≡ c
IsAbout k c (carrier_lost handle) = ⊥

module _ (p : ℕ) (session : ModemSession) (played : PlainSession) (journal : List PlainEntry) (n c : ℕ) where
  abbrev carrier : ℕ
  carrier = carrier_on p session

  abbrev its_port : Port
  its_port = port_in session played p journal

  -- an event of others leaves the caller's next call, and this stays true
  abbrev OfOthers : Type 0 → (ModemState → Type 0) → ModemState → ℕ → ModemEvent → Type 0
  OfOthers IsCounted Stays s at event =
      (next_of (after_event its_port s at event) c ≡ next_of s c)
      × (IsCounted → logged_for c (answer_in carrier event) ≡ 0) × Stays (after_event its_port s at event)

  -- where it is `carrier` no hangup is due
  abbrev IsFree : ModemState → Type 0
  IsFree s = c ≡ carrier → s.due ≡ []

  about : (s : ModemState) (at : ℕ) (event : ModemEvent)
      → IsFree s
      → IsAllowed its_port s at event
      → IsAbout carrier c event ⊎ OfOthers (Unit {0}) IsFree s at event
  about s at (pin_set pin up) free h = elim (cases_eq c carrier) [
    | inl same ↦ inl same
    | inr other ↦ inr (refl, λ counts. refl, λ e. absurd (other e))
  ]
  about s at (own d step answer) free h = elim (cases_eq c d) [
    | inl same ↦ inl (sym same)
    | inr other ↦ inr (other_next s c d other, λ counts. refl, free)
  ]
  about s at (passed d step answer) free h = elim (cases_eq c d) [
    | inl same ↦ inl (sym same)
    | inr other ↦ inr (other_next s c d other, λ counts. no_one c d other, free)
  ]
  about s at (carrier_lost handle) free h = elim (cases_eq c carrier) [
    | inl same ↦ no_due s.due handle [] (free same) h.is_due
    | inr other ↦ inr (refl, λ counts. no_one c carrier other, λ e. absurd (other e))
  ]

  answers : (s : ModemState) (at : ℕ) (event : ModemEvent) → Answers c event ⊎ OfOthers ⊥ (λ s. Unit {0}) s at event
  answers s at (pin_set pin up) = inr (refl, λ never. absurd never, tt)
  answers s at (own d step answer) = elim (cases_eq c d) [
    | inl same ↦ inl (sym same)
    | inr other ↦ inr (other_next s c d other, λ never. absurd never, tt)
  ]
  answers s at (passed d step answer) = elim (cases_eq c d) [
    | inl same ↦ inl (sym same)
    | inr other ↦ inr (other_next s c d other, λ never. absurd never, tt)
  ]
  answers s at (carrier_lost handle) = inr (refl, λ never. absurd never, tt)

  abbrev search : Search (modem_log p session) played journal n c
  search = record {
    IsAbout = IsAbout carrier c;
    Stays = IsFree;
    IsCounted = Unit {0};
    either = λ s at event free late h. about s at event free h;
  }

  -- its next call, whatever hangs up
  abbrev search_answers : Search (modem_log p session) played journal n c
  search_answers = record {
    IsAbout = Answers c;
    Stays = λ s. Unit {0};
    IsCounted = ⊥;
    either = λ s at event stays late h. answers s at event;
  }

module _ (p : ℕ) (session : ModemSession) (played : PlainSession) (journal : List PlainEntry) (last : Terminal)
    (end : ModemState) (whole : ModemLog) (w : Whole p session played journal last end whole) where
  abbrev port : Port
  port = port_in session played p journal

  abbrev f : ℕ → ℕ → Option PlainCall
  f = call_at p played

  abbrev first : Terminal
  first = opening (sum (counts_on p played)) (flip_on p played)

  abbrev at : ℕ → Terminal
  at n = terminal_at port.journal n

  abbrev place : ℕ → Place
  place n = place_after f (place_first p played) (take n journal)

  pub place_is : (n : ℕ) → (place n).terminal ≡ at n
  place_is n =
      leads_place f (counts_on p played) (place_first p played) first (take n journal) (at n) refl
      (to_here p played first last journal w.run.journey n)

  -- an entry is made by the one whose turn it is
  pub who_of : (u : ModemState) (n : ℕ) (e : PlainEntry)
      → state_before port (first_state p session) whole n ≡ u
      → slice_get journal n ≡ Some e
      → modem_turn played port u (place n) ≡ goes_on e.who
  who_of u n e state is =
      let lt = slice_get_within journal n e is in
      let many : 0 + length (take n journal) ≡ n =
      (let l = length-take-le n journal (omega (arith, lt)) in omega (arith, l)) in
      ap (λ (s : ModemState). modem_turn played port s (place n)) (sym state)
      ∙ (ap (λ (m : ℕ). modem_turn played port (state_before port (first_state p session) whole m) (place n)) (sym many)
      ∙ turn_in played port whole (place_first p played) 0 (take n journal) (drop (n + 1) journal) e
      (subst (λ (es : List PlainEntry). AreEntriesInTurn played port whole (place_first p played) 0 es)
      (sym (take-append-drop n journal)
      ∙ ap (λ (es : List PlainEntry). take n journal ++ es) (drop_one n journal e is)) w.turns))

  -- where it is no turn of the session there is an entry
  pub entry_there : (u : ModemState) (n : ℕ)
      → n ≤ length journal
      → (modem_turn played port u (place n) ≡ goes_on Session → ⊥)
      → n < length journal
  entry_there u n within other = elim (cases_lt n (length journal)) [
    | inl lt ↦ lt
    | inr ge ↦
        let there : (place n).terminal ≡ last =
        leads_place f (counts_on p played) (place_first p played) first (take n journal) last refl
        (subst (λ (es : List PlainEntry). Run f (counts_on p played) first es last)
        (sym (take_all n journal ge)) w.run.journey.leads) in
        let phase : (place n).terminal.phase ≡ length played.phases =
        ap (λ (t : Terminal). t.phase) there ∙ w.ends in
        let past : length played.phases ≤ (place n).terminal.phase = omega (arith, phase) in
        absurd (other (past_turn played port u (place n)
        (le-leb (length played.phases) (place n).terminal.phase past)))
  ]

  -- who goes on and has begun no call is not over
  goes_over : (n c : ℕ)
      → n ≤ length journal
      → has_begun (caller_at (at n) c) ≡ false
      → (u : ModemState)
      → (idle : u.due ≡ [])
      → Goes played port u (place n) idle c
      → (caller_at (at n) c).over ≡ false
  goes_over n c within rest u idle (by_part part) =
      absurd (false≢true (sym rest ∙ part_begun p played last journal n c w.run.journey within part))
  goes_over n c within rest u idle (by_wait waits) =
      let begun = run_waits f (counts_on p played) (flip_on p played) (take n journal) (at n)
      (to_here p played first last journal w.run.journey n) c
      (subst (λ (t : Terminal). is_waiting t c ≡ true) (place_is n) waits) in
      absurd (false≢true (sym rest ∙ begun))
  goes_over n c within rest u idle (by_test over) =
      subst (λ (t : Terminal). (caller_at t c).over ≡ false) (place_is n) over

  -- nor is one whose turn it is to make a call that the port does not see
  pub turn_not_over : (u : ModemState) (n c : ℕ) (o : Option ModemCall)
      → u.due ≡ []
      → n ≤ length journal
      → modem_turn played port u (place n) ≡ own_turn o c
      → has_begun (caller_at (at n) c) ≡ false
      → (caller_at (at n) c).over ≡ false
  turn_not_over u n c o idle within turned rest = elim (own_case o c) [
    | inl goes ↦ goes_over n c within rest u idle (goes_case played port u (place n) idle c (turned ∙ goes))
    | inr told ↦ subst (λ (t : Terminal). (caller_at t c).over ≡ false) (place_is n)
        (told_case played port u (place n) idle c (turned ∙ told))
  ]

  module _ (u : ModemState) (log : ModemLog) (n c : ℕ) (e : PlainEntry)
      (h : Here (modem_log p session) played journal end u log n) (idle : u.due ≡ []) (past : IsPast n log)
      (here : slice_get journal n ≡ Some e) (who : e.who ≡ Caller c)
      (rest : has_begun (caller_at (at n) c) ≡ false) where
    -- ---- its end

    by_no_more : next_of end c ≡ next_of u c → (call : ModemCall) → next_call port u (at n) c ≡ Some call → ⊥
    by_no_more none call is =
        let its = call_in p session (at n).phase c (next_of u c) call is in
        let all = w.answered c in
        let to = its.all in
        absurd (omega (arith, none, all, to))

    -- the call that is answered next is of another phase
    other_phase : (m : ℕ) (s : ModemState) (theirs mine : ModemCall)
        → next_of s c ≡ next_of u c
        → next_call port s (at m) c ≡ Some theirs
        → next_call port u (at n) c ≡ Some mine
        → (at m).phase ≡ (at n).phase
    other_phase m s theirs mine same there here_is =
        call_phase p session (at m).phase (at n).phase c (next_of u c)
        (call_in p session (at m).phase c (next_of u c) theirs
        (ap (λ (i : ℕ). call_in_phase p session (at m).phase c i) (sym same) ∙ there))
        (call_in p session (at n).phase c (next_of u c) mine here_is)

    found_ends : e.event ≡ caller_ended
        → (s : ModemState) (m : ℕ) (event : ModemEvent)
        → Answers c event
        → IsAllowed port s m event
        → IsEventInTurn played port s (place_at played port m) event
        → n < m
        → m ≤ length journal
        → next_of s c ≡ next_of u c
        → (call : ModemCall)
        → next_call port u (at n) c ≡ Some call
        → ⊥
    found_ends ended s m (pin_set pin up) about allowed turned late within same call is = about
    found_ends ended s m (own d step answer) about allowed turned late within same call is =
        let owns : IsOwn port s (at m) c step answer =
        subst (λ (i : ℕ). IsOwn port s (at m) i step answer) about allowed in
        let turn : modem_turn played port s (place_at played port m)
        ≡ own_turn (next_call port s (place_at played port m).terminal c) c =
        subst (λ (i : ℕ). modem_turn played port s (place_at played port m)
        ≡ own_turn (next_call port s (place_at played port m).terminal i) i) about turned in
        let some = own_some port s (at m) c (next_call port s (at m) c) answer owns.answers in
        let over = stays_over p played journal last w.run.journey n c e here who m ended late
        (other_phase m s some.0 call same some.1 is) in
        let runs = turn_not_over s m c (next_call port s (place_at played port m).terminal c) owns.nothing_due within
        turn owns.between in
        false≢true (sym runs ∙ over)
    found_ends ended s m (passed d step answer) about allowed turned late within same call is =
        let its : IsPassed port s m c step answer = subst (λ (i : ℕ). IsPassed port s m i step answer) about allowed in
        let some = passed_some port c its.entry.entry.step (next_call port s (at m) c) its.of_call in
        none_answered p played journal last w.run.journey n c e here who m answer ended its.entry late
        (other_phase m s some.0 call same some.1 is)
    found_ends ended s m (carrier_lost handle) about allowed turned late within same call is = about

    call_ends : e.event ≡ caller_ended → Ends port u n c e
    call_ends event = record {
      event = event;
      none_left = elim (first_ahead (modem_log p session) p played journal (log_steps p session played journal) n c
          (search_answers p session played journal n c) u end log h.leads h.turns tt past) [
            | inl more ↦ by_no_more more.next
            | inr x ↦ found_ends event x.state x.head.at x.head.event x.about x.leads.2 x.turns.0 x.late x.leads.1
                x.same
          ];
    }

    -- ---- its next call

    module _ (of_call : is_of_call e.event ≡ true) where
      passed_begins : (s : ModemState) (m step : ℕ) (answer : PlainAnswer)
          → (is : IsPassed port s m c step answer)
          → n < m
          → next_of s c ≡ next_of u c
          → answers_in c (drop n journal) ≤ 1 + answers_in c (drop m journal)
          → Begins port u n c e
      passed_begins s m step answer is late same few =
          let its =
          next_answered p played journal last w.run.journey n c e here who of_call m answer is.entry late few in
          let call = of_next port c is.entry.entry.step (next_call port s (at m) c) is.of_call in
          let next_is : next_call port u (at n) c ≡ next_call port s (at m) c =
          (λ i. call_in_phase p session (sym its.phase i) c (sym same i)) in
          record {
            of_call = of_call;
            call = call.0;
            next = next_is ∙ call.1;
            asked = ap (λ (i : ℕ). f c i) (sym its.step) ∙ call.2;
          }

      -- what comes between calls does not come while this one is under way
      never_between : (m : ℕ)
          → n < m
          → answers_in c (drop n journal) ≤ answers_in c (drop m journal)
          → has_begun (caller_at (at m) c) ≡ false
          → ⊥
      never_between m late few none_begun =
          false≢true (sym none_begun
          ∙ under_way p played journal last w.run.journey n c e here who of_call m late few)

      found_begins : (s : ModemState) (m : ℕ) (event : ModemEvent)
          → IsAbout (carrier_on p session) c event
          → IsAllowed port s m event
          → n < m
          → next_of s c ≡ next_of u c
          → answers_in c (drop n journal)
          ≤ logged_for c (answer_in (carrier_on p session) event) + answers_in c (drop m journal)
          → Begins port u n c e
      found_begins s m (pin_set pin up) about allowed late same few =
          absurd (never_between m late (omega (arith, few))
          (ap (λ (i : ℕ). has_begun (caller_at (at m) i)) about ∙ allowed.between))
      found_begins s m (own d step answer) about allowed late same few =
          absurd (never_between m late (omega (arith, few))
          (ap (λ (i : ℕ). has_begun (caller_at (at m) i)) (sym about) ∙ allowed.between))
      found_begins s m (passed d step answer) about allowed late same few =
          let one : one_for c d ≡ 1 = ap (λ (b : Bool). if b then 1 else 0) (eq-eqb d c about) in
          passed_begins s m step answer (subst (λ (i : ℕ). IsPassed port s m i step answer) about allowed) late same
          (omega (arith, few, one))
      found_begins s m (carrier_lost handle) about allowed late same few = absurd about

      call_begins : Begins port u n c e
      call_begins = elim (first_ahead (modem_log p session) p played journal (log_steps p session played journal) n c
          (search p session played journal n c) u end log h.leads h.turns (λ its. idle) past) [
            | inl more ↦
                (let none : logged_in (modem_log p session) c log ≡ 0 = more.none tt in
                let all = h.counted c in
                absurd (is_answered p played journal last w.run.journey n c e here who of_call (λ j. w.bounds j c)
                (omega (arith, none, all))))
            | inr x ↦
                (let count : logged_in (modem_log p session) c log
                ≡ logged_in (modem_log p session) c (x.head ∷ x.rest) = x.count tt in
                let all = h.counted c in
                let later = few_behind (modem_log p session) p played journal (log_steps p session played journal)
                x.state end x.head x.rest c x.leads in
                found_begins x.state x.head.at x.head.event x.about x.leads.2 x.late x.same
                (omega (arith, count, all, later)))
          ]

    pub decides : Ends port u n c e ⊎ Begins port u n c e
    decides =
        let allowed : IsEntryAllowed f (counts_on p played) (at n) (Caller c) e.step e.part e.event =
        subst (λ (x : Who). IsEntryAllowed f (counts_on p played) (at n) x e.step e.part e.event) who
        (allowed_at p played first last journal w.run.journey n e here).1 in
        elim (caller_event f (counts_on p played) (at n) c e.step e.part e.event allowed) [
          | inl of_call ↦ inr (call_begins of_call)
          | inr ended ↦ inl (call_ends ended)
        ]
