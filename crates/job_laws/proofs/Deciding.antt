-- What an entry of a caller is that has begun no call: its end where its calls of the phase were answered, and else its
-- next call, which is for the port then.
use Rattle.std.proofs.Common.{◌≡◌, ◌≢◌, ◌≤◌, ◌<◌, ◌⊎◌, inl, inr, ℕ, ◌+◌, ◌==◌, ◌&&◌, Bool, true, false, not, List}
use Rattle.std.proofs.Common.{[], ◌∷◌, ◌++◌, Option, None, Some, length, take, drop, get_or, cond}
use Rattle.std.proofs.Common.{if◌then◌else◌, refl, sym, ap, ◌∙◌, subst, arith}
use Rattle.std.specs.Prelude.{slice_get, slice_index_or, slice_set, sum, IsTrue, nat_le, nat_lt, position, unwrap_or}
use Rattle.std.specs.List.{position_or_len}
use Rattle.std.proofs.lemmas.Bool.{false≢true, and_parts, cases_lt, cases_eq, eq-eqb, eqb-true, le-leb, ne_eqb}
use Rattle.std.proofs.lemmas.List.{take-append-drop, take_all}
use Rattle.std.proofs.lemmas.Bool.Decides.{nat_tests}
use Rattle.std.proofs.lemmas.List.Sums.{position_or_len_is}
use Rattle.std.proofs.lemmas.Option.{get_or_from_slice_get, slice_get_within, slice_get-get_or}
use Rattle.tty_calls.specs.declared.journals.Who.{Who}
use Rattle.tty_calls.specs.declared.journals.Who.TheVariants.{Caller, Session}
use Rattle.tty_calls.specs.Plain.{PlainCall, PlainAnswer, caller_ended, PlainEntry, is_caller}
use Rattle.tty_calls.specs.Sessions.{PlainScript, PlainSession, names_of, scripts_on, scripts_over, call_at, counts_on}
use Rattle.tty_terminal.specs.Terminals.{Terminal, opening, caller_at, has_begun}
use Rattle.tty_terminal.specs.Steps.{IsAllowed as IsEntryAllowed}
use Rattle.tty_terminal.specs.Runs.{Leads as Run, is_of_call}
use Rattle.tty_terminal.proofs.WaitLaws.{run_waits}
use Rattle.legal_runs.specs.Legal.{name_at, has_script, flip_on, IsInPhase, phase_at}
use Rattle.legal_runs.proofs.Truths.{if_true}
use Rattle.legal_runs.specs.Order.{Place, first_place as place_first, next_place, place_after, can_go_on, is_waiting}
use Rattle.legal_runs.specs.Order.{turn, AreInTurn}
use Rattle.legal_runs.proofs.Places.{leads_place}
use Rattle.job_control.specs.Control.{JobState}
use Rattle.job_control.specs.declared.processes.Judged.TheVariants.{Pass}
use Rattle.passed_calls.specs.declared.logs.Logged.{Logged}
use Rattle.passed_calls.specs.Blocks.{names_on}
use Rattle.passed_calls.specs.Journals.{terminal_at}
use Rattle.passed_calls.specs.Scripts.{plain, further}
use Rattle.order_laws.proofs.Comings.{caller_event, part_begun}
use Rattle.order_laws.proofs.Journeys.{answers_in, one_for, drop_one, who_is, to_here, allowed_at, in_phase_at}
use Rattle.order_laws.proofs.Journeys.{entry_step, none_before}
use Rattle.order_laws.proofs.Steps.{step_other}
use Rattle.logged_laws.proofs.Ahead.{Search, NoMore, Found, ahead as first_ahead}
use Rattle.logged_laws.proofs.Entries.{stays_over, none_answered, is_answered, under_way, of_next as next_answered}
use Rattle.logged_laws.proofs.Places.{IsPast, Here, logged_for, logged_in, few_behind}
use Rattle.job_text.specs.Events.{JobEvent, own, passed, passed_down, sent, JobLog}
use Rattle.job_text.specs.Sessions.{JobCall, JobsSession, blocks_in}
use Rattle.job_steps.specs.Derived.{job_call_at, IsStepIn}
use Rattle.job_steps.specs.Steps.{Port, JobsState, jobs_before, proc_of, next_of, next_call, judged_call, is_of_step}
use Rattle.job_steps.specs.Steps.{first_place, IsOwn, IsPassed, IsAllowed, IsOfCall, WentToPort}
use Rattle.job_steps.specs.Steps.{after_own, after_passed, after_event}
use Rattle.job_steps.specs.Order.{turn_at, IsEventInTurn}
use Rattle.job_steps.proofs.Moments.{now_before, event_behind}
use Rattle.job_one.specs.Played.{port_in}
use Rattle.job_one.proofs.Keeping.{own_keeps, passed_keeps}
use Rattle.job_laws.proofs.Due.{DueOf, IsBy, event_due}
use Rattle.job_laws.proofs.Steps.{answer_in, job_log, log_steps}
use Rattle.job_laws.proofs.Whole.{steps_few, step_phase, Whole, turn_case}

-- ---- small truths

not_over : (over b : Bool) → (not over && b) ≡ true → over ≡ false
not_over true b e = absurd (false≢true e)
not_over false b e = refl

some_name : (name : Option (List ℕ)) (scripts : List PlainScript) (names : List (List ℕ)) (c : ℕ)
    → slice_get names c ≡ name
    → IsTrue (has_script scripts name)
    → c < length names
some_name None scripts names c is h = absurd (false≢true h)
some_name (Some name) scripts names c is h = slice_get_within names c name is

-- the entry begins the caller's next call, which is for the port
pub record Begins (port : Port) (u : JobsState) (n c : ℕ) (e : PlainEntry) : Type 0 where
  pub of_call : is_of_call e.event ≡ true
  pub in_phase : IsStepIn port.number port.session (terminal_at port.journal n).phase c (next_of u c)
  pub call : PlainCall
  pub next : next_call port u c ≡ Some (plain call)
  pub asked : port.journal.calls c (caller_at (terminal_at port.journal n) c).next ≡ Some call
  pub goes : judged_call u.now.jobs (terminal_at port.journal n) (proc_of port c) call ≡ Pass

-- .. or it is the end of its calls of the phase
pub record Ends (port : Port) (u : JobsState) (n c : ℕ) (e : PlainEntry) : Type 0 where
  pub event : e.event ≡ caller_ended
  pub none_left : IsStepIn port.number port.session (terminal_at port.journal n).phase c (next_of u c) → ⊥

-- the call of an entry is the next call
of_next : (port : Port) (c step : ℕ) (o : Option JobCall)
    → IsOfCall port c step o
    → (call : PlainCall) × (o ≡ Some (plain call)) × (port.journal.calls c step ≡ Some call)
of_next port c step None h = absurd h
of_next port c step (Some (plain call)) h = (call, refl, h)
of_next port c step (Some (further call)) h = absurd h

lt_test : (a b : ℕ) → a < b → nat_lt a b ≡ true
lt_test a b lt = grind (arith, nat_tests)

bool_not : (b : Bool) → (b ≡ true → ⊥) → b ≡ false
bool_not true h = absurd (h refl)
bool_not false h = refl

-- the first that passes
position_at : (f : PlainEntry → Bool) (xs : List PlainEntry) (n : ℕ) (x : PlainEntry)
    → slice_get xs n ≡ Some x
    → f x ≡ true
    → ((k : ℕ) (y : PlainEntry) → k < n → slice_get xs k ≡ Some y → f y ≡ true → ⊥)
    → unwrap_or (position f xs) (length xs) ≡ n
position_at f xs n x is passes none =
    let within = slice_get_within xs n x is in
    let first : position_or_len f xs ≡ n =
    position_or_len_is f xs n x (omega (arith, within))
    (λ k lt. bool_not (f (get_or xs k x)) (λ e.
    none k (get_or xs k x) lt (slice_get-get_or xs k x (omega (arith, lt, within))) e))
    (λ lt. ap f (get_or_from_slice_get xs n x x is) ∙ passes) in
    ap (λ (b : Bool). unwrap_or (cond b (Some (position_or_len f xs)) None) (length xs))
    (lt_test (position_or_len f xs) (length xs) (omega (arith, first, within)))
    ∙ first

turn_in : (p : ℕ) (session : PlainSession) (s : Place) (xs ys : List PlainEntry) (e : PlainEntry)
    → AreInTurn p session s (xs ++ e ∷ ys)
    → e.who ≡ turn p session (place_after (call_at p session) s xs)
turn_in p session s [] ys e h = h.0.by_turn
turn_in p session s (x ∷ xs) ys e h = turn_in p session (next_place (call_at p session) s x) xs ys e h.1

-- ---- the next event that answers a call of a caller

abbrev Answers : ℕ → JobEvent → Type 0
Answers c (own d step answer) = d ≡ c
Answers c (passed d step answer) = d ≡ c
Answers c (passed_down d handle) = ⊥
Answers c (sent signal target) = ⊥

-- a call of another caller is answered
other_next : (port : Port) (s u : JobsState) (c d : ℕ)
    → u.next ≡ s.next
    → c ≢ d
    → slice_index_or (slice_set u.next d (next_of u d + 1)) c 0 ≡ next_of s c
other_next port s u c d same other =
    step_other u.next d c (next_of u d + 1) other ∙ ap (λ (ns : List ℕ). slice_index_or ns c 0) same

no_one : (c d : ℕ) → c ≢ d → one_for c d ≡ 0
no_one c d other = ap (λ (b : Bool). if b then 1 else 0) (ne_eqb d c (λ e. other (sym e)))

module _ (p : ℕ) (session : JobsSession) (played : PlainSession) (journal : List PlainEntry) (n c : ℕ)
    (jobs : JobState) where
  -- no hangup that is due is of the caller; and of job control at the place the events behind it say nothing
  abbrev Stays : JobsState → Type 0
  Stays s = DueOf (λ d. d ≢ c) s.due × (jobs_before (port_in session played p journal) s n ≡ jobs)

  stays_by : (s : JobsState) (at : ℕ) (event : JobEvent)
      → Stays s
      → n < at
      → IsBy (λ d. d ≢ c) event
      → Stays (after_event (port_in session played p journal) s at event)
  stays_by s at event stays late by = (
    event_due (λ d. d ≢ c) (port_in session played p journal) s at event by stays.0,
    event_behind (port_in session played p journal) s at n event late ∙ stays.1,
  )

  either : (s : JobsState) (at : ℕ) (event : JobEvent)
      → Stays s
      → n < at
      → IsAllowed (port_in session played p journal) s at event
      → Answers c event
      ⊎ ((next_of (after_event (port_in session played p journal) s at event) c ≡ next_of s c)
      × (Unit {0} → logged_for c (answer_in event) ≡ 0)
      × Stays (after_event (port_in session played p journal) s at event))
  either s at (own d step answer) stays late h =
      let port = port_in session played p journal in
      elim (cases_eq c d) [
        | inl same ↦ inl (sym same)
        | inr other ↦ inr (
          other_next port s (after_own (terminal_at port.journal at) (proc_of port d) d s at (next_call port s d)) c d
              (own_keeps (terminal_at port.journal at) (proc_of port d) d s at (next_call port s d)).next other,
          λ counts. refl,
          stays_by s at (own d step answer) stays late (λ e. other (sym e)),
        )
      ]
  either s at (passed d step answer) stays late h =
      let port = port_in session played p journal in
      elim (cases_eq c d) [
        | inl same ↦ inl (sym same)
        | inr other ↦ inr (
          other_next port s (after_passed s at (next_call port s d) answer) c d
              (passed_keeps s at (next_call port s d) answer).next other,
          λ counts. no_one c d other,
          stays_by s at (passed d step answer) stays late tt,
        )
      ]
  either s at (passed_down d handle) stays late h =
      let other : d ≢ c = (subst (λ (es : List JobEvent). DueOf (λ d. d ≢ c) es) h.is_due stays.0).0 in
      inr (
        refl,
        λ counts. no_one c d (λ e. other (sym e)),
        stays_by s at (passed_down d handle) stays late tt,
      )
  either s at (sent signal target) stays late h =
      inr (refl, λ counts. refl, stays_by s at (sent signal target) stays late tt)

  abbrev search : Search (job_log p session) played journal n c
  search = record {
    IsAbout = Answers c;
    Stays = Stays;
    IsCounted = Unit {0};
    either = λ s at event stays late h. either s at event stays late h;
  }

module _ (p : ℕ) (session : JobsSession) (played : PlainSession) (journal : List PlainEntry) (last : Terminal)
    (end : JobsState) (w : Whole p session played journal last end) where
  abbrev port : Port
  port = port_in session played p journal

  abbrev f : ℕ → ℕ → Option PlainCall
  f = call_at p played

  abbrev first : Terminal
  first = opening (sum (counts_on p played)) (flip_on p played)

  abbrev at : ℕ → Terminal
  at n = terminal_at port.journal n

  -- an entry is made by the one whose turn it is
  pub who_of : (n : ℕ) (e : PlainEntry) → slice_get journal n ≡ Some e → e.who ≡ turn_at played port n
  who_of n e is =
      turn_in p played (place_first p played) (take n journal) (drop (n + 1) journal) e
      (subst (λ (es : List PlainEntry). AreInTurn p played (place_first p played) es)
      (sym (take-append-drop n journal)
      ∙ ap (λ (es : List PlainEntry). take n journal ++ es) (drop_one n journal e is)) w.turns)

  -- where it is a caller's turn there is an entry
  pub entry_there : (n c : ℕ)
      → n ≤ length journal
      → turn_at played port n ≡ Caller c
      → n < length journal
  entry_there n c within turned = elim (cases_lt n (length journal)) [
    | inl lt ↦ lt
    | inr ge ↦
        let s = place_after f (place_first p played) (take n journal) in
        let there : s.terminal ≡ last =
        leads_place f (counts_on p played) (place_first p played) first (take n journal) last refl
        (subst (λ (es : List PlainEntry). Run f (counts_on p played) first es last)
        (sym (take_all n journal ge)) w.run.journey.leads) in
        let phase : s.terminal.phase ≡ length played.phases =
        ap (λ (t : Terminal). t.phase) there ∙ w.ends in
        let past : length played.phases ≤ s.terminal.phase = omega (arith, phase) in
        let ended : turn p played s ≡ Session =
        if_true (nat_le (length played.phases) s.terminal.phase) Session _
        (le-leb (length played.phases) s.terminal.phase past) in
        let never : Session ≡ Caller c = sym ended ∙ turned in
        absurd (cc)
  ]

  -- where it is the turn of a caller that has begun no call, its calls are not over
  turn_not_over : (n c : ℕ)
      → n ≤ length journal
      → turn_at played port n ≡ Caller c
      → has_begun (caller_at (at n) c) ≡ false
      → (caller_at (at n) c).over ≡ false
  turn_not_over n c within turned rest =
      let s = place_after f (place_first p played) (take n journal) in
      let there : s.terminal ≡ at n =
      leads_place f (counts_on p played) (place_first p played) first (take n journal) (at n) refl
      (to_here p played first last journal w.run.journey n) in
      elim (turn_case p played s c turned) [
        | inl part ↦ absurd (false≢true (sym rest ∙ part_begun p played last journal n c w.run.journey within part))
        | inr ranked ↦ elim ranked [
          | inl goes ↦ not_over (caller_at (at n) c).over _
              (subst (λ (t : Terminal). can_go_on f t c ≡ true) there goes)
          | inr waits ↦
              let begun = run_waits f (counts_on p played) (flip_on p played) (take n journal) (at n)
              (to_here p played first last journal w.run.journey n) c
              (subst (λ (t : Terminal). is_waiting t c ≡ true) there waits) in
              absurd (false≢true (sym rest ∙ begun))
        ]
      ]

  module _ (u : JobsState) (log : JobLog) (n c : ℕ) (e : PlainEntry)
      (h : Here (job_log p session) played journal end u log n) (idle : u.due ≡ []) (past : IsPast n log)
      (here : slice_get journal n ≡ Some e) (who : e.who ≡ Caller c)
      (rest : has_begun (caller_at (at n) c) ≡ false) where
    -- it is a caller of the port
    known : c < length (names_on p (blocks_in session))
    known =
        let in_phase : IsInPhase p played (at n).phase (Caller c) e.step e.event =
        subst (λ (x : Who). IsInPhase p played (at n).phase x e.step e.event) who
        (in_phase_at p played first last journal w.run.journey n e here) in
        let name = name_at p played c in
        let lt = some_name name (scripts_on p (phase_at played (at n).phase)) (names_of (scripts_over p played.phases))
        c refl in_phase.0 in
        subst (λ (names : List (List ℕ)). c < length names) w.names lt

    abbrev x : Search (job_log p session) played journal n c
    x = search p session played journal n c (jobs_before port u n)

    abbrev MoreOf : Type 0
    MoreOf = NoMore (job_log p session) p played journal (log_steps p session played journal) n c x u end log

    abbrev FoundOf : Type 0
    FoundOf = Found (job_log p session) p played journal (log_steps p session played journal) n c x u end log

    next : MoreOf ⊎ FoundOf
    next = first_ahead (job_log p session) p played journal (log_steps p session played journal) n c x u end log h.leads
        h.turns (subst (λ (es : List JobEvent). DueOf (λ d. d ≢ c) es) (sym idle) tt, refl) past

    -- ---- its end

    by_no_more : MoreOf → IsStepIn p session (at n).phase c (next_of u c) → ⊥
    by_no_more more step =
        let none : next_of end c ≡ next_of u c = more.next in
        let all = w.answered c known in
        let few = steps_few p session ((at n).phase + 1) c in
        let to = step.to in
        absurd (omega (arith, none, all, few, to))

    -- the call that is answered next is of another phase
    other_phase : (m step : ℕ) (s : JobsState)
        → step ≡ next_of s c
        → next_of s c ≡ next_of u c
        → IsStepIn p session (at m).phase c step
        → IsStepIn p session (at n).phase c (next_of u c)
        → (at m).phase ≡ (at n).phase
    other_phase m step s is same theirs mine =
        step_phase p session (at m).phase (at n).phase c (next_of u c)
        (subst (λ (i : ℕ). IsStepIn p session (at m).phase c i) (is ∙ same) theirs) mine

    found_ends : e.event ≡ caller_ended
        → (s : JobsState) (m : ℕ) (event : JobEvent)
        → Answers c event
        → IsAllowed port s m event
        → IsEventInTurn played port s m event
        → n < m
        → m ≤ length journal
        → next_of s c ≡ next_of u c
        → IsStepIn p session (at n).phase c (next_of u c)
        → ⊥
    found_ends ended s m (own d step answer) about allowed turned late within same mine =
        let owns : IsOwn port s m c step answer = subst (λ (i : ℕ). IsOwn port s m i step answer) about allowed in
        let turn_is : turn_at played port m ≡ Caller c = turned.1 ∙ ap (λ (i : ℕ). Caller i) about in
        let over = stays_over p played journal last w.run.journey n c e here who m ended late
        (other_phase m step s owns.next same owns.in_phase mine) in
        false≢true (sym (turn_not_over m c within turn_is owns.between) ∙ over)
    found_ends ended s m (passed d step answer) about allowed turned late within same mine =
        let is : IsPassed port s m c step answer = subst (λ (i : ℕ). IsPassed port s m i step answer) about allowed in
        none_answered p played journal last w.run.journey n c e here who m answer ended is.entry late
        (other_phase m step s is.next same is.in_phase mine)
    found_ends ended s m (passed_down d handle) about allowed turned late within same mine = about
    found_ends ended s m (sent signal target) about allowed turned late within same mine = about

    -- ---- its next call

    passed_begins : (of_call : is_of_call e.event ≡ true) (s : JobsState) (m step : ℕ) (answer : PlainAnswer)
        → (is : IsPassed port s m c step answer)
        → n < m
        → next_of s c ≡ next_of u c
        → answers_in c (drop n journal) ≤ 1 + answers_in c (drop m journal)
        → jobs_before port s n ≡ jobs_before port u n
        → Begins port u n c e
    passed_begins of_call s m step answer is late same few jobs =
        let k = (caller_at (at n) c).next in
        let its = next_answered p played journal last w.run.journey n c e here who of_call m answer is.entry late few in
        let call = of_next port c is.entry.entry.step (next_call port s c) is.of_call in
        let next_is : next_call port u c ≡ next_call port s c =
        ap (λ (i : ℕ). job_call_at p session c i) (sym same) in
        let place : first_place port.journal c k ≡ n = position_at (is_of_step c k) journal n e here
        its_step (λ i y lt there passes. before_none i y lt there passes) in
        let goes : WentToPort port s n c (Some (plain call.0)) =
        subst (λ (o : Option JobCall). WentToPort port s n c o) call.1
        (subst (λ (i : ℕ). WentToPort port s i c (next_call port s c))
        (ap (λ (i : ℕ). first_place port.journal c i) its.step ∙ place) is.goes_on) in
        let now : jobs_before port s n ≡ u.now.jobs = jobs ∙ now_before port u n h.now in
        record {
          of_call = of_call;
          in_phase = subst (λ (i : ℕ). IsStepIn p session i c (next_of u c)) its.phase
              (subst (λ (i : ℕ). IsStepIn p session (at m).phase c i) (is.next ∙ same) is.in_phase);
          call = call.0;
          next = next_is ∙ call.1;
          asked = ap (λ (i : ℕ). f c i) (sym its.step) ∙ call.2;
          goes = ap (λ (j : JobState). judged_call j (at n) (proc_of port c) call.0) (sym now) ∙ goes;
        }
      where
        its_step : is_of_step c (caller_at (at n) c).next e ≡ true
        its_step =
            let at_step = (entry_step p played first last journal w.run.journey n c e here who of_call).0 in
            let own : is_caller e.who c ≡ true = ap (λ (x : Who). is_caller x c) who ∙ eq-eqb c c refl in
            let step : (e.step == (caller_at (at n) c).next) ≡ true =
            eq-eqb e.step (caller_at (at n) c).next at_step in
            (λ i. of_call i && own i && step i)

        before_none : (i : ℕ) (y : PlainEntry)
            → i < n
            → slice_get journal i ≡ Some y
            → is_of_step c (caller_at (at n) c).next y ≡ true
            → ⊥
        before_none i y lt is passes =
            let both = and_parts (is_of_call y.event && is_caller y.who c) (y.step == (caller_at (at n) c).next) passes
            in
            let two = and_parts (is_of_call y.event) (is_caller y.who c) both.0 in
            none_before p played first last journal w.run.journey n c i y rest lt is (who_is y.who c two.1) two.0
            (eqb-true y.step (caller_at (at n) c).next both.1)

    found_begins : (of_call : is_of_call e.event ≡ true) (s : JobsState) (l : Logged JobEvent) (later : JobLog)
        (event : JobEvent)
        → l.event ≡ event
        → Answers c event
        → IsAllowed port s l.at event
        → n < l.at
        → next_of s c ≡ next_of u c
        → logged_in (job_log p session) c (l ∷ later) ≡ answers_in c (drop n journal)
        → logged_in (job_log p session) c (l ∷ later)
        ≤ logged_for c (answer_in event) + answers_in c (drop l.at journal)
        → jobs_before port s n ≡ jobs_before port u n
        → Begins port u n c e
    found_begins of_call s l later (own d step answer) is about allowed late same count few jobs =
        let owns : IsOwn port s l.at c step answer = subst (λ (i : ℕ). IsOwn port s l.at i step answer) about allowed in
        let begun = under_way p played journal last w.run.journey n c e here who of_call l.at late
        (omega (arith, count, few)) in
        absurd (false≢true (sym owns.between ∙ begun))
    found_begins of_call s l later (passed d step answer) is about allowed late same count few jobs =
        let its : IsPassed port s l.at c step answer =
        subst (λ (i : ℕ). IsPassed port s l.at i step answer) about allowed in
        let one : one_for c d ≡ 1 = ap (λ (b : Bool). if b then 1 else 0) (eq-eqb d c about) in
        passed_begins of_call s l.at step answer its late same (omega (arith, count, few, one)) jobs
    found_begins of_call s l later (passed_down d handle) is about allowed late same count few jobs = absurd about
    found_begins of_call s l later (sent signal target) is about allowed late same count few jobs = absurd about

    pub decides : Ends port u n c e ⊎ Begins port u n c e
    decides =
        let allowed : IsEntryAllowed f (counts_on p played) (at n) (Caller c) e.step e.part e.event =
        subst (λ (x : Who). IsEntryAllowed f (counts_on p played) (at n) x e.step e.part e.event) who
        (allowed_at p played first last journal w.run.journey n e here).1 in
        elim (caller_event f (counts_on p played) (at n) c e.step e.part e.event allowed) [
          | inl of_call ↦ inr (elim next [
            | inl more ↦
                (let none : logged_in (job_log p session) c log ≡ 0 = more.none tt in
                let all = h.counted c in
                absurd (is_answered p played journal last w.run.journey n c e here who of_call (λ j. w.bounds j c)
                (omega (arith, none, all))))
            | inr x ↦
                (let count : logged_in (job_log p session) c log ≡ logged_in (job_log p session) c (x.head ∷ x.rest) =
                x.count tt in
                let all = h.counted c in
                let later = few_behind (job_log p session) p played journal (log_steps p session played journal) x.state
                end x.head x.rest c x.leads in
                found_begins of_call x.state x.head x.rest x.head.event refl x.about x.leads.2 x.late x.same
                (omega (arith, count, all)) later x.stays.1)
          ])
          | inr ended ↦ inl (record {
            event = ended;
            none_left = elim next [
              | inl more ↦ by_no_more more
              | inr x ↦ found_ends ended x.state x.head.at x.head.event x.about x.leads.2 x.turns.0 x.late x.leads.1
                  x.same
            ];
          })
        ]
