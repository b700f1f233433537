-- A log that has come to a place of a journal: each answer is logged once, right behind its entry.
use Rattle.std.proofs.Common.{◌≡◌, ◌≤◌, ◌<◌, ◌⊎◌, inl, inr, ℕ, ◌+◌, ◌-◌, Bool, Option, None, Some, List, [], ◌∷◌}
use Rattle.std.proofs.Common.{length, drop, if◌then◌else◌, refl, sym, ap, ◌∙◌, subst, arith}
use Rattle.std.specs.Prelude.{slice_get}
use Rattle.std.proofs.lemmas.Bool.{cases_lt, eq-eqb, le-leb, lt-leb}
use Rattle.std.proofs.lemmas.Option.{slice_get_within, same_Some}
use Rattle.tty_calls.specs.declared.journals.Who.TheVariants.{Caller}
use Rattle.tty_calls.specs.Plain.{PlainAnswer, PlainEntry, hangs_up}
use Rattle.tty_calls.specs.Sessions.{PlainSession}
use Rattle.passed_calls.specs.declared.logs.Logged.{Logged}
use Rattle.passed_calls.specs.Journals.{IsAnswerBy, IsAnswerAt}
use Rattle.order_laws.specs.Sessions.{journal_in}
use Rattle.order_laws.proofs.Comings.{same_number}
use Rattle.order_laws.proofs.Journeys.{answers_of, answers_in, answer_one, answer_there, drop_one, fewer_later}
use Rattle.order_laws.proofs.Journeys.{one_for}
use Rattle.logged_laws.specs.Steps.{LogSteps, Leads, AreInTurn, state_before, IsLoggedAnswer, ComesAtOnce}
use Rattle.logged_laws.specs.Steps.{AreLogSteps}

-- ---- what is counted of a log

-- how often an event logs the port's answer to a caller
abbrev pub logged_for : (c : ℕ) → Option (ℕ × PlainAnswer) → ℕ
logged_for c None = 0
logged_for c (Some a) = one_for c a.0

-- the place from which on an event needs the journal: that of the port's answer, or its own
abbrev pub needs_from : (at : ℕ) → Option (ℕ × PlainAnswer) → ℕ
needs_from at None = at
needs_from at (Some a) = at - 1

abbrev pub logged_in : {S E : Type 0} → LogSteps S E → (c : ℕ) → List (Logged E) → ℕ
logged_in k c [] = 0
logged_in k c (l ∷ log) = logged_for c (k.answer_in l.event) + logged_in k c log

-- each event comes behind so many entries
abbrev pub IsPast : {E : Type 0} → ℕ → List (Logged E) → Type 0
IsPast n [] = Unit {0}
IsPast n (l ∷ log) = n < l.at

-- .. or behind no fewer
abbrev pub IsFrom : {E : Type 0} → ℕ → List (Logged E) → Type 0
IsFrom n [] = Unit {0}
IsFrom n (l ∷ log) = n ≤ l.at

past_from : {E : Type 0} (n : ℕ) (log : List (Logged E)) → IsPast n log → IsFrom (n + 1) log
past_from n [] past = tt
past_from n (l ∷ log) past = omega (arith, past)

pub from_zero : {E : Type 0} (log : List (Logged E)) → IsFrom 0 log
from_zero [] = tt
from_zero (l ∷ log) = omega arith

pub no_due : {E : Type 0} {X : Type 0} (es : List E) (e : E) (rest : List E) → es ≡ [] → es ≡ e ∷ rest → X
no_due es e rest none some = (let never = sym none ∙ some in absurd (cc))

-- ---- a log at a place

-- what is left of a log that has come to a place of a journal
pub record Here {S E : Type 0} (k : LogSteps S E) (played : PlainSession) (journal : List PlainEntry) (end u : S)
    (log : List (Logged E)) (n : ℕ) : Type 0 where
  pub leads : Leads k played journal u log end
  pub turns : AreInTurn k played journal u log
  pub at_once : (k.due u ≡ []) ⊎ (k.latest u ≡ n)
  pub now : k.latest u ≤ n
  pub from : IsFrom n log
  pub within : n ≤ length journal
  pub counted : (d : ℕ) → logged_in k d log ≡ answers_in d (drop n journal)
  pub known : (d : ℕ) → answers_in d (drop (k.latest u) journal) ≡ answers_in d (drop n journal)

module _ {S E : Type 0} (k : LogSteps S E) (p : ℕ) (played : PlainSession) (journal : List PlainEntry)
    (laws : AreLogSteps k p played journal) where
  -- ---- answers are logged once

  bounds : (latest at : ℕ) (answer : Option (ℕ × PlainAnswer)) (c m rest : ℕ)
      → IsLoggedAnswer (journal_in p played journal) latest at answer
      → m ≤ needs_from at answer
      → rest ≤ answers_in c (drop at journal)
      → logged_for c answer + rest ≤ answers_in c (drop m journal)
  bounds latest at None c m rest h le few =
      (let fewer = fewer_later c m at journal le in omega (arith, fewer, few))
  bounds latest at (Some a) c m rest h le few =
      (let there = answer_there (journal_in p played journal) c a.0 at a.1 h.0 in
      let fewer = fewer_later c m (at - 1) journal le in
      omega (arith, there, fewer, few))

  -- an event comes no earlier than the event before, and the answer behind it
  needs_now : (latest at : ℕ) (answer : Option (ℕ × PlainAnswer))
      → latest ≤ at
      → IsLoggedAnswer (journal_in p played journal) latest at answer
      → latest ≤ needs_from at answer
  needs_now latest at None low h = low
  needs_now latest at (Some a) low h = (let late = h.1 in omega (arith, late))

  -- no answer is logged twice
  pub few_logged : (s end : S) (log : List (Logged E)) (c : ℕ)
      → Leads k played journal s log end
      → logged_in k c log ≤ answers_in c (drop (k.latest s) journal)
  few_logged s end [] c h = omega arith
  few_logged s end (l ∷ log) c h =
      let rest = few_logged (k.after played journal s l.at l.event) end log c h.3 in
      let now = ap (λ (n : ℕ). answers_in c (drop n journal)) (laws.at_now s l.at l.event h.2) in
      let logged = laws.answered s l.at l.event h.2 in
      bounds (k.latest s) l.at (k.answer_in l.event) c (k.latest s) (logged_in k c log) logged
      (needs_now (k.latest s) l.at (k.answer_in l.event) h.0 logged) (omega (arith, rest, now))

  -- .. nor is one that stands before the first event
  pub few_from : (s end : S) (l : Logged E) (log : List (Logged E)) (c m : ℕ)
      → Leads k played journal s (l ∷ log) end
      → m ≤ needs_from l.at (k.answer_in l.event)
      → logged_in k c (l ∷ log) ≤ answers_in c (drop m journal)
  few_from s end l log c m h le =
      let rest = few_logged (k.after played journal s l.at l.event) end log c h.3 in
      let now = ap (λ (n : ℕ). answers_in c (drop n journal)) (laws.at_now s l.at l.event h.2) in
      bounds (k.latest s) l.at (k.answer_in l.event) c m (logged_in k c log) (laws.answered s l.at l.event h.2) le
      (omega (arith, rest, now))

  -- behind an event no answer is logged that stands before it
  pub few_behind : (s end : S) (l : Logged E) (log : List (Logged E)) (c : ℕ)
      → Leads k played journal s (l ∷ log) end
      → logged_in k c (l ∷ log) ≤ logged_for c (k.answer_in l.event) + answers_in c (drop l.at journal)
  few_behind s end l log c h =
      let rest = few_logged (k.after played journal s l.at l.event) end log c h.3 in
      let now = ap (λ (n : ℕ). answers_in c (drop n journal)) (laws.at_now s l.at l.event h.2) in
      omega (arith, rest, now)

  pub past_next : (s end : S) (l : Logged E) (log : List (Logged E)) (n : ℕ)
      → Leads k played journal s (l ∷ log) end
      → n < l.at
      → IsPast n log
  past_next s end l [] n h lt = tt
  past_next s end l (x ∷ log) n h lt =
      (let low = h.3.0 in let now = laws.at_now s l.at l.event h.2 in omega (arith, lt, low, now))

  -- nothing is left of a log at the journal's end
  pub none_left : (u end : S) (log : List (Logged E)) (n : ℕ)
      → Leads k played journal u log end
      → length journal ≤ n
      → IsPast n log
      → log ≡ []
  none_left u end [] n h le past = refl
  none_left u end (l ∷ log) n h le past = (let within = h.1 in absurd (omega (arith, within, le, past)))

  -- ---- an event that comes at its place

  from_next : (s end : S) (log : List (Logged E)) → Leads k played journal s log end → IsFrom (k.latest s) log
  from_next s end [] h = tt
  from_next s end (l ∷ log) h = h.0

  -- behind one with no answer the log is still there
  pub here_behind : (end u : S) (l : Logged E) (log : List (Logged E)) (n : ℕ)
      → Here k played journal end u (l ∷ log) n
      → l.at ≡ n
      → k.answer_in l.event ≡ None
      → Here k played journal end (k.after played journal u l.at l.event) log n
  here_behind end u l log n h at bare =
      let now : k.latest (k.after played journal u l.at l.event) ≡ n = laws.at_now u l.at l.event h.leads.2 ∙ at in
      record {
        leads = h.leads.3;
        turns = h.turns.1;
        at_once = inr now;
        now = omega (arith, now);
        from = subst (λ (m : ℕ). IsFrom m log) now
            (from_next (k.after played journal u l.at l.event) end log h.leads.3);
        within = h.within;
        counted = λ d.
            (let none : logged_for d (k.answer_in l.event) ≡ 0 =
            ap (λ (o : Option (ℕ × PlainAnswer)). logged_for d o) bare in
            let all = h.counted d in
            let e : logged_in k d log ≡ answers_in d (drop n journal) = omega (arith, none, all) in e);
        known = λ d. ap (λ (m : ℕ). answers_in d (drop m journal)) now;
      }

  -- an answer that is logged is of an entry that is still to come
  pub answer_late : (end u : S) (log : List (Logged E)) (n at : ℕ) (a : ℕ × PlainAnswer)
      → Here k played journal end u log n
      → IsLoggedAnswer (journal_in p played journal) (k.latest u) at (Some a)
      → n ≤ at
      → n < at
  answer_late end u log n at a h is from = elim (cases_lt n at) [
    | inl lt ↦ lt
    | inr ge ↦
        let d : ℕ = a.0 in
        let behind = is.1 in
        let same : at ≡ n = omega (arith, from, ge) in
        let there = answer_there (journal_in p played journal) d d at a.1 is.0 in
        let self : one_for d d ≡ 1 = ap (λ (b : Bool). if b then 1 else 0) (eq-eqb d d refl) in
        let before = fewer_later d (k.latest u) (at - 1) journal (omega (arith, behind)) in
        let here = ap (λ (m : ℕ). answers_in d (drop m journal)) same in
        absurd (omega (arith, there, self, before, here, h.known d))
  ]

  -- ---- what is due

  -- the first that is due comes next
  pub record DueHead (u : S) (log : List (Logged E)) (first : E) : Type 0 where
    pub head : Logged E
    pub rest : List (Logged E)
    pub is : log ≡ head ∷ rest
    pub event_is : head.event ≡ first
    pub allowed : k.IsAllowed played journal u head.at head.event
    pub comes : ComesAtOnce (journal_in p played journal) (k.latest u) head.at (k.handle_in first) (k.answer_in first)

  pub due_head : (end u : S) (log : List (Logged E)) (n : ℕ) (first : E) (rest : List E)
      → k.due end ≡ []
      → Here k played journal end u log n
      → k.due u ≡ first ∷ rest
      → DueHead u log first
  due_head end u [] n first rest idle h due =
      no_due (k.due u) first rest (sym (ap (λ (x : S). k.due x) h.leads) ∙ idle) due
  due_head end u (l ∷ log) n first rest idle h due =
      let next = laws.due_next u l.at l.event first rest due h.leads.2 in
      record { head = l; rest = log; is = refl; event_is = next.0; allowed = h.leads.2; comes = next.1 }

  -- an answer is due, to a hangup
  pub record IsHangupDue (u : S) : Type 0 where
    pub first : E
    pub rest : List E
    pub is : k.due u ≡ first ∷ rest
    pub answer : ℕ × PlainAnswer
    pub answers : k.answer_in first ≡ Some answer

-- ---- the next entry

module _ {S E : Type 0} (k : LogSteps S E) (p : ℕ) (played : PlainSession) (journal : List PlainEntry)
    (laws : AreLogSteps k p played journal) (end u : S) (n : ℕ) (e : PlainEntry)
    (there : slice_get journal n ≡ Some e) where
  answers_here : (d : ℕ) → answers_in d (drop n journal) ≡ answers_of d e + answers_in d (drop (n + 1) journal)
  answers_here d = ap (λ (es : List PlainEntry). answers_in d es) (drop_one n journal e there)

  one_within : n + 1 ≤ length journal
  one_within = (let lt = slice_get_within journal n e there in omega (arith, lt))

  -- the entry of an answer that is logged at the next place
  entry_is : (d at : ℕ) (a : PlainAnswer) (h : IsAnswerAt (journal_in p played journal) d at a)
      → at ≡ n + 1
      → h.entry ≡ e
  entry_is d at a h place =
      let before : at - 1 ≡ n = omega (arith, place) in
      same_Some h.entry e (sym h.stands ∙ (ap (λ (m : ℕ). slice_get journal m) before ∙ there))

  -- by an entry that answers nobody a log goes on
  pub quiet_on : (log : List (Logged E))
      → Here k played journal end u log n
      → IsPast n log
      → k.due u ≡ []
      → ((d : ℕ) → answers_of d e ≡ 0)
      → Here k played journal end u log (n + 1)
  quiet_on log h past idle none = record {
    leads = h.leads;
    turns = h.turns;
    at_once = inl idle;
    now = (let now = h.now in omega (arith, now));
    from = past_from n log past;
    within = one_within;
    counted = λ d.
        (let all = h.counted d in let here = answers_here d in let no_one = none d in
        let x : logged_in k d log ≡ answers_in d (drop (n + 1) journal) = omega (arith, all, here, no_one) in x);
    known = λ d.
        (let all = h.known d in let here = answers_here d in let no_one = none d in
        let x : answers_in d (drop (k.latest u) journal) ≡ answers_in d (drop (n + 1) journal) =
        omega (arith, all, here, no_one) in x);
  }

  -- an answer is logged next, at the place behind it
  pub record AnswerHead (log : List (Logged E)) (c : ℕ) : Type 0 where
    pub head : Logged E
    pub rest : List (Logged E)
    pub is : log ≡ head ∷ rest
    pub at_place : head.at ≡ n + 1
    pub answer : PlainAnswer
    pub answers : k.answer_in head.event ≡ Some (c, answer)
    pub by_entry : IsAnswerBy c answer e
    pub allowed : k.IsAllowed played journal u head.at head.event

  module _ (c : ℕ) (who : e.who ≡ Caller c) (answer : answers_of c e ≡ 1) where
    -- another event would come behind the answer
    too_late : {X : Type 0} (l : Logged E) (log : List (Logged E))
        → Here k played journal end u (l ∷ log) n
        → n + 1 ≤ needs_from l.at (k.answer_in l.event)
        → X
    too_late l log h needs =
        let few = few_from k p played journal laws u end l log c (n + 1) h.leads needs in
        let all = h.counted c in
        let here = answers_here c in
        absurd (omega (arith, few, all, here, answer))

    by_answer : (l : Logged E) (log : List (Logged E)) (o : Option (ℕ × PlainAnswer))
        → k.answer_in l.event ≡ o
        → n < l.at
        → Here k played journal end u (l ∷ log) n
        → IsLoggedAnswer (journal_in p played journal) (k.latest u) l.at o
        → AnswerHead (l ∷ log) c
    by_answer l log None is lt h logged =
        (let same : needs_from l.at (k.answer_in l.event) ≡ l.at =
        ap (λ (x : Option (ℕ × PlainAnswer)). needs_from l.at x) is in
        too_late l log h (omega (arith, same, lt)))
    by_answer l log (Some a) is lt h logged = elim (cases_lt (n + 1) l.at) [
      | inl late ↦
          (let same : needs_from l.at (k.answer_in l.event) ≡ l.at - 1 =
          ap (λ (x : Option (ℕ × PlainAnswer)). needs_from l.at x) is in
          too_late l log h (omega (arith, same, late)))
      | inr now ↦
          let at : l.at ≡ n + 1 = omega (arith, lt, now) in
          let by : IsAnswerBy a.0 a.1 e =
          subst (λ (x : PlainEntry). IsAnswerBy a.0 a.1 x) (entry_is a.0 l.at a.1 logged.0 at) logged.0.is_answer in
          let caller : a.0 ≡ c = same_number (sym by.0 ∙ who) in
          record {
            head = l;
            rest = log;
            is = refl;
            at_place = at;
            answer = a.1;
            answers = is ∙ (λ i. Some (caller i, a.1));
            by_entry = subst (λ (x : ℕ). IsAnswerBy x a.1 e) caller by;
            allowed = h.leads.2;
          }
    ]

    pub answer_head : (log : List (Logged E)) → Here k played journal end u log n → IsPast n log → AnswerHead log c
    answer_head [] h past =
        (let all = h.counted c in let here = answers_here c in absurd (omega (arith, all, here, answer)))
    answer_head (l ∷ log) h past =
        by_answer l log (k.answer_in l.event) refl past h (laws.answered u l.at l.event h.leads.2)

    -- .. and the log goes on behind it
    pub answer_on : (log : List (Logged E)) (h : AnswerHead log c)
        → Here k played journal end u log n
        → Here k played journal end (k.after played journal u h.head.at h.head.event) h.rest (n + 1)
    answer_on log h its =
        let here : Here k played journal end u (h.head ∷ h.rest) n =
        subst (λ (l : List (Logged E)). Here k played journal end u l n) h.is its in
        let now : k.latest (k.after played journal u h.head.at h.head.event) ≡ n + 1 =
        laws.at_now u h.head.at h.head.event here.leads.2 ∙ h.at_place in
        record {
          leads = here.leads.3;
          turns = here.turns.1;
          at_once = inr now;
          now = omega (arith, now);
          from = subst (λ (m : ℕ). IsFrom m h.rest) now
              (from_next k p played journal laws (k.after played journal u h.head.at h.head.event) end h.rest
              here.leads.3);
          within = one_within;
          counted = λ d.
              (let all = here.counted d in let place = answers_here d in
              let logs : logged_for d (k.answer_in h.head.event) ≡ one_for d c =
              ap (λ (o : Option (ℕ × PlainAnswer)). logged_for d o) h.answers in
              let one = answer_one d c h.answer e h.by_entry in
              let x : logged_in k d h.rest ≡ answers_in d (drop (n + 1) journal) =
              omega (arith, all, place, logs, one) in x);
          known = λ d. ap (λ (m : ℕ). answers_in d (drop m journal)) now;
        }

  -- ---- a hangup that is due

  -- it is answered by this entry
  pub record AnswersHangup (down : IsHangupDue k p played journal laws u) : Type 0 where
    pub answers : IsAnswerBy down.answer.0 down.answer.1 e
    pub call : (journal_in p played journal).calls down.answer.0 e.step ≡ Some (hangs_up (k.handle_in down.first))

  pub answers_hangup : (log : List (Logged E)) (down : IsHangupDue k p played journal laws u)
      → Here k played journal end u log n
      → k.due end ≡ []
      → AnswersHangup down
  answers_hangup log down h idle =
      let now : k.latest u ≡ n = elim h.at_once [
        | inl none ↦ no_due (k.due u) down.first down.rest none down.is
        | inr at ↦ at
      ] in
      let x = due_head k p played journal laws end u log n down.first down.rest idle h down.is in
      let comes : ComesAtOnce (journal_in p played journal) (k.latest u) x.head.at (k.handle_in down.first)
      (Some down.answer) =
      subst (λ (o : Option (ℕ × PlainAnswer)).
      ComesAtOnce (journal_in p played journal) (k.latest u) x.head.at (k.handle_in down.first) o) down.answers x.comes
      in
      let at : x.head.at ≡ n + 1 = (let place = comes.0 in omega (arith, place, now)) in
      let logged : IsLoggedAnswer (journal_in p played journal) (k.latest u) x.head.at (Some down.answer) =
      subst (λ (o : Option (ℕ × PlainAnswer)). IsLoggedAnswer (journal_in p played journal) (k.latest u) x.head.at o)
      (ap (λ (v : E). k.answer_in v) x.event_is ∙ down.answers) (laws.answered u x.head.at x.head.event x.allowed) in
      let entry = entry_is down.answer.0 x.head.at down.answer.1 logged.0 at in
      record {
        answers = subst (λ (v : PlainEntry). IsAnswerBy down.answer.0 down.answer.1 v) entry logged.0.is_answer;
        call = subst (λ (v : PlainEntry).
            (journal_in p played journal).calls down.answer.0 v.step ≡ Some (hangs_up (k.handle_in down.first))) entry
            (comes.1 logged.0.entry logged.0.stands);
      }

-- ---- the state after the events so far

module _ {S E : Type 0} (k : LogSteps S E) (played : PlainSession) (journal : List PlainEntry) where
  pub before_one : (s : S) (l : Logged E) (log : List (Logged E)) (m : ℕ)
      → l.at ≤ m
      → state_before k played journal s (l ∷ log) m
      ≡ state_before k played journal (k.after played journal s l.at l.event) log m
  before_one s l log m le =
      ap (λ (b : Bool). if b then state_before k played journal (k.after played journal s l.at l.event) log m else s)
      (le-leb l.at m le)

  pub before_none : (s : S) (log : List (Logged E)) (n : ℕ) → IsPast n log → state_before k played journal s log n ≡ s
  before_none s [] n past = refl
  before_none s (l ∷ log) n past =
      ap (λ (b : Bool). if b then state_before k played journal (k.after played journal s l.at l.event) log n else s)
      (lt-leb l.at n past)
