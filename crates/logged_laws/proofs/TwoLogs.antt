-- Two whole runs of a port, each with its log, that have come to the same place: both go on alike.
use Rattle.std.proofs.Common.{◌≡◌, ◌≤◌, ◌⊎◌, inl, inr, ℕ, zero, suc, ◌+◌, Bool, true, false, Option, None, Some, List}
use Rattle.std.proofs.Common.{[], ◌∷◌, ◌++◌, length, map, drop, refl, sym, ap, ◌∙◌, subst, arith, append_assoc}
use Rattle.std.specs.Prelude.{slice_get, sum}
use Rattle.tty_base.specs.declared.characters.Flagged.{Flagged}
use Rattle.tty_calls.specs.declared.journals.Who.TheVariants.{Caller}
use Rattle.tty_calls.specs.Plain.{hangs_up, PlainAnswer, caller_ended, answered, PlainEntry}
use Rattle.tty_calls.specs.Sessions.{PlainSession, call_at, counts_on}
use Rattle.tty_terminal.specs.Terminals.{Terminal, opening, caller_at, has_begun}
use Rattle.tty_terminal.specs.Runs.{is_of_call, AgreesAt}
use Rattle.legal_runs.specs.Legal.{flip_on}
use Rattle.legal_runs.specs.Order.{Place, next_place}
use Rattle.order_laws.proofs.NextEntry.{IsRest, coming_call}
use Rattle.order_laws.proofs.OneRun.{StayAlike}
use Rattle.passed_calls.specs.declared.logs.Logged.{Logged}
use Rattle.passed_calls.specs.Journals.{terminal_at}
use Rattle.order_laws.specs.Sessions.{journal_in}
use Rattle.order_laws.proofs.Comings.{end_comes, begun_calls, at_step, calls_come as both_come, IsAnswered}
use Rattle.order_laws.proofs.Comings.{answer_or_not, none_of, one_of, same_number}
use Rattle.order_laws.proofs.Journeys.{Journey, answer_count, get_here}
use Rattle.order_laws.proofs.Together.{Stand, terminal_of as one_terminal, terminal_of' as two_terminal}
use Rattle.order_laws.proofs.Together.{there as both_there, stand_next as stands_next}
use Rattle.logged_laws.specs.Steps.{LogSteps, state_before, ComesAtOnce, IsNextAnswer, AreLogSteps}
use Rattle.logged_laws.proofs.Places.{IsPast, Here, no_due, here_behind, DueHead, due_head, IsHangupDue, quiet_on}
use Rattle.logged_laws.proofs.Places.{AnswerHead, answer_head, answer_on, answers_hangup, before_one}

-- a whole run of a port, at whose end nothing is due
pub record WholeRun {S E : Type 0} (k : LogSteps S E) (p : ℕ) (played : PlainSession) (journal : List PlainEntry)
    (last : Terminal) (end : S) : Type 0 where
  pub steps : AreLogSteps k p played journal
  pub journey : Journey p played (opening (sum (counts_on p played)) (flip_on p played)) last journal
  pub idle : k.due end ≡ []

-- an event as it is logged on a port
abbrev pub named : {E : Type 0} → ℕ → Logged E → Logged E
named p l = record { port = p; at = l.at; event = l.event }

-- the same event comes first at a place in two logs, and logs no answer
pub record SameHead {S E : Type 0} (k : LogSteps S E) (n : ℕ) (log log' : List (Logged E)) : Type 0 where
  pub head : Logged E
  pub head' : Logged E
  pub rest : List (Logged E)
  pub rest' : List (Logged E)
  pub is : log ≡ head ∷ rest
  pub is' : log' ≡ head' ∷ rest'
  pub at_place : head.at ≡ n
  pub at_place' : head'.at ≡ n
  pub same : head.event ≡ head'.event
  pub bare : k.answer_in head.event ≡ None

module _ {S E : Type 0} (k : LogSteps S E) (p : ℕ) (first : S) (played later : PlainSession)
    (journal other : List PlainEntry) (last last' : Terminal) (end end' : S) (whole whole' : List (Logged E))
    (w : WholeRun k p played journal last end) (w' : WholeRun k p later other last' end') where
  abbrev at_one : ℕ → Terminal
  at_one n = terminal_at (journal_in p played journal) n

  abbrev at_two : ℕ → Terminal
  at_two n = terminal_at (journal_in p later other) n

  -- both logs at a place, with the same state
  pub record Both (n : ℕ) : Type 0 where
    pub state : S
    pub log : List (Logged E)
    pub log' : List (Logged E)
    pub here : Here k played journal end state log n
    pub here' : Here k later other end' state log' n
    pub past : List (Logged E)
    pub parts : map (named p) whole ≡ past ++ map (named p) log
    pub parts' : map (named p) whole' ≡ past ++ map (named p) log'
    pub before : (m : ℕ)
        → n ≤ m
        → state_before k played journal first whole m ≡ state_before k played journal state log m
    pub before' : (m : ℕ)
        → n ≤ m
        → state_before k later other first whole' m ≡ state_before k later other state log' m

  -- .. where no event comes before the next entry
  pub record Settled (n : ℕ) : Type 0 where
    pub both : Both n
    pub one_past : IsPast n both.log
    pub two_past : IsPast n both.log'
    pub due : (k.due both.state ≡ []) ⊎ IsHangupDue k p played journal w.steps both.state

  -- .. or both logs are one event shorter
  record Stepped (n : ℕ) (b : Both n) : Type 0 where
    next : Both n
    shorter : suc (length next.log) ≡ length b.log

  -- both have come to a place of the order
  abbrev pub StandAt : Place → ℕ → Type 0
  StandAt s n = Stand p played later journal other last last' w.journey w'.journey s n

  -- the next entries of a caller end its calls, or are of the same call
  pub record AreOfOneCall (n c : ℕ) (e e' : PlainEntry) : Type 0 where
    pub of_call : is_of_call e.event ≡ true
    pub of_call' : is_of_call e'.event ≡ true
    pub same : call_at p played c (caller_at (at_one n) c).next ≡ call_at p later c (caller_at (at_two n) c).next

  abbrev pub AreOfCaller : (n c : ℕ) (e e' : PlainEntry) → Type 0
  AreOfCaller n c e e' =
      ((e.event ≡ caller_ended) × (e'.event ≡ caller_ended)) ⊎ AreOfOneCall n c e e'

  -- What a kind of log has to say of two runs: what an event leaves follows from the terminals that it sees; where
  -- nothing is due the same event comes at a place, or none; the next entries are by the same, and of the same call.
  pub record LogsAlike : Type 0 where
    pub after_bare : (u : S) (n : ℕ) (event : E)
        → k.answer_in event ≡ None
        → at_one n ≡ at_two n
        → k.after played journal u n event ≡ k.after later other u n event
    pub after_answer : (u : S) (n : ℕ) (event : E)
        → at_one n ≡ at_two n
        → at_one (n + 1) ≡ at_two (n + 1)
        → k.after played journal u (n + 1) event ≡ k.after later other u (n + 1) event
    pub heads : (s : Place) (n : ℕ) (b : Both n)
        → StandAt s n
        → k.due b.state ≡ []
        → (IsPast n b.log × IsPast n b.log') ⊎ SameHead k n b.log b.log'
    pub same_who : (s : Place) (n : ℕ) (b : Settled n) (e e' : PlainEntry)
        → StandAt s n
        → slice_get journal n ≡ Some e
        → slice_get other n ≡ Some e'
        → e.who ≡ e'.who
    pub of_caller : (s : Place) (n c : ℕ) (b : Settled n) (e e' : PlainEntry)
        → StandAt s n
        → slice_get journal n ≡ Some e
        → slice_get other n ≡ Some e'
        → e.who ≡ Caller c
        → e'.who ≡ Caller c
        → k.due b.both.state ≡ []
        → has_begun (caller_at s.terminal c) ≡ false
        → AreOfCaller n c e e'

  module _ (alike : LogsAlike) where
    -- ---- the events at a place

    -- the same event comes in both
    steps : (n : ℕ) (b : Both n)
        → at_one n ≡ at_two n
        → SameHead k n b.log b.log'
        → Stepped n b
    steps n b there x =
        let u = b.state in
        let h : Here k played journal end u (x.head ∷ x.rest) n =
        subst (λ (l : List (Logged E)). Here k played journal end u l n) x.is b.here in
        let h' : Here k later other end' u (x.head' ∷ x.rest') n =
        subst (λ (l : List (Logged E)). Here k later other end' u l n) x.is' b.here' in
        let at = x.at_place in
        let at' = x.at_place' in
        let next : k.after later other u x.head'.at x.head'.event ≡ k.after played journal u x.head.at x.head.event =
        (λ i. k.after later other u (at' i) (sym x.same i))
        ∙ (sym (alike.after_bare u n x.head.event x.bare there)
        ∙ (λ i. k.after played journal u (sym at i) x.head.event)) in
        let name : named p x.head' ≡ named p x.head =
        (λ i. record { port = p; at = (at' ∙ sym at) i; event = sym x.same i }) in
        record {
          next = record {
            state = k.after played journal u x.head.at x.head.event;
            log = x.rest;
            log' = x.rest';
            here = here_behind k p played journal w.steps end u x.head x.rest n h at x.bare;
            here' = subst (λ (s : S). Here k later other end' s x.rest' n) next
                (here_behind k p later other w'.steps end' u x.head' x.rest' n h' at'
                (ap (λ (event : E). k.answer_in event) (sym x.same) ∙ x.bare));
            past = b.past ++ named p x.head ∷ [];
            parts = b.parts
                ∙ (ap (λ (l : List (Logged E)). b.past ++ map (named p) l) x.is
                ∙ sym (append_assoc b.past (named p x.head ∷ []) (map (named p) x.rest)));
            parts' = b.parts'
                ∙ (ap (λ (l : List (Logged E)). b.past ++ map (named p) l) x.is'
                ∙ (ap (λ (l : Logged E). b.past ++ l ∷ map (named p) x.rest') name
                ∙ sym (append_assoc b.past (named p x.head ∷ []) (map (named p) x.rest'))));
            before = λ m le.
                b.before m le
                ∙ (ap (λ (l : List (Logged E)). state_before k played journal u l m) x.is
                ∙ before_one k played journal u x.head x.rest m (omega (arith, at, le)));
            before' = λ m le.
                b.before' m le
                ∙ (ap (λ (l : List (Logged E)). state_before k later other u l m) x.is'
                ∙ (before_one k later other u x.head' x.rest' m (omega (arith, at', le))
                ∙ ap (λ (s : S). state_before k later other s x.rest' m) next));
          };
          shorter = sym (ap (λ (l : List (Logged E)). length l) x.is);
        }

    module _ (s : Place) (n : ℕ) (stand : StandAt s n) where
      there : at_one n ≡ at_two n
      there = both_there p played later journal other last last' w.journey w'.journey s n stand

      -- what is due comes at this place, or with the next entry
      due_step : (b : Both n) (x : E) (xs : List E)
          → k.due b.state ≡ x ∷ xs
          → Settled n ⊎ Stepped n b
      due_step b x xs due = by_answer (k.answer_in x) refl
        where
          now : k.latest b.state ≡ n
          now = elim b.here.at_once [
            | inl idle ↦ no_due (k.due b.state) x xs idle due
            | inr at ↦ at
          ]

          one : DueHead k p played journal w.steps b.state b.log x
          one = due_head k p played journal w.steps end b.state b.log n x xs w.idle b.here due

          two : DueHead k p later other w'.steps b.state b.log' x
          two = due_head k p later other w'.steps end' b.state b.log' n x xs w'.idle b.here' due

          by_answer : (o : Option (ℕ × PlainAnswer)) → k.answer_in x ≡ o → Settled n ⊎ Stepped n b
          by_answer None is =
              let at : one.head.at ≡ k.latest b.state =
              subst (λ (o : Option (ℕ × PlainAnswer)).
              ComesAtOnce (journal_in p played journal) (k.latest b.state) one.head.at (k.handle_in x) o) is one.comes
              in
              let at' : two.head.at ≡ k.latest b.state =
              subst (λ (o : Option (ℕ × PlainAnswer)).
              ComesAtOnce (journal_in p later other) (k.latest b.state) two.head.at (k.handle_in x) o) is two.comes in
              inr (steps n b there (record {
                head = one.head;
                head' = two.head;
                rest = one.rest;
                rest' = two.rest;
                is = one.is;
                is' = two.is;
                at_place = at ∙ now;
                at_place' = at' ∙ now;
                same = one.event_is ∙ sym two.event_is;
                bare = ap (λ (event : E). k.answer_in event) one.event_is ∙ is;
              }))
          by_answer (Some a) is =
              let comes : ComesAtOnce (journal_in p played journal) (k.latest b.state) one.head.at (k.handle_in x)
              (Some a) =
              subst (λ (o : Option (ℕ × PlainAnswer)).
              ComesAtOnce (journal_in p played journal) (k.latest b.state) one.head.at (k.handle_in x) o) is one.comes
              in
              let comes' : ComesAtOnce (journal_in p later other) (k.latest b.state) two.head.at (k.handle_in x)
              (Some a) =
              subst (λ (o : Option (ℕ × PlainAnswer)).
              ComesAtOnce (journal_in p later other) (k.latest b.state) two.head.at (k.handle_in x) o) is two.comes in
              let at = comes.0 in
              let at' = comes'.0 in
              inl (record {
                both = b;
                one_past = subst (λ (l : List (Logged E)). IsPast n l) (sym one.is) (omega (arith, at, now));
                two_past = subst (λ (l : List (Logged E)). IsPast n l) (sym two.is) (omega (arith, at', now));
                due = inr (record { first = x; rest = xs; is = due; answer = a; answers = is });
              })

      step : (b : Both n) (xs : List E) → k.due b.state ≡ xs → Settled n ⊎ Stepped n b
      step b [] idle = elim (alike.heads s n b stand idle) [
        | inl past ↦ inl (record { both = b; one_past = past.0; two_past = past.1; due = inl idle })
        | inr head ↦ inr (steps n b there head)
      ]
      step b (x ∷ xs) due = due_step b x xs due

      settle : (fuel : ℕ) (b : Both n) → length b.log ≤ fuel → Settled n
      settle zero b le = elim (step b (k.due b.state) refl) [
        | inl settled ↦ settled
        | inr stepped ↦ (let shorter = stepped.shorter in absurd (omega (arith, le, shorter)))
      ]
      settle (suc m) b le = elim (step b (k.due b.state) refl) [
        | inl settled ↦ settled
        | inr stepped ↦ (let shorter = stepped.shorter in settle m stepped.next (omega (arith, le, shorter)))
      ]

      pub settles : (b : Both n) → Settled n
      settles b = settle (length b.log) b (omega arith)

    pub record Are (s : Place) (es es' : List PlainEntry) : Type 0 where
      pub n : ℕ
      pub stand : StandAt s n
      pub left : es ≡ drop n journal
      pub left' : es' ≡ drop n other
      pub settled : Settled n

    -- ---- what comes of a caller whose turn it is

    module _ (s : Place) (e e' : PlainEntry) (es es' : List PlainEntry) (c : ℕ) (are : Are s (e ∷ es) (e' ∷ es'))
        (rest : IsRest p played s (e ∷ es)) (rest' : IsRest p later s (e' ∷ es')) (who : e.who ≡ Caller c)
        (who' : e'.who ≡ Caller c) where
      is_here : slice_get journal are.n ≡ Some e
      is_here = (get_here are.n journal es e (sym are.left)).0

      is_here' : slice_get other are.n ≡ Some e'
      is_here' = (get_here are.n other es' e' (sym are.left')).0

      -- the same call comes in both
      calls_come : is_of_call e.event ≡ true
          → is_of_call e'.event ≡ true
          → call_at p played c (caller_at s.terminal c).next ≡ call_at p later c (caller_at s.terminal c).next
          → coming_call p played s c ≡ coming_call p later s c
      calls_come of_call of_call' same =
          both_come p played later s e e' es es' c rest rest' who who' of_call of_call' same

      hangup_comes : IsHangupDue k p played journal w.steps are.settled.both.state
          → coming_call p played s c ≡ coming_call p later s c
      hangup_comes down =
          let b = are.settled.both in
          let down' : IsHangupDue k p later other w'.steps b.state =
          record { first = down.first; rest = down.rest; is = down.is; answer = down.answer; answers = down.answers } in
          let h = answers_hangup k p played journal w.steps end b.state are.n e is_here b.log down b.here w.idle in
          let h' =
          answers_hangup k p later other w'.steps end' b.state are.n e' is_here' b.log' down' b.here' w'.idle in
          let caller : down.answer.0 ≡ c = same_number (sym h.answers.0 ∙ who) in
          let of_call : is_of_call e.event ≡ true = ap is_of_call h.answers.1.1 in
          let of_call' : is_of_call e'.event ≡ true = ap is_of_call h'.answers.1.1 in
          let call : call_at p played c (caller_at s.terminal c).next ≡ Some (hangs_up (k.handle_in down.first)) =
          (λ i. call_at p played (sym caller i) (sym (at_step p played s e es c rest who of_call) i)) ∙ h.call in
          let call' : call_at p later c (caller_at s.terminal c).next ≡ Some (hangs_up (k.handle_in down.first)) =
          (λ i. call_at p later (sym caller i) (sym (at_step p later s e' es' c rest' who' of_call') i)) ∙ h'.call in
          calls_come of_call of_call' (call ∙ sym call')

      idle_comes : k.due are.settled.both.state ≡ []
          → has_begun (caller_at s.terminal c) ≡ false
          → coming_call p played s c ≡ coming_call p later s c
      idle_comes idle begun =
          let at = one_terminal p played later journal other last last' w.journey w'.journey s are.n are.stand in
          let at' = two_terminal p played later journal other last last' w.journey w'.journey s are.n are.stand in
          elim (alike.of_caller s are.n c are.settled e e' are.stand is_here is_here' who who' idle begun) [
            | inl ends ↦ end_comes p played s e es c rest who ends.0
                ∙ sym (end_comes p later s e' es' c rest' who' ends.1)
            | inr calls ↦ calls_come calls.of_call calls.of_call'
                (ap (λ (t : Terminal). call_at p played c (caller_at t c).next) at
                ∙ (calls.same ∙ ap (λ (t : Terminal). call_at p later c (caller_at t c).next) (sym at')))
          ]

      comes : coming_call p played s c ≡ coming_call p later s c
      comes = by_begun (has_begun (caller_at s.terminal c)) refl
        where
          by_begun : (b : Bool)
              → has_begun (caller_at s.terminal c) ≡ b
              → coming_call p played s c ≡ coming_call p later s c
          by_begun true begun =
              calls_come (begun_calls p played s e es c rest who begun)
              (begun_calls p later s e' es' c rest' who' begun) (are.stand.begun c begun)
          by_begun false begun = elim are.settled.due [
            | inl idle ↦ idle_comes idle begun
            | inr down ↦ hangup_comes down
          ]

    -- ---- and so at the next place

    module _ (s : Place) (e : PlainEntry) (es es' : List PlainEntry) (are : Are s (e ∷ es) (e ∷ es'))
        (rest : IsRest p played s (e ∷ es)) (rest' : IsRest p later s (e ∷ es'))
        (agrees : AgreesAt (call_at p played) (call_at p later) e.who e.step e.event)
        (next : next_place (call_at p later) s e ≡ next_place (call_at p played) s e) where
      abbrev n : ℕ
      n = are.n

      abbrev goes_on : Place
      goes_on = next_place (call_at p played) s e

      e_here : slice_get journal n ≡ Some e
      e_here = (get_here n journal es e (sym are.left)).0

      e_here' : slice_get other n ≡ Some e
      e_here' = (get_here n other es' e (sym are.left')).0

      stand_next : StandAt goes_on (n + 1)
      stand_next = stands_next p played later journal other last last' w.journey w'.journey s e es n are.stand e_here
          e_here' rest agrees next

      -- an entry that answers nobody
      quiet_both : answer_count e.event ≡ 0 → k.due are.settled.both.state ≡ [] → Both (n + 1)
      quiet_both none idle =
          let b = are.settled.both in
          record {
            state = b.state;
            log = b.log;
            log' = b.log';
            here = quiet_on k p played journal w.steps end b.state n e e_here b.log b.here are.settled.one_past idle
                (λ d. none_of d e none);
            here' = quiet_on k p later other w'.steps end' b.state n e e_here' b.log' b.here' are.settled.two_past
                idle (λ d. none_of d e none);
            past = b.past;
            parts = b.parts;
            parts' = b.parts';
            before = λ m le. b.before m (omega (arith, le));
            before' = λ m le. b.before' m (omega (arith, le));
          }

      -- the same event logs the answer in both
      same_head : (c : ℕ)
          → (h : AnswerHead k p played journal w.steps end are.settled.both.state n e e_here are.settled.both.log c)
          → (h' : AnswerHead k p later other w'.steps end' are.settled.both.state n e e_here' are.settled.both.log' c)
          → h.head.event ≡ h'.head.event
      same_head c h h' = elim are.settled.due [
        | inl idle ↦
            let u = are.settled.both.state in
            let answer : h.answer ≡ h'.answer =
            same_answer h.answer h'.answer h.by_entry.1.0 h'.by_entry.1.0 (sym h.by_entry.1.1 ∙ h'.by_entry.1.1) in
            let is : h.head.event ≡ k.passes c (k.next u c) h.answer =
            subst (λ (o : Option (ℕ × PlainAnswer)). IsNextAnswer k u h.head.event o) h.answers
            (w.steps.idle_next u h.head.at h.head.event idle h.allowed) in
            let is' : h'.head.event ≡ k.passes c (k.next u c) h'.answer =
            subst (λ (o : Option (ℕ × PlainAnswer)). IsNextAnswer k u h'.head.event o) h'.answers
            (w'.steps.idle_next u h'.head.at h'.head.event idle h'.allowed) in
            is ∙ (ap (λ (a : PlainAnswer). k.passes c (k.next u c) a) answer ∙ sym is')
        | inr down ↦
            let u = are.settled.both.state in
            (w.steps.due_next u h.head.at h.head.event down.first down.rest down.is h.allowed).0
            ∙ sym (w'.steps.due_next u h'.head.at h'.head.event down.first down.rest down.is h'.allowed).0
      ]
        where
          same_answer : (x y : PlainAnswer) (xs ys : List Flagged) → answered x xs ≡ answered y ys → x ≡ y
          same_answer x y xs ys e = cc

      answer_both : IsAnswered e → Both (n + 1)
      answer_both a =
          let b = are.settled.both in
          let u = b.state in
          let c = a.caller in
          let one = one_of c e a.who a.one in
          let h =
          answer_head k p played journal w.steps end u n e e_here c a.who one b.log b.here are.settled.one_past in
          let h' =
          answer_head k p later other w'.steps end' u n e e_here' c a.who one b.log' b.here' are.settled.two_past in
          let same = same_head c h h' in
          let at = h.at_place in
          let at' = h'.at_place in
          let after : k.after played journal u (n + 1) h.head.event ≡ k.after later other u (n + 1) h.head.event =
          alike.after_answer u n h.head.event
          (both_there p played later journal other last last' w.journey w'.journey s n are.stand)
          (both_there p played later journal other last last' w.journey w'.journey goes_on (n + 1) stand_next) in
          let state : k.after later other u h'.head.at h'.head.event ≡ k.after played journal u h.head.at h.head.event =
          (λ i. k.after later other u (at' i) (sym same i))
          ∙ (sym after ∙ (λ i. k.after played journal u (sym at i) h.head.event)) in
          let name : named p h'.head ≡ named p h.head =
          (λ i. record { port = p; at = (at' ∙ sym at) i; event = sym same i }) in
          record {
            state = k.after played journal u h.head.at h.head.event;
            log = h.rest;
            log' = h'.rest;
            here = answer_on k p played journal w.steps end u n e e_here c a.who one b.log h b.here;
            here' = subst (λ (x : S). Here k later other end' x h'.rest (n + 1)) state
                (answer_on k p later other w'.steps end' u n e e_here' c a.who one b.log' h' b.here');
            past = b.past ++ named p h.head ∷ [];
            parts = b.parts
                ∙ (ap (λ (l : List (Logged E)). b.past ++ map (named p) l) h.is
                ∙ sym (append_assoc b.past (named p h.head ∷ []) (map (named p) h.rest)));
            parts' = b.parts'
                ∙ (ap (λ (l : List (Logged E)). b.past ++ map (named p) l) h'.is
                ∙ (ap (λ (l : Logged E). b.past ++ l ∷ map (named p) h'.rest) name
                ∙ sym (append_assoc b.past (named p h.head ∷ []) (map (named p) h'.rest))));
            before = λ m le.
                b.before m (omega (arith, le))
                ∙ (ap (λ (l : List (Logged E)). state_before k played journal u l m) h.is
                ∙ before_one k played journal u h.head h.rest m (omega (arith, at, le)));
            before' = λ m le.
                b.before' m (omega (arith, le))
                ∙ (ap (λ (l : List (Logged E)). state_before k later other u l m) h'.is
                ∙ (before_one k later other u h'.head h'.rest m (omega (arith, at', le))
                ∙ ap (λ (x : S). state_before k later other x h'.rest m) state));
          }

      both_next : Both (n + 1)
      both_next = elim (answer_or_not (call_at p played) (counts_on p played) s.terminal e rest.leads.0) [
        | inl a ↦ answer_both a
        | inr none ↦ elim are.settled.due [
          | inl idle ↦ quiet_both none idle
          | inr down ↦
              let b = are.settled.both in
              let h = answers_hangup k p played journal w.steps end b.state n e e_here b.log down b.here w.idle in
              let one : answer_count e.event ≡ 1 = ap answer_count h.answers.1.1 in
              absurd (omega (arith, none, one))
        ]
      ]

      are_next : Are goes_on es es'
      are_next = record {
        n = n + 1;
        stand = stand_next;
        left = sym (get_here n journal es e (sym are.left)).1;
        left' = sym (get_here n other es' e (sym are.left')).1;
        settled = settles goes_on (n + 1) stand_next both_next;
      }

    pub stay_alike : StayAlike p played later Are
    stay_alike = record {
      same_who = λ s e e' es es' are rest rest'.
          alike.same_who s are.n are.settled e e' are.stand (get_here are.n journal es e (sym are.left)).0
          (get_here are.n other es' e' (sym are.left')).0;
      coming = λ s e e' es es' c are rest rest' who who'. comes s e e' es es' c are rest rest' who who';
      on = λ s e es es' are rest rest' agrees next. are_next s e es es' are rest rest' agrees next;
    }
