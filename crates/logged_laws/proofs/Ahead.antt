-- The first event of a log, behind a place of the journal, that is about a caller.
use Rattle.std.proofs.Common.{◌≡◌, ◌<◌, ◌⊎◌, inl, inr, ℕ, List, [], ◌∷◌, refl, ap, ◌∙◌, arith}
use Rattle.tty_calls.specs.Plain.{PlainEntry}
use Rattle.tty_calls.specs.Sessions.{PlainSession}
use Rattle.passed_calls.specs.declared.logs.Logged.{Logged}
use Rattle.logged_laws.specs.Steps.{LogSteps, Leads, AreInTurn, AreLogSteps}
use Rattle.logged_laws.proofs.Places.{IsPast, logged_for, logged_in, past_next}

-- Which events are about a caller; what stays true beside the others; and where answers are counted, that the others
-- log none to it.
pub record Search {S E : Type 0} (k : LogSteps S E) (played : PlainSession) (journal : List PlainEntry)
    (n c : ℕ) : Type 1 where
  pub IsAbout : E → Type 0
  pub Stays : S → Type 0
  pub IsCounted : Type 0
  pub either : (s : S) (at : ℕ) (event : E)
      → Stays s
      → n < at
      → k.IsAllowed played journal s at event
      → IsAbout event
      ⊎ ((k.next (k.after played journal s at event) c ≡ k.next s c)
      × (IsCounted → logged_for c (k.answer_in event) ≡ 0) × Stays (k.after played journal s at event))

module _ {S E : Type 0} (k : LogSteps S E) (p : ℕ) (played : PlainSession) (journal : List PlainEntry)
    (laws : AreLogSteps k p played journal) (n c : ℕ) (x : Search k played journal n c) where
  pub record NoMore (s end : S) (log : List (Logged E)) : Type 0 where
    pub next : k.next end c ≡ k.next s c
    pub none : x.IsCounted → logged_in k c log ≡ 0

  pub record Found (s end : S) (log : List (Logged E)) : Type 0 where
    pub state : S
    pub head : Logged E
    pub rest : List (Logged E)
    pub about : x.IsAbout head.event
    pub stays : x.Stays state
    pub leads : Leads k played journal state (head ∷ rest) end
    pub turns : AreInTurn k played journal state (head ∷ rest)
    pub late : n < head.at
    pub same : k.next state c ≡ k.next s c
    pub count : x.IsCounted → logged_in k c log ≡ logged_in k c (head ∷ rest)

  -- events of others in between tell nothing of it
  behind : (s next end : S) (l : Logged E) (log : List (Logged E))
      → k.next next c ≡ k.next s c
      → (x.IsCounted → logged_for c (k.answer_in l.event) ≡ 0)
      → NoMore next end log ⊎ Found next end log
      → NoMore s end (l ∷ log) ⊎ Found s end (l ∷ log)
  behind s next end l log step none h = elim h [
    | inl more ↦
        inl (record {
          next = more.next ∙ step;
          none = λ counts. (let here = none counts in let rest = more.none counts in omega (arith, here, rest));
        })
    | inr found ↦ inr (record {
      state = found.state;
      head = found.head;
      rest = found.rest;
      about = found.about;
      stays = found.stays;
      leads = found.leads;
      turns = found.turns;
      late = found.late;
      same = found.same ∙ step;
      count = λ counts. (let here = none counts in let count = found.count counts in omega (arith, here, count));
    })
  ]

  pub ahead : (s end : S) (log : List (Logged E))
      → Leads k played journal s log end
      → AreInTurn k played journal s log
      → x.Stays s
      → IsPast n log
      → NoMore s end log ⊎ Found s end log
  ahead s end [] h turns stays past = inl (record { next = ap (λ (u : S). k.next u c) h; none = λ counts. refl })
  ahead s end (l ∷ log) h turns stays past = elim (x.either s l.at l.event stays past h.2) [
    | inl about ↦ inr (record {
      state = s;
      head = l;
      rest = log;
      about = about;
      stays = stays;
      leads = h;
      turns = turns;
      late = past;
      same = refl;
      count = λ counts. refl;
    })
    | inr other ↦ behind s (k.after played journal s l.at l.event) end l log other.0 other.1
        (ahead (k.after played journal s l.at l.event) end log h.3 turns.1 other.2
        (past_next k p played journal laws s end l log n h past))
  ]
