-- An entry of a caller that has begun no call, and what it says of the caller's answers from there on.
use Rattle.std.proofs.Common.{◌≡◌, ◌≤◌, ◌<◌, inl, inr, ℕ, ◌+◌, ◌-◌, Bool, true, Some, List}
use Rattle.std.proofs.Common.{drop, if◌then◌else◌, refl, sym, ap, ◌∙◌, subst, arith}
use Rattle.std.specs.Prelude.{slice_get, sum}
use Rattle.std.proofs.lemmas.Bool.{false≢true, cases_lt, eq-eqb}
use Rattle.std.proofs.lemmas.Option.{same_Some}
use Rattle.tty_calls.specs.declared.journals.Who.{Who}
use Rattle.tty_calls.specs.declared.journals.Who.TheVariants.{Caller}
use Rattle.tty_calls.specs.Plain.{PlainAnswer, PlainEvent, caller_ended, PlainEntry, is_caller}
use Rattle.tty_calls.specs.Sessions.{PlainSession, counts_on}
use Rattle.tty_terminal.specs.Terminals.{Terminal, opening, caller_at, has_begun}
use Rattle.tty_terminal.specs.Runs.{is_of_call, phase_after}
use Rattle.legal_runs.specs.Legal.{first_step, steps_in, flip_on, IsInPhase, IsCallOf}
use Rattle.passed_calls.specs.Journals.{terminal_at, IsAnswerAt}
use Rattle.order_laws.specs.Sessions.{journal_in}
use Rattle.order_laws.proofs.Comings.{same_phase}
use Rattle.order_laws.proofs.Fewer.{first_rises, by_next}
use Rattle.order_laws.proofs.Journeys.{Journey, answer_count, answers_of, answers_in, answers_split, answers_later}
use Rattle.order_laws.proofs.Journeys.{between, drop_one, one_for, answer_there, in_phase_at, next_at, begun_later}
use Rattle.order_laws.proofs.Journeys.{over_later, phase_later, entry_step, begins_at, ends_at}
use Rattle.order_laws.proofs.Journeys.{next_counts as counts_next, phase_behind as goes_behind}

-- a step that lies between the bounds of two phases is of one phase
pub one_phase : (bound : ℕ → ℕ) (j k step : ℕ)
    → ((a b : ℕ) → a ≤ b → bound a ≤ bound b)
    → bound j ≤ step
    → step < bound (j + 1)
    → bound k ≤ step
    → step < bound (k + 1)
    → j ≡ k
one_phase bound j k step rises j_from j_to k_from k_to = elim (cases_lt j k) [
  | inl lt ↦ (let up = rises (j + 1) k (omega (arith, lt)) in absurd (omega (arith, up, j_to, k_from)))
  | inr le ↦ elim (cases_lt k j) [
    | inl lt ↦ (let up = rises (k + 1) j (omega (arith, lt)) in absurd (omega (arith, up, k_to, j_from)))
    | inr ge ↦ omega (arith, le, ge)
  ]
]

module _ (p : ℕ) (played : PlainSession) (journal : List PlainEntry) (last : Terminal)
    (w : Journey p played (opening (sum (counts_on p played)) (flip_on p played)) last journal) where
  abbrev first : Terminal
  first = opening (sum (counts_on p played)) (flip_on p played)

  abbrev at : ℕ → Terminal
  at n = terminal_at (journal_in p played journal) n

  pub phase_behind : (n : ℕ) (e : PlainEntry)
      → slice_get journal n ≡ Some e
      → phase_after e.event (at n).phase ≡ (at n).phase
      → (at (n + 1)).phase ≡ (at n).phase
  phase_behind n e is same = goes_behind p played first last journal w n e is same

  -- the phase of an answer goes on behind it
  pub answer_phase : (c m : ℕ) (a : PlainAnswer) (h : IsAnswerAt (journal_in p played journal) c m a)
      → (at m).phase ≡ (at (m - 1)).phase
  answer_phase c m a h =
      let some = h.some in
      let of_call : is_of_call h.entry.event ≡ true = ap is_of_call h.is_answer.1.1 in
      let back : (m - 1) + 1 ≡ m = omega (arith, some) in
      ap (λ (j : ℕ). (at j).phase) (sym back)
      ∙ phase_behind (m - 1) h.entry h.stands (same_phase h.entry.event (at (m - 1)).phase of_call)

  module _ (n c : ℕ) (e : PlainEntry) (here : slice_get journal n ≡ Some e) (who : e.who ≡ Caller c) where
    -- from this entry on the caller has so many answers
    from_here : answers_in c (drop n journal) ≡ answers_of c e + answers_in c (drop (n + 1) journal)
    from_here = ap (λ (es : List PlainEntry). answers_in c es) (drop_one n journal e here)

    own_answers : answers_of c e ≡ answer_count e.event
    own_answers = ap (λ (b : Bool). if b then answer_count e.event else 0)
        (ap (λ (x : Who). is_caller x c) who ∙ eq-eqb c c refl)

    -- ---- the end of its calls

    -- they stay over in that phase
    pub stays_over : (m : ℕ)
        → e.event ≡ caller_ended
        → n < m
        → (at m).phase ≡ (at n).phase
        → (caller_at (at m) c).over ≡ true
    stays_over m event lt same =
        let behind : (at (n + 1)).phase ≡ (at n).phase =
        phase_behind n e here (ap (λ (x : PlainEvent). phase_after x (at n).phase) event) in
        over_later p played first last journal w (n + 1) m c (omega (arith, lt)) (same ∙ sym behind)
        (ends_at p played first last journal w n c e here who event)

    -- .. and no answer follows there
    pub none_answered : (m : ℕ) (a : PlainAnswer)
        → e.event ≡ caller_ended
        → IsAnswerAt (journal_in p played journal) c m a
        → n < m
        → (at m).phase ≡ (at n).phase
        → ⊥
    none_answered m a event h lt same =
        let some = h.some in
        let of_call : is_of_call h.entry.event ≡ true = ap is_of_call h.is_answer.1.1 in
        let other : n ≡ m - 1 → ⊥ = λ is.
        let twice : h.entry ≡ e =
        same_Some h.entry e (sym h.stands ∙ (ap (λ (j : ℕ). slice_get journal j) (sym is) ∙ here)) in
        false≢true (sym (ap is_of_call event)
        ∙ (ap (λ (x : PlainEntry). is_of_call x.event) (sym twice) ∙ of_call)) in
        let late : n < m - 1 = behind_other n (m - 1) (omega (arith, lt, some)) other in
        let over = stays_over (m - 1) event late (sym (answer_phase c m a h) ∙ same) in
        let runs = (entry_step p played first last journal w (m - 1) c h.entry h.stands h.is_answer.0 of_call).1 in
        false≢true (sym runs ∙ over)
      where
        behind_other : (a b : ℕ) → a ≤ b → (a ≡ b → ⊥) → a < b
        behind_other a b le ne = elim (cases_lt a b) [ inl lt ↦ lt | inr ge ↦ absurd (ne (omega (arith, le, ge))) ]

    -- ---- its next call

    module _ (of_call : is_of_call e.event ≡ true) where
      step_here : IsCallOf p played (at n).phase c (caller_at (at n) c).next
      step_here =
          let phase : IsInPhase p played (at n).phase (Caller c) e.step e.event =
          subst (λ (x : Who). IsInPhase p played (at n).phase x e.step e.event) who
          (in_phase_at p played first last journal w n e here) in
          subst (λ (m : ℕ). IsCallOf p played (at n).phase c m)
          (entry_step p played first last journal w n c e here who of_call).0 (phase.1 of_call)

      -- an answer of it is to come
      pub is_answered : ((j : ℕ) → first_step p played j c + steps_in p played j c ≤ answers_in c journal)
          → answers_in c (drop n journal) ≡ 0
          → ⊥
      is_answered bounds none =
          let below = step_here.1 in
          let bound = bounds (at n).phase in
          let next = counts_next p played last journal n c w in
          let parts = answers_split c n journal in
          absurd (omega (arith, below, bound, next, parts, none))

      -- until that answer it is under way
      pub under_way : (m : ℕ)
          → n < m
          → answers_in c (drop n journal) ≤ answers_in c (drop m journal)
          → has_begun (caller_at (at m) c) ≡ true
      under_way m late few =
          let parts = answers_later c (n + 1) m journal (omega (arith, late)) in
          let none : answers_of c e ≡ 0 = omega (arith, few, parts, from_here) in
          let none_between : answers_in c (between (n + 1) m journal) ≡ 0 = omega (arith, few, parts, from_here) in
          begun_later p played first last journal w (n + 1) m c (omega (arith, late)) none_between
          (begins_at p played first last journal w n c e here who of_call (sym own_answers ∙ none))

      -- the next answer of the caller is of this call, in the phase that runs
      pub record IsOfNext (m : ℕ) (a : PlainAnswer) (h : IsAnswerAt (journal_in p played journal) c m a)
          : Type 0 where
        pub step : h.entry.step ≡ (caller_at (at n) c).next
        pub phase : (at m).phase ≡ (at n).phase

      pub of_next : (m : ℕ) (a : PlainAnswer) (h : IsAnswerAt (journal_in p played journal) c m a)
          → n < m
          → answers_in c (drop n journal) ≤ 1 + answers_in c (drop m journal)
          → IsOfNext m a h
      of_next m a h late few =
          let some = h.some in
          let next_here = (caller_at (at n) c).next in
          let answers_call : is_of_call h.entry.event ≡ true = ap is_of_call h.is_answer.1.1 in
          let its = entry_step p played first last journal w (m - 1) c h.entry h.stands h.is_answer.0 answers_call in
          let one = answer_there (journal_in p played journal) c c m a h in
          let self : one_for c c ≡ 1 = ap (λ (b : Bool). if b then 1 else 0) (eq-eqb c c refl) in
          let parts = answers_later c n (m - 1) journal (omega (arith, late, some)) in
          let none : answers_in c (between n (m - 1) journal) ≡ 0 = omega (arith, one, self, parts, few) in
          let next = next_at p played first last journal w n (m - 1) c (omega (arith, late, some)) in
          let step : h.entry.step ≡ next_here =
          its.0 ∙ (let x : (caller_at (at (m - 1)) c).next ≡ next_here = omega (arith, next, none) in x) in
          let its_phase : IsInPhase p played (at (m - 1)).phase (Caller c) h.entry.step h.entry.event =
          subst (λ (x : Who). IsInPhase p played (at (m - 1)).phase x h.entry.step h.entry.event) h.is_answer.0
          (in_phase_at p played first last journal w (m - 1) h.entry h.stands) in
          let theirs : IsCallOf p played (at (m - 1)).phase c next_here =
          subst (λ (i : ℕ). IsCallOf p played (at (m - 1)).phase c i) step (its_phase.1 answers_call) in
          let up = phase_later p played first last journal w n (m - 1) (omega (arith, late, some)) in
          record {
            step = step;
            phase = answer_phase c m a h ∙ same_of (at n).phase (at (m - 1)).phase next_here up step_here theirs;
          }
        where
          -- a step is of one phase of the session that was played
          same_of : (j i step : ℕ)
              → j ≤ i
              → IsCallOf p played j c step
              → IsCallOf p played i c step
              → i ≡ j
          same_of j i step le mine theirs = elim (cases_lt j i) [
            | inl lt ↦
                (let next = by_next p played j c in
                let rise = first_rises p played (j + 1) i c (omega (arith, lt)) in
                let below = mine.1 in
                let above = theirs.0 in
                absurd (omega (arith, next, rise, below, above)))
            | inr ge ↦ omega (arith, le, ge)
          ]
