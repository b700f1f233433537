-- What an entry of a caller is, where a run of a session goes on: its next call, or the end of its calls.
use Rattle.std.proofs.Common.{◌≡◌, ◌≤◌, ◌<◌, ◌⊎◌, inl, inr, ℕ, zero, suc, ◌+◌, Bool, true, false, List, ◌∷◌, Option}
use Rattle.std.proofs.Common.{None, Some}
use Rattle.std.proofs.Common.{if◌then◌else◌, length, take, get_or, refl, sym, ap, ◌∙◌, subst, arith}
use Rattle.std.specs.Prelude.{slice_get, sum}
use Rattle.std.proofs.lemmas.Bool.{false≢true, le-leb, lt-leb, eq-eqb}
use Rattle.std.proofs.lemmas.Option.{slice_get-get_or, same_Some}
use Rattle.tty_base.specs.declared.characters.Flagged.{Flagged}
use Rattle.tty_calls.specs.declared.journals.Who.{Who}
use Rattle.tty_calls.specs.declared.journals.Who.TheVariants.{Caller, Flusher, Line, Clock, Session}
use Rattle.tty_calls.specs.Plain.{PlainCall, PlainAnswer, PlainEvent, answered, parted, waited, flushed}
use Rattle.tty_calls.specs.Plain.{ticked, line_ended, clock_ended, caller_ended, phase_ended, hung_up, PlainEntry}
use Rattle.tty_calls.specs.Plain.{is_caller}
use Rattle.tty_calls.specs.Sessions.{PlainSession, call_at, counts_on}
use Rattle.tty_terminal.specs.Terminals.{Terminal, opening, caller_at, has_begun}
use Rattle.tty_terminal.specs.Standing.{Standing, standing_after_own}
use Rattle.tty_terminal.specs.Steps.{IsAllowed, Allowed}
use Rattle.tty_terminal.specs.Runs.{is_of_call, phase_after}
use Rattle.legal_runs.specs.Legal.{first_step, steps_in, flip_on, IsInPhase, is_caller_end}
use Rattle.legal_runs.specs.Order.{Place, first_place, next_place, place_after}
use Rattle.legal_runs.proofs.Places.{place_more}
use Rattle.order_laws.proofs.NextEntry.{IsRest, coming_call}
use Rattle.passed_calls.specs.Journals.{terminal_after}
use Rattle.order_laws.proofs.Journeys.{Journey, answer_count, answers_of, call_step, begins_at, take_one}

-- ---- an entry of a caller

pub caller_event : (f : ℕ → ℕ → Option PlainCall) (counts : List ℕ) (t : Terminal) (c step part : ℕ)
    (event : PlainEvent)
    → IsAllowed f counts t (Caller c) step part event
    → (is_of_call event ≡ true) ⊎ (event ≡ caller_ended)
caller_event f counts t c step part (answered a dropped) h = inl refl
caller_event f counts t c step part (parted n) h = inl refl
caller_event f counts t c step part waited h = inl refl
caller_event f counts t c step part (flushed chars) h = (let e = h.0 in absurd (cc))
caller_event f counts t c step part ticked h = (let e = h.0 in absurd (cc))
caller_event f counts t c step part (line_ended n) h = (let e = h.0 in absurd (cc))
caller_event f counts t c step part clock_ended h = (let e = h.0 in absurd (cc))
caller_event f counts t c step part caller_ended h = inr refl
caller_event f counts t c step part phase_ended h = (let e = h.0 in absurd (cc))
caller_event f counts t c step part (hung_up dropped) h = (let e = h.0 in absurd (cc))

-- an answer and the end of calls end no phase
pub same_phase : (event : PlainEvent) (k : ℕ) → is_of_call event ≡ true → phase_after event k ≡ k
same_phase (answered a dropped) k is = refl
same_phase (parted n) k is = refl
same_phase waited k is = refl
same_phase (flushed chars) k is = absurd (false≢true is)
same_phase ticked k is = absurd (false≢true is)
same_phase (line_ended n) k is = absurd (false≢true is)
same_phase clock_ended k is = absurd (false≢true is)
same_phase caller_ended k is = absurd (false≢true is)
same_phase phase_ended k is = absurd (false≢true is)
same_phase (hung_up dropped) k is = absurd (false≢true is)

-- ---- what comes of a caller

pub coming_some : (p : ℕ) (session : PlainSession) (s : Place) (c : ℕ)
    → (caller_at s.terminal c).next
    < first_step p session s.terminal.phase c + steps_in p session s.terminal.phase c
    → coming_call p session s c ≡ Some (call_at p session c (caller_at s.terminal c).next)
coming_some p session s c lt =
    ap (λ (b : Bool). if b then None else Some (call_at p session c (caller_at s.terminal c).next))
    (lt-leb (first_step p session s.terminal.phase c + steps_in p session s.terminal.phase c)
    (caller_at s.terminal c).next lt)

pub coming_none : (p : ℕ) (session : PlainSession) (s : Place) (c : ℕ)
    → first_step p session s.terminal.phase c + steps_in p session s.terminal.phase c
    ≤ (caller_at s.terminal c).next
    → coming_call p session s c ≡ None
coming_none p session s c le =
    ap (λ (b : Bool). if b then None else Some (call_at p session c (caller_at s.terminal c).next))
    (le-leb (first_step p session s.terminal.phase c + steps_in p session s.terminal.phase c)
    (caller_at s.terminal c).next le)

-- an entry of a caller in a run
module _ (p : ℕ) (session : PlainSession) (s : Place) (e : PlainEntry) (es : List PlainEntry) (c : ℕ)
    (rest : IsRest p session s (e ∷ es)) (who : e.who ≡ Caller c) where
  pub allowed : IsAllowed (call_at p session) (counts_on p session) s.terminal (Caller c) e.step e.part e.event
  allowed = subst (λ (w : Who). IsAllowed (call_at p session) (counts_on p session) s.terminal w e.step e.part e.event)
      who rest.leads.0.1

  pub in_phase : IsInPhase p session s.terminal.phase (Caller c) e.step e.event
  in_phase = subst (λ (w : Who). IsInPhase p session s.terminal.phase w e.step e.event) who rest.phases.0

  pub at_step : is_of_call e.event ≡ true → e.step ≡ (caller_at s.terminal c).next
  at_step of_call =
      (call_step (call_at p session) (counts_on p session) s.terminal c e.step e.part e.event allowed of_call).0

  -- a call comes
  pub call_comes : is_of_call e.event ≡ true
      → coming_call p session s c ≡ Some (call_at p session c (caller_at s.terminal c).next)
  call_comes of_call =
      let at = at_step of_call in
      let below = (in_phase.1 of_call).1 in
      coming_some p session s c (omega (arith, at, below))

  -- its end
  pub end_comes : e.event ≡ caller_ended → coming_call p session s c ≡ None
  end_comes event =
      let ends : is_caller_end e.event ≡ true = ap is_caller_end event in
      let past = in_phase.2 ends in
      let its = subst (λ (x : PlainEvent).
      IsAllowed (call_at p session) (counts_on p session) s.terminal (Caller c) e.step e.part x) event allowed in
      let at = its.at_step in
      coming_none p session s c (omega (arith, past, at))

  -- who has begun a call does not end
  pub begun_calls : has_begun (caller_at s.terminal c) ≡ true → is_of_call e.event ≡ true
  begun_calls begun =
      elim (caller_event (call_at p session) (counts_on p session) s.terminal c e.step e.part e.event allowed) [
        | inl of_call ↦ of_call
        | inr event ↦
            let its = subst (λ (x : PlainEvent).
            IsAllowed (call_at p session) (counts_on p session) s.terminal (Caller c) e.step e.part x) event allowed in
            absurd (false≢true (sym its.between ∙ begun))
      ]

-- the same comes where both make the same call
pub calls_come : (p : ℕ) (session later : PlainSession) (s : Place) (e e' : PlainEntry) (es es' : List PlainEntry)
    (c : ℕ)
    → IsRest p session s (e ∷ es)
    → IsRest p later s (e' ∷ es')
    → e.who ≡ Caller c
    → e'.who ≡ Caller c
    → is_of_call e.event ≡ true
    → is_of_call e'.event ≡ true
    → call_at p session c (caller_at s.terminal c).next ≡ call_at p later c (caller_at s.terminal c).next
    → coming_call p session s c ≡ coming_call p later s c
calls_come p session later s e e' es es' c rest rest' who who' of_call of_call' same =
    call_comes p session s e es c rest who of_call
    ∙ (ap (λ (o : Option PlainCall). Some o) same ∙ sym (call_comes p later s e' es' c rest' who' of_call'))

-- ---- a caller that has begun a call behind an entry of its own

pub own_begins : (event : PlainEvent) (g : ℕ) (q : Standing)
    → (standing_after_own event g q).begun ≡ true
    → ((standing_after_own event g q).next ≡ q.next) × ((is_of_call event ≡ true) ⊎ (q.begun ≡ true))
own_begins (answered a dropped) g q begun = absurd (false≢true begun)
own_begins (parted n) g q begun = (refl, inl refl)
own_begins waited g q begun = (refl, inl refl)
own_begins (flushed chars) g q begun = (refl, inr begun)
own_begins ticked g q begun = (refl, inr begun)
own_begins (line_ended n) g q begun = (refl, inr begun)
own_begins clock_ended g q begun = (refl, inr begun)
own_begins caller_ended g q begun = (refl, inr begun)
own_begins phase_ended g q begun = (refl, inr begun)
own_begins (hung_up dropped) g q begun = (refl, inr begun)

-- ---- an answer, or none

pub record IsAnswered (e : PlainEntry) : Type 0 where
  pub caller : ℕ
  pub who : e.who ≡ Caller caller
  pub one : answer_count e.event ≡ 1

pub answer_who : (f : ℕ → ℕ → Option PlainCall) (counts : List ℕ) (t : Terminal) (who : Who) (step part : ℕ)
    (a : PlainAnswer) (dropped : List Flagged)
    → IsAllowed f counts t who step part (answered a dropped)
    → (c : ℕ) × (who ≡ Caller c)
answer_who f counts t (Caller c) step part a dropped h = (c, refl)
answer_who f counts t Flusher step part a dropped h = absurd h
answer_who f counts t Line step part a dropped h = absurd h
answer_who f counts t Clock step part a dropped h = absurd h
answer_who f counts t Session step part a dropped h = absurd h

pub answer_or_not : (f : ℕ → ℕ → Option PlainCall) (counts : List ℕ) (t : Terminal) (e : PlainEntry)
    → Allowed f counts t e
    → IsAnswered e ⊎ (answer_count e.event ≡ 0)
answer_or_not f counts t e h = by_event e.event refl
  where
    by_event : (event : PlainEvent) → e.event ≡ event → IsAnswered e ⊎ (answer_count e.event ≡ 0)
    by_event (answered a dropped) is =
        let who = answer_who f counts t e.who e.step e.part a dropped
        (subst (λ (x : PlainEvent). IsAllowed f counts t e.who e.step e.part x) is h.1) in
        inl (record { caller = who.0; who = who.1; one = ap answer_count is })
    by_event (parted n) is = inr (ap answer_count is)
    by_event waited is = inr (ap answer_count is)
    by_event (flushed chars) is = inr (ap answer_count is)
    by_event ticked is = inr (ap answer_count is)
    by_event (line_ended n) is = inr (ap answer_count is)
    by_event clock_ended is = inr (ap answer_count is)
    by_event caller_ended is = inr (ap answer_count is)
    by_event phase_ended is = inr (ap answer_count is)
    by_event (hung_up dropped) is = inr (ap answer_count is)

pub none_of : (d : ℕ) (e : PlainEntry) → answer_count e.event ≡ 0 → answers_of d e ≡ 0
none_of d e none = by_test (is_caller e.who d)
  where
    by_test : (b : Bool) → (if b then answer_count e.event else 0) ≡ 0
    by_test true = none
    by_test false = refl

pub one_of : (c : ℕ) (e : PlainEntry) → e.who ≡ Caller c → answer_count e.event ≡ 1 → answers_of c e ≡ 1
one_of c e who one =
    ap (λ (b : Bool). if b then answer_count e.event else 0) (ap (λ (w : Who). is_caller w c) who ∙ eq-eqb c c refl)
    ∙ one

pub same_number : {a b : ℕ} → Caller a ≡ Caller b → a ≡ b
same_number e = cc

-- ---- a call of which a part was taken

-- an entry is a part of this caller's call
pub record IsPartBy (c : ℕ) (before : Option PlainEntry) : Type 0 where
  pub entry : PlainEntry
  pub is : before ≡ Some entry
  pub who : entry.who ≡ Caller c
  pub of_call : is_of_call entry.event ≡ true
  pub none : answer_count entry.event ≡ 0

-- right behind it the caller has begun that call
pub part_begun : (p : ℕ) (session : PlainSession) (last : Terminal) (journal : List PlainEntry) (n c : ℕ)
    → Journey p session (opening (sum (counts_on p session)) (flip_on p session)) last journal
    → n ≤ length journal
    → IsPartBy c (place_after (call_at p session) (first_place p session) (take n journal)).before
    → has_begun (caller_at (terminal_after (call_at p session)
    (opening (sum (counts_on p session)) (flip_on p session)) (take n journal)) c) ≡ true
part_begun p session last journal zero c h within part = (let never : None ≡ Some part.entry = part.is in absurd (cc))
part_begun p session last journal (suc m) c h within part =
    let f = call_at p session in
    let opens = opening (sum (counts_on p session)) (flip_on p session) in
    let x : PlainEntry = get_or journal m part.entry in
    let there : slice_get journal m ≡ Some x = slice_get-get_or journal m part.entry (omega (arith, within)) in
    let count : suc m ≡ m + 1 = omega arith in
    let place : place_after f (first_place p session) (take (suc m) journal)
    ≡ next_place f (place_after f (first_place p session) (take m journal)) x =
    ap (λ (k : ℕ). place_after f (first_place p session) (take k journal)) count
    ∙ (ap (λ (es : List PlainEntry). place_after f (first_place p session) es) (take_one m journal x there)
    ∙ place_more f (first_place p session) (take m journal) x) in
    let same : x ≡ part.entry = same_Some x part.entry (sym (ap (λ (s : Place). s.before) place) ∙ part.is) in
    ap (λ (k : ℕ). has_begun (caller_at (terminal_after f opens (take k journal)) c)) count
    ∙ begins_at p session opens last journal h m c x there
    (ap (λ (e : PlainEntry). e.who) same ∙ part.who)
    (ap (λ (e : PlainEntry). is_of_call e.event) same ∙ part.of_call)
    (ap (λ (e : PlainEntry). answer_count e.event) same ∙ part.none)
