-- A run, place by place: where it stands after so many entries, and what its entries tell of a caller.
use Rattle.std.proofs.Common.{◌≡◌, ◌≤◌, ◌<◌, ◌⊎◌, inl, inr, ℕ, zero, suc, ◌+◌, ◌-◌, ◌==◌, Bool, true, false, List}
use Rattle.std.proofs.Common.{[], ◌∷◌, ◌++◌, Option, Some, take, drop, if◌then◌else◌, refl, sym, ap, ◌∙◌}
use Rattle.std.proofs.Common.{subst, arith}
use Rattle.std.specs.Prelude.{slice_get, sum}
use Rattle.std.proofs.lemmas.Bool.{false≢true, eq-eqb, eqb-true}
use Rattle.std.proofs.lemmas.List.{take-append-drop}
use Rattle.tty_calls.specs.declared.journals.Who.{Who}
use Rattle.tty_calls.specs.declared.journals.Who.TheVariants.{Caller, Flusher, Line, Clock, Session}
use Rattle.tty_calls.specs.Plain.{PlainCall, PlainAnswer, PlainEvent, answered, parted, waited, flushed, ticked}
use Rattle.tty_calls.specs.Plain.{line_ended}
use Rattle.tty_calls.specs.Plain.{clock_ended, caller_ended, phase_ended, hung_up, PlainEntry, is_caller}
use Rattle.tty_calls.specs.Sessions.{PlainSession, call_at, counts_on}
use Rattle.tty_terminal.specs.Terminals.{Terminal, opening, caller_at, has_begun}
use Rattle.tty_terminal.specs.Standing.{Standing, standing_of, standing_after_own, standing_after_other, standing_after}
use Rattle.tty_terminal.specs.Standing.{standing_in, at_first}
use Rattle.tty_terminal.specs.Steps.{IsAllowed, Allowed, after}
use Rattle.tty_terminal.specs.Runs.{Leads, is_of_call, phase_after}
use Rattle.tty_terminal.proofs.StandingLaws.{step_stands, leads_stands, run_stands}
use Rattle.legal_runs.specs.Legal.{flip_on, IsInPhase, AreInPhases}
use Rattle.legal_runs.proofs.PhaseLemmas.{phase-after}
use Rattle.legal_runs.proofs.Places.{phase_from, leads_phase}
use Rattle.order_laws.proofs.Growing.{from_grows, over_stays}
use Rattle.passed_calls.specs.Journals.{Journal, terminal_after, IsAnswerBy, IsAnswerAt}

-- ---- lists

none_taken : (k : ℕ) → take {A = PlainEntry} k [] ≡ []
none_taken zero = refl
none_taken (suc k) = refl

take_both : (n m : ℕ) (xs : List PlainEntry) → take (n + m) xs ≡ take n xs ++ take m (drop n xs)
take_both zero m xs =
    (let same : zero + m ≡ m = omega arith in ap (λ (k : ℕ). take {A = PlainEntry} k xs) same)
take_both (suc n) m [] = none_taken (suc n + m) ∙ sym (none_taken m)
take_both (suc n) m (x ∷ xs) =
    (let same : suc n + m ≡ suc (n + m) = omega arith in
    ap (λ (k : ℕ). take {A = PlainEntry} k (x ∷ xs)) same
    ∙ ap (λ (ys : List PlainEntry). x ∷ ys) (take_both n m xs))

next_is : (n : ℕ) → n + 1 ≡ suc n
next_is n = omega arith

-- the entries between two places
abbrev pub between : (n m : ℕ) → List PlainEntry → List PlainEntry
between n m es = take (m - n) (drop n es)

pub take_on : (n m : ℕ) (es : List PlainEntry) → n ≤ m → take m es ≡ take n es ++ between n m es
take_on n m es le =
    (let same : m ≡ n + (m - n) = omega (arith, le) in
    ap (λ (k : ℕ). take k es) same ∙ take_both n (m - n) es)

take_suc : (n : ℕ) (es : List PlainEntry) (e : PlainEntry)
    → slice_get es n ≡ Some e
    → take (suc n) es ≡ take n es ++ e ∷ []
take_suc n [] e is = absurd (cc)
take_suc zero (x ∷ es) e is = (let same : x ≡ e = cc in λ i. same i ∷ [])
take_suc (suc n) (x ∷ es) e is = ap (λ (ys : List PlainEntry). x ∷ ys) (take_suc n es e is)

pub take_one : (n : ℕ) (es : List PlainEntry) (e : PlainEntry)
    → slice_get es n ≡ Some e
    → take (n + 1) es ≡ take n es ++ e ∷ []
take_one n es e is = ap (λ (k : ℕ). take k es) (next_is n) ∙ take_suc n es e is

drop_suc : (n : ℕ) (es : List PlainEntry) (e : PlainEntry)
    → slice_get es n ≡ Some e
    → drop n es ≡ e ∷ drop (suc n) es
drop_suc n [] e is = absurd (cc)
drop_suc zero (x ∷ es) e is = (let same : x ≡ e = cc in λ i. same i ∷ es)
drop_suc (suc n) (x ∷ es) e is = drop_suc n es e is

pub drop_one : (n : ℕ) (es : List PlainEntry) (e : PlainEntry)
    → slice_get es n ≡ Some e
    → drop n es ≡ e ∷ drop (n + 1) es
drop_one n es e is =
    drop_suc n es e is ∙ ap (λ (k : ℕ). e ∷ drop k es) (sym (next_is n))

get_suc : (n : ℕ) (es rest : List PlainEntry) (e : PlainEntry)
    → drop n es ≡ e ∷ rest
    → (slice_get es n ≡ Some e) × (drop (suc n) es ≡ rest)
get_suc zero [] rest e is = absurd (cc)
get_suc zero (x ∷ es) rest e is = (cc, cc)
get_suc (suc n) [] rest e is = absurd (cc)
get_suc (suc n) (x ∷ es) rest e is = get_suc n es rest e is

pub get_here : (n : ℕ) (es rest : List PlainEntry) (e : PlainEntry)
    → drop n es ≡ e ∷ rest
    → (slice_get es n ≡ Some e) × (drop (n + 1) es ≡ rest)
get_here n es rest e is =
    let both = get_suc n es rest e is in (both.0, ap (λ (k : ℕ). drop k es) (next_is n) ∙ both.1)

-- ---- terminals

pub after_both : (f : ℕ → ℕ → Option PlainCall) (t : Terminal) (xs ys : List PlainEntry)
    → terminal_after f t (xs ++ ys) ≡ terminal_after f (terminal_after f t xs) ys
after_both f t [] ys = refl
after_both f t (x ∷ xs) ys = after_both f (after f t x) xs ys

leads_first : (f : ℕ → ℕ → Option PlainCall) (counts : List ℕ) (t u : Terminal) (xs ys : List PlainEntry)
    → Leads f counts t (xs ++ ys) u
    → Leads f counts t xs (terminal_after f t xs)
leads_first f counts t u [] ys h = refl
leads_first f counts t u (x ∷ xs) ys h = (h.0, leads_first f counts (after f t x) u xs ys h.1)

leads_rest : (f : ℕ → ℕ → Option PlainCall) (counts : List ℕ) (t u : Terminal) (xs ys : List PlainEntry)
    → Leads f counts t (xs ++ ys) u
    → Leads f counts (terminal_after f t xs) ys u
leads_rest f counts t u [] ys h = h
leads_rest f counts t u (x ∷ xs) ys h = leads_rest f counts (after f t x) u xs ys h.1

phases_rest : (p : ℕ) (session : PlainSession) (k : ℕ) (xs ys : List PlainEntry)
    → AreInPhases p session k (xs ++ ys)
    → AreInPhases p session (phase_from k xs) ys
phases_rest p session k [] ys h = h
phases_rest p session k (x ∷ xs) ys h = phases_rest p session (phase_after x.event k) xs ys h.1

-- ---- answers

abbrev pub answer_count : PlainEvent → ℕ
answer_count (answered a dropped) = 1
answer_count (parted n) = 0
answer_count waited = 0
answer_count (flushed chars) = 0
answer_count ticked = 0
answer_count (line_ended n) = 0
answer_count clock_ended = 0
answer_count caller_ended = 0
answer_count phase_ended = 0
answer_count (hung_up dropped) = 0

abbrev pub answers_of : ℕ → PlainEntry → ℕ
answers_of c e = if is_caller e.who c then answer_count e.event else 0

-- how many answers to a caller there are
abbrev pub answers_in : ℕ → List PlainEntry → ℕ
answers_in c [] = 0
answers_in c (e ∷ es) = answers_of c e + answers_in c es

pub answers_both : (c : ℕ) (xs ys : List PlainEntry) → answers_in c (xs ++ ys) ≡ answers_in c xs + answers_in c ys
answers_both c [] ys = omega arith
answers_both c (x ∷ xs) ys = (let rest = answers_both c xs ys in omega (arith, rest))

pub answers_split : (c n : ℕ) (es : List PlainEntry)
    → answers_in c es ≡ answers_in c (take n es) + answers_in c (drop n es)
answers_split c zero es = omega arith
answers_split c (suc n) [] = omega arith
answers_split c (suc n) (e ∷ es) = (let rest = answers_split c n es in omega (arith, rest))

-- from a later place on there are no more
pub answers_later : (c n m : ℕ) (es : List PlainEntry)
    → n ≤ m
    → answers_in c (drop n es) ≡ answers_in c (between n m es) + answers_in c (drop m es)
answers_later c n m es le =
    let whole = answers_split c m es in
    let first = answers_split c n es in
    let parts = ap (λ (xs : List PlainEntry). answers_in c xs) (take_on n m es le) in
    let both = answers_both c (take n es) (between n m es) in
    omega (arith, whole, first, parts, both)

pub fewer_later : (c n m : ℕ) (es : List PlainEntry) → n ≤ m → answers_in c (drop m es) ≤ answers_in c (drop n es)
fewer_later c n m es le = (let parts = answers_later c n m es le in omega (arith, parts))

-- ---- the entry of an answer

abbrev pub one_for : ℕ → ℕ → ℕ
one_for c d = if d == c then 1 else 0

-- an answer is one
pub answer_one : (c d : ℕ) (answer : PlainAnswer) (e : PlainEntry)
    → IsAnswerBy d answer e
    → answers_of c e ≡ one_for c d
answer_one c d answer e h = λ i. one_of (h.0 i) (h.1.1 i)
  where
    one_of : Who → PlainEvent → ℕ
    one_of who event = answers_of c (record e { who = who; event = event })

-- from an entry that is an answer on there is one more
pub answer_there : (journal : Journal) (c d at : ℕ) (answer : PlainAnswer)
    → IsAnswerAt journal d at answer
    → answers_in c (drop (at - 1) journal.entries)
    ≡ one_for c d + answers_in c (drop at journal.entries)
answer_there journal c d at answer h =
    let some = h.some in
    let here = ap (λ (es : List PlainEntry). answers_in c es)
    (drop_one (at - 1) journal.entries h.entry h.stands) in
    let same : (at - 1) + 1 ≡ at = omega (arith, some) in
    let rest = ap (λ (n : ℕ). answers_in c (drop n journal.entries)) same in
    let one = answer_one c d answer h.entry h.is_answer in
    omega (arith, here, rest, one)

-- ---- what the entries tell of a caller

one_next : (event : PlainEvent) (g : ℕ) (q : Standing)
    → (standing_after_own event g q).next ≡ q.next + answer_count event
one_next (answered a dropped) g q = omega arith
one_next (parted n) g q = omega arith
one_next waited g q = omega arith
one_next (flushed chars) g q = omega arith
one_next ticked g q = omega arith
one_next (line_ended n) g q = omega arith
one_next clock_ended g q = omega arith
one_next caller_ended g q = omega arith
one_next phase_ended g q = omega arith
one_next (hung_up dropped) g q = omega arith

pub other_next : (event : PlainEvent) (q : Standing) → (standing_after_other event q).next ≡ q.next
other_next (answered a dropped) q = refl
other_next (parted n) q = refl
other_next waited q = refl
other_next (flushed chars) q = refl
other_next ticked q = refl
other_next (line_ended n) q = refl
other_next clock_ended q = refl
other_next caller_ended q = refl
other_next phase_ended q = refl
other_next (hung_up dropped) q = refl

pub either_next : (b : Bool) (e : PlainEntry) (q : Standing)
    → (if b then standing_after_own e.event e.generation q else standing_after_other e.event q).next
    ≡ q.next + (if b then answer_count e.event else 0)
either_next true e q = one_next e.event e.generation q
either_next false e q = (let same = other_next e.event q in omega (arith, same))

pub next_in : (c : ℕ) (es : List PlainEntry) (q : Standing) → (standing_in c es q).next ≡ q.next + answers_in c es
next_in c [] q = omega arith
next_in c (e ∷ es) q =
    (let here = either_next (is_caller e.who c) e q in
    let rest = next_in c es (standing_after c e q) in
    omega (arith, here, rest))

own_begun : (event : PlainEvent) (g : ℕ) (q : Standing)
    → answer_count event ≡ 0
    → q.begun ≡ true
    → (standing_after_own event g q).begun ≡ true
own_begun (answered a dropped) g q none h = absurd (omega (arith, none))
own_begun (parted n) g q none h = refl
own_begun waited g q none h = refl
own_begun (flushed chars) g q none h = h
own_begun ticked g q none h = h
own_begun (line_ended n) g q none h = h
own_begun clock_ended g q none h = h
own_begun caller_ended g q none h = h
own_begun phase_ended g q none h = h
own_begun (hung_up dropped) g q none h = h

pub other_begun : (event : PlainEvent) (q : Standing) → (standing_after_other event q).begun ≡ q.begun
other_begun (answered a dropped) q = refl
other_begun (parted n) q = refl
other_begun waited q = refl
other_begun (flushed chars) q = refl
other_begun ticked q = refl
other_begun (line_ended n) q = refl
other_begun clock_ended q = refl
other_begun caller_ended q = refl
other_begun phase_ended q = refl
other_begun (hung_up dropped) q = refl

either_begun : (b : Bool) (e : PlainEntry) (q : Standing)
    → (if b then answer_count e.event else 0) ≡ 0
    → q.begun ≡ true
    → (if b then standing_after_own e.event e.generation q else standing_after_other e.event q).begun ≡ true
either_begun true e q none h = own_begun e.event e.generation q none h
either_begun false e q none h = other_begun e.event q ∙ h

-- a call that has begun stays so until it is answered
pub begun_in : (c : ℕ) (es : List PlainEntry) (q : Standing)
    → answers_in c es ≡ 0
    → q.begun ≡ true
    → (standing_in c es q).begun ≡ true
begun_in c [] q none h = h
begun_in c (e ∷ es) q none h =
    begun_in c es (standing_after c e q) (omega (arith, none))
    (either_begun (is_caller e.who c) e q (omega (arith, none)) h)

-- ---- the first entry of a call

-- a caller has come to a step: it has begun that call, or gone on behind it
abbrev HasCome : (step : ℕ) → Standing → Type 0
HasCome step q = (step < q.next) ⊎ ((step ≡ q.next) × (q.begun ≡ true))

own_comes : (event : PlainEvent) (g step : ℕ) (q : Standing)
    → HasCome step q
    → HasCome step (standing_after_own event g q)
own_comes (answered a dropped) g step q h = elim h [
  | inl lt ↦ inl (omega (arith, lt))
  | inr both ↦ (let at = both.0 in inl (omega (arith, at)))
]
own_comes (parted n) g step q h = elim h [ inl lt ↦ inl lt | inr both ↦ inr (both.0, refl) ]
own_comes waited g step q h = elim h [ inl lt ↦ inl lt | inr both ↦ inr (both.0, refl) ]
own_comes (flushed chars) g step q h = h
own_comes ticked g step q h = h
own_comes (line_ended n) g step q h = h
own_comes clock_ended g step q h = h
own_comes caller_ended g step q h = h
own_comes phase_ended g step q h = h
own_comes (hung_up dropped) g step q h = h

other_comes : (event : PlainEvent) (step : ℕ) (q : Standing)
    → HasCome step q
    → HasCome step (standing_after_other event q)
other_comes (answered a dropped) step q h = h
other_comes (parted n) step q h = h
other_comes waited step q h = h
other_comes (flushed chars) step q h = h
other_comes ticked step q h = h
other_comes (line_ended n) step q h = h
other_comes clock_ended step q h = h
other_comes caller_ended step q h = h
other_comes phase_ended step q h = h
other_comes (hung_up dropped) step q h = h

either_comes : (b : Bool) (e : PlainEntry) (step : ℕ) (q : Standing)
    → HasCome step q
    → HasCome step (if b then standing_after_own e.event e.generation q else standing_after_other e.event q)
either_comes true e step q h = own_comes e.event e.generation step q h
either_comes false e step q h = other_comes e.event step q h

come_in : (c step : ℕ) (es : List PlainEntry) (q : Standing) → HasCome step q → HasCome step (standing_in c es q)
come_in c step [] q h = h
come_in c step (e ∷ es) q h =
    come_in c step es (standing_after c e q) (either_comes (is_caller e.who c) e step q h)

-- by an entry of it
comes_by : (event : PlainEvent) (g step : ℕ) (q : Standing)
    → is_of_call event ≡ true
    → step ≡ q.next
    → HasCome step (standing_after_own event g q)
comes_by (answered a dropped) g step q of_call at = inl (omega (arith, at))
comes_by (parted n) g step q of_call at = inr (at, refl)
comes_by waited g step q of_call at = inr (at, refl)
comes_by (flushed chars) g step q of_call at = absurd (false≢true of_call)
comes_by ticked g step q of_call at = absurd (false≢true of_call)
comes_by (line_ended n) g step q of_call at = absurd (false≢true of_call)
comes_by clock_ended g step q of_call at = absurd (false≢true of_call)
comes_by caller_ended g step q of_call at = absurd (false≢true of_call)
comes_by phase_ended g step q of_call at = absurd (false≢true of_call)
comes_by (hung_up dropped) g step q of_call at = absurd (false≢true of_call)

begins_own : (event : PlainEvent) (g : ℕ) (q : Standing)
    → is_of_call event ≡ true
    → answer_count event ≡ 0
    → (standing_after_own event g q).begun ≡ true
begins_own (answered a dropped) g q of_call none = absurd (omega (arith, none))
begins_own (parted n) g q of_call none = refl
begins_own waited g q of_call none = refl
begins_own (flushed chars) g q of_call none = absurd (false≢true of_call)
begins_own ticked g q of_call none = absurd (false≢true of_call)
begins_own (line_ended n) g q of_call none = absurd (false≢true of_call)
begins_own clock_ended g q of_call none = absurd (false≢true of_call)
begins_own caller_ended g q of_call none = absurd (false≢true of_call)
begins_own phase_ended g q of_call none = absurd (false≢true of_call)
begins_own (hung_up dropped) g q of_call none = absurd (false≢true of_call)

-- an entry of a call is of its caller's next step
pub call_step : (f : ℕ → ℕ → Option PlainCall) (counts : List ℕ) (t : Terminal) (c step part : ℕ) (event : PlainEvent)
    → IsAllowed f counts t (Caller c) step part event
    → is_of_call event ≡ true
    → (step ≡ (caller_at t c).next) × ((caller_at t c).over ≡ false)
call_step f counts t c step part (answered a dropped) h of_call = (h.next.at_step, h.next.not_over)
call_step f counts t c step part (parted n) h of_call = (h.next.at_step, h.next.not_over)
call_step f counts t c step part waited h of_call = (h.next.at_step, h.next.not_over)
call_step f counts t c step part (flushed chars) h of_call = absurd (false≢true of_call)
call_step f counts t c step part ticked h of_call = absurd (false≢true of_call)
call_step f counts t c step part (line_ended n) h of_call = absurd (false≢true of_call)
call_step f counts t c step part clock_ended h of_call = absurd (false≢true of_call)
call_step f counts t c step part caller_ended h of_call = absurd (false≢true of_call)
call_step f counts t c step part phase_ended h of_call = absurd (false≢true of_call)
call_step f counts t c step part (hung_up dropped) h of_call = absurd (false≢true of_call)

pub who_is : (who : Who) (c : ℕ) → is_caller who c ≡ true → who ≡ Caller c
who_is (Caller d) c is = ap (λ (n : ℕ). Caller n) (eqb-true d c is)
who_is Flusher c is = absurd (false≢true is)
who_is Line c is = absurd (false≢true is)
who_is Clock c is = absurd (false≢true is)
who_is Session c is = absurd (false≢true is)

-- ---- a run

-- the entries of a port, from its opening terminal, for the calls of a session and in its phases
pub record Journey (p : ℕ) (session : PlainSession) (first last : Terminal) (journal : List PlainEntry) : Type 0 where
  pub leads : Leads (call_at p session) (counts_on p session) first journal last
  pub phases : AreInPhases p session first.phase journal

module _ (p : ℕ) (session : PlainSession) (first last : Terminal) (journal : List PlainEntry)
    (h : Journey p session first last journal) where
  abbrev calls : ℕ → ℕ → Option PlainCall
  calls = call_at p session

  abbrev at : ℕ → Terminal
  at n = terminal_after calls first (take n journal)

  halves : (n : ℕ) → Leads calls (counts_on p session) first (take n journal ++ drop n journal) last
  halves n = subst (λ (es : List PlainEntry). Leads calls (counts_on p session) first es last)
      (sym (take-append-drop n journal)) h.leads

  pub to_here : (n : ℕ) → Leads calls (counts_on p session) first (take n journal) (at n)
  to_here n = leads_first calls (counts_on p session) first last (take n journal) (drop n journal) (halves n)

  pub allowed_at : (n : ℕ) (e : PlainEntry)
      → slice_get journal n ≡ Some e
      → Allowed calls (counts_on p session) (at n) e
  allowed_at n e is =
      let rest = leads_rest calls (counts_on p session) first last (take n journal) (drop n journal) (halves n) in
      (subst (λ (es : List PlainEntry). Leads calls (counts_on p session) (at n) es last) (drop_one n journal e is)
      rest).0

  pub phase_at_place : (n : ℕ) → phase_from first.phase (take n journal) ≡ (at n).phase
  phase_at_place n = leads_phase calls (counts_on p session) first (take n journal) (at n) (to_here n)

  pub in_phase_at : (n : ℕ) (e : PlainEntry)
      → slice_get journal n ≡ Some e
      → IsInPhase p session (at n).phase e.who e.step e.event
  in_phase_at n e is =
      let all = subst (λ (es : List PlainEntry). AreInPhases p session first.phase es)
      (sym (take-append-drop n journal)) h.phases in
      let rest = phases_rest p session first.phase (take n journal) (drop n journal) all in
      subst (λ (k : ℕ). IsInPhase p session k e.who e.step e.event) (phase_at_place n)
      (subst (λ (es : List PlainEntry). AreInPhases p session (phase_from first.phase (take n journal)) es)
      (drop_one n journal e is) rest).0

  pub after_at : (n : ℕ) (e : PlainEntry) → slice_get journal n ≡ Some e → at (n + 1) ≡ after calls (at n) e
  after_at n e is =
      ap (λ (es : List PlainEntry). terminal_after calls first es) (take_one n journal e is)
      ∙ after_both calls first (take n journal) (e ∷ [])

  leads_between : (n m : ℕ)
      → n ≤ m
      → Leads calls (counts_on p session) (at n) (between n m journal) (at m)
  leads_between n m le =
      leads_rest calls (counts_on p session) first (at m) (take n journal) (between n m journal)
      (subst (λ (es : List PlainEntry). Leads calls (counts_on p session) first es (at m)) (take_on n m journal le)
      (to_here m))

  stands_at : (n m c : ℕ)
      → n ≤ m
      → standing_of (caller_at (at m) c) ≡ standing_in c (between n m journal) (standing_of (caller_at (at n) c))
  stands_at n m c le =
      leads_stands calls (counts_on p session) (at n) (between n m journal) (at m) (leads_between n m le) c

  pub next_at : (n m c : ℕ)
      → n ≤ m
      → (caller_at (at m) c).next ≡ (caller_at (at n) c).next + answers_in c (between n m journal)
  next_at n m c le =
      ap (λ (q : Standing). q.next) (stands_at n m c le)
      ∙ next_in c (between n m journal) (standing_of (caller_at (at n) c))

  pub begun_later : (n m c : ℕ)
      → n ≤ m
      → answers_in c (between n m journal) ≡ 0
      → has_begun (caller_at (at n) c) ≡ true
      → has_begun (caller_at (at m) c) ≡ true
  begun_later n m c le none begun =
      ap (λ (q : Standing). q.begun) (stands_at n m c le)
      ∙ begun_in c (between n m journal) (standing_of (caller_at (at n) c)) none begun

  pub over_later : (n m c : ℕ)
      → n ≤ m
      → (at m).phase ≡ (at n).phase
      → (caller_at (at n) c).over ≡ true
      → (caller_at (at m) c).over ≡ true
  over_later n m c le same over =
      ap (λ (q : Standing). q.over) (stands_at n m c le)
      ∙ over_stays c (at n).phase (between n m journal) (standing_of (caller_at (at n) c))
      (leads_phase calls (counts_on p session) (at n) (between n m journal) (at m) (leads_between n m le) ∙ same) over

  -- phases come one after the other
  pub phase_later : (n m : ℕ) → n ≤ m → (at n).phase ≤ (at m).phase
  phase_later n m le =
      let moves = leads_phase calls (counts_on p session) (at n) (between n m journal) (at m) (leads_between n m le) in
      let up = from_grows (at n).phase (between n m journal) in
      omega (arith, moves, up)

  -- an entry of a caller's call is of its next step; and it is not over then
  pub entry_step : (n c : ℕ) (e : PlainEntry)
      → slice_get journal n ≡ Some e
      → e.who ≡ Caller c
      → is_of_call e.event ≡ true
      → (e.step ≡ (caller_at (at n) c).next) × ((caller_at (at n) c).over ≡ false)
  entry_step n c e is who of_call =
      call_step calls (counts_on p session) (at n) c e.step e.part e.event
      (subst (λ (w : Who). IsAllowed calls (counts_on p session) (at n) w e.step e.part e.event) who
      (allowed_at n e is).1) of_call

  -- no entry before is of the step of a call that has not begun
  pub none_before : (n c i : ℕ) (e : PlainEntry)
      → has_begun (caller_at (at n) c) ≡ false
      → i < n
      → slice_get journal i ≡ Some e
      → e.who ≡ Caller c
      → is_of_call e.event ≡ true
      → e.step ≡ (caller_at (at n) c).next
      → ⊥
  none_before n c i e rest lt is who of_call same =
      let step = (entry_step i c e is who of_call).0 in
      let q = standing_of (caller_at (at i) c) in
      let own : is_caller e.who c ≡ true = ap (λ (w : Who). is_caller w c) who ∙ eq-eqb c c refl in
      let next : Standing = standing_after c e q in
      let here : HasCome e.step next =
      subst (λ (b : Bool).
      HasCome e.step (if b then standing_after_own e.event e.generation q else standing_after_other e.event q))
      (sym own)
      (comes_by e.event e.generation e.step q of_call step) in
      let stands : standing_of (caller_at (at (i + 1)) c) ≡ next =
      ap (λ (t : Terminal). standing_of (caller_at t c)) (after_at i e is)
      ∙ step_stands calls (counts_on p session) (at i) e (allowed_at i e is) c in
      let later : HasCome e.step (standing_of (caller_at (at n) c)) =
      subst (λ (x : Standing). HasCome e.step x) (sym (stands_at (i + 1) n c (omega (arith, lt))))
      (come_in c e.step (between (i + 1) n journal) (standing_of (caller_at (at (i + 1)) c))
      (subst (λ (x : Standing). HasCome e.step x) (sym stands) here)) in
      elim later [
        | inl below ↦ absurd (omega (arith, below, same))
        | inr both ↦ absurd (false≢true (sym rest ∙ both.1))
      ]

  -- behind an entry of a call that is no answer it has begun
  pub begins_at : (n c : ℕ) (e : PlainEntry)
      → slice_get journal n ≡ Some e
      → e.who ≡ Caller c
      → is_of_call e.event ≡ true
      → answer_count e.event ≡ 0
      → has_begun (caller_at (at (n + 1)) c) ≡ true
  begins_at n c e is who of_call none =
      let q = standing_of (caller_at (at n) c) in
      let own : is_caller e.who c ≡ true = ap (λ (w : Who). is_caller w c) who ∙ eq-eqb c c refl in
      ap (λ (t : Terminal). has_begun (caller_at t c)) (after_at n e is)
      ∙ (ap (λ (x : Standing). x.begun) (step_stands calls (counts_on p session) (at n) e (allowed_at n e is) c)
      ∙ (ap (λ (b : Bool).
      (if b then standing_after_own e.event e.generation q else standing_after_other e.event q).begun) own
      ∙ begins_own e.event e.generation q of_call none))

  -- .. and behind the end of a caller's calls they are over
  pub ends_at : (n c : ℕ) (e : PlainEntry)
      → slice_get journal n ≡ Some e
      → e.who ≡ Caller c
      → e.event ≡ caller_ended
      → (caller_at (at (n + 1)) c).over ≡ true
  ends_at n c e is who event =
      let q = standing_of (caller_at (at n) c) in
      let own : is_caller e.who c ≡ true = ap (λ (w : Who). is_caller w c) who ∙ eq-eqb c c refl in
      ap (λ (t : Terminal). (caller_at t c).over) (after_at n e is)
      ∙ (ap (λ (x : Standing). x.over) (step_stands calls (counts_on p session) (at n) e (allowed_at n e is) c)
      ∙ (ap (λ (b : Bool).
      (if b then standing_after_own e.event e.generation q else standing_after_other e.event q).over) own
      ∙ ap (λ (x : PlainEvent). (standing_after_own x e.generation q).over) event))

  -- the phase goes on behind an entry that ends none
  pub phase_behind : (n : ℕ) (e : PlainEntry)
      → slice_get journal n ≡ Some e
      → phase_after e.event (at n).phase ≡ (at n).phase
      → (at (n + 1)).phase ≡ (at n).phase
  phase_behind n e is same =
      ap (λ (t : Terminal). t.phase) (after_at n e is)
      ∙ (phase-after calls (counts_on p session) (at n) e (allowed_at n e is) ∙ same)

-- from its opening on a caller's next step is the number of its answers
pub next_counts : (p : ℕ) (session : PlainSession) (last : Terminal) (journal : List PlainEntry) (n c : ℕ)
    → Journey p session (opening (sum (counts_on p session)) (flip_on p session)) last journal
    → (caller_at (terminal_after (call_at p session) (opening (sum (counts_on p session)) (flip_on p session))
    (take n journal)) c).next ≡ answers_in c (take n journal)
next_counts p session last journal n c h =
    let first = opening (sum (counts_on p session)) (flip_on p session) in
    let at = terminal_after (call_at p session) first (take n journal) in
    let stands = run_stands (call_at p session) (counts_on p session) (flip_on p session) (take n journal) at
    (to_here p session first last journal h n) c in
    let counts = next_in c (take n journal) at_first in
    ap (λ (q : Standing). q.next) stands
    ∙ (let e : (standing_in c (take n journal) at_first).next
    ≡ answers_in c (take n journal) = omega (arith, counts) in e)
