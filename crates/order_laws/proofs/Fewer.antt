-- How many calls a caller has in a session whose calls were passed down: at most as many as were passed; and no more
-- are answered.
use Rattle.std.proofs.Common.{◌≡◌, ◌≤◌, ◌<◌, inl, inr, ℕ, zero, suc, ◌+◌, ◌==◌, Bool, true, false, List, [], ◌∷◌}
use Rattle.std.proofs.Common.{◌++◌, Option, None, Some, length, take, drop, if◌then◌else◌, refl, sym, ap, ◌∙◌}
use Rattle.std.proofs.Common.{subst}
use Rattle.std.proofs.Common.{arith, length-append, append_assoc}
use Rattle.std.specs.Prelude.{slice_index_or}
use Rattle.std.proofs.lemmas.Bool.{cases_lt, cases_eq, ne_eqb}
use Rattle.std.proofs.lemmas.List.{take-take}
use Rattle.tty_calls.specs.declared.journals.Who.{Who}
use Rattle.tty_calls.specs.declared.journals.Who.TheVariants.{Caller}
use Rattle.tty_calls.specs.Plain.{PlainCall, PlainEvent, answered, parted, waited, flushed, ticked}
use Rattle.tty_calls.specs.Plain.{line_ended, clock_ended, caller_ended, phase_ended, hung_up, PlainEntry, is_caller}
use Rattle.tty_calls.specs.Sessions.{PlainScript, PlainPhase, PlainSession, scripts_on, scripts_over, calls_of, call_at}
use Rattle.tty_calls.specs.Sessions.{counts_on}
use Rattle.tty_terminal.specs.Terminals.{Terminal, caller_at}
use Rattle.tty_terminal.specs.Standing.{Standing, standing_of}
use Rattle.tty_terminal.specs.Steps.{IsAllowed, Allowed, after}
use Rattle.tty_terminal.specs.Runs.{Leads}
use Rattle.tty_terminal.proofs.StandingLaws.{step_stands}
use Rattle.legal_runs.specs.Legal.{name_at, first_step, steps_in, IsInPhase, AreInPhases}
use Rattle.legal_runs.proofs.NameLemmas.{calls_append, first_next}
use Rattle.legal_runs.proofs.PhaseLemmas.{phase-after}
use Rattle.passed_calls.specs.Derived.{Passing, BlockPhase, by_caller, all_calls, calls_at, calls_for}
use Rattle.order_laws.specs.Passed.{begin_of, IsPassedBy}
use Rattle.order_laws.proofs.Counted.{first_is}
use Rattle.order_laws.proofs.Journeys.{answer_count, answers_of, either_next, who_is, one_for}

-- ---- what was passed for steps

for_one : (b : Bool) (calls : List PlainCall) → length (if b then calls else []) ≤ length calls
for_one true calls = omega arith
for_one false calls = omega arith

-- a passing counts once
counts_past : (m : Passing) (ms : List Passing) (first n : ℕ)
    → m.step < first
    → length (calls_for (m ∷ ms) first n) ≤ length (calls_for ms first n)
counts_past m ms first zero lt = omega arith
counts_past m ms first (suc n) lt =
    let ne : m.step ≡ first → ⊥ = λ e. omega (arith, lt, e) in
    let other : (m.step == first) ≡ false = ne_eqb m.step first ne in
    let none : length (if m.step == first then m.calls else []) ≡ 0 =
    ap (λ (b : Bool). length (if b then m.calls else [])) other in
    let here = length-append (if m.step == first then m.calls else []) (calls_at ms first) in
    let more = length-append (calls_at (m ∷ ms) first) (calls_for (m ∷ ms) (first + 1) n) in
    let less = length-append (calls_at ms first) (calls_for ms (first + 1) n) in
    let rest = counts_past m ms (first + 1) n (omega (arith, lt)) in
    omega (arith, none, here, more, less, rest)

counts_once : (m : Passing) (ms : List Passing) (first n : ℕ)
    → length (calls_for (m ∷ ms) first n) ≤ length m.calls + length (calls_for ms first n)
counts_once m ms first zero = omega arith
counts_once m ms first (suc n) =
    let here = length-append (if m.step == first then m.calls else []) (calls_at ms first) in
    let more = length-append (calls_at (m ∷ ms) first) (calls_for (m ∷ ms) (first + 1) n) in
    let less = length-append (calls_at ms first) (calls_for ms (first + 1) n) in
    elim (cases_eq m.step first) [
      | inl same ↦
          let few = for_one (m.step == first) m.calls in
          let rest = counts_past m ms (first + 1) n (omega (arith, same)) in
          omega (arith, few, here, more, less, rest)
      | inr ne ↦
          let none : length (if m.step == first then m.calls else []) ≡ 0 =
          ap (λ (b : Bool). length (if b then m.calls else [])) (ne_eqb m.step first ne) in
          let rest = counts_once m ms (first + 1) n in
          omega (arith, none, here, more, less, rest)
    ]

none_for : (first n : ℕ) → length (calls_for [] first n) ≡ 0
none_for first zero = refl
none_for first (suc n) = none_for (first + 1) n

few_for : (ms : List Passing) (first n : ℕ) → length (calls_for ms first n) ≤ length (all_calls ms)
few_for [] first n = (let none = none_for first n in omega (arith, none))
few_for (m ∷ ms) first n =
    let one = counts_once m ms first n in
    let rest = few_for ms first n in
    let both = length-append m.calls (all_calls ms) in
    omega (arith, one, rest, both)

-- ---- what was passed by a caller

abbrev count_if : Bool → ℕ
count_if b = if b then 1 else 0

pub by_one : (c : ℕ) (m : Passing) (ms : List Passing)
    → length m.calls ≤ 1
    → length (all_calls (by_caller c (m ∷ ms))) ≤ one_for c m.caller + length (all_calls (by_caller c ms))
by_one c m ms one = by_test (m.caller == c) refl
  where
    by_test : (b : Bool)
        → (m.caller == c) ≡ b
        → length (all_calls (by_caller c (m ∷ ms))) ≤ one_for c m.caller + length (all_calls (by_caller c ms))
    by_test true is =
        (let both = ap (λ (x : Bool). length (all_calls (if x then m ∷ by_caller c ms else by_caller c ms))) is in
        let here : one_for c m.caller ≡ 1 = ap (λ (x : Bool). count_if x) is in
        let parts = length-append m.calls (all_calls (by_caller c ms)) in
        omega (arith, both, here, parts, one))
    by_test false is =
        (let both = ap (λ (x : Bool). length (all_calls (if x then m ∷ by_caller c ms else by_caller c ms))) is in
        let here : one_for c m.caller ≡ 0 = ap (λ (x : Bool). count_if x) is in
        omega (arith, both, here))

-- ---- the steps of a caller in the session

over_parts : (p : ℕ) (phases : List PlainPhase) (k : ℕ)
    → scripts_over p phases ≡ scripts_over p (take k phases) ++ scripts_over p (drop k phases)
over_parts p phases zero = refl
over_parts p [] (suc k) = refl
over_parts p (x ∷ xs) (suc k) =
    ap (λ (ss : List PlainScript). scripts_on p x ++ ss) (over_parts p xs k)
    ∙ sym (append_assoc (scripts_on p x) (scripts_over p (take k xs)) (scripts_over p (drop k xs)))

-- of later phases no fewer come before
pub first_rises : (p : ℕ) (session : PlainSession) (j k c : ℕ)
    → j ≤ k
    → first_step p session j c ≤ first_step p session k c
first_rises p session j k c le =
    let name = name_at p session c in
    let front = take k session.phases in
    let parts : scripts_over p front ≡ scripts_over p (take j session.phases) ++ scripts_over p (drop j front) =
    over_parts p front j
    ∙ ap (λ (ps : List PlainPhase). scripts_over p ps ++ scripts_over p (drop j front))
    (take-take j k session.phases le) in
    let all = ap (λ (ss : List PlainScript). length (calls_of ss name)) parts in
    let both = ap (λ (cs : List PlainCall). length cs)
    (calls_append (scripts_over p (take j session.phases)) (scripts_over p (drop j front)) name) in
    let sum = length-append (calls_of (scripts_over p (take j session.phases)) name)
    (calls_of (scripts_over p (drop j front)) name) in
    omega (arith, all, both, sum)

past_get : (phases : List PlainPhase) (k : ℕ) (d : PlainPhase) → length phases ≤ k → slice_index_or phases k d ≡ d
past_get [] k d le = refl
past_get (x ∷ xs) zero d le = absurd (omega (arith, le))
past_get (x ∷ xs) (suc k) d le = past_get xs k d (omega (arith, le))

no_calls : (name : Option (List ℕ)) → length (calls_of [] name) ≡ 0
no_calls None = refl
no_calls (Some name) = refl

no_steps : (p : ℕ) (session : PlainSession) (k c : ℕ) → length session.phases ≤ k → steps_in p session k c ≡ 0
no_steps p session k c le =
    ap (λ (phase : PlainPhase). length (calls_of (scripts_on p phase) (name_at p session c)))
    (past_get session.phases k (record { lines = []; ticks = []; callers = [] }) le)
    ∙ no_calls (name_at p session c)

-- what comes by the end of a phase comes before the next
pub by_next : (p : ℕ) (session : PlainSession) (k c : ℕ)
    → first_step p session k c + steps_in p session k c ≤ first_step p session (k + 1) c
by_next p session k c = elim (cases_lt k (length session.phases)) [
  | inl lt ↦ (let same = first_next p session k c lt in omega (arith, same))
  | inr le ↦
      (let none = no_steps p session k c le in
      let rise = first_rises p session k (k + 1) c (omega arith) in
      omega (arith, none, rise))
]

-- no more than were logged
pub few_steps : (p : ℕ) (phases : List BlockPhase) (mine : ℕ → List Passing) (session : PlainSession) (k c : ℕ)
    → IsPassedBy p phases mine session
    → first_step p session k c + steps_in p session k c ≤ length (all_calls (mine c))
few_steps p phases mine session k c h =
    let next = by_next p session k c in
    let first = first_is p phases mine session (k + 1) c h in
    let few = few_for (mine c) 0 (begin_of p phases (k + 1) c) in
    omega (arith, next, first, few)

-- ---- no more are answered

answer_below : (p : ℕ) (session : PlainSession) (t : Terminal) (c step part bound : ℕ) (event : PlainEvent)
    → IsAllowed (call_at p session) (counts_on p session) t (Caller c) step part event
    → IsInPhase p session t.phase (Caller c) step event
    → first_step p session t.phase c + steps_in p session t.phase c ≤ bound
    → (caller_at t c).next ≤ bound
    → (caller_at t c).next + answer_count event ≤ bound
answer_below p session t c step part bound (answered a dropped) h phase few low =
    (let at = h.next.at_step in let below = (phase.1 refl).1 in omega (arith, at, below, few))
answer_below p session t c step part bound (parted n) h phase few low = omega (arith, low)
answer_below p session t c step part bound waited h phase few low = omega (arith, low)
answer_below p session t c step part bound (flushed chars) h phase few low = omega (arith, low)
answer_below p session t c step part bound ticked h phase few low = omega (arith, low)
answer_below p session t c step part bound (line_ended n) h phase few low = omega (arith, low)
answer_below p session t c step part bound clock_ended h phase few low = omega (arith, low)
answer_below p session t c step part bound caller_ended h phase few low = omega (arith, low)
answer_below p session t c step part bound phase_ended h phase few low = omega (arith, low)
answer_below p session t c step part bound (hung_up dropped) h phase few low = omega (arith, low)

step_below : (p : ℕ) (session : PlainSession) (t : Terminal) (e : PlainEntry) (c bound : ℕ)
    → Allowed (call_at p session) (counts_on p session) t e
    → IsInPhase p session t.phase e.who e.step e.event
    → first_step p session t.phase c + steps_in p session t.phase c ≤ bound
    → (caller_at t c).next ≤ bound
    → (caller_at t c).next + answers_of c e ≤ bound
step_below p session t e c bound h phase few low = by_test (is_caller e.who c) refl
  where
    by_test : (b : Bool) → is_caller e.who c ≡ b → (caller_at t c).next + answers_of c e ≤ bound
    by_test false is =
        (let none = ap (λ (b : Bool). if b then answer_count e.event else 0) is in omega (arith, low, none))
    by_test true is =
        (let who = who_is e.who c is in
        let one = ap (λ (b : Bool). if b then answer_count e.event else 0) is in
        let below = answer_below p session t c e.step e.part bound e.event
        (subst (λ (w : Who). IsAllowed (call_at p session) (counts_on p session) t w e.step e.part e.event) who h.1)
        (subst (λ (w : Who). IsInPhase p session t.phase w e.step e.event) who phase) few low in
        omega (arith, below, one))

pub next_below : (p : ℕ) (session : PlainSession) (t u : Terminal) (es : List PlainEntry) (c bound : ℕ)
    → Leads (call_at p session) (counts_on p session) t es u
    → AreInPhases p session t.phase es
    → ((k : ℕ) → first_step p session k c + steps_in p session k c ≤ bound)
    → (caller_at t c).next ≤ bound
    → (caller_at u c).next ≤ bound
next_below p session t u [] c bound h phases few low =
    subst (λ (x : Terminal). (caller_at x c).next ≤ bound) (sym h) low
next_below p session t u (e ∷ es) c bound h phases few low =
    let f = call_at p session in
    let stands = ap (λ (q : Standing). q.next) (step_stands f (counts_on p session) t e h.0 c) in
    let counts = either_next (is_caller e.who c) e (standing_of (caller_at t c)) in
    let here = step_below p session t e c bound h.0 phases.0 (few t.phase) low in
    let moves = phase-after f (counts_on p session) t e h.0 in
    next_below p session (after f t e) u es c bound h.1
    (subst (λ (k : ℕ). AreInPhases p session k es) (sym moves) phases.1) few (omega (arith, stands, counts, here))
