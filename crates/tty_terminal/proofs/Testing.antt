-- Journals that are runs by computation: the tests of each entry, and what they show.
use Rattle.std.proofs.Common.{◌≡◌, ℕ, ◌+◌, ◌-◌, ◌<◌, ◌≤◌, List, [], ◌∷◌, Bool, true, false, IsTrue, not, ◌&&◌}
use Rattle.std.proofs.Common.{◌==◌, nat_lt, nat_le, Option, None, Some, is_some, length, refl, sym, arith}
use Rattle.std.proofs.lemmas.Bool.{and_parts, eqb-true, false≢true}
use Rattle.std.proofs.lemmas.Bool.Decides.{nat_tests}
use Rattle.tty_base.specs.Sizes.{PIECE}
use Rattle.tty_base.specs.declared.characters.Flagged.{Flagged}
use Rattle.tty_calls.specs.declared.journals.Who.{Who}
use Rattle.tty_calls.specs.declared.journals.Who.TheVariants.{Caller, Flusher, Line, Clock, Session}
use Rattle.tty_calls.specs.Plain.{PlainCall, PlainEvent, answered, parted, waited, flushed, ticked}
use Rattle.tty_calls.specs.Plain.{line_ended, clock_ended, caller_ended, phase_ended, hung_up, PlainEntry}
use Rattle.tty_terminal.specs.Terminals.{Terminal, caller_at, has_begun, live_count}
use Rattle.tty_terminal.specs.Receiving.{accepts, after_character, AcceptsAll}
use Rattle.tty_terminal.specs.Outcomes.{Outcome, unknown, waits, takes, gives}
use Rattle.tty_terminal.specs.Calls.{outcome_of}
use Rattle.tty_terminal.specs.Steps.{quiet, may_end, Answers, DropsAt, Drops, MustWait, TakesPart, IsNext, IsAnswer}
use Rattle.tty_terminal.specs.Steps.{IsPart, IsWait, follows, IsFlush, IsTick, IsCallerEnd, ByCaller, IsAllowed, after}
use Rattle.tty_terminal.specs.Runs.{Leads}

-- every test of a list holds
abbrev all_true : List Bool → Bool
all_true [] = true
all_true (b ∷ bs) = b && all_true bs

abbrev AllTrue : List Bool → Type 0
AllTrue [] = Unit {0}
AllTrue (b ∷ bs) = (b ≡ true) × AllTrue bs

all_shown : (bs : List Bool) → all_true bs ≡ true → AllTrue bs
all_shown [] h = tt
all_shown (b ∷ bs) h = let p = and_parts b (all_true bs) h in (p.0, all_shown bs p.1)

abbrev next_tests : Terminal → (c step part : ℕ) → List Bool
next_tests t c step part =
    nat_lt c (length t.callers) ∷ (step == (caller_at t c).next) ∷ (part == (caller_at t c).parts)
    ∷ not (caller_at t c).over ∷ []

abbrev implies : Bool → Bool → Bool
implies true b = b
implies false b = true

abbrev drop_tests : Terminal → ℕ → List Bool
drop_tests t n = nat_le (t.sent - t.taken) n ∷ nat_le n t.capacity ∷ implies t.line_over (n == t.sent - t.taken) ∷ []

abbrev drops_at : Terminal → Bool → ℕ → Bool
drops_at t false n = n == 0
drops_at t true n = all_true (drop_tests t n)

abbrev drops_by : Terminal → Outcome → ℕ → Bool
drops_by t unknown n = n == 0
drops_by t waits n = n == 0
drops_by t (takes taken left) n = n == 0
drops_by t (gives answer drops left) n = drops_at t drops n

abbrev is_wait : Outcome → Bool
is_wait unknown = false
is_wait waits = true
is_wait (takes taken left) = false
is_wait (gives answer drops left) = false

abbrev is_part : Outcome → ℕ → Bool
is_part unknown n = false
is_part waits n = false
is_part (takes taken left) n = n == taken
is_part (gives answer drops left) n = false

abbrev accepts_all : Terminal → List Flagged → Bool
accepts_all t [] = true
accepts_all t (c ∷ cs) = accepts t && accepts_all (after_character t c) cs

abbrev flush_tests : Terminal → (run part : ℕ) → List Flagged → List Bool
flush_tests t run part chars =
    nat_lt 0 (live_count t) ∷ nat_lt 0 (length chars) ∷ nat_le (length chars) PIECE ∷ accepts_all t chars
    ∷ follows t.flushed run part
    ∷ implies t.line_over (nat_le (t.taken + length chars) t.sent) ∷ []

abbrev by_test : Who → (ℕ → Bool) → Bool
by_test (Caller c) test = test c
by_test Flusher test = false
by_test Line test = false
by_test Clock test = false
by_test Session test = false

abbrev is_flusher : Who → Bool
is_flusher (Caller c) = false
is_flusher Flusher = true
is_flusher Line = false
is_flusher Clock = false
is_flusher Session = false

abbrev is_line : Who → Bool
is_line (Caller c) = false
is_line Flusher = false
is_line Line = true
is_line Clock = false
is_line Session = false

abbrev is_clock : Who → Bool
is_clock (Caller c) = false
is_clock Flusher = false
is_clock Line = false
is_clock Clock = true
is_clock Session = false

abbrev is_session : Who → Bool
is_session (Caller c) = false
is_session Flusher = false
is_session Line = false
is_session Clock = false
is_session Session = true

abbrev answer_tests : (ℕ → ℕ → Option PlainCall) → Terminal → (step part n : ℕ) → ℕ → List Bool
answer_tests calls t step part n c =
    all_true (next_tests t c step part) ∷ drops_by t (outcome_of t (caller_at t c) (calls c step)) n ∷ []

abbrev part_tests : (ℕ → ℕ → Option PlainCall) → Terminal → (step part n : ℕ) → ℕ → List Bool
part_tests calls t step part n c =
    all_true (next_tests t c step part) ∷ is_part (outcome_of t (caller_at t c) (calls c step)) n ∷ []

abbrev wait_tests : (ℕ → ℕ → Option PlainCall) → Terminal → (step part : ℕ) → ℕ → List Bool
wait_tests calls t step part c =
    all_true (next_tests t c step part) ∷ not (is_some (caller_at t c).waits)
    ∷ is_wait (outcome_of t (caller_at t c) (calls c step)) ∷ []

abbrev end_tests : Terminal → (step part : ℕ) → ℕ → List Bool
end_tests t step part c =
    nat_lt c (length t.callers) ∷ (step == (caller_at t c).next) ∷ (part == 0) ∷ not (caller_at t c).over
    ∷ not (has_begun (caller_at t c)) ∷ []

abbrev tick_tests : Terminal → Who → (step part : ℕ) → List Bool
tick_tests t who step part = is_clock who ∷ (step == t.phase) ∷ (part == 0) ∷ not t.clock_over ∷ []

abbrev line_tests : Terminal → Who → (step part n : ℕ) → List Bool
line_tests t who step part n =
    is_line who ∷ (step == t.phase) ∷ (part == 0) ∷ not t.line_over ∷ nat_le t.taken n ∷ nat_le t.sent n
    ∷ nat_le n (t.taken + t.capacity) ∷ []

abbrev phase_tests : List ℕ → Terminal → Who → (step part : ℕ) → List Bool
phase_tests counts t who step part = is_session who ∷ (step == t.phase) ∷ (part == 0) ∷ may_end counts t ∷ []

abbrev hangup_tests : List ℕ → Terminal → Who → (step part n : ℕ) → List Bool
hangup_tests counts t who step part n =
    is_session who ∷ nat_le (length counts) t.phase ∷ (step == length counts) ∷ (part == 0) ∷ (n == t.sent - t.taken)
    ∷ []

-- all that an entry needs but its answer
abbrev passes : (ℕ → ℕ → Option PlainCall) → List ℕ → Terminal → Who → ℕ → ℕ → PlainEvent → Bool
passes calls counts t who step part (answered a dropped) =
    by_test who (λ c. all_true (answer_tests calls t step part (length dropped) c))
passes calls counts t who step part (parted taken) = by_test who (λ c. all_true (part_tests calls t step part taken c))
passes calls counts t who step part waited = by_test who (λ c. all_true (wait_tests calls t step part c))
passes calls counts t who step part (flushed chars) = all_true (is_flusher who ∷ flush_tests t step part chars)
passes calls counts t who step part ticked = all_true (tick_tests t who step part)
passes calls counts t who step part (line_ended n) = all_true (line_tests t who step part n)
passes calls counts t who step part clock_ended = all_true (tick_tests t who step part)
passes calls counts t who step part caller_ended = by_test who (λ c. all_true (end_tests t step part c))
passes calls counts t who step part phase_ended = all_true (phase_tests counts t who step part)
passes calls counts t who step part (hung_up dropped) = all_true (hangup_tests counts t who step part (length dropped))

-- the answer, where the entry is one
abbrev AnswersAt : (ℕ → ℕ → Option PlainCall) → List ℕ → Terminal → Who → ℕ → PlainEvent → Type 0
AnswersAt calls counts t who step (answered a dropped) =
    ByCaller who
    (λ c. Answers (is_some (caller_at t c).waits && quiet counts t) (outcome_of t (caller_at t c) (calls c step)) a)
AnswersAt calls counts t who step (parted taken) = Unit {0}
AnswersAt calls counts t who step waited = Unit {0}
AnswersAt calls counts t who step (flushed chars) = Unit {0}
AnswersAt calls counts t who step ticked = Unit {0}
AnswersAt calls counts t who step (line_ended n) = Unit {0}
AnswersAt calls counts t who step clock_ended = Unit {0}
AnswersAt calls counts t who step caller_ended = Unit {0}
AnswersAt calls counts t who step phase_ended = Unit {0}
AnswersAt calls counts t who step (hung_up dropped) = Unit {0}

abbrev pub Passes : (ℕ → ℕ → Option PlainCall) → List ℕ → Terminal → PlainEntry → Type 0
Passes calls counts t e =
    (((e.generation == t.generation) && passes calls counts t e.who e.step e.part e.event) ≡ true)
    × AnswersAt calls counts t e.who e.step e.event

abbrev pub PassesAll : (ℕ → ℕ → Option PlainCall) → List ℕ → Terminal → List PlainEntry → Type 0
PassesAll calls counts t [] = Unit {0}
PassesAll calls counts t (e ∷ es) = Passes calls counts t e × PassesAll calls counts (after calls t e) es

-- where the entries lead
abbrev pub end_of : (ℕ → ℕ → Option PlainCall) → Terminal → List PlainEntry → Terminal
end_of calls t [] = t
end_of calls t (e ∷ es) = end_of calls (after calls t e) es

-- ---- what the tests show

below : (a b : ℕ) → nat_lt a b ≡ true → a < b
below a b h = grind (arith, nat_tests)

most : (a b : ℕ) → nat_le a b ≡ true → a ≤ b
most a b h = grind (arith, nat_tests)

not_true : (b : Bool) → not b ≡ true → b ≡ false
not_true true h = sym h
not_true false h = refl

implied : (a b : Bool) → implies a b ≡ true → IsTrue a → b ≡ true
implied true b h e = h
implied false b h e = absurd (false≢true e)

no_wait : (o : Option ℕ) → not (is_some o) ≡ true → o ≡ None
no_wait None h = refl
no_wait (Some n) h = absurd (false≢true h)

next_shown : (t : Terminal) (c step part : ℕ) → all_true (next_tests t c step part) ≡ true → IsNext t c step part
next_shown t c step part h =
    let a = all_shown (next_tests t c step part) h in
    record {
      known = below _ _ a.0;
      at_step = eqb-true _ _ a.1.0;
      at_part = eqb-true _ _ a.1.1.0;
      not_over = not_true _ a.1.1.1.0;
    }

drops_at_shown : (t : Terminal) (drops : Bool) (n : ℕ) → drops_at t drops n ≡ true → DropsAt t drops n
drops_at_shown t false n h = eqb-true n 0 h
drops_at_shown t true n h =
    let a = all_shown (drop_tests t n) h in
    (most _ _ a.0, most _ _ a.1.0, λ over. eqb-true _ _ (implied t.line_over (n == t.sent - t.taken) a.1.1.0 over))

drops_shown : (t : Terminal) (o : Outcome) (n : ℕ) → drops_by t o n ≡ true → Drops t o n
drops_shown t unknown n h = eqb-true n 0 h
drops_shown t waits n h = eqb-true n 0 h
drops_shown t (takes taken left) n h = eqb-true n 0 h
drops_shown t (gives answer drops left) n h = drops_at_shown t drops n h

wait_shown : (o : Outcome) → is_wait o ≡ true → MustWait o
wait_shown unknown h = absurd (false≢true h)
wait_shown waits h = tt
wait_shown (takes taken left) h = absurd (false≢true h)
wait_shown (gives answer drops left) h = absurd (false≢true h)

part_shown : (o : Outcome) (n : ℕ) → is_part o n ≡ true → TakesPart o n
part_shown unknown n h = absurd (false≢true h)
part_shown waits n h = absurd (false≢true h)
part_shown (takes taken left) n h = eqb-true n taken h
part_shown (gives answer drops left) n h = absurd (false≢true h)

accepts_shown : (t : Terminal) (cs : List Flagged) → accepts_all t cs ≡ true → AcceptsAll t cs
accepts_shown t [] h = tt
accepts_shown t (c ∷ cs) h =
    let a = and_parts (accepts t) (accepts_all (after_character t c) cs) h in
    (a.0, accepts_shown (after_character t c) cs a.1)

flush_shown : (t : Terminal) (run part : ℕ) (chars : List Flagged)
    → AllTrue (flush_tests t run part chars)
    → IsFlush t run part chars
flush_shown t run part chars a =
    record {
      live = below _ _ a.0;
      some = below _ _ a.1.0;
      few = most _ _ a.1.1.0;
      accepted = accepts_shown t chars a.1.1.1.0;
      numbered = a.1.1.1.1.0;
      sent = λ over. most _ _ (implied t.line_over (nat_le (t.taken + length chars) t.sent) a.1.1.1.1.1.0 over);
    }

by_shown : (who : Who) (test : ℕ → Bool) (A P : ℕ → Type 0)
    → ((c : ℕ) → test c ≡ true → A c → P c)
    → by_test who test ≡ true
    → ByCaller who A
    → ByCaller who P
by_shown (Caller c) test A P each h a = each c h a
by_shown Flusher test A P each h a = absurd (false≢true h)
by_shown Line test A P each h a = absurd (false≢true h)
by_shown Clock test A P each h a = absurd (false≢true h)
by_shown Session test A P each h a = absurd (false≢true h)

by_alone : (who : Who) (test : ℕ → Bool) (P : ℕ → Type 0)
    → ((c : ℕ) → test c ≡ true → P c)
    → by_test who test ≡ true
    → ByCaller who P
by_alone (Caller c) test P each h = each c h
by_alone Flusher test P each h = absurd (false≢true h)
by_alone Line test P each h = absurd (false≢true h)
by_alone Clock test P each h = absurd (false≢true h)
by_alone Session test P each h = absurd (false≢true h)

flusher_shown : (who : Who) → is_flusher who ≡ true → who ≡ Flusher
flusher_shown (Caller c) h = absurd (false≢true h)
flusher_shown Flusher h = refl
flusher_shown Line h = absurd (false≢true h)
flusher_shown Clock h = absurd (false≢true h)
flusher_shown Session h = absurd (false≢true h)

line_shown : (who : Who) → is_line who ≡ true → who ≡ Line
line_shown (Caller c) h = absurd (false≢true h)
line_shown Flusher h = absurd (false≢true h)
line_shown Line h = refl
line_shown Clock h = absurd (false≢true h)
line_shown Session h = absurd (false≢true h)

clock_shown : (who : Who) → is_clock who ≡ true → who ≡ Clock
clock_shown (Caller c) h = absurd (false≢true h)
clock_shown Flusher h = absurd (false≢true h)
clock_shown Line h = absurd (false≢true h)
clock_shown Clock h = refl
clock_shown Session h = absurd (false≢true h)

session_shown : (who : Who) → is_session who ≡ true → who ≡ Session
session_shown (Caller c) h = absurd (false≢true h)
session_shown Flusher h = absurd (false≢true h)
session_shown Line h = absurd (false≢true h)
session_shown Clock h = absurd (false≢true h)
session_shown Session h = refl

tick_shown : (t : Terminal) (who : Who) (step part : ℕ)
    → all_true (tick_tests t who step part) ≡ true
    → (who ≡ Clock) × IsTick t step part
tick_shown t who step part h =
    let a = all_shown (tick_tests t who step part) h in (
      clock_shown who a.0,
      record {
        phase = record { at_step = eqb-true _ _ a.1.0; at_part = eqb-true _ _ a.1.1.0 };
        not_over = not_true _ a.1.1.1.0;
      },
    )

event_shown : (calls : ℕ → ℕ → Option PlainCall) (counts : List ℕ) (t : Terminal) (who : Who) (step part : ℕ)
    (event : PlainEvent)
    → passes calls counts t who step part event ≡ true
    → AnswersAt calls counts t who step event
    → IsAllowed calls counts t who step part event
event_shown calls counts t who step part (answered a dropped) h answers =
    by_shown who (λ c. all_true (answer_tests calls t step part (length dropped) c))
    (λ c. Answers (is_some (caller_at t c).waits && quiet counts t) (outcome_of t (caller_at t c) (calls c step)) a)
    (λ c. IsAnswer calls counts t c step part a dropped)
    (λ c k answer. let p = all_shown (answer_tests calls t step part (length dropped) c) k in
    record {
      next = next_shown t c step part p.0;
      answer = answer;
      drops = drops_shown t (outcome_of t (caller_at t c) (calls c step)) (length dropped) p.1.0;
    }) h answers
event_shown calls counts t who step part (parted taken) h answers =
    by_alone who (λ c. all_true (part_tests calls t step part taken c)) (λ c. IsPart calls t c step part taken)
    (λ c k. let p = all_shown (part_tests calls t step part taken c) k in
    record {
      next = next_shown t c step part p.0;
      takes = part_shown (outcome_of t (caller_at t c) (calls c step)) taken p.1.0;
    }) h
event_shown calls counts t who step part waited h answers =
    by_alone who (λ c. all_true (wait_tests calls t step part c)) (λ c. IsWait calls t c step part)
    (λ c k. let p = all_shown (wait_tests calls t step part c) k in
    record {
      next = next_shown t c step part p.0;
      first = no_wait (caller_at t c).waits p.1.0;
      must = wait_shown (outcome_of t (caller_at t c) (calls c step)) p.1.1.0;
    }) h
event_shown calls counts t who step part (flushed chars) h answers =
    let p = all_shown (is_flusher who ∷ flush_tests t step part chars) h in
    (flusher_shown who p.0, flush_shown t step part chars p.1)
event_shown calls counts t who step part ticked h answers = tick_shown t who step part h
event_shown calls counts t who step part (line_ended n) h answers =
    let a = all_shown (line_tests t who step part n) h in (
      line_shown who a.0,
      record {
        phase = record { at_step = eqb-true _ _ a.1.0; at_part = eqb-true _ _ a.1.1.0 };
        not_over = not_true _ a.1.1.1.0;
        taken = most _ _ a.1.1.1.1.0;
        sent = most _ _ a.1.1.1.1.1.0;
        fits = most _ _ a.1.1.1.1.1.1.0;
      },
    )
event_shown calls counts t who step part clock_ended h answers = tick_shown t who step part h
event_shown calls counts t who step part caller_ended h answers =
    by_alone who (λ c. all_true (end_tests t step part c)) (λ c. IsCallerEnd t c step part)
    (λ c k. let a = all_shown (end_tests t step part c) k in
    record {
      known = below _ _ a.0;
      at_step = eqb-true _ _ a.1.0;
      at_part = eqb-true _ _ a.1.1.0;
      not_over = not_true _ a.1.1.1.0;
      between = not_true _ a.1.1.1.1.0;
    }) h
event_shown calls counts t who step part phase_ended h answers =
    let a = all_shown (phase_tests counts t who step part) h in (
      session_shown who a.0,
      record { phase = record { at_step = eqb-true _ _ a.1.0; at_part = eqb-true _ _ a.1.1.0 }; may = a.1.1.1.0 },
    )
event_shown calls counts t who step part (hung_up dropped) h answers =
    let a = all_shown (hangup_tests counts t who step part (length dropped)) h in (
      session_shown who a.0,
      record {
        after = most _ _ a.1.0;
        at_step = eqb-true _ _ a.1.1.0;
        at_part = eqb-true _ _ a.1.1.1.0;
        all = eqb-true _ _ a.1.1.1.1.0;
      },
    )

-- entries that pass are a run from here to where they lead
pub passing_leads : (calls : ℕ → ℕ → Option PlainCall) (counts : List ℕ) (t : Terminal) (es : List PlainEntry)
    → PassesAll calls counts t es
    → Leads calls counts t es (end_of calls t es)
passing_leads calls counts t [] h = refl
passing_leads calls counts t (e ∷ es) h =
    let p = and_parts (e.generation == t.generation) (passes calls counts t e.who e.step e.part e.event) h.0.0 in (
      (eqb-true e.generation t.generation p.0, event_shown calls counts t e.who e.step e.part e.event p.1 h.0.1),
      passing_leads calls counts (after calls t e) es h.1,
    )
