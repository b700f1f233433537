-- The calls that a port keeps, and the entries of a call.
use Rattle.std.proofs.Common.{◌≡◌, ℕ, List, [], ◌∷◌, ◌++◌, Bool, true, false, ◌&&◌, ◌==◌, Option, None, Some, is_some}
use Rattle.std.proofs.Common.{cond, if◌then◌else◌, ◌+◌, ◌-◌, ◌<◌, ◌≤◌, inl, inr, length, set, get_or, min, refl}
use Rattle.std.proofs.Common.{sym, ◌∙◌, ap, subst, arith, add-zero, length-set, get_or-set_same, get_or-set_other}
use Rattle.std.proofs.lemmas.Bool.{false≢true, eqb-true, eq-eqb}
use Rattle.std.proofs.lemmas.Bool.Decides.{nat_tests, eqb_tells}
use Rattle.tty_base.specs.Sizes.{COLUMNS_OF_PIECE, MOST_FLIP, MOST_HANDLES}
use Rattle.tty_base.specs.declared.characters.Flagged.{Flagged}
use Rattle.word_ring.specs.Ends.{TakerState}
use Rattle.port_core.specs.declared.waiting.WaitingCall.{WaitingCall}
use Rattle.tty_calls.specs.declared.answers.Answer.{Answer}
use Rattle.tty_calls.specs.Plain.{PlainCall, handle_of, PlainAnswer, idle, answer_of}
use Rattle.tty_calls.specs.Plain.{PlainEvent, answered, parted, waited, flushed, ticked, line_ended}
use Rattle.tty_calls.specs.Plain.{clock_ended, caller_ended, phase_ended, hung_up, PlainEntry, chars_in}
use Rattle.ldisc_switch.specs.Disciplines.{column_in}
use Rattle.tty_terminal.specs.declared.callers.Bound.{Bound}
use Rattle.tty_terminal.specs.declared.callers.CallerState.{CallerState}
use Rattle.tty_terminal.specs.declared.rooms.Met.TheVariants as met
use Rattle.tty_terminal.specs.Terminals.{Terminal, caller_at, has_begun, is_bound, begun_of}
use Rattle.tty_terminal.specs.Outcomes.{Outcome, unknown, waits, takes, gives}
use Rattle.tty_terminal.specs.Meeting.{Meets, drops_of}
use Rattle.tty_terminal.specs.Steps.{Answers, Drops, MustWait, TakesPart, left_by, with_dropped, Allowed, after, quiet}
use Rattle.tty_terminal.specs.Standing.{Standing, standing_of, standing_after_own, standing_after_other}
use Rattle.tty_terminal.specs.Runs.{KnowsMore, is_flush, is_of_call}
use Rattle.tty_terminal.proofs.StepLaws.{sent_of, begun_after}
use Rattle.tty_terminal.proofs.StandingLaws.{step_stands}
use Rattle.port_core.specs.Flips.{shown_count}
use Rattle.port_core.specs.Ports.{PlainKept, PortValue, IsPort, call_in, kept_with}
use Rattle.port_core.specs.Ports.{with_call, with_entry, AllBegun, caller_entry}
use Rattle.port_core.specs.Attempts.{IsReady}
use Rattle.port_core.specs.Inside.{call_waiting, IsWaitingCall, AreWaitingCalls, KeepsCalls}
use Rattle.port_core.proofs.GoingOn.{goes_on, begun_on}

-- ---- the calls that are kept

found_more : (b : Bool) (x y z : Option PlainCall) (call : PlainCall)
    → (y ≡ Some call → z ≡ Some call)
    → cond b x y ≡ Some call
    → cond b x z ≡ Some call
found_more true x y z call more h = h
found_more false x y z call more h = more h

call_in_more : (ks : List PlainKept) (k : PlainKept) (c step : ℕ) (call : PlainCall)
    → call_in ks c step ≡ Some call
    → call_in (ks ++ k ∷ []) c step ≡ Some call
call_in_more [] k c step call h = absurd (cc)
call_in_more (x ∷ xs) k c step call h =
    found_more ((x.caller == c) && (x.step == step)) (Some x.call) (call_in xs c step) (call_in (xs ++ k ∷ []) c step)
    call (call_in_more xs k c step call) h

-- the port keeps its calls
pub grows_kept : (begun : Bool) (ks : List PlainKept) (c step : ℕ) (call : PlainCall)
    → KnowsMore (call_in ks) (call_in (kept_with begun ks c step call))
grows_kept true ks c step call = λ d s other h. h
grows_kept false ks c step call = λ d s other h.
    call_in_more ks (record { caller = c; step = step; call = call }) d s other h

same_test : (c step : ℕ) (x y : Option PlainCall) → cond ((c == c) && (step == step)) x y ≡ x
same_test c step x y = grind (arith, nat_tests)

other_test : (a b m n : ℕ) (x y : Option PlainCall) → ((a ≡ b) → (m ≡ n) → ⊥) → cond ((a == b) && (m == n)) x y ≡ y
other_test a b m n x y other = grind (arith, nat_tests)

-- a call that is new is found
call_in_new : (t : Terminal) (ks : List PlainKept) (c step : ℕ) (call : PlainCall)
    → AllBegun t ks
    → begun_of (caller_at t c) ≤ step
    → call_in (ks ++ record { caller = c; step = step; call = call } ∷ []) c step ≡ Some call
call_in_new t [] c step call begun fresh = same_test c step (Some call) None
call_in_new t (x ∷ xs) c step call begun fresh =
    other_test x.caller c x.step step (Some x.call) _ (λ same_caller same_step.
    let begun_here : x.step < begun_of (caller_at t c) =
    subst (λ d. x.step < begun_of (caller_at t d)) same_caller begun.0 in
    omega (arith, begun_here, same_step, fresh))
    ∙ call_in_new t xs c step call begun.1 fresh

by_begun : (b : Bool) (ks : List PlainKept) (c step : ℕ) (call : PlainCall)
    → (b ≡ true → call_in ks c step ≡ Some call)
    → (b ≡ false → call_in (ks ++ record { caller = c; step = step; call = call } ∷ []) c step ≡ Some call)
    → call_in (kept_with b ks c step call) c step ≡ Some call
by_begun true ks c step call old new = old refl
by_begun false ks c step call old new = new refl

not_begun : (s : CallerState) → has_begun s ≡ false → begun_of s ≤ s.next
not_begun s h = rw h (omega arith)

-- the call that is tried is found
pub known_call : (v : PortValue) (c step : ℕ) (call : PlainCall)
    → IsPort v
    → IsReady v c step call
    → call_in (kept_with (has_begun (caller_at v.terminal c)) v.kept c step call) c step ≡ Some call
known_call v c step call p ready =
    by_begun (has_begun (caller_at v.terminal c)) v.kept c step call ready.same (λ fresh.
    call_in_new v.terminal v.kept c step call p.begun
    (subst (λ n. begun_of (caller_at v.terminal c) ≤ n) (sym ready.next) (not_begun (caller_at v.terminal c) fresh)))

begun_append : (t : Terminal) (ks : List PlainKept) (k : PlainKept)
    → AllBegun t ks
    → k.step < begun_of (caller_at t k.caller)
    → AllBegun t (ks ++ k ∷ [])
begun_append t [] k all one = (one, tt)
begun_append t (x ∷ xs) k all one = (all.0, begun_append t xs k all.1 one)

-- the call that is kept has begun
begun_with : (b : Bool) (t : Terminal) (ks : List PlainKept) (c step : ℕ) (call : PlainCall)
    → AllBegun t ks
    → step < begun_of (caller_at t c)
    → AllBegun t (kept_with b ks c step call)
begun_with true t ks c step call all one = all
begun_with false t ks c step call all one = begun_append t ks (record { caller = c; step = step; call = call }) all one

-- ---- outcomes and answers

-- what the code answers is the answer of the outcome
pub answers_met : (may : Bool) (o : Outcome) (given : Answer)
    → Meets o (met.Gives given)
    → Answers may o (answer_of given)
answers_met may unknown given h = h
answers_met may waits given h = absurd h
answers_met may (takes n left) given h = h
answers_met may (gives a drops left) given h = h

pub parts_met : (o : Outcome) (n : ℕ) → Meets o (met.Takes n) → TakesPart o n
parts_met unknown n h = h
parts_met waits n h = h
parts_met (takes taken left) n h = h
parts_met (gives a drops left) n h = h

pub idle_answers : (may : Bool) (o : Outcome) → MustWait o → may ≡ true → Answers may o idle
idle_answers may unknown must quiet = must
idle_answers may waits must quiet = (refl, quiet)
idle_answers may (takes n left) must quiet = must
idle_answers may (gives a drops left) must quiet = absurd must

-- a call that must wait leaves the terminal as it is
pub left_waiting : (o : Outcome) (t : Terminal) → MustWait o → left_by o t ≡ t
left_waiting unknown t must = refl
left_waiting waits t must = refl
left_waiting (takes n left) t must = absurd must
left_waiting (gives a drops left) t must = absurd must

pub waiting_drops : (t : Terminal) (o : Outcome) → MustWait o → Drops t o 0
waiting_drops t unknown must = refl
waiting_drops t waits must = refl
waiting_drops t (takes n left) must = refl
waiting_drops t (gives a drops left) must = absurd must

pub waiting_keeps : (o : Outcome) → MustWait o → drops_of o ≡ false
waiting_keeps unknown must = refl
waiting_keeps waits must = refl
waiting_keeps (takes n left) must = refl
waiting_keeps (gives a drops left) must = absurd must

pub none_dropped : (t : Terminal) (o : Outcome) → drops_of o ≡ false → Drops t o 0
none_dropped t unknown keeps = refl
none_dropped t waits keeps = refl
none_dropped t (takes n left) keeps = refl
none_dropped t (gives a false left) keeps = refl
none_dropped t (gives a true left) keeps = absurd (false≢true (sym keeps))

drops_shown_at : (over : Bool) (tail taken sent capacity n : ℕ)
    → sent ≤ tail
    → tail ≤ taken + capacity
    → n ≡ (if over then min (tail - taken) (sent - taken) else tail - taken)
    → (sent - taken ≤ n) × (n ≤ capacity) × (over ≡ true → n ≡ sent - taken)
drops_shown_at true tail taken sent capacity n least most is = (omega arith, omega arith, λ _. omega arith)
drops_shown_at false tail taken sent capacity n least most is = (omega arith, omega arith, λ h. absurd (false≢true h))

-- what one look shows is dropped
pub some_dropped : (t : Terminal) (o : Outcome) (tail n : ℕ)
    → drops_of o ≡ true
    → t.sent ≤ tail
    → tail ≤ t.taken + t.capacity
    → n ≡ shown_count t tail
    → Drops t o n
some_dropped t unknown tail n drops least most is = absurd (false≢true drops)
some_dropped t waits tail n drops least most is = absurd (false≢true drops)
some_dropped t (takes m left) tail n drops least most is = absurd (false≢true drops)
some_dropped t (gives a false left) tail n drops least most is = absurd (false≢true drops)
some_dropped t (gives a true left) tail n drops least most is =
    drops_shown_at t.line_over tail t.taken t.sent t.capacity n least most is

pub with_none_dropped : (t : Terminal) → with_dropped t 0 ≡ t
with_none_dropped t = ap (λ (n : ℕ). record t { taken = n }) (add-zero t.taken)

-- ---- where the caller stands

-- a call has begun, or is answered
abbrev BeginsOrEnds : Standing → Standing → Type 0
BeginsOrEnds s u = (s.next < (if u.begun then u.next + 1 else u.next)) × (u.waits ≡ true → u.next ≡ s.next)

own_begins : (event : PlainEvent) (g : ℕ) (s : Standing)
    → is_of_call event ≡ true
    → BeginsOrEnds s (standing_after_own event g s)
own_begins (answered a dropped) g s h = (omega arith, λ waits. absurd (false≢true waits))
own_begins (parted n) g s h = (omega arith, λ waits. refl)
own_begins waited g s h = (omega arith, λ waits. refl)
own_begins (flushed chars) g s h = absurd (false≢true h)
own_begins ticked g s h = absurd (false≢true h)
own_begins (line_ended n) g s h = absurd (false≢true h)
own_begins clock_ended g s h = absurd (false≢true h)
own_begins caller_ended g s h = absurd (false≢true h)
own_begins phase_ended g s h = absurd (false≢true h)
own_begins (hung_up dropped) g s h = absurd (false≢true h)

other_call : (event : PlainEvent) (s : Standing) → is_of_call event ≡ true → standing_after_other event s ≡ s
other_call (answered a dropped) s h = refl
other_call (parted n) s h = refl
other_call waited s h = refl
other_call (flushed chars) s h = refl
other_call ticked s h = refl
other_call (line_ended n) s h = refl
other_call clock_ended s h = refl
other_call caller_ended s h = refl
other_call phase_ended s h = absurd (false≢true h)
other_call (hung_up dropped) s h = refl

self_test : (c : ℕ) → (c == c) ≡ true
self_test c = eq-eqb c c refl

choose : {A : Type 0} (b : Bool) (x y : A) → b ≡ true → (if b then x else y) ≡ x
choose true x y h = refl
choose false x y h = absurd (false≢true h)

choose_other : {A : Type 0} (b : Bool) (x y : A) → b ≡ false → (if b then x else y) ≡ y
choose_other true x y h = absurd (false≢true (sym h))
choose_other false x y h = refl

own_stands : (v : PortValue) (g : ℕ → ℕ → Option PlainCall) (c : ℕ) (event : PlainEvent)
    → Allowed g v.counts v.terminal (caller_entry v c event)
    → standing_of (caller_at (after g v.terminal (caller_entry v c event)) c)
    ≡ standing_after_own event v.terminal.generation (standing_of (caller_at v.terminal c))
own_stands v g c event allowed =
    step_stands g v.counts v.terminal (caller_entry v c event) allowed c ∙ choose (c == c) _ _ (self_test c)

other_stands : (v : PortValue) (g : ℕ → ℕ → Option PlainCall) (c : ℕ) (event : PlainEvent)
    → Allowed g v.counts v.terminal (caller_entry v c event)
    → is_of_call event ≡ true
    → (d : ℕ)
    → (c == d) ≡ false
    → standing_of (caller_at (after g v.terminal (caller_entry v c event)) d) ≡ standing_of (caller_at v.terminal d)
other_stands v g c event allowed of_call d other =
    step_stands g v.counts v.terminal (caller_entry v c event) allowed d
    ∙ (choose_other (c == d) _ _ other ∙ other_call event (standing_of (caller_at v.terminal d)) of_call)

-- ---- the calls that callers wait with

-- a copy of the call stands in the caller's slot
pub record HasCopy (slots : List (Option WaitingCall)) (c : ℕ) (call : PlainCall) : Type 0 where
  pub copy : WaitingCall
  pub there : get_or slots c None ≡ Some copy
  pub same : call_waiting copy ≡ call

-- the slots before and after an entry of a call: where the call waits now, its caller's slot has a copy of it
pub record HoldsCalls (slots later : List (Option WaitingCall)) (c : ℕ) (call : PlainCall)
    (event : PlainEvent) : Type 0 where
  pub many : length later ≡ length slots
  pub own : (generation : ℕ) (s : Standing)
      → (standing_after_own event generation s).waits ≡ true
      → HasCopy later c call
  pub others : (d : ℕ) → (c == d) ≡ false → get_or later d None ≡ get_or slots d None

pub answered_holds : (slots : List (Option WaitingCall)) (c : ℕ) (call : PlainCall) (a : PlainAnswer)
    (dropped : List Flagged)
    → HoldsCalls slots slots c call (answered a dropped)
answered_holds slots c call a dropped =
    record { many = refl; own = λ g s h. absurd (false≢true h); others = λ d h. refl }

pub parted_holds : (slots : List (Option WaitingCall)) (c : ℕ) (call : PlainCall) (n : ℕ)
    → HoldsCalls slots slots c call (parted n)
parted_holds slots c call n = record { many = refl; own = λ g s h. absurd (false≢true h); others = λ d h. refl }

pub waited_holds : (slots : List (Option WaitingCall)) (c : ℕ) (call : PlainCall) (copy : WaitingCall)
    → c < length slots
    → call_waiting copy ≡ call
    → HoldsCalls slots (set slots c (Some copy)) c call waited
waited_holds slots c call copy known same =
    record {
      many = length-set slots c (Some copy);
      own = λ g s h. record { copy = copy; there = get_or-set_same slots c (Some copy) None known; same = same };
      others = λ d h. get_or-set_other slots c d (Some copy) None (λ e. false≢true (sym h ∙ eq-eqb c d (sym e)));
    }

-- the calls that callers wait with, after an entry of a call
calls_after : (t u : Terminal) (ks ms : List PlainKept) (slots later : List (Option WaitingCall)) (c step : ℕ)
    (call : PlainCall)
    → step ≡ (caller_at t c).next
    → call_in ms c step ≡ Some call
    → KnowsMore (call_in ks) (call_in ms)
    → (is_some (caller_at u c).waits ≡ true → (caller_at u c).next ≡ (caller_at t c).next)
    → (is_some (caller_at u c).waits ≡ true → HasCopy later c call)
    → ((d : ℕ)
    → (c == d) ≡ false
    → ((caller_at u d).next ≡ (caller_at t d).next) × (is_some (caller_at u d).waits ≡ is_some (caller_at t d).waits))
    → ((d : ℕ) → (c == d) ≡ false → get_or later d None ≡ get_or slots d None)
    → handle_of call < MOST_HANDLES
    → AreWaitingCalls t ks slots
    → AreWaitingCalls u ms later
calls_after t u ks ms slots later c step call at_step found grows next own others slot number are = λ d waits.
    elim (eqb_tells c d) [
      | inl h ↦ subst (λ (x : ℕ). is_some (caller_at u x).waits ≡ true → IsWaitingCall u ms x (get_or later x None)) h.1
          (λ now. (let held = own now in record {
            copy = held.copy;
            there = held.there;
            found =
                ap (λ (n : ℕ). call_in ms c n) (next now ∙ sym at_step)
                ∙ (found ∙ ap (λ (x : PlainCall). Some x) (sym held.same));
            number = subst (λ (x : PlainCall). handle_of x < MOST_HANDLES) (sym held.same) number;
          })) waits
      | inr h ↦ (let was = are d (sym (others d h.0).1 ∙ waits) in record {
        copy = was.copy;
        there = slot d h.0 ∙ was.there;
        found =
            ap (λ (n : ℕ). call_in ms d n) (others d h.0).0
            ∙ grows d (caller_at t d).next (call_waiting was.copy) was.found;
        number = was.number;
      })
    ]

some_waits : {A : Type 0} (o : Option A) → is_some o ≡ false → o ≡ None
some_waits None h = refl
some_waits (Some x) h = absurd (false≢true (sym h))

-- an entry of a call keeps the port
pub call_goes_on : (v now : PortValue) (slots later : List (Option WaitingCall)) (c step : ℕ) (call : PlainCall)
    (f : TakerState Flagged) (event : PlainEvent)
    → KeepsCalls v slots
    → length v.journal < v.limit
    → IsReady v c step call
    → is_of_call event ≡ true
    → is_flush event ≡ false
    → Allowed (call_in (kept_with (has_begun (caller_at v.terminal c)) v.kept c step call)) v.counts v.terminal
    (caller_entry v c event)
    → f.taken ≡ v.flip.taken ++ chars_in event
    → length (chars_in event) ≤ MOST_FLIP
    → f.capacity ≡ v.flip.capacity
    → sent_of event v.terminal.sent ≤ f.floor
    → column_in (after (call_in (kept_with (has_begun (caller_at v.terminal c)) v.kept c step call)) v.terminal
    (caller_entry v c event)).disc
    ≤ column_in v.terminal.disc + COLUMNS_OF_PIECE
    → HoldsCalls slots later c call event
    → now ≡ record (with_entry (with_call v c step call) (caller_entry v c event)) { flip = f }
    → KeepsCalls now later
call_goes_on v now slots later c step call f event keeps few ready of_call
    other allowed taken some capacity sent column holds now_is =
    let t = v.terminal in
    let p = keeps.port in
    let b = has_begun (caller_at t c) in
    let ms = kept_with b v.kept c step call in
    let g = call_in ms in
    let e : PlainEntry = caller_entry v c event in
    let u : Terminal = after g t e in
    let own = own_stands v g c event allowed in
    let begins : BeginsOrEnds (standing_of (caller_at t c)) (standing_of (caller_at u c)) =
    subst (BeginsOrEnds (standing_of (caller_at t c))) (sym own)
    (own_begins event t.generation (standing_of (caller_at t c)) of_call) in
    let begun : step < begun_of (caller_at u c) = subst (λ n. n < begun_of (caller_at u c)) (sym ready.next) begins.0 in
    let grows : KnowsMore (call_in v.kept) g = grows_kept b v.kept c step call in
    let others : (d : ℕ)
    → (c == d) ≡ false
    → ((caller_at u d).next ≡ (caller_at t d).next) × (is_some (caller_at u d).waits ≡ is_some (caller_at t d).waits) =
    λ d apart. (let same = other_stands v g c event allowed of_call d apart in
    (ap (λ (s : Standing). s.next) same, ap (λ (s : Standing). s.waits) same)) in
    let copied : is_some (caller_at u c).waits ≡ true → HasCopy later c call = λ waits.
    holds.own t.generation (standing_of (caller_at t c)) (sym (ap (λ (s : Standing). s.waits) own) ∙ waits) in
    subst (λ (w : PortValue). KeepsCalls w later) (sym now_is) (record {
      port = goes_on v ms f e p (record {
        few = few;
        grows = grows;
        allowed = allowed;
        begun =
            begun_with b u v.kept c step call (begun_on t u v.kept (begun_after g v.counts t e allowed) p.begun) begun;
        taken = taken;
        capacity = capacity;
        sent = sent;
        column = omega (arith, column);
        some = some;
        piece = λ h. absurd (false≢true (sym other ∙ h));
        generation = λ d h by parts waits. subst (λ (x : ℕ).
            0 < (caller_at t x).parts
            → is_some (caller_at t x).waits ≡ false
            → (caller_at t x).generation ≡ t.generation)
            (eqb-true c d by)
            (λ parted_here waits_not. ready.generation (some_waits (caller_at t c).waits waits_not) parted_here)
            parts waits;
      });
      many = holds.many ∙ keeps.many;
      calls = calls_after t u v.kept ms slots later c step call ready.next (known_call v c step call p ready) grows
          begins.1 copied others holds.others ready.number keeps.calls;
    })

some_bound : (b : Option Bound) → is_some b ≡ is_bound b
some_bound None = refl
some_bound (Some b) = refl

-- the test whether a call has begun, as the code makes it
pub begun_is : (t : Terminal) (c : ℕ) (s : CallerState) (begun : Bool)
    → s ≡ caller_at t c
    → begun ≡ is_some s.bound
    → begun ≡ has_begun (caller_at t c)
begun_is t c s begun same is = is ∙ some_bound s.bound ∙ ap (λ (x : CallerState). has_begun x) same
