-- The entry that the order of one thread asks for: there is at most one.
use Rattle.std.proofs.Common.{◌≡◌, ◌≤◌, ℕ, ◌+◌, ◌-◌, zero, suc, List, [], ◌∷◌, ◌++◌, Bool, true}
use Rattle.std.proofs.Common.{false, not, ◌==◌, ◌&&◌, ◌||◌, ◌⊎◌, Option, is_some, if◌then◌else◌}
use Rattle.std.proofs.Common.{length, take, min, refl, sym, ◌∙◌, ap, subst, inl, inr, arith}
use Rattle.std.specs.Prelude.{nat_le, IsTrue, MatchBool}
use Rattle.std.proofs.lemmas.List.{length-map}
use Rattle.std.proofs.lemmas.Bool.{false≢true, eqb-true, le-leb, lt-leb}
use Rattle.tty_base.specs.Sizes.{PIECE}
use Rattle.tty_base.specs.declared.characters.Flagged.{Flagged}
use Rattle.tty_calls.specs.declared.journals.Who.{Who}
use Rattle.tty_calls.specs.declared.journals.Who.TheVariants.{Caller, Flusher, Line, Clock, Session}
use Rattle.tty_calls.specs.Plain.{PlainAnswer, idle, PlainEvent, answered, parted, waited, flushed, ticked}
use Rattle.tty_calls.specs.Plain.{line_ended, clock_ended, caller_ended, phase_ended, hung_up, chars_in}
use Rattle.tty_calls.specs.Sessions.{PlainSession, scripts_on, call_at, counts_on}
use Rattle.tty_terminal.specs.Terminals.{Terminal, caller_at}
use Rattle.tty_terminal.specs.Receiving.{accepts, after_character, after_characters, AcceptsAll}
use Rattle.tty_terminal.specs.Outcomes as outcomes
use Rattle.tty_terminal.specs.Calls.{outcome_of}
use Rattle.tty_terminal.specs.Steps.{quiet, Answers, Drops, MustWait, TakesPart, IsFlush, IsAllowed}
use Rattle.tty_terminal.specs.Runs.{phase_after}
use Rattle.legal_runs.specs.Legal.{ClockMark, ticks, clock_ends, clock_marks, line_ends, first_step, steps_in}
use Rattle.legal_runs.specs.Legal.{IsInPhase}
use Rattle.legal_runs.specs.Order.{Place, accepted_front, due, turn, is_most, is_after_flush, IsPieceOf}
use Rattle.legal_runs.proofs.Truths.{if_false, if_true}

-- ---- what a flush takes

-- the pieces that take as much as they can
accepted_take : (t : Terminal) (chars rest : List Flagged) (m : ℕ)
    → AcceptsAll t chars
    → length chars ≤ m
    → (length chars ≡ m) ⊎ (accepts (after_characters t chars) ≡ false)
    → chars ≡ accepted_front t (take m (chars ++ rest))
accepted_take t [] rest zero all few most = refl
accepted_take t [] [] (suc m) all few most = refl
accepted_take t [] (c ∷ rest) (suc m) all few most =
    elim most
    [ inl e ↦ (let k : 0 ≡ suc m = e in absurd (omega arith)) | inr full ↦ sym (if_false (accepts t) _ _ full) ]
accepted_take t (c ∷ chars) rest zero all few most = absurd (omega arith)
accepted_take t (c ∷ chars) rest (suc m) all few most =
    let fewer : length chars ≤ m = omega arith in
    let rest_most : (length chars ≡ m) ⊎ (accepts (after_characters (after_character t c) chars) ≡ false) =
    elim most [ inl e ↦ inl (omega arith) | inr full ↦ inr full ] in
    ap (λ (cs : List Flagged). c ∷ cs) (accepted_take (after_character t c) chars rest m all.1 fewer rest_most)
    ∙ sym (if_true (accepts t) _ _ all.0)

most_view : (len taken sent : ℕ) (accepting : Bool)
    → ((len == PIECE) || ((taken + len == sent) || not accepting)) ≡ true
    → (len ≡ PIECE) ⊎ ((taken + len ≡ sent) ⊎ (accepting ≡ false))
most_view len taken sent accepting e = cases (len == PIECE) (taken + len == sent) accepting refl refl refl e
  where
    cases : (a b c : Bool)
        → (len == PIECE) ≡ a
        → (taken + len == sent) ≡ b
        → accepting ≡ c
        → (a || (b || not c)) ≡ true
        → (len ≡ PIECE) ⊎ ((taken + len ≡ sent) ⊎ (accepting ≡ false))
    cases true b c ea eb ec k = inl (eqb-true len PIECE ea)
    cases false true c ea eb ec k = inr (inl (eqb-true (taken + len) sent eb))
    cases false false false ea eb ec k = inr (inr ec)
    cases false false true ea eb ec k = absurd (false≢true k)

-- ---- the entry

-- what is still to come of a journal: its characters, the ends of its lines, and the ticks and ends of its clock
pub record Coming : Type 0 where
  pub chars : List Flagged
  pub lines : List ℕ
  pub marks : List ClockMark

abbrev pub piece_of : ℕ → PlainSession → Place → List Flagged → List Flagged
piece_of p session s chars =
    if s.terminal.line_over
    then accepted_front s.terminal (take (min PIECE (s.terminal.sent - s.terminal.taken)) chars)
    else due p session s

abbrev pub call_event : Terminal → Bool → outcomes.Outcome → List Flagged → PlainEvent
call_event t waits outcomes.unknown chars = caller_ended
call_event t waits outcomes.waits chars = if waits then answered idle [] else waited
call_event t waits (outcomes.takes n left) chars = parted n
call_event t waits (outcomes.gives answer drops left) chars =
    answered answer (if drops then take (t.sent - t.taken) chars else [])

abbrev pub line_event : List ℕ → PlainEvent
line_event [] = line_ended 0
line_event (n ∷ lines) = line_ended n

abbrev pub clock_event : List ClockMark → PlainEvent
clock_event [] = clock_ended
clock_event (ticks ∷ marks) = ticked
clock_event (clock_ends ∷ marks) = clock_ended

abbrev pub the_event : ℕ → PlainSession → Place → Coming → Who → PlainEvent
the_event p session s to_come (Caller c) =
    if nat_le (first_step p session s.terminal.phase c + steps_in p session s.terminal.phase c)
    (caller_at s.terminal c).next then caller_ended
    else call_event s.terminal (is_some (caller_at s.terminal c).waits)
    (outcome_of s.terminal (caller_at s.terminal c) (call_at p session c (caller_at s.terminal c).next)) to_come.chars
the_event p session s to_come Flusher = flushed (piece_of p session s to_come.chars)
the_event p session s to_come Line = line_event to_come.lines
the_event p session s to_come Clock = clock_event to_come.marks
the_event p session s to_come Session =
    if nat_le (length session.phases) s.terminal.phase
    then hung_up (take (s.terminal.sent - s.terminal.taken) to_come.chars)
    else phase_ended

-- ---- that an entry is it

front_taken : (xs ys : List Flagged) (n : ℕ) → length xs ≡ n → xs ≡ take n (xs ++ ys)
front_taken [] ys zero e = refl
front_taken [] ys (suc n) e = (let k : 0 ≡ suc n = e in absurd (omega arith))
front_taken (x ∷ xs) ys zero e = absurd (omega arith)
front_taken (x ∷ xs) ys (suc n) e = ap (λ (zs : List Flagged). x ∷ zs) (front_taken xs ys n (omega arith))

none_dropped : (xs : List Flagged) → length xs ≡ 0 → xs ≡ []
none_dropped [] e = refl
none_dropped (x ∷ xs) e = absurd (omega arith)

answer_is : (t : Terminal) (waits may : Bool) (o : outcomes.Outcome) (a : PlainAnswer) (dropped rest : List Flagged)
    → Answers (waits && may) o a
    → Drops t o (length dropped)
    → t.line_over ≡ true
    → answered a dropped ≡ call_event t waits o (dropped ++ rest)
answer_is t waits may outcomes.unknown a dropped rest h d over = absurd h
answer_is t true may outcomes.waits a dropped rest h d over = λ i. answered (h.0 i) (none_dropped dropped d i)
answer_is t false may outcomes.waits a dropped rest h d over = absurd (false≢true h.1)
answer_is t waits may (outcomes.takes n left) a dropped rest h d over = absurd h
answer_is t waits may (outcomes.gives answer true left) a dropped rest h d over = λ i.
    answered (h i) (front_taken dropped rest (t.sent - t.taken) (d.2 over) i)
answer_is t waits may (outcomes.gives answer false left) a dropped rest h d over = λ i.
    answered (h i) (none_dropped dropped d i)

part_is : (t : Terminal) (waits : Bool) (o : outcomes.Outcome) (n : ℕ) (chars : List Flagged)
    → TakesPart o n
    → parted n ≡ call_event t waits o chars
part_is t waits outcomes.unknown n chars h = absurd h
part_is t waits outcomes.waits n chars h = absurd h
part_is t waits (outcomes.takes taken left) n chars h = ap (λ (k : ℕ). parted k) h
part_is t waits (outcomes.gives answer drops left) n chars h = absurd h

wait_is : (t : Terminal) (waits : Bool) (o : outcomes.Outcome) (chars : List Flagged)
    → waits ≡ false
    → MustWait o
    → waited ≡ call_event t waits o chars
wait_is t waits outcomes.unknown chars e h = absurd h
wait_is t waits outcomes.waits chars e h = sym (if_false waits _ _ e)
wait_is t waits (outcomes.takes taken left) chars e h = absurd h
wait_is t waits (outcomes.gives answer drops left) chars e h = absurd h

-- a flush after the line's end, and one before it
flushed_is : (p : ℕ) (session : PlainSession) (s : Place) (step part : ℕ) (chars rest : List Flagged) (over : Bool)
    → s.terminal.line_over ≡ over
    → IsFlush s.terminal step part chars
    → MatchBool over (IsTrue (is_most s.terminal chars) × ((part == 0) ≡ not (is_after_flush s.before)))
    ((chars ≡ due p session s) × (part ≡ 0))
    → chars ≡ piece_of p session s (chars ++ rest)
flushed_is p session s step part chars rest true e h piece =
    let few = h.few in
    let within = h.sent e in
    let few_of : length chars ≤ min PIECE (s.terminal.sent - s.terminal.taken) = omega arith in
    let whole : (length chars ≡ min PIECE (s.terminal.sent - s.terminal.taken))
    ⊎ (accepts (after_characters s.terminal chars) ≡ false) =
    elim
    (most_view (length chars) s.terminal.taken s.terminal.sent (accepts (after_characters s.terminal chars)) piece.0) [
      | inl is ↦ inl (omega arith)
      | inr k ↦ elim k [ inl all ↦ inl (omega arith) | inr full ↦ inr full ]
    ] in
    accepted_take s.terminal chars rest (min PIECE (s.terminal.sent - s.terminal.taken)) h.accepted few_of whole
    ∙ sym (if_true s.terminal.line_over _ _ e)
flushed_is p session s step part chars rest false e h piece = piece.0 ∙ sym (if_false s.terminal.line_over _ _ e)

-- Before the line's end, and past the last phase, each order is that of one thread. Behind the line's end whose turn it
-- is may be otherwise.
abbrev pub is_fixed : PlainSession → Place → Bool
is_fixed session s = nat_le (length session.phases) s.terminal.phase || not s.terminal.line_over

-- a caller has a turn once the line is over
third_over : (a b d : Bool) (x : Who) (c : ℕ)
    → ((a || not b) ≡ true → Caller c ≡ (if a then Session else if not b then (if d then Line else Flusher) else x))
    → b ≡ true
third_over a true d x c turned = refl
third_over true false d x c turned = (let e = turned refl in absurd (cc))
third_over false false true x c turned = (let e = turned refl in absurd (cc))
third_over false false false x c turned = (let e = turned refl in absurd (cc))

caller_over : (p : ℕ) (session : PlainSession) (s : Place) (c : ℕ)
    → (is_fixed session s ≡ true → Caller c ≡ turn p session s)
    → s.terminal.line_over ≡ true
caller_over p session s c turned = third_over (nat_le (length session.phases) s.terminal.phase) s.terminal.line_over
    (length (due p session s) == 0) _ c turned

abbrev pub coming_with : PlainEvent → List Flagged → List ℕ → List ClockMark → Coming
coming_with event chars lines marks =
    record { chars = chars_in event ++ chars; lines = line_ends event ++ lines; marks = clock_marks event ++ marks }

pub event_is : (p : ℕ) (session : PlainSession) (s : Place) (who : Who) (step part : ℕ) (event : PlainEvent)
    (chars : List Flagged) (lines : List ℕ) (marks : List ClockMark)
    → IsAllowed (call_at p session) (counts_on p session) s.terminal who step part event
    → (is_fixed session s ≡ true → who ≡ turn p session s)
    → IsPieceOf p session s part event
    → IsInPhase p session s.terminal.phase who step event
    → phase_after event s.terminal.phase ≤ length session.phases
    → event ≡ the_event p session s (coming_with event chars lines marks) who
event_is p session s (Caller c) step part (answered a dropped) chars lines marks h turned piece phase after =
    let of_phase = phase.1 refl in
    let below = of_phase.1 in
    let at = h.next.at_step in
    answer_is s.terminal (is_some (caller_at s.terminal c).waits) (quiet (counts_on p session) s.terminal)
    (outcome_of s.terminal (caller_at s.terminal c) (call_at p session c (caller_at s.terminal c).next)) a dropped chars
    (subst (λ (n : ℕ). Answers (is_some (caller_at s.terminal c).waits && quiet (counts_on p session) s.terminal)
    (outcome_of s.terminal (caller_at s.terminal c) (call_at p session c n)) a) at h.answer)
    (subst (λ (n : ℕ).
    Drops s.terminal (outcome_of s.terminal (caller_at s.terminal c) (call_at p session c n)) (length dropped))
    at h.drops)
    (caller_over p session s c turned)
    ∙ sym (if_false (nat_le _ (caller_at s.terminal c).next) _ _ (lt-leb _ (caller_at s.terminal c).next (omega arith)))
event_is p session s (Caller c) step part (parted n) chars lines marks h turned piece phase after =
    let of_phase = phase.1 refl in
    let below = of_phase.1 in
    let at = h.next.at_step in
    part_is s.terminal (is_some (caller_at s.terminal c).waits)
    (outcome_of s.terminal (caller_at s.terminal c) (call_at p session c (caller_at s.terminal c).next)) n chars
    (subst (λ (k : ℕ). TakesPart (outcome_of s.terminal (caller_at s.terminal c) (call_at p session c k)) n) at h.takes)
    ∙ sym (if_false (nat_le _ (caller_at s.terminal c).next) _ _ (lt-leb _ (caller_at s.terminal c).next (omega arith)))
event_is p session s (Caller c) step part waited chars lines marks h turned piece phase after =
    let of_phase = phase.1 refl in
    let below = of_phase.1 in
    let at = h.next.at_step in
    wait_is s.terminal (is_some (caller_at s.terminal c).waits)
    (outcome_of s.terminal (caller_at s.terminal c) (call_at p session c (caller_at s.terminal c).next)) chars
    (ap (λ (o : Option ℕ). is_some o) h.first)
    (subst (λ (k : ℕ). MustWait (outcome_of s.terminal (caller_at s.terminal c) (call_at p session c k))) at h.must)
    ∙ sym (if_false (nat_le _ (caller_at s.terminal c).next) _ _ (lt-leb _ (caller_at s.terminal c).next (omega arith)))
event_is p session s (Caller c) step part caller_ended chars lines marks h turned piece phase after =
    let all = phase.2 refl in
    let at = h.at_step in
    sym (if_true (nat_le _ (caller_at s.terminal c).next) _ _ (le-leb _ (caller_at s.terminal c).next (omega arith)))
event_is p session s Flusher step part (answered a dropped) chars lines marks h turned piece phase after = absurd h
event_is p session s Line step part (answered a dropped) chars lines marks h turned piece phase after = absurd h
event_is p session s Clock step part (answered a dropped) chars lines marks h turned piece phase after = absurd h
event_is p session s Session step part (answered a dropped) chars lines marks h turned piece phase after = absurd h
event_is p session s Flusher step part (parted n) chars lines marks h turned piece phase after = absurd h
event_is p session s Line step part (parted n) chars lines marks h turned piece phase after = absurd h
event_is p session s Clock step part (parted n) chars lines marks h turned piece phase after = absurd h
event_is p session s Session step part (parted n) chars lines marks h turned piece phase after = absurd h
event_is p session s Flusher step part waited chars lines marks h turned piece phase after = absurd h
event_is p session s Line step part waited chars lines marks h turned piece phase after = absurd h
event_is p session s Clock step part waited chars lines marks h turned piece phase after = absurd h
event_is p session s Session step part waited chars lines marks h turned piece phase after = absurd h
event_is p session s Flusher step part caller_ended chars lines marks h turned piece phase after = absurd h
event_is p session s Line step part caller_ended chars lines marks h turned piece phase after = absurd h
event_is p session s Clock step part caller_ended chars lines marks h turned piece phase after = absurd h
event_is p session s Session step part caller_ended chars lines marks h turned piece phase after = absurd h
event_is p session s who step part (flushed taken) chars lines marks h turned piece phase after =
    let Goal : Who → Type 0 = λ w.
    flushed taken ≡ the_event p session s (coming_with (flushed taken) chars lines marks) w in
    subst Goal (sym h.0)
    (ap (λ (cs : List Flagged). flushed cs)
    (flushed_is p session s step part taken chars s.terminal.line_over refl h.1 piece))
event_is p session s who step part ticked chars lines marks h turned piece phase after =
    let Goal : Who → Type 0 = λ w. ticked ≡ the_event p session s (coming_with ticked chars lines marks) w in
    subst Goal (sym h.0) refl
event_is p session s who step part (line_ended n) chars lines marks h turned piece phase after =
    let Goal : Who → Type 0 = λ w.
    line_ended n ≡ the_event p session s (coming_with (line_ended n) chars lines marks) w in
    subst Goal (sym h.0) refl
event_is p session s who step part clock_ended chars lines marks h turned piece phase after =
    let Goal : Who → Type 0 = λ w. clock_ended ≡ the_event p session s (coming_with clock_ended chars lines marks) w in
    subst Goal (sym h.0) refl
event_is p session s who step part phase_ended chars lines marks h turned piece phase after =
    let Goal : Who → Type 0 = λ w. phase_ended ≡ the_event p session s (coming_with phase_ended chars lines marks) w in
    subst Goal (sym h.0)
    (sym (if_false (nat_le (length session.phases) s.terminal.phase) _ _
    (lt-leb (length session.phases) s.terminal.phase (omega arith))))
event_is p session s who step part (hung_up dropped) chars lines marks h turned piece phase after =
    let Goal : Who → Type 0 = λ w.
    hung_up dropped ≡ the_event p session s (coming_with (hung_up dropped) chars lines marks) w in
    let past = h.1.after in
    let many = length-map session.phases (λ x. length (scripts_on p x)) in
    subst Goal (sym h.0)
    (ap (λ (cs : List Flagged). hung_up cs) (front_taken dropped chars (s.terminal.sent - s.terminal.taken) h.1.all)
    ∙ sym (if_true (nat_le (length session.phases) s.terminal.phase) _ _
    (le-leb (length session.phases) s.terminal.phase (omega arith))))
