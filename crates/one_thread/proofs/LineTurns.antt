-- Whose turn it is before the end of a line.
use Rattle.std.proofs.Common.{◌≡◌, ◌⊎◌, ℕ, ◌<◌, Bool, true, false, not, ◌||◌, ◌==◌, nat_le, if◌then◌else◌, List}
use Rattle.std.proofs.Common.{[], ◌∷◌, ◌++◌, length, get_or, refl, sym, ◌∙◌, ap, arith, inl, inr, MatchBool}
use Rattle.std.proofs.lemmas.Bool.Decides.{nat_tests}
use Rattle.tty_base.specs.declared.characters.Flagged.{Flagged}
use Rattle.tty_calls.specs.declared.journals.Who.{Who}
use Rattle.tty_calls.specs.declared.journals.Who.TheVariants.{Flusher, Line, Session}
use Rattle.tty_calls.specs.Plain.{flushed, line_ended}
use Rattle.tty_calls.specs.Sessions.{PlainSession, call_at}
use Rattle.tty_terminal.specs.Terminals.{Terminal, live_count}
use Rattle.tty_terminal.specs.Receiving.{accepts, after_character, after_characters, AcceptsAll}
use Rattle.port_core.specs.Ports.{is_stuck}
use Rattle.legal_runs.specs.Order.{Place, cuts_in, accepted_front, front_to_flush, due, turn, turn_after, turn_by_rank}
use Rattle.legal_runs.specs.Order.{callers_of, IsInTurn, is_of_consoles}
use Rattle.legal_runs.proofs.Truths.{if_false, if_true}

-- ---- what is due

front_none : (t : Terminal) (cs : List Flagged) → accepts t ≡ false → accepted_front t cs ≡ []
front_none t [] h = refl
front_none t (c ∷ cs) h = if_false (accepts t) (c ∷ accepted_front (after_character t c) cs) [] h

-- characters that were accepted one after the other, up to the last or to where no more is accepted
pub front_taken : (t : Terminal) (chars rest : List Flagged)
    → AcceptsAll t chars
    → (rest ≡ []) ⊎ (accepts (after_characters t chars) ≡ false)
    → accepted_front t (chars ++ rest) ≡ chars
front_taken t [] rest all (inl e) = ap (λ (cs : List Flagged). accepted_front t cs) e
front_taken t [] rest all (inr closed) = front_none t rest closed
front_taken t (c ∷ cs) rest all h =
    if_true (accepts t) (c ∷ accepted_front (after_character t c) (cs ++ rest)) [] all.0
    ∙ ap (λ (r : List Flagged). c ∷ r) (front_taken (after_character t c) cs rest all.1 h)

pub front_live : (t : Terminal) (chars : List Flagged)
    → 0 < live_count t
    → front_to_flush t chars ≡ accepted_front t chars
front_live t chars live =
    let some : (live_count t == 0) ≡ false = grind (arith, nat_tests) in
    if_false (live_count t == 0) [] (accepted_front t chars) some

-- a port that is stuck takes none
stuck_none : (closed takes : Bool) (xs : List Flagged)
    → (closed || not takes) ≡ true
    → (takes ≡ false → xs ≡ [])
    → (if closed then [] else xs) ≡ []
stuck_none true takes xs h k = refl
stuck_none false true xs h k = absurd (cc)
stuck_none false false xs h k = k refl

pub front_stuck : (t : Terminal) (chars : List Flagged) → is_stuck t ≡ true → front_to_flush t chars ≡ []
front_stuck t chars h = stuck_none (live_count t == 0) (accepts t) (accepted_front t chars) h (front_none t chars)

none_of : (b : Bool) (xs : List Flagged) → xs ≡ [] → (if b then [] else xs) ≡ []
none_of true xs h = refl
none_of false xs h = h

-- of no characters none is due
pub front_of_none : (t : Terminal) → front_to_flush t [] ≡ []
front_of_none t = none_of (live_count t == 0) [] refl

-- what is due at a place that stands at this terminal, and this phase, after so many cuts
pub due_at : (p : ℕ) (session : PlainSession) (s : Place) (t : Terminal) (k n : ℕ)
    → s.terminal ≡ t
    → t.phase ≡ k
    → s.cuts ≡ n
    → due p session s ≡ front_to_flush t (get_or (cuts_in p session k) n [])
due_at p session s t k n at phase cuts =
    ap (λ (u : Terminal). front_to_flush u (get_or (cuts_in p session u.phase) s.cuts [])) at
    ∙ ap (λ (j : ℕ). front_to_flush t (get_or (cuts_in p session j) s.cuts [])) phase
    ∙ ap (λ (m : ℕ). front_to_flush t (get_or (cuts_in p session k) m [])) cuts

-- ---- in turn

turn_if : (past over none : Bool) (later : Who)
    → past ≡ false
    → over ≡ false
    → (if past then Session else (if not over then (if none then Line else Flusher) else later))
    ≡ (if none then Line else Flusher)
turn_if true over none later h k = absurd (cc)
turn_if false true none later h k = absurd (cc)
turn_if false false none later h k = refl

turn_before : (p : ℕ) (session : PlainSession) (s : Place)
    → s.terminal.phase < length session.phases
    → s.terminal.line_over ≡ false
    → turn p session s ≡ (if length (due p session s) == 0 then Line else Flusher)
turn_before p session s within over =
    let inside : nat_le (length session.phases) s.terminal.phase ≡ false = grind (arith, nat_tests) in
    turn_if (nat_le (length session.phases) s.terminal.phase) s.terminal.line_over (length (due p session s) == 0)
    (turn_after s.before
    (turn_by_rank (is_of_consoles session) (call_at p session) (callers_of p session s.terminal.phase) s.terminal))
    inside over

on_false : (b : Bool) (A B : Type 0) → b ≡ false → B → MatchBool b A B
on_false true A B h k = absurd (cc)
on_false false A B h k = k

some_is : (n : ℕ) → 0 < n → (n == 0) ≡ false
some_is n h = grind (arith, nat_tests)

pub flush_in_turn : (p : ℕ) (session : PlainSession) (s : Place) (step generation : ℕ) (chars : List Flagged)
    → s.terminal.phase < length session.phases
    → s.terminal.line_over ≡ false
    → due p session s ≡ chars
    → 0 < length chars
    → IsInTurn p session s
    (record { who = Flusher; step = step; part = 0; generation = generation; event = flushed chars })
flush_in_turn p session s step generation chars within over is some =
    let count : (length (due p session s) == 0) ≡ false =
    some_is (length (due p session s)) (omega (arith, ap length is)) in
    record {
      by_turn = sym (turn_before p session s within over ∙ if_false (length (due p session s) == 0) Line Flusher count);
      piece = on_false s.terminal.line_over _ ((chars ≡ due p session s) × (0 ≡ 0)) over (sym is, refl);
    }

pub line_in_turn : (p : ℕ) (session : PlainSession) (s : Place) (step generation n : ℕ)
    → s.terminal.phase < length session.phases → s.terminal.line_over ≡ false → due p session s ≡ []
    → IsInTurn p session s (record { who = Line; step = step; part = 0; generation = generation; event = line_ended n })
line_in_turn p session s step generation n within over is =
    record {
      by_turn = sym (turn_before p session s within over
          ∙ if_true (length (due p session s) == 0) Line Flusher (ap (λ (cs : List Flagged). length cs == 0) is));
      piece = tt;
    }
