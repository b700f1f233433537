-- A journal of a session is one of each session that grew out of it.
use Rattle.std.proofs.Common.{◌≡◌, ◌≤◌, ◌<◌, ◌⊎◌, inl, inr, ℕ, List, [], ◌∷◌, Bool, true}
use Rattle.std.proofs.Common.{false, not, ◌&&◌, ◌||◌, ◌==◌, Option, None, Some}
use Rattle.std.proofs.Common.{if◌then◌else◌, length, sum, refl, sym, ◌∙◌, ap, subst, arith}
use Rattle.std.proofs.lemmas.Bool.{false≢true, eq-eqb}
use Rattle.std.specs.Prelude.{IsTrue, MatchBool, nat_le, slice_index, slice_index_or}
use Rattle.tty_base.specs.declared.characters.Flagged.{Flagged}
use Rattle.tty_calls.specs.declared.journals.Who.{Who}
use Rattle.tty_calls.specs.declared.journals.Who.TheVariants.{Caller, Flusher, Line, Clock, Session}
use Rattle.tty_calls.specs.Plain.{PlainCall, PlainEvent, answered, parted, waited, flushed, ticked, line_ended}
use Rattle.tty_calls.specs.Plain.{clock_ended, caller_ended, phase_ended, hung_up, PlainEntry, is_caller}
use Rattle.tty_calls.specs.Sessions.{PlainSession, call_at, counts_on}
use Rattle.tty_terminal.specs.Terminals.{Terminal, opening, caller_at}
use Rattle.tty_terminal.specs.Calls.{outcome_of}
use Rattle.tty_terminal.specs.Steps.{Allowed, after, nothing_to_flush, is_wait}
use Rattle.tty_terminal.specs.Standing.{Standing, standing_of, standing_after}
use Rattle.tty_terminal.specs.Standing.{standing_after_own, standing_after_other, standing_in}
use Rattle.tty_terminal.specs.Runs.{IsRun, Leads, KnowsMore, phase_after}
use Rattle.tty_terminal.proofs.Grown.{after_grown, leads_grown}
use Rattle.tty_terminal.proofs.StandingLaws.{step_stands, leads_stands}
use Rattle.legal_runs.specs.Legal.{IsInPhase, AreInPhases, is_caller_end, steps_in, flip_on}
use Rattle.legal_runs.proofs.PhaseLemmas.{phase-after}
use Rattle.legal_runs.proofs.Truths.{if_true}
use Rattle.legal_runs.specs.Order.{Place, first_place, next_place, AreInTurn, IsPieceOf, is_most, is_after_flush}
use Rattle.legal_runs.specs.Order.{front_to_flush, due, turn, turn_after, turn_by_rank, is_of_consoles, callers_of}
use Rattle.legal_runs.specs.Order.{cuts_flushed, first_of, can_go_on, is_waiting, must_wait}
use Rattle.legal_runs.proofs.Places.{phase_from, leads_phase}
use Rattle.one_thread.proofs.Ranks.{first_same}
use Rattle.order_laws.specs.Growth.{HasShape, Grew, KeepsEnded}
use Rattle.order_laws.proofs.Shapes.{phases_same, counts_same, cuts_same, callers_same, caller_same}
use Rattle.order_laws.proofs.Waits.{KnowsAll, knows_after, knows_first}

-- ---- whose turn it is

-- the two sessions, on a port
record Pair (p : ℕ) (session later : PlainSession) : Type 0 where
  shape : HasShape p session later
  calls : KnowsMore (call_at p session) (call_at p later)

can_case : (waits over x y : Bool)
    → (waits ≡ true → x ≡ y)
    → (not over && (not waits || not x)) ≡ (not over && (not waits || not y))
can_case false over x y h = refl
can_case true over x y h = ap (λ (z : Bool). not over && (not true || not z)) (h refl)

-- the calls of those who wait are the same
abbrev pub WaitAlike : ℕ → (session later : PlainSession) → Terminal → Type 0
WaitAlike p session later t =
    (c : ℕ)
    → is_waiting t c ≡ true
    → call_at p session c (caller_at t c).next ≡ call_at p later c (caller_at t c).next

pair_waits : (p : ℕ) (session later : PlainSession) (t : Terminal)
    → Pair p session later
    → KnowsAll (call_at p session) t
    → WaitAlike p session later t
pair_waits p session later t pair knows c waits =
    let known = knows c waits in
    known.1 ∙ sym (pair.calls c (caller_at t c).next known.0 known.1)

can_same : (p : ℕ) (session later : PlainSession) (t : Terminal) (c : ℕ)
    → WaitAlike p session later t
    → can_go_on (call_at p session) t c ≡ can_go_on (call_at p later) t c
can_same p session later t c alike =
    can_case (is_waiting t c) (caller_at t c).over (must_wait (call_at p session) t c) (must_wait (call_at p later) t c)
    (λ waits. ap (λ (o : Option PlainCall). is_wait (outcome_of t (caller_at t c) o)) (alike c waits))

rank_same : (p : ℕ) (session later : PlainSession) (t : Terminal)
    → HasShape p session later
    → WaitAlike p session later t
    → turn_by_rank (is_of_consoles session) (call_at p session) (callers_of p session t.phase) t
    ≡ turn_by_rank (is_of_consoles later) (call_at p later) (callers_of p later t.phase) t
rank_same p session later t shape alike =
    let callers = callers_of p session t.phase in
    ap (λ (who : Who).
    if not (nothing_to_flush t) then Flusher else if is_of_consoles session && not t.clock_over then Clock else who)
    (first_same (can_go_on (call_at p session) t) (can_go_on (call_at p later) t) callers
    (if not t.clock_over then Clock else first_of (is_waiting t) callers Session)
    (λ i lt. can_same p session later t (slice_index callers i) alike))
    ∙ (ap (λ (cs : List ℕ). turn_by_rank (is_of_consoles session) (call_at p later) cs t)
    (sym (callers_same p session later t.phase shape))
    ∙ ap (λ (first : Bool). turn_by_rank first (call_at p later) (callers_of p later t.phase) t)
    (sym shape.consoles))

pub due_same : (p : ℕ) (session later : PlainSession) (s : Place)
    → HasShape p session later
    → due p session s ≡ due p later s
due_same p session later s shape =
    ap (λ (cuts : List (List Flagged)). front_to_flush s.terminal (slice_index_or cuts s.cuts []))
    (sym (cuts_same p session later s.terminal.phase shape))

pub turn_same : (p : ℕ) (session later : PlainSession) (s : Place)
    → HasShape p session later
    → WaitAlike p session later s.terminal
    → turn p session s ≡ turn p later s
turn_same p session later s shape alike =
    let phases = sym (phases_same p session later shape) in
    let taken = due_same p session later s shape in
    let rank = rank_same p session later s.terminal shape alike in
    λ i.
    if nat_le (phases i) s.terminal.phase then Session
    else if not s.terminal.line_over then (if length (taken i) == 0 then Line else Flusher)
    else turn_after s.before (rank i)

abbrev PieceBy : Place → ℕ → List Flagged → List Flagged → Type 0
PieceBy s part chars taken =
    MatchBool s.terminal.line_over
    (IsTrue (is_most s.terminal chars) × ((part == 0) ≡ not (is_after_flush s.before)))
    ((chars ≡ taken) × (part ≡ 0))

piece_same : (p : ℕ) (session later : PlainSession) (s : Place) (part : ℕ) (event : PlainEvent)
    → HasShape p session later
    → IsPieceOf p session s part event
    → IsPieceOf p later s part event
piece_same p session later s part (answered a dropped) shape h = h
piece_same p session later s part (parted taken) shape h = h
piece_same p session later s part waited shape h = h
piece_same p session later s part (flushed chars) shape h =
    subst (PieceBy s part chars) (due_same p session later s shape) h
piece_same p session later s part ticked shape h = h
piece_same p session later s part (line_ended n) shape h = h
piece_same p session later s part clock_ended shape h = h
piece_same p session later s part caller_ended shape h = h
piece_same p session later s part phase_ended shape h = h
piece_same p session later s part (hung_up dropped) shape h = h

next_same : (p : ℕ) (session later : PlainSession) (s : Place) (e : PlainEntry)
    → Pair p session later
    → Allowed (call_at p session) (counts_on p session) s.terminal e
    → next_place (call_at p session) s e ≡ next_place (call_at p later) s e
next_same p session later s e pair allowed =
    let terminal =
    sym (after_grown (call_at p session) (call_at p later) (counts_on p session) s.terminal e pair.calls allowed).1 in
    λ i. record { terminal = terminal i; before = Some e; cuts = cuts_flushed s.terminal e.event s.cuts }

turns_grow : (p : ℕ) (session later : PlainSession) (s : Place) (es : List PlainEntry) (t : Terminal)
    → Pair p session later
    → KnowsAll (call_at p session) s.terminal
    → Leads (call_at p session) (counts_on p session) s.terminal es t
    → AreInTurn p session s es
    → AreInTurn p later s es
turns_grow p session later s [] t pair knows leads turns = tt
turns_grow p session later s (e ∷ es) t pair knows leads turns = (
  record {
    by_turn = turns.0.by_turn
        ∙ turn_same p session later s pair.shape (pair_waits p session later s.terminal pair knows);
    piece = piece_same p session later s e.part e.event pair.shape turns.0.piece;
  },
  subst (λ (next : Place). AreInTurn p later next es) (next_same p session later s e pair leads.0)
      (turns_grow p session later (next_place (call_at p session) s e) es t pair
      (knows_after (call_at p session) (counts_on p session) s.terminal e leads.0 knows) leads.1 turns.1),
)

-- ---- phases

phase_grows : (event : PlainEvent) (k : ℕ) → k ≤ phase_after event k
phase_grows (answered a dropped) k = omega arith
phase_grows (parted taken) k = omega arith
phase_grows waited k = omega arith
phase_grows (flushed chars) k = omega arith
phase_grows ticked k = omega arith
phase_grows (line_ended n) k = omega arith
phase_grows clock_ended k = omega arith
phase_grows caller_ended k = omega arith
phase_grows phase_ended k = omega arith
phase_grows (hung_up dropped) k = omega arith

pub from_grows : (k : ℕ) (es : List PlainEntry) → k ≤ phase_from k es
from_grows k [] = omega arith
from_grows k (e ∷ es) = omega (arith, phase_grows e.event k, from_grows (phase_after e.event k) es)

-- who is over stays so in the phase
own_over : (event : PlainEvent) (generation : ℕ) (q : Standing)
    → q.over ≡ true
    → (standing_after_own event generation q).over ≡ true
own_over (answered a dropped) generation q h = h
own_over (parted taken) generation q h = h
own_over waited generation q h = h
own_over (flushed chars) generation q h = h
own_over ticked generation q h = h
own_over (line_ended n) generation q h = h
own_over clock_ended generation q h = h
own_over caller_ended generation q h = refl
own_over phase_ended generation q h = h
own_over (hung_up dropped) generation q h = h

other_over : (event : PlainEvent) (k : ℕ) (q : Standing)
    → phase_after event k ≡ k
    → q.over ≡ true
    → (standing_after_other event q).over ≡ true
other_over (answered a dropped) k q same h = h
other_over (parted taken) k q same h = h
other_over waited k q same h = h
other_over (flushed chars) k q same h = h
other_over ticked k q same h = h
other_over (line_ended n) k q same h = h
other_over clock_ended k q same h = h
other_over caller_ended k q same h = h
other_over phase_ended k q same h = absurd (omega (arith, same))
other_over (hung_up dropped) k q same h = h

either_over : (b : Bool) (e : PlainEntry) (k : ℕ) (q : Standing) → phase_after e.event k ≡ k → q.over ≡ true
    → (if b then standing_after_own e.event e.generation q else standing_after_other e.event q).over ≡ true
either_over true e k q same h = own_over e.event e.generation q h
either_over false e k q same h = other_over e.event k q same h

pub over_stays : (c k : ℕ) (es : List PlainEntry) (q : Standing)
    → phase_from k es ≡ k
    → q.over ≡ true
    → (standing_in c es q).over ≡ true
over_stays c k [] q same h = h
over_stays c k (e ∷ es) q same h =
    let here : phase_after e.event k ≡ k =
    omega (arith, same, phase_grows e.event k, from_grows (phase_after e.event k) es) in
    over_stays c k es (standing_after c e q) (subst (λ (j : ℕ). phase_from j es ≡ k) here same)
    (either_over (is_caller e.who c) e k q here h)

ends_over : (event : PlainEvent) (generation : ℕ) (q : Standing)
    → IsTrue (is_caller_end event)
    → (standing_after_own event generation q).over ≡ true
ends_over (answered a dropped) generation q h = absurd (false≢true h)
ends_over (parted taken) generation q h = absurd (false≢true h)
ends_over waited generation q h = absurd (false≢true h)
ends_over (flushed chars) generation q h = absurd (false≢true h)
ends_over ticked generation q h = absurd (false≢true h)
ends_over (line_ended n) generation q h = absurd (false≢true h)
ends_over clock_ended generation q h = absurd (false≢true h)
ends_over caller_ended generation q h = refl
ends_over phase_ended generation q h = absurd (false≢true h)
ends_over (hung_up dropped) generation q h = absurd (false≢true h)

end_stays : (event : PlainEvent) (k : ℕ) → IsTrue (is_caller_end event) → phase_after event k ≡ k
end_stays (answered a dropped) k h = refl
end_stays (parted taken) k h = refl
end_stays waited k h = refl
end_stays (flushed chars) k h = refl
end_stays ticked k h = refl
end_stays (line_ended n) k h = refl
end_stays clock_ended k h = refl
end_stays caller_ended k h = refl
end_stays phase_ended k h = absurd (false≢true h)
end_stays (hung_up dropped) k h = refl

-- a caller whose end stands in the phase that a run has come to is over there
ended_over : (f : ℕ → ℕ → Option PlainCall) (counts : List ℕ) (u : Terminal) (e : PlainEntry) (es : List PlainEntry)
    (t : Terminal) (c : ℕ)
    → Leads f counts u (e ∷ es) t
    → e.who ≡ Caller c
    → IsTrue (is_caller_end e.event)
    → u.phase ≡ t.phase
    → (caller_at t c).over ≡ true
ended_over f counts u e es t c leads who ends same =
    let q = standing_of (caller_at u c) in
    let next = after f u e in
    let own : standing_after c e q ≡ standing_after_own e.event e.generation q =
    ap
    (λ (w : Who). if is_caller w c then standing_after_own e.event e.generation q else standing_after_other e.event q)
    who
    ∙ if_true (c == c) _ _ (eq-eqb c c refl) in
    let over : (standing_of (caller_at next c)).over ≡ true =
    ap (λ (x : Standing). x.over) (step_stands f counts u e leads.0 c ∙ own) ∙ ends_over e.event e.generation q ends in
    let phase : next.phase ≡ t.phase = phase-after f counts u e leads.0 ∙ (end_stays e.event u.phase ends ∙ same) in
    let from : phase_from next.phase es ≡ next.phase = leads_phase f counts next es t leads.1 ∙ sym phase in
    ap (λ (x : Standing). x.over) (leads_stands f counts next es t leads.1 c)
    ∙ over_stays c next.phase es (standing_of (caller_at next c)) from over

earlier : (a b : ℕ) → a ≤ b → (a < b) ⊎ (a ≡ b)
earlier a b le = grind arith

steps_rise : (p k : ℕ) (session later : PlainSession) (j c : ℕ)
    → Grew p k session later
    → j ≤ k
    → steps_in p session j c ≤ steps_in p later j c
steps_rise p k session later j c grew le =
    elim (earlier j k le) [
      | inl lt ↦ (let same = grew.before j c lt in omega (arith, same))
      | inr is ↦ subst (λ (i : ℕ). steps_in p session i c ≤ steps_in p later i c) (sym is) (grew.now c)
    ]

in_phase : (p k : ℕ) (session later : PlainSession) (j : ℕ) (who : Who) (step : ℕ) (event : PlainEvent)
    → Grew p k session later
    → j ≤ k
    → ((c : ℕ) → who ≡ Caller c → IsTrue (is_caller_end event) → steps_in p later j c ≡ steps_in p session j c)
    → IsInPhase p session j who step event
    → IsInPhase p later j who step event
in_phase p k session later j (Caller c) step event grew le ended h =
    let first = grew.first j c le in (
      caller_same p session later j c grew.shape ∙ h.0,
      (λ of_call. (let at = h.1 of_call in
          (omega (arith, first, at.0), omega (arith, first, at.1, steps_rise p k session later j c grew le)))),
      (λ ends. (let past = h.2 ends in let same = ended c refl ends in omega (arith, first, past, same))),
    )
in_phase p k session later j Flusher step event grew le ended h = tt
in_phase p k session later j Line step event grew le ended h = tt
in_phase p k session later j Clock step event grew le ended h = tt
in_phase p k session later j Session step event grew le ended h = tt

pub phases_grow : (p : ℕ) (session later : PlainSession) (u : Terminal) (es : List PlainEntry) (t : Terminal)
    → Grew p t.phase session later
    → KeepsEnded p t.phase session later t
    → Leads (call_at p session) (counts_on p session) u es t
    → AreInPhases p session u.phase es
    → AreInPhases p later u.phase es
phases_grow p session later u [] t grew keeps leads phases = tt
phases_grow p session later u (e ∷ es) t grew keeps leads phases =
    let f = call_at p session in
    let counts = counts_on p session in
    let next = after f u e in
    let moves = phase-after f counts u e leads.0 in
    let within : u.phase ≤ t.phase =
    (let at = leads_phase f counts u (e ∷ es) t leads in omega (arith, at, from_grows u.phase (e ∷ es))) in
    let ended : (c : ℕ)
    → e.who ≡ Caller c
    → IsTrue (is_caller_end e.event)
    → steps_in p later u.phase c ≡ steps_in p session u.phase c =
    λ c who ends.
    elim (earlier u.phase t.phase within) [
      | inl lt ↦ grew.before u.phase c lt
      | inr is ↦ subst (λ (i : ℕ). steps_in p later i c ≡ steps_in p session i c) (sym is)
          (keeps c (ended_over f counts u e es t c leads who ends is))
    ] in (
      in_phase p t.phase session later u.phase e.who e.step e.event grew within ended phases.0,
      subst (λ (j : ℕ). AreInPhases p later j es) moves
          (phases_grow p session later next es t grew keeps leads.1
          (subst (λ (j : ℕ). AreInPhases p session j es) (sym moves) phases.1)),
    )

-- ---- the run

run_grows : (p : ℕ) (session later : PlainSession) (journal : List PlainEntry) (t : Terminal)
    → Pair p session later
    → IsRun (call_at p session) (counts_on p session) (flip_on p session) journal t
    → IsRun (call_at p later) (counts_on p later) (flip_on p later) journal t
run_grows p session later journal t pair run =
    let grown = leads_grown (call_at p session) (call_at p later) (counts_on p session) _ journal t pair.calls run in
    let counts = sym (counts_same p session later pair.shape) in
    let flip = sym pair.shape.flip in
    subst (λ (n : ℕ). IsRun (call_at p later) (counts_on p later) n journal t) flip
    (subst (λ (ns : List ℕ). IsRun (call_at p later) ns (flip_on p session) journal t) counts grown)

pub place_same : (p : ℕ) (session later : PlainSession)
    → HasShape p session later
    → first_place p session ≡ first_place p later
place_same p session later shape =
    let counts = sym (counts_same p session later shape) in
    let flip = sym shape.flip in
    λ i. record { terminal = opening (sum (counts i)) (flip i); before = None; cuts = 0 }

pub grows : (p : ℕ) (session later : PlainSession) (journal : List PlainEntry) (t : Terminal)
    → Grew p t.phase session later
    → KeepsEnded p t.phase session later t
    → IsRun (call_at p session) (counts_on p session) (flip_on p session) journal t
    → AreInPhases p session 0 journal
    → AreInTurn p session (first_place p session) journal
    → IsRun (call_at p later) (counts_on p later) (flip_on p later) journal t
    × AreInPhases p later 0 journal
    × AreInTurn p later (first_place p later) journal
grows p session later journal t grew keeps run phases turns =
    let pair : Pair p session later = record { shape = grew.shape; calls = grew.calls } in (
      run_grows p session later journal t pair run,
      phases_grow p session later (opening (sum (counts_on p session)) (flip_on p session))
          journal t grew keeps run phases,
      subst (λ (s : Place). AreInTurn p later s journal) (place_same p session later grew.shape)
          (turns_grow p session later (first_place p session) journal t pair
          (knows_first (call_at p session) (counts_on p session) (flip_on p session)) run turns),
    )
