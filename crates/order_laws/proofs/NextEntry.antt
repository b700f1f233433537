-- The next entry of a journal in the order of one thread: it is the same in each session of this shape.
use Rattle.std.proofs.Common.{◌≡◌, ◌≤◌, ℕ, ◌+◌, ◌-◌, min, List, [], ◌∷◌, ◌++◌, Bool}
use Rattle.std.proofs.Common.{true, false, not, ◌==◌, ◌||◌, if◌then◌else◌, Option, None, Some, is_some, length}
use Rattle.std.proofs.Common.{take, refl, sym, ◌∙◌, ap, subst, arith}
use Rattle.std.specs.Prelude.{nat_le, IsTrue, MatchBool}
use Rattle.std.proofs.lemmas.List.{take-take}
use Rattle.std.proofs.lemmas.Bool.{eq-eqb, le-leb}
use Rattle.std.proofs.lemmas.Bool.Decides.{nat_tests}
use Rattle.tty_base.specs.Sizes.{PIECE}
use Rattle.tty_base.specs.declared.characters.Flagged.{Flagged}
use Rattle.tty_base.specs.declared.lines.Overrun.{Overrun}
use Rattle.tty_calls.specs.declared.journals.Who.{Who}
use Rattle.tty_calls.specs.declared.journals.Who.TheVariants.{Caller, Flusher, Line, Clock, Session}
use Rattle.tty_calls.specs.Plain.{PlainCall, PlainEvent, answered, parted, waited, flushed, ticked, line_ended}
use Rattle.tty_calls.specs.Plain.{clock_ended, caller_ended, phase_ended, hung_up, PlainEntry, chars_in}
use Rattle.tty_calls.specs.Sessions.{PlainSession, call_at, counts_on}
use Rattle.tty_terminal.specs.declared.callers.Piece.{Piece}
use Rattle.tty_terminal.specs.Terminals.{Terminal, caller_at}
use Rattle.tty_terminal.specs.Outcomes as outcomes
use Rattle.tty_terminal.specs.Calls.{outcome_of}
use Rattle.tty_terminal.specs.Steps.{follows, ByCaller, IsAllowed, Allowed}
use Rattle.tty_terminal.specs.Runs.{Leads, phase_after}
use Rattle.legal_runs.proofs.PhaseLemmas.{phase-after}
use Rattle.legal_runs.specs.Legal.{ClockMark, clock_marks, line_ends}
use Rattle.legal_runs.specs.Legal.{first_step, steps_in, IsInPhase, AreInPhases}
use Rattle.legal_runs.proofs.Truths.{if_true}
use Rattle.legal_runs.specs.Order.{Place, first_place, next_place, accepted_front, due, turn}
use Rattle.legal_runs.specs.Order.{is_after_flush, IsPieceOf, AreInTurn, AllSeeAll, IsInOneOrder}
use Rattle.legal_runs.proofs.Places.{phase_from}
use Rattle.order_laws.specs.Growth.{HasShape}
use Rattle.order_laws.proofs.Growing.{due_same}
use Rattle.order_laws.proofs.Shapes.{counts_same, phases_same}
use Rattle.order_laws.proofs.TheEntry.{Coming, call_event, line_event, clock_event, the_event, coming_with, event_is}
use Rattle.order_laws.proofs.TheEntry.{is_fixed}

-- ---- step and part

by_both : (who : Who) (P Q : ℕ → Type 0) (R : Type 0) → ByCaller who P → ByCaller who Q → ((c : ℕ) → P c → Q c → R) → R
by_both (Caller c) P Q R h k f = f c h k
by_both Flusher P Q R h k f = absurd h
by_both Line P Q R h k f = absurd h
by_both Clock P Q R h k f = absurd h
by_both Session P Q R h k f = absurd h

-- the same piece begins, or goes on
follow_same : (f : Option Piece) (run part run' part' : ℕ)
    → IsTrue (follows f run part)
    → IsTrue (follows f run' part')
    → (part == 0) ≡ (part' == 0)
    → (run ≡ run') × (part ≡ part')
follow_same None run part run' part' h k e = (grind (arith, nat_tests), grind (arith, nat_tests))
follow_same (Some p) run part run' part' h k e = (grind (arith, nat_tests), grind (arith, nat_tests))

begins_both : (over : Bool) (A A' : Type 0) (B B' : Type 0) (part part' : ℕ) (x : Bool)
    → MatchBool over (A × ((part == 0) ≡ x)) (B × (part ≡ 0))
    → MatchBool over (A' × ((part' == 0) ≡ x)) (B' × (part' ≡ 0))
    → (part == 0) ≡ (part' == 0)
begins_both true A A' B B' part part' x h k = h.1 ∙ sym k.1
begins_both false A A' B B' part part' x h k = eq-eqb part 0 h.1 ∙ sym (eq-eqb part' 0 k.1)

numbers_of : (p : ℕ) (session later : PlainSession) (s : Place) (who : Who) (step part step' part' : ℕ)
    (event : PlainEvent)
    → IsAllowed (call_at p session) (counts_on p session) s.terminal who step part event
    → counts_on p later ≡ counts_on p session
    → IsAllowed (call_at p later) (counts_on p later) s.terminal who step' part' event
    → IsPieceOf p session s part event
    → IsPieceOf p later s part' event
    → (step ≡ step') × (part ≡ part')
numbers_of p session later s who step part step' part' (answered a dropped) h counts k piece piece' =
    by_both who _ _ _ h k (λ c x y. (x.next.at_step ∙ sym y.next.at_step, x.next.at_part ∙ sym y.next.at_part))
numbers_of p session later s who step part step' part' (parted n) h counts k piece piece' =
    by_both who _ _ _ h k (λ c x y. (x.next.at_step ∙ sym y.next.at_step, x.next.at_part ∙ sym y.next.at_part))
numbers_of p session later s who step part step' part' waited h counts k piece piece' =
    by_both who _ _ _ h k (λ c x y. (x.next.at_step ∙ sym y.next.at_step, x.next.at_part ∙ sym y.next.at_part))
numbers_of p session later s who step part step' part' (flushed chars) h counts k piece piece' =
    follow_same s.terminal.flushed step part step' part' h.1.numbered k.1.numbered
    (begins_both s.terminal.line_over _ _ _ _ part part' (not (is_after_flush s.before)) piece piece')
numbers_of p session later s who step part step' part' ticked h counts k piece piece' =
    (h.1.phase.at_step ∙ sym k.1.phase.at_step, h.1.phase.at_part ∙ sym k.1.phase.at_part)
numbers_of p session later s who step part step' part' (line_ended n) h counts k piece piece' =
    (h.1.phase.at_step ∙ sym k.1.phase.at_step, h.1.phase.at_part ∙ sym k.1.phase.at_part)
numbers_of p session later s who step part step' part' clock_ended h counts k piece piece' =
    (h.1.phase.at_step ∙ sym k.1.phase.at_step, h.1.phase.at_part ∙ sym k.1.phase.at_part)
numbers_of p session later s who step part step' part' caller_ended h counts k piece piece' =
    by_both who _ _ _ h k (λ c x y. (x.at_step ∙ sym y.at_step, x.at_part ∙ sym y.at_part))
numbers_of p session later s who step part step' part' phase_ended h counts k piece piece' =
    (h.1.phase.at_step ∙ sym k.1.phase.at_step, h.1.phase.at_part ∙ sym k.1.phase.at_part)
numbers_of p session later s who step part step' part' (hung_up dropped) h counts k piece piece' = (
  h.1.at_step ∙ (ap (λ (ns : List ℕ). length ns) (sym counts) ∙ sym k.1.at_step),
  h.1.at_part ∙ sym k.1.at_part,
)

-- ---- one entry

-- an entry that comes in its turn where each order has the same, and takes its piece
pub record IsOrderly (p : ℕ) (session : PlainSession) (s : Place) (e : PlainEntry) : Type 0 where
  pub by_turn : is_fixed session s ≡ true → e.who ≡ turn p session s
  pub piece : IsPieceOf p session s e.part e.event

abbrev pub AreOrderly : ℕ → PlainSession → Place → List PlainEntry → Type 0
AreOrderly p session s [] = Unit {0}
AreOrderly p session s (e ∷ es) = IsOrderly p session s e × AreOrderly p session (next_place (call_at p session) s e) es

-- a journal in such an order, with the overruns of its line
pub record KeepsOrder (p : ℕ) (session : PlainSession) (journal : List PlainEntry)
    (overruns : List Overrun) : Type 0 where
  pub turns : AreOrderly p session (first_place p session) journal
  pub seen : AllSeeAll p session journal overruns

-- the order of one thread is one
are_orderly : (p : ℕ) (session : PlainSession) (s : Place) (es : List PlainEntry)
    → AreInTurn p session s es
    → AreOrderly p session s es
are_orderly p session s [] h = tt
are_orderly p session s (e ∷ es) h = (
  record { by_turn = λ fixed. h.0.by_turn; piece = h.0.piece },
  are_orderly p session (next_place (call_at p session) s e) es h.1,
)

pub keeps_order : (p : ℕ) (session : PlainSession) (journal : List PlainEntry) (overruns : List Overrun)
    → IsInOneOrder p session journal overruns
    → KeepsOrder p session journal overruns
keeps_order p session journal overruns h =
    record { turns = are_orderly p session (first_place p session) journal h.turns; seen = h.seen }

-- an entry that may come next
pub record MayCome (p : ℕ) (session : PlainSession) (s : Place) (e : PlainEntry) : Type 0 where
  pub allowed : Allowed (call_at p session) (counts_on p session) s.terminal e
  pub in_turn : IsOrderly p session s e
  pub in_phase : IsInPhase p session s.terminal.phase e.who e.step e.event
  pub within : phase_after e.event s.terminal.phase ≤ length session.phases

-- of what comes, an entry takes characters that were sent, the next line's end and the next mark of the clock
front_in : (m : ℕ) (xs ys : List Flagged) → take m xs ≡ take m ys → take (min PIECE m) xs ≡ take (min PIECE m) ys
front_in m xs ys h =
    let within : min PIECE m ≤ m = omega arith in
    sym (take-take (min PIECE m) m xs within)
    ∙ (ap (λ (zs : List Flagged). take (min PIECE m) zs) h ∙ take-take (min PIECE m) m ys within)

same_call : (t : Terminal) (waits : Bool) (o : outcomes.Outcome) (xs ys : List Flagged)
    → take (t.sent - t.taken) xs ≡ take (t.sent - t.taken) ys
    → call_event t waits o xs ≡ call_event t waits o ys
same_call t waits outcomes.unknown xs ys h = refl
same_call t waits outcomes.waits xs ys h = refl
same_call t waits (outcomes.takes n left) xs ys h = refl
same_call t waits (outcomes.gives answer drops left) xs ys h =
    ap (λ (zs : List Flagged). answered answer (if drops then zs else [])) h

same_event : (p : ℕ) (session : PlainSession) (s : Place) (who : Who) (c d : Coming)
    → take (s.terminal.sent - s.terminal.taken) c.chars ≡ take (s.terminal.sent - s.terminal.taken) d.chars
    → (who ≡ Line → line_event c.lines ≡ line_event d.lines)
    → c.marks ≡ d.marks
    → the_event p session s c who ≡ the_event p session s d who
same_event p session s (Caller n) c d chars lines marks =
    ap (λ (event : PlainEvent).
    if nat_le (first_step p session s.terminal.phase n + steps_in p session s.terminal.phase n)
    (caller_at s.terminal n).next
    then caller_ended
    else event)
    (same_call s.terminal (is_some (caller_at s.terminal n).waits)
    (outcome_of s.terminal (caller_at s.terminal n) (call_at p session n (caller_at s.terminal n).next))
    c.chars d.chars chars)
same_event p session s Flusher c d chars lines marks =
    ap (λ (cs : List Flagged). flushed (if s.terminal.line_over then accepted_front s.terminal cs else due p session s))
    (front_in (s.terminal.sent - s.terminal.taken) c.chars d.chars chars)
same_event p session s Line c d chars lines marks = lines refl
same_event p session s Clock c d chars lines marks = ap clock_event marks
same_event p session s Session c d chars lines marks =
    ap (λ (cs : List Flagged). if nat_le (length session.phases) s.terminal.phase then hung_up cs else phase_ended)
    chars

-- what comes of a caller: the end of its calls, or its next call
abbrev pub coming_call : ℕ → PlainSession → Place → ℕ → Option (Option PlainCall)
coming_call p session s c =
    if nat_le (first_step p session s.terminal.phase c + steps_in p session s.terminal.phase c)
    (caller_at s.terminal c).next
    then None
    else Some (call_at p session c (caller_at s.terminal c).next)

abbrev event_by : Terminal → ℕ → List Flagged → Option (Option PlainCall) → PlainEvent
event_by t c chars None = caller_ended
event_by t c chars (Some call) =
    call_event t (is_some (caller_at t c).waits) (outcome_of t (caller_at t c) call) chars

by_coming : (ended : Bool) (t : Terminal) (c : ℕ) (call : Option PlainCall) (chars : List Flagged)
    → (if ended then caller_ended
    else call_event t (is_some (caller_at t c).waits) (outcome_of t (caller_at t c) call) chars)
    ≡ event_by t c chars (if ended then None else Some call)
by_coming true t c call chars = refl
by_coming false t c call chars = refl

-- two sessions of one shape have the same entry come, where the same comes of the caller whose turn it is
other_event : (p : ℕ) (session later : PlainSession) (s : Place) (who : Who) (d : Coming)
    → HasShape p session later
    → ((c : ℕ) → who ≡ Caller c → coming_call p session s c ≡ coming_call p later s c)
    → the_event p session s d who ≡ the_event p later s d who
other_event p session later s (Caller c) d shape coming =
    by_coming (nat_le (first_step p session s.terminal.phase c + steps_in p session s.terminal.phase c)
    (caller_at s.terminal c).next) s.terminal c (call_at p session c (caller_at s.terminal c).next) d.chars
    ∙ (ap (λ (o : Option (Option PlainCall)). event_by s.terminal c d.chars o) (coming c refl)
    ∙ sym (by_coming (nat_le (first_step p later s.terminal.phase c + steps_in p later s.terminal.phase c)
    (caller_at s.terminal c).next) s.terminal c (call_at p later c (caller_at s.terminal c).next) d.chars))
other_event p session later s Flusher d shape coming =
    ap (λ (cs : List Flagged). flushed (if s.terminal.line_over
    then accepted_front s.terminal (take (min PIECE (s.terminal.sent - s.terminal.taken)) d.chars)
    else cs)) (due_same p session later s shape)
other_event p session later s Line d shape coming = refl
other_event p session later s Clock d shape coming = refl
other_event p session later s Session d shape coming =
    ap (λ (n : ℕ).
    if nat_le n s.terminal.phase then hung_up (take (s.terminal.sent - s.terminal.taken) d.chars) else phase_ended)
    (sym (phases_same p session later shape))

pub same_entry : (p : ℕ) (session later : PlainSession) (s : Place) (e e' : PlainEntry) (chars chars' : List Flagged)
    (lines lines' : List ℕ) (marks marks' : List ClockMark)
    → HasShape p session later
    → e.who ≡ e'.who
    → ((c : ℕ) → e.who ≡ Caller c → coming_call p session s c ≡ coming_call p later s c)
    → MayCome p session s e
    → MayCome p later s e'
    → take (s.terminal.sent - s.terminal.taken) (chars_in e.event ++ chars)
    ≡ take (s.terminal.sent - s.terminal.taken) (chars_in e'.event ++ chars')
    → (e.who ≡ Line → line_event (line_ends e.event ++ lines) ≡ line_event (line_ends e'.event ++ lines'))
    → clock_marks e.event ++ marks ≡ clock_marks e'.event ++ marks'
    → e ≡ e'
same_entry p session later s e e' chars chars' lines lines' marks marks'
    shape who coming h h' fronts ends clock =
    let calls = call_at p later in
    let counts = counts_on p later in
    let is = event_is p session s e.who e.step e.part e.event chars lines marks h.allowed.1
    h.in_turn.by_turn h.in_turn.piece h.in_phase h.within in
    let is' = event_is p later s e'.who e'.step e'.part e'.event chars' lines' marks' h'.allowed.1
    h'.in_turn.by_turn h'.in_turn.piece h'.in_phase h'.within in
    let same = same_event p session s e.who (coming_with e.event chars lines marks)
    (coming_with e'.event chars' lines' marks') fronts ends clock in
    let over = other_event p session later s e.who (coming_with e'.event chars' lines' marks') shape coming in
    let event : e.event ≡ e'.event =
    is
    ∙ (same
    ∙ (over ∙ (ap (λ (w : Who). the_event p later s (coming_with e'.event chars' lines' marks') w) who ∙ sym is'))) in
    let allowed' : IsAllowed calls counts s.terminal e.who e'.step e'.part e.event =
    subst (λ (w : Who). IsAllowed calls counts s.terminal w e'.step e'.part e.event) (sym who)
    (subst (λ (x : PlainEvent). IsAllowed calls counts s.terminal e'.who e'.step e'.part x) (sym event) h'.allowed.1) in
    let piece' : IsPieceOf p later s e'.part e.event =
    subst (λ (x : PlainEvent). IsPieceOf p later s e'.part x) (sym event) h'.in_turn.piece in
    let numbers =
    numbers_of p session later s e.who e.step e.part e'.step e'.part e.event h.allowed.1
    (counts_same p session later shape) allowed' h.in_turn.piece piece' in
    let generation : e.generation ≡ e'.generation = h.allowed.0 ∙ sym h'.allowed.0 in
    λ i. record { who = who i; step = numbers.0 i; part = numbers.1 i; generation = generation i; event = event i }

-- ---- all entries

abbrev pub hang_of : PlainEvent → ℕ
hang_of (answered a dropped) = 0
hang_of (parted n) = 0
hang_of waited = 0
hang_of (flushed chars) = 0
hang_of ticked = 0
hang_of (line_ended n) = 0
hang_of clock_ended = 0
hang_of caller_ended = 0
hang_of phase_ended = 0
hang_of (hung_up dropped) = 1

-- how many hangups there are
abbrev pub hangs : List PlainEntry → ℕ
hangs [] = 0
hangs (e ∷ es) = hang_of e.event + hangs es

phase_rises : (event : PlainEvent) (k : ℕ) → k ≤ phase_after event k
phase_rises (answered a dropped) k = omega arith
phase_rises (parted n) k = omega arith
phase_rises waited k = omega arith
phase_rises (flushed chars) k = omega arith
phase_rises ticked k = omega arith
phase_rises (line_ended n) k = omega arith
phase_rises clock_ended k = omega arith
phase_rises caller_ended k = omega arith
phase_rises phase_ended k = omega arith
phase_rises (hung_up dropped) k = omega arith

phases_rise : (k : ℕ) (es : List PlainEntry) → k ≤ phase_from k es
phases_rise k [] = omega arith
phases_rise k (e ∷ es) =
    let here = phase_rises e.event k in let rest = phases_rise (phase_after e.event k) es in omega arith

-- what is left of a journal, from a place to its end
pub record IsRest (p : ℕ) (session : PlainSession) (s : Place) (es : List PlainEntry) : Type 0 where
  pub last : Terminal
  pub leads : Leads (call_at p session) (counts_on p session) s.terminal es last
  pub turns : AreOrderly p session s es
  pub phases : AreInPhases p session s.terminal.phase es
  pub ends : phase_from s.terminal.phase es ≡ length session.phases

pub may_come : (p : ℕ) (session : PlainSession) (s : Place) (e : PlainEntry) (es : List PlainEntry)
    → IsRest p session s (e ∷ es)
    → MayCome p session s e
may_come p session s e es h =
    let up = phases_rise (phase_after e.event s.terminal.phase) es in
    let end = h.ends in
    record { allowed = h.leads.0; in_turn = h.turns.0; in_phase = h.phases.0; within = omega arith }

pub rest_of : (p : ℕ) (session : PlainSession) (s : Place) (e : PlainEntry) (es : List PlainEntry)
    → IsRest p session s (e ∷ es)
    → IsRest p session (next_place (call_at p session) s e) es
rest_of p session s e es h =
    let at = phase-after (call_at p session) (counts_on p session) s.terminal e h.leads.0 in
    record {
      last = h.last;
      leads = h.leads.1;
      turns = h.turns.1;
      phases = subst (λ (k : ℕ). AreInPhases p session k es) (sym at) h.phases.1;
      ends = ap (λ (k : ℕ). phase_from k es) at ∙ h.ends;
    }

-- a journal does not go on without a hangup once its phases are over
no_caller : (who : Who) (P : ℕ → Type 0) → ByCaller who P → who ≡ Session → ⊥
no_caller (Caller c) P h is = absurd (cc)
no_caller Flusher P h is = absurd h
no_caller Line P h is = absurd h
no_caller Clock P h is = absurd h
no_caller Session P h is = absurd h

session_hangs : (who : Who) (k n : ℕ) (calls : ℕ → ℕ → Option PlainCall) (counts : List ℕ) (t : Terminal)
    (step part : ℕ) (event : PlainEvent)
    → IsAllowed calls counts t who step part event
    → who ≡ Session
    → n ≤ k
    → phase_after event k ≤ n
    → 1 ≤ hang_of event
session_hangs who k n calls counts t step part (answered a dropped) h is past within = absurd (no_caller who _ h is)
session_hangs who k n calls counts t step part (parted taken) h is past within = absurd (no_caller who _ h is)
session_hangs who k n calls counts t step part waited h is past within = absurd (no_caller who _ h is)
session_hangs who k n calls counts t step part (flushed chars) h is past within = let q = sym h.0 ∙ is in absurd (cc)
session_hangs who k n calls counts t step part ticked h is past within = let q = sym h.0 ∙ is in absurd (cc)
session_hangs who k n calls counts t step part (line_ended sent) h is past within = let q = sym h.0 ∙ is in absurd (cc)
session_hangs who k n calls counts t step part clock_ended h is past within = let q = sym h.0 ∙ is in absurd (cc)
session_hangs who k n calls counts t step part caller_ended h is past within = absurd (no_caller who _ h is)
session_hangs who k n calls counts t step part phase_ended h is past within = absurd (omega arith)
session_hangs who k n calls counts t step part (hung_up dropped) h is past within = omega arith

pub nothing_more : (p : ℕ) (session : PlainSession) (s : Place) (e : PlainEntry) (es : List PlainEntry)
    → s.terminal.phase ≡ length session.phases
    → IsRest p session s (e ∷ es)
    → hangs (e ∷ es) ≡ 0
    → ⊥
nothing_more p session s e es end h none =
    let may = may_come p session s e es h in
    let past : length session.phases ≤ s.terminal.phase = omega (arith, end) in
    let fixed : is_fixed session s ≡ true =
    ap (λ (b : Bool). b || not s.terminal.line_over) (le-leb (length session.phases) s.terminal.phase past) in
    let is : e.who ≡ Session =
    may.in_turn.by_turn fixed
    ∙ if_true (nat_le (length session.phases) s.terminal.phase) Session _
    (le-leb (length session.phases) s.terminal.phase past) in
    let some = session_hangs e.who s.terminal.phase (length session.phases) (call_at p session) (counts_on p session)
    s.terminal e.step e.part e.event may.allowed.1 is past may.within in
    absurd (omega (arith, some, none))
