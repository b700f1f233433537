-- Two runs at a place of their journals: what their lines have sent and lost, and when these end.
use Rattle.std.proofs.Common.{◌≡◌, ◌≤◌, ◌<◌, inl, inr, ℕ, zero, suc, ◌+◌, ◌-◌, List, [], ◌∷◌, ◌++◌, Bool}
use Rattle.std.proofs.Common.{true, false, not, ◌==◌, ◌||◌, if◌then◌else◌, Option, length, map}
use Rattle.std.proofs.Common.{take, drop, refl, sym, ◌∙◌, ap, subst, arith, add-zero}
use Rattle.std.specs.Prelude.{nat_le, All}
use Rattle.std.proofs.lemmas.Bool.{leb-false}
use Rattle.tty_base.specs.declared.characters.Flagged.{Flagged}
use Rattle.tty_base.specs.declared.lines.LineStep.{LineStep}
use Rattle.tty_base.specs.declared.lines.Overrun.{Overrun}
use Rattle.tty_calls.specs.declared.journals.Who.{Who}
use Rattle.tty_calls.specs.declared.journals.Who.TheVariants.{Caller, Flusher, Line, Clock, Session}
use Rattle.tty_calls.specs.Plain.{PlainCall, PlainEvent, answered, parted, waited, flushed, ticked, line_ended}
use Rattle.tty_calls.specs.Plain.{clock_ended, caller_ended, phase_ended, hung_up, PlainEntry}
use Rattle.tty_calls.specs.Sessions.{PlainPhase, PlainSession, line_on, call_at, counts_on}
use Rattle.uart_line.specs.Received.{received_list, script}
use Rattle.uart_line.specs.Offered.{kept_list, AreShown}
use Rattle.tty_terminal.specs.Terminals.{Terminal}
use Rattle.tty_terminal.specs.Steps.{ByCaller, IsAllowed}
use Rattle.tty_terminal.specs.Runs.{chars_of}
use Rattle.legal_runs.specs.Legal.{clock_marks_in, line_ends}
use Rattle.legal_runs.specs.Legal.{line_ends_in}
use Rattle.legal_runs.specs.Legal.{before_line_end, received_before, sent_by, script_of_first, script_on, flip_on}
use Rattle.legal_runs.specs.Legal.{IsOverrunOfPhase}
use Rattle.legal_runs.specs.Legal.{AreSeen}
use Rattle.legal_runs.specs.Order.{Place}
use Rattle.legal_runs.specs.Order.{AllSeeAll}
use Rattle.play_base.proofs.ReceivedLemmas.{script_parts, list_grows, kept_later}
use Rattle.order_laws.specs.Lost.{overruns_after, taken_before_line_end, excess, overruns_before}
use Rattle.order_laws.specs.Growth.{HasShape}
use Rattle.order_laws.proofs.Shapes.{first_lines_same, phases_same}
use Rattle.order_laws.proofs.Losing.{first_or, kept_begins, either_side, all_above}
use Rattle.order_laws.proofs.Losing.{Loses, lost_before}
use Rattle.order_laws.proofs.NextEntry.{hangs}
use Rattle.order_laws.proofs.OneLine.{one_if, lines_over, all_lines, Ends, IsLeft}

-- ---- what is known of two runs at a place

-- what is known of a whole run
pub record Whole (p : ℕ) (session : PlainSession) (journal : List PlainEntry) (overruns : List Overrun) : Type 0 where
  pub loses : Loses p session journal overruns
  pub chars : chars_of journal ≡ kept_list (received_list (script_on p session)) overruns

abbrev received_by : ℕ → PlainSession → ℕ → List Flagged
received_by p session k = received_list (script_of_first p session (k + 1))

-- the characters of a journal begin with those that were sent by the end of a line
sent_first : (p : ℕ) (session : PlainSession) (journal : List PlainEntry) (overruns : List Overrun) (k : ℕ)
    → Whole p session journal overruns
    → take (sent_by p session overruns k) (chars_of journal) ≡ kept_list (received_by p session k) overruns
sent_first p session journal overruns k h =
    let grown =
    list_grows (script_of_first p session (k + 1)) (script (map (line_on p) (drop (k + 1) session.phases))) in
    let all : received_list (script_on p session) ≡ received_by p session k ++ grown.more =
    ap received_list (script_parts p session (k + 1)) ∙ grown.grows in
    let parts = h.chars ∙ ap (λ (cs : List Flagged). kept_list cs overruns) all in
    ap (λ (cs : List Flagged). take (sent_by p session overruns k) cs) parts
    ∙ kept_begins 0 (received_by p session k) grown.more overruns

-- those that were sent follow from the overruns so far
kept_first : (p : ℕ) (session : PlainSession) (journal : List PlainEntry) (overruns : List Overrun) (k : ℕ)
    → Whole p session journal overruns
    → k < length session.phases
    → kept_list (received_by p session k) overruns
    ≡ kept_list (received_by p session k) (overruns_before p session journal (suc k))
kept_first p session journal overruns k h lt =
    let before = lost_before p session journal overruns h.loses (suc k) (omega (arith, lt)) in
    let first = overruns_before p session journal (suc k) in
    let next : suc k ≡ k + 1 = omega arith in
    let above = subst (λ n. All (λ o. received_before p session n ≤ o.at) before.later) next
    (all_above (flip_on p session) (length first) (received_before p session (suc k)) before.later before.shown) in
    ap (λ (os : List Overrun). kept_list (received_by p session k) os) before.parts
    ∙ kept_later (received_by p session k) first before.later above

-- as many were taken before the line's ends of the first phases
abbrev pub TakenAlike : (journal other : List PlainEntry) → ℕ → Type 0
TakenAlike journal other k = (i : ℕ) → i < k → taken_before_line_end i journal ≡ taken_before_line_end i other

pub lost_alike : (p : ℕ) (session : PlainSession) (journal other : List PlainEntry) (k : ℕ)
    → TakenAlike journal other k
    → overruns_before p session journal k ≡ overruns_before p session other k
lost_alike p session journal other zero h = refl
lost_alike p session journal other (suc k) h =
    let before = lost_alike p session journal other k (λ i lt. h i (omega (arith, lt))) in
    let here = h k (omega arith) in
    λ j. before j ++ lost_in (here j) (length (before j))
  where
    lost_in : (taken lost : ℕ) → List Overrun
    lost_in taken lost = overruns_after (flip_on p session) taken lost
        (excess (received_before p session (k + 1)) (flip_on p session) taken lost)

pub record IsAlike (p : ℕ) (session : PlainSession) (journal other : List PlainEntry) (s : Place)
    (es es' : List PlainEntry) : Type 0 where
  pub sent : take s.terminal.sent (chars_of journal) ≡ take s.terminal.sent (chars_of other)
  pub taken : TakenAlike journal other (lines_over s.terminal)
  pub marks : clock_marks_in es ≡ clock_marks_in es'
  pub hangups : hangs es ≡ hangs es'

-- the same was sent by the end of a line
pub record SendAlike (p : ℕ) (session : PlainSession) (journal other : List PlainEntry) (lost lost' : List Overrun)
    (k : ℕ) : Type 0 where
  pub number : sent_by p session lost k ≡ sent_by p session lost' k
  pub chars : take (sent_by p session lost k) (chars_of journal) ≡ take (sent_by p session lost k) (chars_of other)

pub send_alike : (p : ℕ) (session : PlainSession) (journal other : List PlainEntry) (lost lost' : List Overrun) (k : ℕ)
    → Whole p session journal lost
    → Whole p session other lost'
    → k < length session.phases
    → TakenAlike journal other (suc k)
    → SendAlike p session journal other lost lost' k
send_alike p session journal other lost lost' k h h' lt alike =
    let kept : kept_list (received_by p session k) lost ≡ kept_list (received_by p session k) lost' =
    kept_first p session journal lost k h lt
    ∙ (ap (λ (os : List Overrun). kept_list (received_by p session k) os)
    (lost_alike p session journal other (suc k) alike)
    ∙ sym (kept_first p session other lost' k h' lt)) in
    let number : sent_by p session lost k ≡ sent_by p session lost' k = ap (λ (cs : List Flagged). length cs) kept in
    record {
      number = number;
      chars =
          sent_first p session journal lost k h
          ∙ (kept
          ∙ (sym (sent_first p session other lost' k h') ∙ ap (λ (n : ℕ). take n (chars_of other)) (sym number)));
    }

-- ---- the end of a line

abbrev pub ended_number : PlainEvent → ℕ
ended_number (answered a dropped) = 0
ended_number (parted n) = 0
ended_number waited = 0
ended_number (flushed chars) = 0
ended_number ticked = 0
ended_number (line_ended n) = n
ended_number clock_ended = 0
ended_number caller_ended = 0
ended_number phase_ended = 0
ended_number (hung_up dropped) = 0

no_caller_line : (who : Who) (P : ℕ → Type 0) → ByCaller who P → who ≡ Line → ⊥
no_caller_line (Caller c) P h is = absurd (cc)
no_caller_line Flusher P h is = absurd h
no_caller_line Line P h is = absurd h
no_caller_line Clock P h is = absurd h
no_caller_line Session P h is = absurd h

-- what the line does is its end
pub line_ends_only : (calls : ℕ → ℕ → Option PlainCall) (counts : List ℕ) (t : Terminal) (who : Who) (step part : ℕ)
    (event : PlainEvent)
    → IsAllowed calls counts t who step part event
    → who ≡ Line
    → event ≡ line_ended (ended_number event)
line_ends_only calls counts t who step part (answered a dropped) h is = absurd (no_caller_line who _ h is)
line_ends_only calls counts t who step part (parted n) h is = absurd (no_caller_line who _ h is)
line_ends_only calls counts t who step part waited h is = absurd (no_caller_line who _ h is)
line_ends_only calls counts t who step part (flushed chars) h is = let q = sym h.0 ∙ is in absurd (cc)
line_ends_only calls counts t who step part ticked h is = let q = sym h.0 ∙ is in absurd (cc)
line_ends_only calls counts t who step part (line_ended n) h is = refl
line_ends_only calls counts t who step part clock_ended h is = let q = sym h.0 ∙ is in absurd (cc)
line_ends_only calls counts t who step part caller_ended h is = absurd (no_caller_line who _ h is)
line_ends_only calls counts t who step part phase_ended h is = let q = sym h.0 ∙ is in absurd (cc)
line_ends_only calls counts t who step part (hung_up dropped) h is = let q = sym h.0 ∙ is in absurd (cc)

-- the line is not over
open_fixed : (past over : Bool) → over ≡ false → (past || not over) ≡ true
open_fixed true over e = refl
open_fixed false over e = ap not e

line_turn : (past : Bool) (next : Who) → Line ≡ (if past then Session else next) → past ≡ false
line_turn true next e = absurd (cc)
line_turn false next e = refl

-- an entry that is the end of its phase's line
pub record EndsLine (p : ℕ) (session : PlainSession) (journal : List PlainEntry) (overruns : List Overrun) (s : Place)
    (n : ℕ) : Type 0 where
  pub within : s.terminal.phase < length session.phases
  pub over : s.terminal.line_over ≡ false
  pub number : n ≡ sent_by p session overruns s.terminal.phase
  pub taken : taken_before_line_end s.terminal.phase journal ≡ s.terminal.taken

first_end : (p : ℕ) (session : PlainSession) (overruns : List Overrun) (k n : ℕ) (lines : List ℕ)
    → Ends p session overruns (k + 0) (n ∷ lines)
    → n ≡ sent_by p session overruns k
first_end p session overruns k n lines h = by_left h.left h.are
  where
    by_left : (left : List PlainPhase)
        → n ∷ lines ≡ all_lines p session overruns (k + 0) left
        → n ≡ sent_by p session overruns k
    by_left [] is =
        (let none : suc (length lines) ≡ 0 = ap (λ (xs : List ℕ). length xs) is in absurd (omega (arith, none)))
    by_left (phase ∷ phases) is =
        (let same : k + 0 ≡ k = omega arith in ap first_or is ∙ ap (λ (j : ℕ). sent_by p session overruns j) same)

pub ends_line : (p : ℕ) (session : PlainSession) (journal : List PlainEntry) (overruns : List Overrun) (s : Place)
    (e : PlainEntry) (es : List PlainEntry) (n : ℕ)
    → IsLeft p session journal overruns s (e ∷ es)
    → e.event ≡ line_ended n
    → EndsLine p session journal overruns s n
ends_line p session journal overruns s e es n h is =
    let t = s.terminal in
    let IsSo : PlainEvent → Type 0 = λ event.
    IsAllowed (call_at p session) (counts_on p session) t e.who e.step e.part event in
    let allowed : IsAllowed (call_at p session) (counts_on p session) t e.who e.step e.part (line_ended n) =
    subst IsSo is h.rest.leads.0.1 in
    let over = allowed.1.not_over in
    let fixed = open_fixed (nat_le (length session.phases) t.phase) t.line_over over in
    let past = line_turn (nat_le (length session.phases) t.phase) _ (sym allowed.0 ∙ h.rest.turns.0.by_turn fixed) in
    let ends : Ends p session overruns (t.phase + 0) (n ∷ line_ends_in es) =
    subst (λ (b : Bool). Ends p session overruns (t.phase + one_if b) (n ∷ line_ends_in es)) over
    (subst (λ (event : PlainEvent). Ends p session overruns (lines_over t) (line_ends event ++ line_ends_in es))
    is h.ends) in
    let walk = h.walks 0 (λ none. over) in
    let none : taken_before_line_end 0 (e ∷ es) ≡ 0 =
    ap
    (λ (event : PlainEvent). length (chars_of (if length (line_ends event) == 0 then e ∷ before_line_end 0 es else [])))
    is in
    let number : taken_before_line_end (t.phase + 0) journal ≡ taken_before_line_end t.phase journal =
    (let same : t.phase + 0 ≡ t.phase = omega arith in ap (λ (j : ℕ). taken_before_line_end j journal) same) in
    record {
      within = leb-false (length session.phases) t.phase past;
      over = over;
      number = first_end p session overruns t.phase n (line_ends_in es) ends;
      taken = omega (arith, walk, none, number);
    }

-- ---- the same line in two sessions

sent_same : (p : ℕ) (session later : PlainSession) (overruns : List Overrun) (k : ℕ)
    → HasShape p session later
    → sent_by p later overruns k ≡ sent_by p session overruns k
sent_same p session later overruns k shape =
    ap (λ (steps : List LineStep). length (kept_list (received_list steps) overruns))
    (first_lines_same p session later (k + 1) shape)

received_same : (p : ℕ) (session later : PlainSession) (k : ℕ)
    → HasShape p session later
    → received_before p later k ≡ received_before p session k
received_same p session later k shape =
    ap (λ (steps : List LineStep). length (received_list steps)) (first_lines_same p session later k shape)

all_see : (p : ℕ) (session later : PlainSession) (journal : List PlainEntry) (overruns : List Overrun)
    → HasShape p session later
    → AllSeeAll p later journal overruns
    → AllSeeAll p session journal overruns
all_see p session later journal [] shape h = tt
all_see p session later journal (o ∷ os) shape h = (
  λ k low high. h.0 k (omega (arith, low, received_same p session later k shape))
      (omega (arith, high, received_same p session later (k + 1) shape)),
  all_see p session later journal os shape h.1,
)

of_phase : (p : ℕ) (session later : PlainSession) (k : ℕ) (o : Overrun)
    → HasShape p session later
    → IsOverrunOfPhase p session k o
    → IsOverrunOfPhase p later k o
of_phase p session later k o shape h = (
  (let low = h.0 in omega (arith, low, received_same p session later k shape)),
  (let high = h.1 in omega (arith, high, received_same p session later (k + 1) shape)),
)

pub script_same : (p : ℕ) (session later : PlainSession)
    → HasShape p session later
    → script_on p later ≡ script_on p session
script_same p session later shape = ap script shape.lines

are_seen : (p : ℕ) (session later : PlainSession) (journal : List PlainEntry) (overruns : List Overrun)
    → HasShape p session later
    → AreSeen p later journal overruns
    → AreSeen p session journal overruns
are_seen p session later journal [] shape h = tt
are_seen p session later journal (o ∷ os) shape h = (
  record {
    at_character = subst (λ (steps : List LineStep). o.at < length (received_list steps))
        (script_same p session later shape) h.0.at_character;
    from_before = λ k is. h.0.from_before k (of_phase p session later k o shape is);
    by_line_end = λ k is. h.0.by_line_end k (of_phase p session later k o shape is);
  },
  are_seen p session later journal os shape h.1,
)

pub whole_as : (p : ℕ) (session later : PlainSession) (journal : List PlainEntry) (overruns : List Overrun)
    → HasShape p session later
    → Whole p later journal overruns
    → Whole p session journal overruns
whole_as p session later journal overruns shape h = record {
  loses = record {
    shown = subst (λ (n : ℕ). AreShown n 0 0 overruns) shape.flip h.loses.shown;
    all = all_see p session later journal overruns shape h.loses.all;
    account = are_seen p session later journal overruns shape h.loses.account;
    fits = λ k lt.
        let number = sent_same p session later overruns k shape in
        let phases = phases_same p session later shape in
        let fit = h.loses.fits k (omega (arith, lt, phases)) in
        omega (arith, fit, number, shape.flip);
  };
  chars = h.chars
      ∙ ap (λ (steps : List LineStep). kept_list (received_list steps) overruns) (script_same p session later shape);
}

pub ends_as : (p : ℕ) (session later : PlainSession) (journal : List PlainEntry) (overruns : List Overrun) (s : Place)
    (n : ℕ)
    → HasShape p session later
    → EndsLine p later journal overruns s n
    → EndsLine p session journal overruns s n
ends_as p session later journal overruns s n shape h = record {
  within = (let lt = h.within in omega (arith, lt, phases_same p session later shape));
  over = h.over;
  number = h.number ∙ sent_same p session later overruns s.terminal.phase shape;
  taken = h.taken;
}

-- the same is known of both runs once their line is over
pub alike_by_end : (p : ℕ) (session : PlainSession) (journal other : List PlainEntry) (lost lost' : List Overrun)
    (s : Place) (n n' : ℕ)
    → TakenAlike journal other (lines_over s.terminal)
    → EndsLine p session journal lost s n
    → EndsLine p session other lost' s n'
    → TakenAlike journal other (suc s.terminal.phase)
alike_by_end p session journal other lost lost' s n n' alike h h' i lt =
    let before : lines_over s.terminal ≡ s.terminal.phase =
    ap (λ (b : Bool). s.terminal.phase + one_if b) h.over ∙ add-zero s.terminal.phase in
    elim (either_side i s.terminal.phase) [
      | inl below ↦ alike i (omega (arith, below, before))
      | inr above ↦ (let same : i ≡ s.terminal.phase = omega (arith, lt, above) in
          ap (λ (j : ℕ). taken_before_line_end j journal) same
          ∙ (h.taken ∙ (sym h'.taken ∙ ap (λ (j : ℕ). taken_before_line_end j other) (sym same))))
    ]
