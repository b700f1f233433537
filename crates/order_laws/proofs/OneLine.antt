-- What is known of the line of a run at a place of its journal.
use Rattle.std.proofs.Common.{◌≡◌, ℕ, zero, suc, ◌+◌, ◌-◌, List, [], ◌∷◌, ◌++◌, Bool}
use Rattle.std.proofs.Common.{true, false, not, ◌==◌, if◌then◌else◌, Option, length}
use Rattle.std.proofs.Common.{drop, refl, sym, ◌∙◌, ap, subst, arith, length-append}
use Rattle.std.proofs.lemmas.List.{drop-drop}
use Rattle.std.proofs.lemmas.Bool.{and_parts}
use Rattle.tty_base.specs.declared.characters.Flagged.{Flagged}
use Rattle.tty_base.specs.declared.lines.Overrun.{Overrun}
use Rattle.tty_calls.specs.declared.journals.Who.{Who}
use Rattle.tty_calls.specs.Plain.{PlainCall, PlainEvent, answered, parted, waited, flushed, ticked, line_ended}
use Rattle.tty_calls.specs.Plain.{clock_ended, caller_ended, phase_ended, hung_up, PlainEntry, chars_in}
use Rattle.tty_calls.specs.Sessions.{PlainPhase, PlainSession, call_at, counts_on}
use Rattle.tty_terminal.specs.Terminals.{Terminal}
use Rattle.tty_terminal.specs.Steps.{IsAllowed, Allowed, after}
use Rattle.tty_terminal.specs.Runs.{chars_of, phase_after}
use Rattle.tty_terminal.specs.Marks.{Marks, marks_of, marks_after}
use Rattle.tty_terminal.proofs.MarkLaws.{step_marks}
use Rattle.tty_terminal.proofs.StepLaws.{step_does}
use Rattle.legal_runs.proofs.PhaseLemmas.{phase-after}
use Rattle.legal_runs.specs.Legal.{line_ends}
use Rattle.legal_runs.specs.Legal.{line_ends_in, is_phase_end}
use Rattle.legal_runs.specs.Legal.{before_line_end, sent_by}
use Rattle.legal_runs.specs.Order.{Place, next_place}
use Rattle.order_laws.specs.Lost.{taken_before_line_end}
use Rattle.order_laws.proofs.NextEntry.{IsRest, rest_of}

-- ---- what is known of one run at a place

abbrev pub one_if : Bool → ℕ
one_if b = if b then 1 else 0

-- of how many phases the line is over
abbrev pub lines_over : Terminal → ℕ
lines_over t = t.phase + one_if t.line_over

-- the line's ends from phase k on, in so many phases
abbrev pub all_lines : ℕ → PlainSession → List Overrun → ℕ → List PlainPhase → List ℕ
all_lines p session overruns k [] = []
all_lines p session overruns k (phase ∷ phases) =
    (sent_by p session overruns k ∷ []) ++ all_lines p session overruns (k + 1) phases

pub record Ends (p : ℕ) (session : PlainSession) (overruns : List Overrun) (k : ℕ) (lines : List ℕ) : Type 0 where
  pub left : List PlainPhase
  pub are : lines ≡ all_lines p session overruns k left

abbrev pub over_after : PlainEvent → Bool → Bool
over_after (answered a dropped) over = over
over_after (parted n) over = over
over_after waited over = over
over_after (flushed chars) over = over
over_after ticked over = over
over_after (line_ended n) over = true
over_after clock_ended over = over
over_after caller_ended over = over
over_after phase_ended over = false
over_after (hung_up dropped) over = over

over-marks_after : (event : PlainEvent) (step part : ℕ) (m : Marks)
    → (marks_after event step part m).line_over ≡ over_after event m.line_over
over-marks_after (answered a dropped) step part m = refl
over-marks_after (parted n) step part m = refl
over-marks_after waited step part m = refl
over-marks_after (flushed chars) step part m = refl
over-marks_after ticked step part m = refl
over-marks_after (line_ended n) step part m = refl
over-marks_after clock_ended step part m = refl
over-marks_after caller_ended step part m = refl
over-marks_after phase_ended step part m = refl
over-marks_after (hung_up dropped) step part m = refl

pub over-after : (calls : ℕ → ℕ → Option PlainCall) (counts : List ℕ) (t : Terminal) (e : PlainEntry)
    → Allowed calls counts t e
    → (after calls t e).line_over ≡ over_after e.event t.line_over
over-after calls counts t e allowed =
    ap (λ (m : Marks). m.line_over) (step_marks calls counts t e allowed)
    ∙ over-marks_after e.event e.step e.part (marks_of t)

-- a line ends where it is not over, and a phase where it is
abbrev pub MayStand : PlainEvent → Bool → Type 0
MayStand (answered a dropped) over = Unit {0}
MayStand (parted n) over = Unit {0}
MayStand waited over = Unit {0}
MayStand (flushed chars) over = Unit {0}
MayStand ticked over = Unit {0}
MayStand (line_ended n) over = over ≡ false
MayStand clock_ended over = Unit {0}
MayStand caller_ended over = Unit {0}
MayStand phase_ended over = over ≡ true
MayStand (hung_up dropped) over = Unit {0}

pub may_stand : (calls : ℕ → ℕ → Option PlainCall) (counts : List ℕ) (t : Terminal) (who : Who) (step part : ℕ)
    (event : PlainEvent)
    → IsAllowed calls counts t who step part event
    → MayStand event t.line_over
may_stand calls counts t who step part (answered a dropped) h = tt
may_stand calls counts t who step part (parted n) h = tt
may_stand calls counts t who step part waited h = tt
may_stand calls counts t who step part (flushed chars) h = tt
may_stand calls counts t who step part ticked h = tt
may_stand calls counts t who step part (line_ended n) h = h.1.not_over
may_stand calls counts t who step part clock_ended h = tt
may_stand calls counts t who step part caller_ended h = tt
may_stand calls counts t who step part phase_ended h = (and_parts t.line_over _ h.1.may).0
may_stand calls counts t who step part (hung_up dropped) h = tt

ends_more : (p : ℕ) (session : PlainSession) (overruns : List Overrun) (event : PlainEvent) (k : ℕ) (over : Bool)
    (lines : List ℕ)
    → MayStand event over
    → Ends p session overruns (k + one_if over) (line_ends event ++ lines)
    → Ends p session overruns (phase_after event k + one_if (over_after event over)) lines
ends_more p session overruns (answered a dropped) k over lines may h = h
ends_more p session overruns (parted n) k over lines may h = h
ends_more p session overruns waited k over lines may h = h
ends_more p session overruns (flushed chars) k over lines may h = h
ends_more p session overruns ticked k over lines may h = h
ends_more p session overruns (line_ended n) k over lines may h =
    pass h.left (h.are ∙ ap (λ (b : Bool). all_lines p session overruns (k + one_if b) h.left) may)
  where
    pass : (left : List PlainPhase)
        → n ∷ lines ≡ all_lines p session overruns (k + 0) left
        → Ends p session overruns (k + 1) lines
    pass [] is =
        (let none : suc (length lines) ≡ 0 = ap (λ (xs : List ℕ). length xs) is in absurd (omega (arith, none)))
    pass (phase ∷ phases) is =
        let same : (k + 0) + 1 ≡ k + 1 = omega arith in
        record {
          left = phases;
          are =
              ap (λ (xs : List ℕ). drop (suc zero) xs) is ∙ ap (λ (j : ℕ). all_lines p session overruns j phases) same;
        }
ends_more p session overruns clock_ended k over lines may h = h
ends_more p session overruns caller_ended k over lines may h = h
ends_more p session overruns phase_ended k over lines may h =
    let same : k + one_if over ≡ (k + 1) + 0 =
    ap (λ (b : Bool). k + one_if b) may ∙ (let e : k + 1 ≡ (k + 1) + 0 = omega arith in e) in
    subst (λ (j : ℕ). Ends p session overruns j lines) same h
ends_more p session overruns (hung_up dropped) k over lines may h = h

-- the characters that a whole journal has before each line's end, from this place on
abbrev Walks : List PlainEntry → (k taken : ℕ) → Bool → List PlainEntry → Type 0
Walks journal k taken over es =
    (m : ℕ) → (m ≡ 0 → over ≡ false) → taken_before_line_end (k + m) journal ≡ taken + taken_before_line_end m es

plain_walk : (e : PlainEntry) (es : List PlainEntry) (m : ℕ)
    → line_ends e.event ≡ []
    → is_phase_end e.event ≡ false
    → taken_before_line_end m (e ∷ es) ≡ length (chars_in e.event) + taken_before_line_end m es
plain_walk e es zero none inside =
    ap (λ (xs : List ℕ). length (chars_of (if length xs == 0 then e ∷ before_line_end 0 es else []))) none
    ∙ length-append (chars_in e.event) (chars_of (before_line_end 0 es))
plain_walk e es (suc m) none inside =
    ap (λ (b : Bool). length (chars_of (e ∷ (if b then before_line_end m es else before_line_end (suc m) es)))) inside
    ∙ length-append (chars_in e.event) (chars_of (before_line_end (suc m) es))

walks_plain : (journal : List PlainEntry) (k taken : ℕ) (over : Bool) (e : PlainEntry) (es : List PlainEntry)
    → line_ends e.event ≡ []
    → is_phase_end e.event ≡ false
    → Walks journal k taken over (e ∷ es)
    → Walks journal k (taken + length (chars_in e.event)) over es
walks_plain journal k taken over e es none inside h m open_line =
    (let all = h m open_line in let here = plain_walk e es m none inside in omega (arith, all, here))

walks_ended : (journal : List PlainEntry) (k taken : ℕ) (over : Bool) (e : PlainEntry) (es : List PlainEntry) (n : ℕ)
    → e.event ≡ line_ended n
    → Walks journal k taken over (e ∷ es)
    → Walks journal k (taken + length (chars_in e.event)) true es
walks_ended journal k taken over e es n is h zero open_line = (let never : true ≡ false = open_line refl in absurd (cc))
walks_ended journal k taken over e es n is h (suc m) open_line =
    let all = h (suc m) (λ none. absurd (omega (arith, none))) in
    let here : taken_before_line_end (suc m) (e ∷ es) ≡ length (chars_in e.event) + taken_before_line_end (suc m) es =
    ap (λ (event : PlainEvent).
    length (chars_of (e ∷ (if is_phase_end event then before_line_end m es else before_line_end (suc m) es)))) is
    ∙ length-append (chars_in e.event) (chars_of (before_line_end (suc m) es)) in
    omega (arith, all, here)

walks_next : (journal : List PlainEntry) (k taken : ℕ) (over : Bool) (e : PlainEntry) (es : List PlainEntry)
    → e.event ≡ phase_ended
    → Walks journal k taken over (e ∷ es)
    → Walks journal (k + 1) (taken + length (chars_in e.event)) false es
walks_next journal k taken over e es is h m open_line =
    let all = h (suc m) (λ none. absurd (omega (arith, none))) in
    let number : taken_before_line_end (k + suc m) journal ≡ taken_before_line_end ((k + 1) + m) journal =
    (let same : k + suc m ≡ (k + 1) + m = omega arith in ap (λ (j : ℕ). taken_before_line_end j journal) same) in
    let here : taken_before_line_end (suc m) (e ∷ es) ≡ length (chars_in e.event) + taken_before_line_end m es =
    ap (λ (event : PlainEvent).
    length (chars_of (e ∷ (if is_phase_end event then before_line_end m es else before_line_end (suc m) es)))) is
    ∙ length-append (chars_in e.event) (chars_of (before_line_end m es)) in
    omega (arith, all, number, here)

walks_more : (journal : List PlainEntry) (k taken : ℕ) (over : Bool) (e : PlainEntry) (es : List PlainEntry)
    (event : PlainEvent)
    → e.event ≡ event
    → MayStand event over
    → Walks journal k taken over (e ∷ es)
    → Walks journal (phase_after event k) (taken + length (chars_in e.event)) (over_after event over) es
walks_more journal k taken over e es (answered a dropped) is may h =
    walks_plain journal k taken over e es (ap line_ends is) (ap is_phase_end is) h
walks_more journal k taken over e es (parted n) is may h =
    walks_plain journal k taken over e es (ap line_ends is) (ap is_phase_end is) h
walks_more journal k taken over e es waited is may h =
    walks_plain journal k taken over e es (ap line_ends is) (ap is_phase_end is) h
walks_more journal k taken over e es (flushed chars) is may h =
    walks_plain journal k taken over e es (ap line_ends is) (ap is_phase_end is) h
walks_more journal k taken over e es ticked is may h =
    walks_plain journal k taken over e es (ap line_ends is) (ap is_phase_end is) h
walks_more journal k taken over e es (line_ended n) is may h = walks_ended journal k taken over e es n is h
walks_more journal k taken over e es clock_ended is may h =
    walks_plain journal k taken over e es (ap line_ends is) (ap is_phase_end is) h
walks_more journal k taken over e es caller_ended is may h =
    walks_plain journal k taken over e es (ap line_ends is) (ap is_phase_end is) h
walks_more journal k taken over e es phase_ended is may h = walks_next journal k taken over e es is h
walks_more journal k taken over e es (hung_up dropped) is may h =
    walks_plain journal k taken over e es (ap line_ends is) (ap is_phase_end is) h

drop_own : (xs ys : List Flagged) → drop (length xs) (xs ++ ys) ≡ ys
drop_own [] ys = refl
drop_own (x ∷ xs) ys = drop_own xs ys

-- a whole journal with its overruns, of which these entries are left at a place
pub record IsLeft (p : ℕ) (session : PlainSession) (journal : List PlainEntry) (overruns : List Overrun) (s : Place)
    (es : List PlainEntry) : Type 0 where
  pub rest : IsRest p session s es
  pub chars : drop s.terminal.taken (chars_of journal) ≡ chars_of es
  pub ends : Ends p session overruns (lines_over s.terminal) (line_ends_in es)
  pub walks : Walks journal s.terminal.phase s.terminal.taken s.terminal.line_over es

pub left_more : (p : ℕ) (session : PlainSession) (journal : List PlainEntry) (overruns : List Overrun) (s : Place)
    (e : PlainEntry) (es : List PlainEntry)
    → IsLeft p session journal overruns s (e ∷ es)
    → IsLeft p session journal overruns (next_place (call_at p session) s e) es
left_more p session journal overruns s e es h =
    let calls = call_at p session in
    let counts = counts_on p session in
    let t = s.terminal in
    let u = after calls t e in
    let allowed = h.rest.leads.0 in
    let does = step_does calls counts t e allowed in
    let phase = phase-after calls counts t e allowed in
    let over = over-after calls counts t e allowed in
    let may = may_stand calls counts t e.who e.step e.part e.event allowed.1 in
    let lines : phase_after e.event t.phase + one_if (over_after e.event t.line_over) ≡ lines_over u =
    (λ i. sym phase i + one_if (sym over i)) in
    record {
      rest = rest_of p session s e es h.rest;
      chars =
          ap (λ (n : ℕ). drop n (chars_of journal)) does.taken
          ∙ (sym (drop-drop (length (chars_in e.event)) t.taken (chars_of journal))
          ∙ (ap (λ (cs : List Flagged). drop (length (chars_in e.event)) cs) h.chars
          ∙ drop_own (chars_in e.event) (chars_of es)));
      ends = subst (λ (k : ℕ). Ends p session overruns k (line_ends_in es)) lines
          (ends_more p session overruns e.event t.phase t.line_over (line_ends_in es) may h.ends);
      walks = subst (λ (k : ℕ). Walks journal k u.taken u.line_over es) (sym phase)
          (subst (λ (n : ℕ). Walks journal (phase_after e.event t.phase) n u.line_over es) (sym does.taken)
          (subst (λ (b : Bool). Walks journal (phase_after e.event t.phase) (t.taken + length (chars_in e.event)) b es)
          (sym over)
          (walks_more journal t.phase t.taken t.line_over e es e.event refl may h.walks)));
    }
