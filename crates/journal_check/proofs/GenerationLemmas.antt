-- Whether one more entry leaves each flush run, and each call between its waits, in one generation.
use Rattle.std.proofs.Common.{◌≡◌, ◌⊎◌, inl, inr, ℕ, ◌+◌, ◌<◌, ◌≤◌, ◌==◌, nat_lt, Bool, true}
use Rattle.std.proofs.Common.{false, ◌&&◌, IsTrue, if◌then◌else◌, List, [], ◌∷◌, ◌++◌, Option}
use Rattle.std.proofs.Common.{None, Some, is_some, refl, sym, ◌∙◌, ap, subst, arith, append_assoc}
use Rattle.std.proofs.lemmas.Bool.{false≢true, cases_lt, and_parts, or_cases, eqb-true, eq-eqb, and_from}
use Rattle.std.proofs.lemmas.Bool.Decides.{nat_tests}
use Rattle.tty_calls.specs.declared.journals.Who.{Who}
use Rattle.tty_calls.specs.declared.journals.Who.TheVariants.{Caller, Flusher, Line, Clock, Session}
use Rattle.tty_calls.specs.Plain.{PlainCall, PlainEvent, answered, parted, waited, flushed, ticked, line_ended}
use Rattle.tty_calls.specs.Plain.{clock_ended, caller_ended, phase_ended, hung_up, PlainEntry, is_caller}
use Rattle.tty_terminal.specs.declared.callers.CallerState.{CallerState}
use Rattle.tty_terminal.specs.declared.callers.Piece.{Piece}
use Rattle.tty_terminal.specs.Terminals.{Terminal, opening, caller_at}
use Rattle.tty_terminal.specs.Steps.{ByCaller, IsAllowed, Allowed, after, IsPart, follows}
use Rattle.tty_terminal.specs.Runs.{Leads, is_flush, is_of_call, RunHas, NextHas, CallGoesOn, GoesOn, OneGeneration}
use Rattle.tty_terminal.specs.Standing.{Standing, standing_of, standing_after_own, standing_after_other}
use Rattle.tty_terminal.specs.Marks.{Marks, marks_of, marks_after}
use Rattle.tty_terminal.proofs.CallerLists.{all_idle}
use Rattle.tty_terminal.proofs.Effects.{outcome_keeps}
use Rattle.tty_terminal.proofs.StepLaws.{runs_of}
use Rattle.tty_terminal.proofs.OneRun.{leads_runs}
use Rattle.tty_terminal.proofs.MarkLaws.{step_marks}
use Rattle.tty_terminal.proofs.StandingLaws.{step_stands}
use Rattle.journal_check.specs.Replaying.{HasPiece, IsLatestRunOf, latest_after}
use Rattle.legal_runs.proofs.Truths.{on_false, on_true}

-- ---- flush runs

one_rest : (before more : List PlainEntry) → OneGeneration (before ++ more) → OneGeneration more
one_rest [] more one = one
one_rest (e ∷ es) more one = one_rest es more one.1

flush_goes : (event : PlainEvent) (who : Who) (step generation : ℕ) (es : List PlainEntry)
    → is_flush event ≡ true
    → GoesOn event who step generation es
    → RunHas step generation es
flush_goes (answered a dropped) who step generation es is h = absurd (false≢true is)
flush_goes (parted taken) who step generation es is h = absurd (false≢true is)
flush_goes waited who step generation es is h = absurd (false≢true is)
flush_goes (flushed chars) who step generation es is h = h
flush_goes ticked who step generation es is h = absurd (false≢true is)
flush_goes (line_ended n) who step generation es is h = absurd (false≢true is)
flush_goes clock_ended who step generation es is h = absurd (false≢true is)
flush_goes caller_ended who step generation es is h = absurd (false≢true is)
flush_goes phase_ended who step generation es is h = absurd (false≢true is)
flush_goes (hung_up dropped) who step generation es is h = absurd (false≢true is)

run_last : (run generation : ℕ) (es : List PlainEntry) (e : PlainEntry)
    → RunHas run generation (es ++ e ∷ [])
    → IsTrue (is_flush e.event && (e.step == run))
    → e.generation ≡ generation
run_last run generation [] e has is = has.0 is
run_last run generation (x ∷ es) e has is = run_last run generation es e has.1 is

run_more : (run generation : ℕ) (es : List PlainEntry) (e : PlainEntry)
    → RunHas run generation es
    → (IsTrue (is_flush e.event && (e.step == run)) → e.generation ≡ generation)
    → RunHas run generation (es ++ e ∷ [])
run_more run generation [] e h last = (last, tt)
run_more run generation (x ∷ es) e h last = (h.0, run_more run generation es e h.1 last)

-- a further piece of the latest run is of that run's generation
pub piece_stays : (es : List PlainEntry) (run generation : ℕ) (e : PlainEntry)
    → HasPiece es run generation
    → OneGeneration (es ++ e ∷ [])
    → is_flush e.event ≡ true
    → e.step ≡ run
    → generation ≡ e.generation
piece_stays es run generation e has one is at =
    let parts : es ++ e ∷ [] ≡ has.before ++ (has.piece ∷ (has.later ++ e ∷ [])) =
    ap (λ (xs : List PlainEntry). xs ++ e ∷ []) has.parts ∙ append_assoc has.before (has.piece ∷ has.later) (e ∷ []) in
    let rest : OneGeneration (has.piece ∷ (has.later ++ e ∷ [])) =
    one_rest has.before (has.piece ∷ (has.later ++ e ∷ [])) (subst OneGeneration parts one) in
    let goes : RunHas has.piece.step has.piece.generation (has.later ++ e ∷ []) =
    flush_goes has.piece.event has.piece.who has.piece.step has.piece.generation (has.later ++ e ∷ [])
    has.is_piece rest.0 in
    let same : e.generation ≡ has.piece.generation =
    run_last has.piece.step has.piece.generation has.later e goes
    (and_from (is_flush e.event) (e.step == has.piece.step) is (eq-eqb e.step has.piece.step (at ∙ sym has.of_run))) in
    sym (same ∙ has.in_generation)

latest_of_flush : (event : PlainEvent) (step part : ℕ) (m : Marks)
    → is_flush event ≡ true
    → (marks_after event step part m).latest ≡ Some (record { run = step; part = part })
latest_of_flush (answered a dropped) step part m is = absurd (false≢true is)
latest_of_flush (parted taken) step part m is = absurd (false≢true is)
latest_of_flush waited step part m is = absurd (false≢true is)
latest_of_flush (flushed chars) step part m is = refl
latest_of_flush ticked step part m is = absurd (false≢true is)
latest_of_flush (line_ended n) step part m is = absurd (false≢true is)
latest_of_flush clock_ended step part m is = absurd (false≢true is)
latest_of_flush caller_ended step part m is = absurd (false≢true is)
latest_of_flush phase_ended step part m is = absurd (false≢true is)
latest_of_flush (hung_up dropped) step part m is = absurd (false≢true is)

latest_of_other : (event : PlainEvent) (step part : ℕ) (m : Marks)
    → is_flush event ≡ false
    → (marks_after event step part m).latest ≡ m.latest
latest_of_other (answered a dropped) step part m is = refl
latest_of_other (parted taken) step part m is = refl
latest_of_other waited step part m is = refl
latest_of_other (flushed chars) step part m is = absurd (false≢true (sym is))
latest_of_other ticked step part m is = refl
latest_of_other (line_ended n) step part m is = refl
latest_of_other clock_ended step part m is = refl
latest_of_other caller_ended step part m is = refl
latest_of_other phase_ended step part m is = refl
latest_of_other (hung_up dropped) step part m is = refl

-- no piece is of a run that has not begun
no_piece : (f : ℕ → ℕ → Option PlainCall) (counts : List ℕ) (t : Terminal) (es : List PlainEntry) (u : Terminal)
    (run generation : ℕ)
    → Leads f counts t es u
    → runs_of u.flushed ≤ run
    → RunHas run generation es
no_piece f counts t [] u run generation h most = tt
no_piece f counts t (e ∷ es) u run generation h most = (
  λ is.
      (let both = and_parts (is_flush e.event) (e.step == run) is in
      let at : e.step ≡ run = eqb-true e.step run both.1 in
      let begun : (after f t e).flushed ≡ Some (record { run = e.step; part = e.part }) =
      ap (λ (m : Marks). m.latest) (step_marks f counts t e h.0)
      ∙ latest_of_flush e.event e.step e.part (marks_of t) both.0 in
      absurd (omega (arith, ap runs_of begun, leads_runs f counts (after f t e) es u h.1, most, at))),
  no_piece f counts (after f t e) es u run generation h.1 most,
)

pub allowed_flush : (f : ℕ → ℕ → Option PlainCall) (counts : List ℕ) (t : Terminal) (who : Who) (step part : ℕ)
    (event : PlainEvent)
    → IsAllowed f counts t who step part event
    → is_flush event ≡ true
    → IsTrue (follows t.flushed step part)
allowed_flush f counts t who step part (answered a dropped) h is = absurd (false≢true is)
allowed_flush f counts t who step part (parted taken) h is = absurd (false≢true is)
allowed_flush f counts t who step part waited h is = absurd (false≢true is)
allowed_flush f counts t who step part (flushed chars) h is = h.1.numbered
allowed_flush f counts t who step part ticked h is = absurd (false≢true is)
allowed_flush f counts t who step part (line_ended n) h is = absurd (false≢true is)
allowed_flush f counts t who step part clock_ended h is = absurd (false≢true is)
allowed_flush f counts t who step part caller_ended h is = absurd (false≢true is)
allowed_flush f counts t who step part phase_ended h is = absurd (false≢true is)
allowed_flush f counts t who step part (hung_up dropped) h is = absurd (false≢true is)

-- a later piece is of the latest run; a first one is of a run that has not begun
record IsLater (p : Option Piece) (run : ℕ) : Type 0 where
  piece : Piece
  latest : p ≡ Some piece
  same : run ≡ piece.run

later_piece : (p : Option Piece) (run part : ℕ) → IsTrue (follows p run part) → 0 < part → IsLater p run
later_piece None run part h some = absurd (omega (arith, eqb-true part 0 (and_parts (run == 0) (part == 0) h).1, some))
later_piece (Some p) run part h some =
    elim (or_cases ((run == p.run) && (part == p.part + 1)) ((run == p.run + 1) && (part == 0)) h) [
      | inl e ↦ record {
        piece = p;
        latest = refl;
        same = eqb-true run p.run (and_parts (run == p.run) (part == p.part + 1) e).0;
      }
      | inr e ↦ absurd (omega (arith, eqb-true part 0 (and_parts (run == p.run + 1) (part == 0) e).1, some))
    ]

first_piece : (p : Option Piece) (run part : ℕ) → IsTrue (follows p run part) → part ≡ 0 → runs_of p ≤ run
first_piece None run part h none = omega arith
first_piece (Some p) run part h none =
    elim (or_cases ((run == p.run) && (part == p.part + 1)) ((run == p.run + 1) && (part == 0)) h) [
      | inl e ↦
          absurd (omega (arith, eqb-true part (p.part + 1) (and_parts (run == p.run) (part == p.part + 1) e).1, none))
      | inr e ↦ omega (arith, eqb-true run (p.run + 1) (and_parts (run == p.run + 1) (part == 0) e).0)
    ]

run_of : (es : List PlainEntry) (p : Option Piece) (piece : Piece) (generation : ℕ)
    → p ≡ Some piece
    → IsLatestRunOf es p generation
    → RunHas piece.run generation es × HasPiece es piece.run generation
run_of es p piece generation is h = subst (λ (o : Option Piece). IsLatestRunOf es o generation) is h

zero_or_more : (n : ℕ) → (n ≡ 0) ⊎ (0 < n)
zero_or_more n = elim (cases_lt 0 n) [ inl more ↦ inr more | inr none ↦ inl (omega (arith, none)) ]

-- the pieces before an allowed one are of its generation, where that stays in the latest run's
pub run_has : (f : ℕ → ℕ → Option PlainCall) (counts : List ℕ) (t : Terminal) (es : List PlainEntry) (u : Terminal)
    (latest : ℕ) (e : PlainEntry)
    → Leads f counts t es u
    → IsLatestRunOf es u.flushed latest
    → Allowed f counts u e
    → is_flush e.event ≡ true
    → (0 < e.part → latest ≡ e.generation)
    → RunHas e.step e.generation es
run_has f counts t es u latest e leads run allowed is stays =
    let next : IsTrue (follows u.flushed e.step e.part) =
    allowed_flush f counts u e.who e.step e.part e.event allowed.1 is in
    elim (zero_or_more e.part) [
      | inl none ↦ no_piece f counts t es u e.step e.generation leads (first_piece u.flushed e.step e.part next none)
      | inr some ↦ (let later = later_piece u.flushed e.step e.part next some in
          let has = run_of es u.flushed later.piece latest later.latest run in
          subst (λ (g : ℕ). RunHas e.step g es) (stays some)
          (subst (λ (r : ℕ). RunHas r latest es) (sym later.same) has.0))
    ]

-- and where the entries stay in one generation so does it
pub flush_stays : (f : ℕ → ℕ → Option PlainCall) (counts : List ℕ) (es : List PlainEntry) (u : Terminal) (latest : ℕ)
    (e : PlainEntry)
    → IsLatestRunOf es u.flushed latest
    → Allowed f counts u e
    → is_flush e.event ≡ true
    → OneGeneration (es ++ e ∷ [])
    → 0 < e.part
    → latest ≡ e.generation
flush_stays f counts es u latest e run allowed is one some =
    let later =
    later_piece u.flushed e.step e.part (allowed_flush f counts u e.who e.step e.part e.event allowed.1 is) some in
    let has = run_of es u.flushed later.piece latest later.latest run in
    piece_stays es later.piece.run latest e has.1 one is later.same

piece_more : (es : List PlainEntry) (e : PlainEntry) (run generation : ℕ)
    → HasPiece es run generation
    → HasPiece (es ++ e ∷ []) run generation
piece_more es e run generation has = record {
  before = has.before;
  piece = has.piece;
  later = has.later ++ e ∷ [];
  parts =
      ap (λ (xs : List PlainEntry). xs ++ e ∷ []) has.parts ∙ append_assoc has.before (has.piece ∷ has.later) (e ∷ []);
  is_piece = has.is_piece;
  of_run = has.of_run;
  in_generation = has.in_generation;
}

other_run : (es : List PlainEntry) (e : PlainEntry) (p : Option Piece) (latest : ℕ)
    → is_flush e.event ≡ false
    → IsLatestRunOf es p latest
    → IsLatestRunOf (es ++ e ∷ []) p latest
other_run es e None latest other run = tt
other_run es e (Some p) latest other run = (
  run_more p.run latest es e run.0
      (λ is. absurd (false≢true (sym other ∙ (and_parts (is_flush e.event) (e.step == p.run) is).0))),
  piece_more es e p.run latest run.1,
)

latest_other : (event : PlainEvent) (generation latest : ℕ)
    → is_flush event ≡ false
    → latest_after event generation latest ≡ latest
latest_other (answered a dropped) generation latest other = refl
latest_other (parted taken) generation latest other = refl
latest_other waited generation latest other = refl
latest_other (flushed chars) generation latest other = absurd (false≢true (sym other))
latest_other ticked generation latest other = refl
latest_other (line_ended n) generation latest other = refl
latest_other clock_ended generation latest other = refl
latest_other caller_ended generation latest other = refl
latest_other phase_ended generation latest other = refl
latest_other (hung_up dropped) generation latest other = refl

latest_flush : (event : PlainEvent) (generation latest : ℕ)
    → is_flush event ≡ true
    → latest_after event generation latest ≡ generation
latest_flush (answered a dropped) generation latest is = absurd (false≢true is)
latest_flush (parted taken) generation latest is = absurd (false≢true is)
latest_flush waited generation latest is = absurd (false≢true is)
latest_flush (flushed chars) generation latest is = refl
latest_flush ticked generation latest is = absurd (false≢true is)
latest_flush (line_ended n) generation latest is = absurd (false≢true is)
latest_flush clock_ended generation latest is = absurd (false≢true is)
latest_flush caller_ended generation latest is = absurd (false≢true is)
latest_flush phase_ended generation latest is = absurd (false≢true is)
latest_flush (hung_up dropped) generation latest is = absurd (false≢true is)

-- the generation of the latest run after one more entry
pub run_after : (f : ℕ → ℕ → Option PlainCall) (counts : List ℕ) (t : Terminal) (es : List PlainEntry) (u : Terminal)
    (latest : ℕ) (e : PlainEntry)
    → Leads f counts t es u
    → IsLatestRunOf es u.flushed latest
    → Allowed f counts u e
    → (is_flush e.event ≡ true → 0 < e.part → latest ≡ e.generation)
    → IsLatestRunOf (es ++ e ∷ []) (after f u e).flushed (latest_after e.event e.generation latest)
run_after f counts t es u latest e leads run allowed stays = either (is_flush e.event) refl
  where
    now : (after f u e).flushed ≡ (marks_after e.event e.step e.part (marks_of u)).latest
    now = ap (λ (m : Marks). m.latest) (step_marks f counts u e allowed)

    either : (b : Bool)
        → is_flush e.event ≡ b
        → IsLatestRunOf (es ++ e ∷ []) (after f u e).flushed (latest_after e.event e.generation latest)
    either true is =
        let begun : (after f u e).flushed ≡ Some (record { run = e.step; part = e.part }) =
        now ∙ latest_of_flush e.event e.step e.part (marks_of u) is in
        let has = run_has f counts t es u latest e leads run allowed is (stays is) in
        let whole : IsLatestRunOf (es ++ e ∷ []) (Some (record { run = e.step; part = e.part })) e.generation = (
          run_more e.step e.generation es e has (λ h. refl),
          record {
            before = es;
            piece = e;
            later = [];
            parts = refl;
            is_piece = is;
            of_run = refl;
            in_generation = refl;
          },
        ) in
        subst (λ (g : ℕ). IsLatestRunOf (es ++ e ∷ []) (after f u e).flushed g)
        (sym (latest_flush e.event e.generation latest is))
        (subst (λ (o : Option Piece). IsLatestRunOf (es ++ e ∷ []) o e.generation) (sym begun) whole)
    either false other =
        let same : (after f u e).flushed ≡ u.flushed = now ∙ latest_of_other e.event e.step e.part (marks_of u) other in
        subst (λ (g : ℕ). IsLatestRunOf (es ++ e ∷ []) (after f u e).flushed g)
        (sym (latest_other e.event e.generation latest other))
        (subst (λ (o : Option Piece). IsLatestRunOf (es ++ e ∷ []) o latest) (sym same)
        (other_run es e u.flushed latest other run))

-- ---- calls

-- no entry is of a call of this caller
abbrev Silent : ℕ → List PlainEntry → Type 0
Silent c [] = Unit {0}
Silent c (e ∷ es) = ((is_of_call e.event && is_caller e.who c) ≡ false) × Silent c es

not_third : (a b d : Bool) → (a && b) ≡ false → (a && b && d) ≡ false
not_third true true d h = absurd (false≢true (sym h))
not_third true false d h = refl
not_third false b d h = refl

all_three : (a b d : Bool) → a ≡ true → b ≡ true → d ≡ true → (a && b && d) ≡ true
all_three true true d p q r = r
all_three true false d p q r = absurd (false≢true q)
all_three false b d p q r = absurd (false≢true p)

next_last : (c step generation : ℕ) (es : List PlainEntry) (e : PlainEntry)
    → Silent c es
    → NextHas c step generation (es ++ e ∷ [])
    → (is_of_call e.event && is_caller e.who c && (e.step == step)) ≡ true
    → e.generation ≡ generation
next_last c step generation [] e silent has is =
    on_true (is_of_call e.event && is_caller e.who c && (e.step == step)) _ _ is has
next_last c step generation (x ∷ es) e silent has is =
    next_last c step generation es e silent.1
    (on_false (is_of_call x.event && is_caller x.who c && (x.step == step)) _ _
    (not_third (is_of_call x.event) (is_caller x.who c) (x.step == step) silent.0) has) is

record SameCall (s u : Standing) : Type 0 where
  next : u.next ≡ s.next
  waits : u.waits ≡ s.waits
  parts : u.parts ≡ s.parts
  generation : u.generation ≡ s.generation

own_same : (event : PlainEvent) (generation : ℕ) (s : Standing)
    → is_of_call event ≡ false
    → SameCall s (standing_after_own event generation s)
own_same (answered a dropped) generation s none = absurd (false≢true (sym none))
own_same (parted taken) generation s none = absurd (false≢true (sym none))
own_same waited generation s none = absurd (false≢true (sym none))
own_same (flushed chars) generation s none = record { next = refl; waits = refl; parts = refl; generation = refl }
own_same ticked generation s none = record { next = refl; waits = refl; parts = refl; generation = refl }
own_same (line_ended n) generation s none = record { next = refl; waits = refl; parts = refl; generation = refl }
own_same clock_ended generation s none = record { next = refl; waits = refl; parts = refl; generation = refl }
own_same caller_ended generation s none = record { next = refl; waits = refl; parts = refl; generation = refl }
own_same phase_ended generation s none = record { next = refl; waits = refl; parts = refl; generation = refl }
own_same (hung_up dropped) generation s none = record { next = refl; waits = refl; parts = refl; generation = refl }

other_same : (event : PlainEvent) (s : Standing) → SameCall s (standing_after_other event s)
other_same (answered a dropped) s = record { next = refl; waits = refl; parts = refl; generation = refl }
other_same (parted taken) s = record { next = refl; waits = refl; parts = refl; generation = refl }
other_same waited s = record { next = refl; waits = refl; parts = refl; generation = refl }
other_same (flushed chars) s = record { next = refl; waits = refl; parts = refl; generation = refl }
other_same ticked s = record { next = refl; waits = refl; parts = refl; generation = refl }
other_same (line_ended n) s = record { next = refl; waits = refl; parts = refl; generation = refl }
other_same clock_ended s = record { next = refl; waits = refl; parts = refl; generation = refl }
other_same caller_ended s = record { next = refl; waits = refl; parts = refl; generation = refl }
other_same phase_ended s = record { next = refl; waits = refl; parts = refl; generation = refl }
other_same (hung_up dropped) s = record { next = refl; waits = refl; parts = refl; generation = refl }

same_either : (of own : Bool) (event : PlainEvent) (generation : ℕ) (s : Standing)
    → is_of_call event ≡ of
    → (of && own) ≡ false
    → SameCall s (if own then standing_after_own event generation s else standing_after_other event s)
same_either true true event generation s is none = absurd (false≢true (sym none))
same_either false true event generation s is none = own_same event generation s is
same_either of false event generation s is none = other_same event s

same_then : (s u v : Standing) → SameCall s u → SameCall u v → SameCall s v
same_then s u v h k = record {
  next = k.next ∙ h.next;
  waits = k.waits ∙ h.waits;
  parts = k.parts ∙ h.parts;
  generation = k.generation ∙ h.generation;
}

by_caller_at : (who : Who) (c : ℕ) (P : ℕ → Type 0) → ByCaller who P → is_caller who c ≡ true → P c
by_caller_at (Caller d) c P h is = subst P (eqb-true d c is) h
by_caller_at Flusher c P h is = absurd h
by_caller_at Line c P h is = absurd h
by_caller_at Clock c P h is = absurd h
by_caller_at Session c P h is = absurd h

call_goes : (who : Who) (c step generation : ℕ) (es : List PlainEntry)
    → is_caller who c ≡ true
    → CallGoesOn who step generation es
    → NextHas c step generation es
call_goes (Caller d) c step generation es is h = subst (λ (x : ℕ). NextHas x step generation es) (eqb-true d c is) h
call_goes Flusher c step generation es is h = absurd (false≢true is)
call_goes Line c step generation es is h = absurd (false≢true is)
call_goes Clock c step generation es is h = absurd (false≢true is)
call_goes Session c step generation es is h = absurd (false≢true is)

-- the generation that a caller keeps after a part is the part's
part_generation : (n own here : ℕ) → (nat_lt 0 n ≡ true → own ≡ here) → (if n == 0 then here else own) ≡ here
part_generation n own here same = either (n == 0) refl
  where
    either : (b : Bool) → (n == 0) ≡ b → (if b then here else own) ≡ here
    either true is = refl
    either false is = same (grind (arith, nat_tests))

-- an entry of a call under way: it is told by the call's latest part, or no entry is of the call
pub record IsUnderWay (u : Terminal) (c : ℕ) (e : PlainEntry) : Type 0 where
  pub of_call : is_of_call e.event ≡ true
  pub by_caller : is_caller e.who c ≡ true
  pub at_step : e.step ≡ (caller_at u c).next
  pub parts : 0 < (caller_at u c).parts
  pub waits : is_some (caller_at u c).waits ≡ false

-- the latest entry of a call under way is a part
own_entry : (f : ℕ → ℕ → Option PlainCall) (counts : List ℕ) (t : Terminal) (c step part generation : ℕ) (who : Who)
    (event : PlainEvent) (es : List PlainEntry) (e : PlainEntry) (v : Standing)
    → generation ≡ t.generation
    → IsAllowed f counts t who step part event
    → is_of_call event ≡ true
    → is_caller who c ≡ true
    → GoesOn event who step generation (es ++ e ∷ [])
    → Silent c es
    → SameCall (standing_after_own event generation (standing_of (caller_at t c))) v
    → 0 < v.parts
    → v.waits ≡ false
    → is_of_call e.event ≡ true
    → is_caller e.who c ≡ true
    → e.step ≡ v.next
    → e.generation ≡ v.generation
own_entry f counts t c step part generation who (answered a dropped) es e v now allowed
    of by goes silent same parts waits of_call by_caller at = absurd (omega (arith, same.parts, parts))
own_entry f counts t c step part generation who (parted n) es e v now allowed
    of by goes silent same parts waits of_call by_caller at =
    let entry = by_caller_at who c (λ d. IsPart f t d step part n) allowed by in
    let own = ((outcome_keeps t (caller_at t c) (f c step)).part n entry.takes).own in
    let kept : v.generation ≡ generation =
    same.generation
    ∙ part_generation (caller_at t c).parts (caller_at t c).generation generation (λ some. own some ∙ sym now) in
    let here : e.step ≡ step = at ∙ (same.next ∙ sym entry.next.at_step) in
    let has = call_goes who c step generation (es ++ e ∷ []) by goes in
    next_last c step generation es e silent has
    (all_three (is_of_call e.event) (is_caller e.who c) (e.step == step) of_call by_caller (eq-eqb e.step step here))
    ∙ sym kept
own_entry f counts t c step part generation who waited es e v now allowed
    of by goes silent same parts waits of_call by_caller at = absurd (false≢true (sym waits ∙ same.waits))
own_entry f counts t c step part generation who (flushed chars) es e v now allowed
    of by goes silent same parts waits of_call by_caller at = absurd (false≢true of)
own_entry f counts t c step part generation who ticked es e v now allowed
    of by goes silent same parts waits of_call by_caller at = absurd (false≢true of)
own_entry f counts t c step part generation who (line_ended n) es e v now allowed
    of by goes silent same parts waits of_call by_caller at = absurd (false≢true of)
own_entry f counts t c step part generation who clock_ended es e v now allowed
    of by goes silent same parts waits of_call by_caller at = absurd (false≢true of)
own_entry f counts t c step part generation who caller_ended es e v now allowed
    of by goes silent same parts waits of_call by_caller at = absurd (false≢true of)
own_entry f counts t c step part generation who phase_ended es e v now allowed
    of by goes silent same parts waits of_call by_caller at = absurd (false≢true of)
own_entry f counts t c step part generation who (hung_up dropped) es e v now allowed
    of by goes silent same parts waits of_call by_caller at = absurd (false≢true of)

-- an entry that is not of the caller's call leaves that as it is
from_other : (f : ℕ → ℕ → Option PlainCall) (counts : List ℕ) (t : Terminal) (x : PlainEntry) (u : Terminal) (c : ℕ)
    → Allowed f counts t x
    → SameCall (standing_of (caller_at (after f t x) c)) (standing_of (caller_at u c))
    → (of own : Bool)
    → is_of_call x.event ≡ of
    → is_caller x.who c ≡ own
    → (of && own) ≡ false
    → SameCall (standing_of (caller_at t c)) (standing_of (caller_at u c))
from_other f counts t x u c allowed same of own is by none =
    let stands : standing_of (caller_at (after f t x) c)
    ≡ (if own
    then standing_after_own x.event x.generation (standing_of (caller_at t c))
    else standing_after_other x.event (standing_of (caller_at t c))) =
    step_stands f counts t x allowed c
    ∙ ap (λ b.
    if b
    then standing_after_own x.event x.generation (standing_of (caller_at t c))
    else standing_after_other x.event (standing_of (caller_at t c))) by in
    same_then (standing_of (caller_at t c)) (standing_of (caller_at (after f t x) c)) (standing_of (caller_at u c))
    (subst (SameCall (standing_of (caller_at t c))) (sym stands)
    (same_either of own x.event x.generation (standing_of (caller_at t c)) is none)) same

call_path : (f : ℕ → ℕ → Option PlainCall) (counts : List ℕ) (t : Terminal) (es : List PlainEntry) (u : Terminal)
    (e : PlainEntry) (c : ℕ)
    → Leads f counts t es u
    → OneGeneration (es ++ e ∷ [])
    → IsUnderWay u c e
    → (e.generation ≡ (caller_at u c).generation)
    ⊎ (Silent c es × SameCall (standing_of (caller_at t c)) (standing_of (caller_at u c)))
call_path f counts t [] u e c leads one way =
    inr (
      tt,
      subst (λ (v : Terminal). SameCall (standing_of (caller_at t c)) (standing_of (caller_at v c))) (sym leads)
          (record { next = refl; waits = refl; parts = refl; generation = refl }),
    )
call_path f counts t (x ∷ es) u e c leads one way =
    elim (call_path f counts (after f t x) es u e c leads.1 one.1 way) [
      | inl told ↦ inl told
      | inr rest ↦ either f counts t x es u e c leads.0 one.0 way rest.0 rest.1 (is_of_call x.event) (is_caller x.who c)
          refl refl
    ]
  where
    either : (f : ℕ → ℕ → Option PlainCall) (counts : List ℕ) (t : Terminal) (x : PlainEntry) (es : List PlainEntry)
        (u : Terminal) (e : PlainEntry) (c : ℕ)
        → Allowed f counts t x
        → GoesOn x.event x.who x.step x.generation (es ++ e ∷ [])
        → IsUnderWay u c e
        → Silent c es
        → SameCall (standing_of (caller_at (after f t x) c)) (standing_of (caller_at u c))
        → (of own : Bool)
        → is_of_call x.event ≡ of
        → is_caller x.who c ≡ own
        → (e.generation ≡ (caller_at u c).generation)
        ⊎ (Silent c (x ∷ es) × SameCall (standing_of (caller_at t c)) (standing_of (caller_at u c)))
    either f counts t x es u e c allowed goes way silent same true true is by =
        let stands : standing_of (caller_at (after f t x) c)
        ≡ standing_after_own x.event x.generation (standing_of (caller_at t c)) =
        step_stands f counts t x allowed c
        ∙ ap (λ b.
        if b
        then standing_after_own x.event x.generation (standing_of (caller_at t c))
        else standing_after_other x.event (standing_of (caller_at t c))) by in
        inl (own_entry f counts t c x.step x.part x.generation x.who x.event es e (standing_of (caller_at u c))
        allowed.0 allowed.1 is by goes silent
        (subst (λ (s : Standing). SameCall s (standing_of (caller_at u c))) stands same)
        way.parts way.waits way.of_call way.by_caller way.at_step)
    either f counts t x es u e c allowed goes way silent same true false is by =
        inr (
          (ap (λ b. is_of_call x.event && b) by ∙ ap (λ b. b && false) is, silent),
          from_other f counts t x u c allowed same true false is by refl,
        )
    either f counts t x es u e c allowed goes way silent same false true is by =
        inr
        ((ap (λ b. b && is_caller x.who c) is, silent), from_other f counts t x u c allowed same false true is by refl)
    either f counts t x es u e c allowed goes way silent same false false is by =
        inr
        ((ap (λ b. b && is_caller x.who c) is, silent), from_other f counts t x u c allowed same false false is by refl)

-- a call that goes on in a run in one generation does so in the generation of its parts
pub call_stays : (f : ℕ → ℕ → Option PlainCall) (counts : List ℕ) (callers capacity : ℕ) (es : List PlainEntry)
    (u : Terminal) (e : PlainEntry) (c : ℕ)
    → Leads f counts (opening callers capacity) es u
    → OneGeneration (es ++ e ∷ [])
    → IsUnderWay u c e
    → (caller_at u c).generation ≡ e.generation
call_stays f counts callers capacity es u e c leads one way =
    elim (call_path f counts (opening callers capacity) es u e c leads one way) [
      | inl told ↦ sym told
      | inr rest ↦
          absurd (omega (arith, way.parts, rest.1.parts, ap (λ (s : CallerState). s.parts) (all_idle callers c)))
    ]
