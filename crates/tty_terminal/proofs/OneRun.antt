-- Each flush run, and each call between its waits, stays in one generation as a run goes on.
use Rattle.std.proofs.Common.{◌≡◌, ℕ, ◌+◌, ◌<◌, ◌≤◌, List, [], ◌∷◌, ◌++◌, Bool, true, false, IsTrue, ◌&&◌, ◌==◌}
use Rattle.std.proofs.Common.{nat_lt, zero, suc, if◌then◌else◌, Option, None, Some, ◌⊎◌, inl, inr, length, set}
use Rattle.std.proofs.Common.{get_or, get_or-set_same, MatchBool, refl, sym, ◌∙◌, ap, subst, arith}
use Rattle.std.proofs.lemmas.Bool.{and_parts, or_cases, eqb-true, eq-eqb, false≢true}
use Rattle.std.proofs.lemmas.Bool.Decides.{nat_tests}
use Rattle.tty_terminal.specs.declared.callers.CallerState.{CallerState}
use Rattle.tty_calls.specs.declared.journals.Who.{Who}
use Rattle.tty_calls.specs.declared.journals.Who.TheVariants.{Caller, Flusher, Line, Clock, Session}
use Rattle.tty_calls.specs.Plain.{PlainCall, PlainEvent, answered, parted, waited, flushed, ticked, line_ended}
use Rattle.tty_calls.specs.Plain.{clock_ended, caller_ended, phase_ended, hung_up, PlainEntry, is_caller}
use Rattle.tty_terminal.specs.declared.callers.Piece.{Piece}
use Rattle.tty_terminal.specs.Terminals.{Terminal, idle_caller, caller_at}
use Rattle.tty_terminal.specs.Outcomes.{Outcome}
use Rattle.tty_terminal.specs.Calls.{outcome_of}
use Rattle.tty_terminal.specs.Steps.{left_by, IsPart, ByCaller, IsAllowed, after_event, Allowed}
use Rattle.tty_terminal.specs.Steps.{after, after_answer, with_dropped, caller_after_answer, follows}
use Rattle.tty_terminal.specs.Runs.{Leads, IsRun, is_flush, is_of_call, RunHas}
use Rattle.tty_terminal.specs.Runs.{NextHas, GoesOn, OneGeneration, GoesOnInGeneration}
use Rattle.tty_terminal.specs.Standing.{Standing, standing_of, standing_after_own, standing_after_other}
use Rattle.tty_terminal.proofs.Effects.{Keeps, outcome_keeps, total_of}
use Rattle.tty_terminal.proofs.StepLaws.{runs_of, step_does}
use Rattle.tty_terminal.proofs.StandingLaws.{step_stands}
use Rattle.tty_terminal.proofs.Runs.{leads_more}

-- flush runs never fall
pub leads_runs : (f : ℕ → ℕ → Option PlainCall) (counts : List ℕ) (t : Terminal) (es : List PlainEntry) (u : Terminal)
    → Leads f counts t es u
    → runs_of t.flushed ≤ runs_of u.flushed
leads_runs f counts t [] u h = rw h (omega arith)
leads_runs f counts t (x ∷ es) u h =
    omega (arith, leads_runs f counts (after f t x) es u h.1, (step_does f counts t x h.0).runs)

match_unless : (b : Bool) (P Q : Type 0) → (b ≡ true → ⊥) → Q → MatchBool b P Q
match_unless true P Q not_so q = absurd (not_so refl)
match_unless false P Q not_so q = q

by_caller_at : (who : Who) (c : ℕ) (P : ℕ → Type 0) → ByCaller who P → is_caller who c ≡ true → P c
by_caller_at (Caller d) c P h is = subst P (eqb-true d c is) h
by_caller_at Flusher c P h is = absurd h
by_caller_at Line c P h is = absurd h
by_caller_at Clock c P h is = absurd h
by_caller_at Session c P h is = absurd h

-- an entry of a caller's call has the number of the caller's next step
at_next : (f : ℕ → ℕ → Option PlainCall) (counts : List ℕ) (t : Terminal) (who : Who) (step part : ℕ)
    (event : PlainEvent) (c : ℕ)
    → IsAllowed f counts t who step part event
    → is_of_call event ≡ true
    → is_caller who c ≡ true
    → step ≡ (caller_at t c).next
at_next f counts t who step part (answered a dropped) c h call is = (by_caller_at who c _ h is).next.at_step
at_next f counts t who step part (parted taken) c h call is = (by_caller_at who c _ h is).next.at_step
at_next f counts t who step part waited c h call is = (by_caller_at who c _ h is).next.at_step
at_next f counts t who step part (flushed chars) c h call is = absurd (false≢true call)
at_next f counts t who step part ticked c h call is = absurd (false≢true call)
at_next f counts t who step part (line_ended n) c h call is = absurd (false≢true call)
at_next f counts t who step part clock_ended c h call is = absurd (false≢true call)
at_next f counts t who step part caller_ended c h call is = absurd (false≢true call)
at_next f counts t who step part phase_ended c h call is = absurd (false≢true call)
at_next f counts t who step part (hung_up dropped) c h call is = absurd (false≢true call)

three_parts : (x y z : Bool) → (x && y && z) ≡ true → (x ≡ true) × (y ≡ true) × (z ≡ true)
three_parts true true true h = (refl, refl, refl)
three_parts true true false h = absurd (false≢true h)
three_parts true false z h = absurd (false≢true h)
three_parts false y z h = absurd (false≢true h)

-- a call that was answered has no more entries
next_has : (f : ℕ → ℕ → Option PlainCall) (counts : List ℕ) (t : Terminal) (es : List PlainEntry) (u : Terminal)
    (c step generation : ℕ)
    → Leads f counts t es u
    → step < (caller_at t c).next
    → NextHas c step generation es
next_has f counts t [] u c step generation h lt = tt
next_has f counts t (e ∷ es) u c step generation h lt =
    match_unless (is_of_call e.event && is_caller e.who c && (e.step == step)) (e.generation ≡ generation)
    (NextHas c step generation es)
    (λ is.
    let parts = three_parts (is_of_call e.event) (is_caller e.who c) (e.step == step) is in
    let at : e.step ≡ (caller_at t c).next = at_next f counts t e.who e.step e.part e.event c h.0.1 parts.0 parts.1 in
    let same : e.step ≡ step = eqb-true e.step step parts.2 in
    omega arith)
    (next_has f counts (after f t e) es u c step generation h.1
    (let least = ((step_does f counts t e h.0).caller c).least in omega (arith, least)))

answered_next : (t : Terminal) (s : CallerState) (total : ℕ) (o : Outcome) (c step n : ℕ) → Keeps t s total o
    → c < length t.callers → step ≡ (caller_at t c).next
    → step < (caller_at (after_answer (with_dropped (left_by o t) n) c) c).next
answered_next t s total o c step n k known at =
    let l = k.left in
    let is : get_or (set (left_by o t).callers c (caller_after_answer (caller_at (left_by o t) c))) c idle_caller
    ≡ caller_after_answer (caller_at (left_by o t) c) =
    get_or-set_same (left_by o t).callers c (caller_after_answer (caller_at (left_by o t) c)) idle_caller
    (omega (arith, l.callers)) in
    rw is (omega (arith, (l.caller c).next))

run_more : (run generation : ℕ) (es : List PlainEntry) (e : PlainEntry) → RunHas run generation es
    → (IsTrue (is_flush e.event && (e.step == run)) → e.generation ≡ generation) → RunHas run generation (es ++ e ∷ [])
run_more run generation [] e h last = (last, tt)
run_more run generation (x ∷ es) e h last = (h.0, run_more run generation es e h.1 last)

flush_follows : (f : ℕ → ℕ → Option PlainCall) (counts : List ℕ) (u : Terminal) (who : Who) (step part : ℕ)
    (event : PlainEvent)
    → IsAllowed f counts u who step part event
    → is_flush event ≡ true
    → IsTrue (follows u.flushed step part)
flush_follows f counts u who step part (answered a dropped) h is = absurd (false≢true is)
flush_follows f counts u who step part (parted taken) h is = absurd (false≢true is)
flush_follows f counts u who step part waited h is = absurd (false≢true is)
flush_follows f counts u who step part (flushed chars) h is = h.1.numbered
flush_follows f counts u who step part ticked h is = absurd (false≢true is)
flush_follows f counts u who step part (line_ended n) h is = absurd (false≢true is)
flush_follows f counts u who step part clock_ended h is = absurd (false≢true is)
flush_follows f counts u who step part caller_ended h is = absurd (false≢true is)
flush_follows f counts u who step part phase_ended h is = absurd (false≢true is)
flush_follows f counts u who step part (hung_up dropped) h is = absurd (false≢true is)

-- a piece is a later one, or the first of the next run
later_or_first : (p : Option Piece) (run part : ℕ) → IsTrue (follows p run part) → (0 < part) ⊎ (runs_of p ≡ run)
later_or_first None run part h = inr (sym (eqb-true run 0 (and_parts (run == 0) (part == 0) h).0))
later_or_first (Some p) run part h =
    elim (or_cases ((run == p.run) && (part == p.part + 1)) ((run == p.run + 1) && (part == 0)) h) [
      | inl e ↦ inl (omega (arith, eqb-true part (p.part + 1) (and_parts (run == p.run) (part == p.part + 1) e).1))
      | inr e ↦ inr (sym (eqb-true run (p.run + 1) (and_parts (run == p.run + 1) (part == 0) e).0))
    ]

-- the new entry is of the flush run of an earlier piece
same_run : (f : ℕ → ℕ → Option PlainCall) (counts : List ℕ) (u : Terminal) (e : PlainEntry) (step generation : ℕ)
    → Allowed f counts u e → step < runs_of u.flushed
    → (IsTrue (is_flush e.event) → 0 < e.part → step ≡ e.step → generation ≡ e.generation)
    → IsTrue (is_flush e.event && (e.step == step)) → e.generation ≡ generation
same_run f counts u e step generation allowed later one is =
    let parts = and_parts (is_flush e.event) (e.step == step) is in
    let same : e.step ≡ step = eqb-true e.step step parts.1 in
    elim
    (later_or_first u.flushed e.step e.part (flush_follows f counts u e.who e.step e.part e.event allowed.1 parts.0)) [
      | inl lt ↦ sym (one parts.0 lt (sym same))
      | inr first ↦ absurd (omega (arith, first, same, later))
    ]

-- a call of which a part was taken, and which has not waited since
record IsUnderWay (s : Standing) (step own : ℕ) : Type 0 where
  next : s.next ≡ step
  waits : s.waits ≡ false
  parts : 0 < s.parts
  generation : s.generation ≡ own

own_under_way : (event : PlainEvent) (at : ℕ) (s : Standing) (step generation : ℕ) → is_of_call event ≡ false
    → IsUnderWay s step generation → IsUnderWay (standing_after_own event at s) step generation
own_under_way (answered a dropped) at s step generation none h = absurd (false≢true (sym none))
own_under_way (parted taken) at s step generation none h = absurd (false≢true (sym none))
own_under_way waited at s step generation none h = absurd (false≢true (sym none))
own_under_way (flushed chars) at s step generation none h = h
own_under_way ticked at s step generation none h = h
own_under_way (line_ended n) at s step generation none h = h
own_under_way clock_ended at s step generation none h = h
own_under_way caller_ended at s step generation none h =
    record { next = h.next; waits = h.waits; parts = h.parts; generation = h.generation }
own_under_way phase_ended at s step generation none h = h
own_under_way (hung_up dropped) at s step generation none h = h

other_under_way : (event : PlainEvent) (s : Standing) (step generation : ℕ)
    → IsUnderWay s step generation
    → IsUnderWay (standing_after_other event s) step generation
other_under_way (answered a dropped) s step generation h = h
other_under_way (parted taken) s step generation h = h
other_under_way waited s step generation h = h
other_under_way (flushed chars) s step generation h = h
other_under_way ticked s step generation h = h
other_under_way (line_ended n) s step generation h = h
other_under_way clock_ended s step generation h = h
other_under_way caller_ended s step generation h = h
other_under_way phase_ended s step generation h =
    record { next = h.next; waits = h.waits; parts = h.parts; generation = h.generation }
other_under_way (hung_up dropped) s step generation h = h

not_both : (a b : Bool) → (a ≡ true → b ≡ true → ⊥) → b ≡ true → a ≡ false
not_both true b h e = absurd (h refl e)
not_both false b h e = refl

still_under_way : (own : Bool) (event : PlainEvent) (at : ℕ) (s : Standing) (step generation : ℕ)
    → (is_of_call event ≡ true → own ≡ true → ⊥) → IsUnderWay s step generation
    → IsUnderWay (if own then standing_after_own event at s else standing_after_other event s) step generation
still_under_way true event at s step generation none h =
    own_under_way event at s step generation (not_both (is_of_call event) true none refl) h
still_under_way false event at s step generation none h = other_under_way event s step generation h

match_either : (b : Bool) (P Q : Type 0) → (b ≡ true → P) → (b ≡ false → Q) → MatchBool b P Q
match_either true P Q p q = p refl
match_either false P Q p q = q refl

match_true : (b : Bool) (P Q : Type 0) → MatchBool b P Q → b ≡ true → P
match_true true P Q h e = h
match_true false P Q h e = absurd (false≢true e)

match_false : (b : Bool) (P Q : Type 0) → MatchBool b P Q → b ≡ false → Q
match_false true P Q h e = absurd (false≢true (sym e))
match_false false P Q h e = h

last_false : (a b x : Bool) → (a && b && x) ≡ false → a ≡ true → b ≡ true → x ≡ true → ⊥
last_false true true true h a b x = false≢true (sym h)
last_false true true false h a b x = false≢true x
last_false true false x h a b y = false≢true b
last_false false b x h a c y = false≢true a

-- a part is followed, in its call, by an entry of its generation
goes_on_to : (f : ℕ → ℕ → Option PlainCall) (counts : List ℕ) (v : Terminal) (es : List PlainEntry) (u : Terminal)
    (e : PlainEntry) (c step generation : ℕ)
    → Leads f counts v es u
    → Allowed f counts u e
    → GoesOnInGeneration u e
    → IsUnderWay (standing_of (caller_at v c)) step generation
    → NextHas c step generation es
    → NextHas c step generation (es ++ e ∷ [])
goes_on_to f counts v [] u e c step generation h allowed goes way has =
    match_either (is_of_call e.event && is_caller e.who c && (e.step == step)) (e.generation ≡ generation) (Unit {0})
    (λ is.
    let parts = three_parts (is_of_call e.event) (is_caller e.who c) (e.step == step) is in
    let here : IsUnderWay (standing_of (caller_at u c)) step generation =
    subst (λ (w : Terminal). IsUnderWay (standing_of (caller_at w c)) step generation) (sym h) way in
    sym (goes c parts.0 parts.1 here.parts here.waits) ∙ here.generation)
    (λ is. tt)
goes_on_to f counts v (y ∷ es) u e c step generation h allowed goes way has =
    match_either (is_of_call y.event && is_caller y.who c && (y.step == step)) (y.generation ≡ generation)
    (NextHas c step generation (es ++ e ∷ []))
    (λ is. match_true _ _ _ has is)
    (λ is.
    goes_on_to f counts (after f v y) es u e c step generation h.1 allowed goes
    (subst (λ (s : Standing). IsUnderWay s step generation) (sym (step_stands f counts v y h.0 c))
    (still_under_way (is_caller y.who c) y.event y.generation (standing_of (caller_at v c)) step generation
    (λ call own. last_false _ _ (y.step == step) is call own
    (eq-eqb y.step step (at_next f counts v y.who y.step y.part y.event c h.0.1 call own ∙ way.next)))
    way))
    (match_false _ _ _ has is))

-- the generation of a write's parts, where the first of them may be of now
part_generation : (parts own now : ℕ)
    → (nat_lt 0 parts ≡ true → own ≡ now)
    → (b : Bool)
    → (parts == 0) ≡ b
    → (if b then now else own) ≡ now
part_generation parts own now h true e = refl
part_generation zero own now h false e = absurd (false≢true (sym e))
part_generation (suc parts) own now h false e = h (grind (arith, nat_tests))

one_entry : (f : ℕ → ℕ → Option PlainCall) (counts : List ℕ) (t : Terminal) (c step part taken : ℕ)
    → IsPart f t c step part taken
    → Allowed f counts t
    (record { who = Caller c; step = step; part = part; generation = t.generation; event = parted taken })
one_entry f counts t c step part taken h = (refl, h)

own_standing : (d : ℕ) (x y : Standing) → (if d == d then x else y) ≡ x
own_standing d x y = ap (λ (b : Bool). if b then x else y) (eq-eqb d d refl)

part_under_way : (f : ℕ → ℕ → Option PlainCall) (counts : List ℕ) (t : Terminal) (c step part generation taken : ℕ)
    → generation ≡ t.generation → IsPart f t c step part taken
    → IsUnderWay (standing_of (caller_at (after_event f t (Caller c) step part (parted taken)) c)) step generation
part_under_way f counts t c step part generation taken g h =
    let s = standing_of (caller_at t c) in
    let stands =
    step_stands f counts t
    (record { who = Caller c; step = step; part = part; generation = t.generation; event = parted taken })
    (one_entry f counts t c step part taken h) c
    ∙ own_standing c (standing_after_own (parted taken) t.generation s) s in
    subst (λ (k : Standing). IsUnderWay k step generation) (sym stands)
    (record {
      next = sym h.next.at_step;
      waits = refl;
      parts = omega arith;
      generation =
          part_generation (caller_at t c).parts (caller_at t c).generation t.generation
          ((outcome_keeps t (caller_at t c) (f c step)).part taken h.takes).own ((caller_at t c).parts == 0) refl
          ∙ sym g;
    })

event_more : (f : ℕ → ℕ → Option PlainCall) (counts : List ℕ) (t : Terminal) (who : Who) (step part generation : ℕ)
    (event : PlainEvent) (es : List PlainEntry) (u : Terminal) (e : PlainEntry)
    → generation ≡ t.generation
    → IsAllowed f counts t who step part event
    → Leads f counts (after_event f t who step part event) es u
    → Allowed f counts u e
    → GoesOnInGeneration u e
    → GoesOn event who step generation es
    → (IsTrue (is_flush e.event) → 0 < e.part → IsTrue (is_flush event && (step == e.step)) → generation ≡ e.generation)
    → GoesOn event who step generation (es ++ e ∷ [])
event_more f counts t (Caller c) step part generation (answered a dropped) es u e g h leads allowed calls goes one =
    next_has f counts _ (es ++ e ∷ []) (after f u e) c step generation (leads_more f counts _ es u e leads allowed)
    (answered_next t (caller_at t c) (total_of (f c step)) (outcome_of t (caller_at t c) (f c step)) c step
    (length dropped) (outcome_keeps t (caller_at t c) (f c step)) h.next.known h.next.at_step)
event_more f counts t Flusher step part generation (answered a dropped) es u e g h leads allowed calls goes one = tt
event_more f counts t Line step part generation (answered a dropped) es u e g h leads allowed calls goes one = tt
event_more f counts t Clock step part generation (answered a dropped) es u e g h leads allowed calls goes one = tt
event_more f counts t Session step part generation (answered a dropped) es u e g h leads allowed calls goes one = tt
event_more f counts t (Caller c) step part generation (parted taken) es u e g h leads allowed calls goes one =
    goes_on_to f counts _ es u e c step generation leads allowed calls
    (part_under_way f counts t c step part generation taken g h) goes
event_more f counts t Flusher step part generation (parted taken) es u e g h leads allowed calls goes one = tt
event_more f counts t Line step part generation (parted taken) es u e g h leads allowed calls goes one = tt
event_more f counts t Clock step part generation (parted taken) es u e g h leads allowed calls goes one = tt
event_more f counts t Session step part generation (parted taken) es u e g h leads allowed calls goes one = tt
event_more f counts t who step part generation waited es u e g h leads allowed calls goes one = tt
event_more f counts t who step part generation (flushed chars) es u e g h leads allowed calls goes one =
    let runs = leads_runs f counts (after_event f t who step part (flushed chars)) es u leads in
    run_more step generation es e goes
    (same_run f counts u e step generation allowed (omega (arith, runs))
    (λ is lt same. one is lt (eq-eqb step e.step same)))
event_more f counts t who step part generation ticked es u e g h leads allowed calls goes one = tt
event_more f counts t who step part generation (line_ended n) es u e g h leads allowed calls goes one = tt
event_more f counts t who step part generation clock_ended es u e g h leads allowed calls goes one = tt
event_more f counts t who step part generation caller_ended es u e g h leads allowed calls goes one = tt
event_more f counts t who step part generation phase_ended es u e g h leads allowed calls goes one = tt
event_more f counts t who step part generation (hung_up dropped) es u e g h leads allowed calls goes one = tt

last_goes : (event : PlainEvent) (who : Who) (step generation : ℕ) → GoesOn event who step generation []
last_goes (answered a dropped) (Caller c) step generation = tt
last_goes (answered a dropped) Flusher step generation = tt
last_goes (answered a dropped) Line step generation = tt
last_goes (answered a dropped) Clock step generation = tt
last_goes (answered a dropped) Session step generation = tt
last_goes (parted taken) (Caller c) step generation = tt
last_goes (parted taken) Flusher step generation = tt
last_goes (parted taken) Line step generation = tt
last_goes (parted taken) Clock step generation = tt
last_goes (parted taken) Session step generation = tt
last_goes waited who step generation = tt
last_goes (flushed chars) who step generation = tt
last_goes ticked who step generation = tt
last_goes (line_ended n) who step generation = tt
last_goes clock_ended who step generation = tt
last_goes caller_ended who step generation = tt
last_goes phase_ended who step generation = tt
last_goes (hung_up dropped) who step generation = tt

one_from : (f : ℕ → ℕ → Option PlainCall) (counts : List ℕ) (t : Terminal) (es : List PlainEntry) (u : Terminal)
    (e : PlainEntry)
    → Leads f counts t es u
    → OneGeneration es
    → Allowed f counts u e
    → GoesOnInGeneration u e
    → (IsTrue (is_flush e.event) → 0 < e.part → RunHas e.step e.generation es)
    → OneGeneration (es ++ e ∷ [])
one_from f counts t [] u e h one allowed calls flushes = (last_goes e.event e.who e.step e.generation, tt)
one_from f counts t (x ∷ es) u e h one allowed calls flushes = (
  event_more f counts t x.who x.step x.part x.generation x.event es u e h.0.0 h.0.1 h.1 allowed calls one.0
      (λ is lt. (flushes is lt).0),
  one_from f counts (after f t x) es u e h.1 one.1 allowed calls (λ is lt. (flushes is lt).1),
)

pub one_more : (f : ℕ → ℕ → Option PlainCall) (counts : List ℕ) (capacity : ℕ) (es : List PlainEntry) (u : Terminal)
    (e : PlainEntry)
    → IsRun f counts capacity es u
    → OneGeneration es
    → Allowed f counts u e
    → GoesOnInGeneration u e
    → (IsTrue (is_flush e.event) → 0 < e.part → RunHas e.step e.generation es)
    → OneGeneration (es ++ e ∷ [])
one_more f counts capacity es u e h one allowed calls flushes = one_from f counts _ es u e h one allowed calls flushes
