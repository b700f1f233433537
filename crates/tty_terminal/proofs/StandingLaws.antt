-- Where each caller stands after an entry, and after a run.
use Rattle.std.proofs.Common.{◌≡◌, ℕ, ◌+◌, ◌<◌, List, [], ◌∷◌, Bool, true, false, ◌==◌, Option, None, Some, is_some}
use Rattle.std.proofs.Common.{if◌then◌else◌, length, set, get_or, get_or-set_same, get_or-set_other, sum, refl, sym}
use Rattle.std.proofs.Common.{◌∙◌, ap, subst, arith}
use Rattle.std.proofs.lemmas.Bool.{eqb-true, eq-eqb, false≢true}
use Rattle.tty_base.specs.declared.characters.Flagged.{Flagged}
use Rattle.tty_calls.specs.declared.journals.Who.{Who}
use Rattle.tty_calls.specs.declared.journals.Who.TheVariants.{Caller, Flusher, Line, Clock, Session}
use Rattle.tty_calls.specs.Plain.{PlainCall, PlainAnswer, PlainEvent, answered, parted, waited, flushed, ticked}
use Rattle.tty_calls.specs.Plain.{line_ended, clock_ended, caller_ended, phase_ended, hung_up, PlainEntry, is_caller}
use Rattle.tty_terminal.specs.declared.callers.Bound.{Bound}
use Rattle.tty_terminal.specs.declared.callers.CallerState.{CallerState}
use Rattle.tty_terminal.specs.Terminals.{Terminal, opening, idle_caller, caller_at, is_bound}
use Rattle.tty_terminal.specs.Generations.{caller_after_hangup}
use Rattle.tty_terminal.specs.Receiving.{after_character, after_characters}
use Rattle.tty_terminal.specs.Outcomes.{Outcome}
use Rattle.tty_terminal.specs.Calls.{outcome_of}
use Rattle.tty_terminal.specs.Steps.{left_by, IsAllowed, after_event, Allowed, after, bound_at, caller_after_answer}
use Rattle.tty_terminal.specs.Steps.{caller_after_wait, caller_after_part, caller_after_phase, handle_number}
use Rattle.tty_terminal.specs.Runs.{Leads, IsRun}
use Rattle.tty_terminal.specs.Standing.{Standing, standing_of, standing_after_own}
use Rattle.tty_terminal.specs.Standing.{standing_after_other, standing_after, standing_in, at_first}
use Rattle.tty_terminal.proofs.CallerLists.{Stays, hangup_stays, map_relates, all_idle}
use Rattle.tty_terminal.proofs.Effects.{outcome_keeps}

stays_stand : (s u : CallerState) → Stays s u → standing_of u ≡ standing_of s
stays_stand s u h =
    λ i. record {
      next = h.next i;
      over = h.over i;
      waits = is_some (h.waits i);
      parts = h.parts i;
      taken = h.taken i;
      generation = h.generation i;
      begun = h.bound i;
    }

set_at : (cs : List CallerState) (c : ℕ) (s : CallerState) → c < length cs → get_or (set cs c s) c idle_caller ≡ s
set_at cs c s lt = get_or-set_same cs c s idle_caller lt

set_elsewhere : (cs : List CallerState) (d : ℕ) (s : CallerState) (c : ℕ)
    → (d == c) ≡ false
    → get_or (set cs d s) c idle_caller ≡ get_or cs c idle_caller
set_elsewhere cs d s c other = get_or-set_other cs d c s idle_caller (λ e. false≢true (sym other ∙ eq-eqb d c (sym e)))

-- a caller's state is replaced: it stands as the new state does, and each other one as it did
set_stands : (cs : List CallerState) (d : ℕ) (s : CallerState) (c : ℕ) (own other : Standing) → d < length cs
    → ((d == c) ≡ true → standing_of s ≡ own) → ((d == c) ≡ false → standing_of (get_or cs c idle_caller) ≡ other)
    → (b : Bool) → (d == c) ≡ b → standing_of (get_or (set cs d s) c idle_caller) ≡ (if b then own else other)
set_stands cs d s c own other lt at elsewhere true e =
    let same : d ≡ c = eqb-true d c e in
    ap standing_of (subst (λ (k : ℕ). get_or (set cs d s) k idle_caller ≡ s) same (set_at cs d s lt)) ∙ at e
set_stands cs d s c own other lt at elsewhere false e = ap standing_of (set_elsewhere cs d s c e) ∙ elsewhere e

by_number : (cs : List CallerState) (d : ℕ) (s : CallerState) (c : ℕ) (own other : Standing) → d < length cs
    → ((d == c) ≡ true → standing_of s ≡ own) → ((d == c) ≡ false → standing_of (get_or cs c idle_caller) ≡ other)
    → standing_of (get_or (set cs d s) c idle_caller) ≡ (if d == c then own else other)
by_number cs d s c own other lt at elsewhere = set_stands cs d s c own other lt at elsewhere (d == c) refl

answer_stands : (s u : CallerState) → Stays s u → (a : PlainAnswer) (dropped : List Flagged) (generation : ℕ)
    → standing_of (caller_after_answer u) ≡ standing_after_own (answered a dropped) generation (standing_of s)
answer_stands s u h a dropped generation =
    λ i.
    record { next = h.next i + 1; over = h.over i; waits = false; parts = 0; taken = 0; generation = 0; begun = false }

bound_true : (t : Terminal) (b : Option Bound) (h : ℕ) → is_bound (bound_at t b h) ≡ true
bound_true t None h = refl
bound_true t (Some b) h = refl

part_stands : (t u : Terminal) (s v : CallerState) → Stays s v → (generation : ℕ) → u.generation ≡ generation
    → (h n : ℕ) → standing_of (caller_after_part u v h n) ≡ standing_after_own (parted n) generation (standing_of s)
part_stands t u s v k generation e h n =
    λ i. record {
      next = k.next i;
      over = k.over i;
      waits = false;
      parts = k.parts i + 1;
      taken = k.taken i + n;
      generation = if k.parts i == 0 then e i else k.generation i;
      begun = bound_true u v.bound h i;
    }

wait_stands : (t : Terminal) (s : CallerState) (generation h : ℕ)
    → standing_of (caller_after_wait t s h) ≡ standing_after_own waited generation (standing_of s)
wait_stands t s generation h =
    λ i. record {
      next = s.next;
      over = s.over;
      waits = true;
      parts = s.parts;
      taken = s.taken;
      generation = s.generation;
      begun = bound_true t s.bound h i;
    }

-- each of a terminal's callers stands as it did
receiving_stands : (t : Terminal) (chars : List Flagged) → (after_characters t chars).callers ≡ t.callers
receiving_stands t [] = refl
receiving_stands t (x ∷ xs) = receiving_stands (after_character t x) xs

same_stand : (b : Bool) (s : Standing) → s ≡ (if b then s else s)
same_stand true s = refl
same_stand false s = refl

not_session : (e : Standing) (who : Who) (c : ℕ) (own other : Standing)
    → who ≡ Session
    → other ≡ (if is_caller who c then own else other)
not_session e who c own other is = subst (λ (w : Who). other ≡ (if is_caller w c then own else other)) (sym is) refl

again_stands : (s : CallerState) → standing_of (caller_after_phase s) ≡ standing_after_other phase_ended (standing_of s)
again_stands s = refl

abbrev StandsAgain : CallerState → CallerState → Type 0
StandsAgain s u = standing_of u ≡ standing_after_other phase_ended (standing_of s)

abbrev StandsStill : CallerState → CallerState → Type 0
StandsStill s u = standing_of u ≡ standing_of s

abbrev StandsAfter : Terminal → Terminal → Who → ℕ → PlainEvent → Type 0
StandsAfter t u who generation event =
    (c : ℕ)
    → standing_of (caller_at u c)
    ≡ (if is_caller who c
    then standing_after_own event generation (standing_of (caller_at t c))
    else standing_after_other event (standing_of (caller_at t c)))

answered_stands : (t : Terminal) (o : Outcome) (d : ℕ) (a : PlainAnswer) (dropped : List Flagged) (generation : ℕ)
    → length (left_by o t).callers ≡ length t.callers
    → ((c : ℕ) → Stays (caller_at t c) (caller_at (left_by o t) c))
    → d < length t.callers
    → (c : ℕ)
    → standing_of (get_or (set (left_by o t).callers d (caller_after_answer (caller_at (left_by o t) d))) c idle_caller)
    ≡ (if d == c
    then standing_after_own (answered a dropped) generation (standing_of (caller_at t c))
    else standing_of (caller_at t c))
answered_stands t o d a dropped generation same each lt c =
    by_number (left_by o t).callers d _ c _ _ (omega (arith, same))
    (λ e. subst (λ (k : ℕ).
    standing_of (caller_after_answer (caller_at (left_by o t) d))
    ≡ standing_after_own (answered a dropped) generation (standing_of (caller_at t k)))
    (eqb-true d c e) (answer_stands (caller_at t d) (caller_at (left_by o t) d) (each d) a dropped generation))
    (λ e. stays_stand (caller_at t c) (caller_at (left_by o t) c) (each c))

parted_stands : (t : Terminal) (o : Outcome) (d h n generation : ℕ)
    → length (left_by o t).callers ≡ length t.callers
    → ((c : ℕ) → Stays (caller_at t c) (caller_at (left_by o t) c))
    → (left_by o t).generation ≡ generation
    → d < length t.callers
    → (c : ℕ)
    → standing_of (get_or
    (set (left_by o t).callers d (caller_after_part (left_by o t) (caller_at (left_by o t) d) h n)) c idle_caller)
    ≡ (if d == c
    then standing_after_own (parted n) generation (standing_of (caller_at t c))
    else standing_of (caller_at t c))
parted_stands t o d h n generation same each g lt c =
    by_number (left_by o t).callers d _ c _ _ (omega (arith, same))
    (λ e. subst (λ (k : ℕ).
    standing_of (caller_after_part (left_by o t) (caller_at (left_by o t) d) h n)
    ≡ standing_after_own (parted n) generation (standing_of (caller_at t k)))
    (eqb-true d c e)
    (part_stands t (left_by o t) (caller_at t d) (caller_at (left_by o t) d) (each d) generation g h n))
    (λ e. stays_stand (caller_at t c) (caller_at (left_by o t) c) (each c))

event_stands : (f : ℕ → ℕ → Option PlainCall) (counts : List ℕ) (t : Terminal) (who : Who) (step part : ℕ)
    (event : PlainEvent)
    → IsAllowed f counts t who step part event
    → StandsAfter t (after_event f t who step part event) who t.generation event
event_stands f counts t (Caller d) step part (answered a dropped) h c =
    let k = outcome_keeps t (caller_at t d) (f d step) in
    answered_stands t (outcome_of t (caller_at t d) (f d step)) d a dropped
    t.generation k.left.callers k.left.caller h.next.known c
event_stands f counts t Flusher step part (answered a dropped) h c = absurd h
event_stands f counts t Line step part (answered a dropped) h c = absurd h
event_stands f counts t Clock step part (answered a dropped) h c = absurd h
event_stands f counts t Session step part (answered a dropped) h c = absurd h
event_stands f counts t (Caller d) step part (parted n) h c =
    let k = outcome_keeps t (caller_at t d) (f d step) in
    parted_stands t (outcome_of t (caller_at t d) (f d step)) d (handle_number (f d step)) n t.generation k.left.callers
    k.left.caller (k.part n h.takes).generation h.next.known c
event_stands f counts t Flusher step part (parted n) h c = absurd h
event_stands f counts t Line step part (parted n) h c = absurd h
event_stands f counts t Clock step part (parted n) h c = absurd h
event_stands f counts t Session step part (parted n) h c = absurd h
event_stands f counts t (Caller d) step part waited h c =
    by_number t.callers d _ c _ _ h.next.known
    (λ e. subst (λ (k : ℕ).
    standing_of (caller_after_wait t (caller_at t d) (handle_number (f d step)))
    ≡ standing_after_own waited t.generation (standing_of (caller_at t k)))
    (eqb-true d c e) (wait_stands t (caller_at t d) t.generation (handle_number (f d step))))
    (λ e. refl)
event_stands f counts t Flusher step part waited h c = absurd h
event_stands f counts t Line step part waited h c = absurd h
event_stands f counts t Clock step part waited h c = absurd h
event_stands f counts t Session step part waited h c = absurd h
event_stands f counts t who step part (flushed chars) h c =
    ap (λ (cs : List CallerState). standing_of (get_or cs c idle_caller)) (receiving_stands t chars)
    ∙ same_stand (is_caller who c) (standing_of (caller_at t c))
event_stands f counts t who step part ticked h c = same_stand (is_caller who c) (standing_of (caller_at t c))
event_stands f counts t who step part (line_ended n) h c = same_stand (is_caller who c) (standing_of (caller_at t c))
event_stands f counts t who step part clock_ended h c = same_stand (is_caller who c) (standing_of (caller_at t c))
event_stands f counts t (Caller d) step part caller_ended h c =
    by_number t.callers d _ c _ _ h.known
    (λ e. subst (λ (k : ℕ).
    standing_of (record (caller_at t d) { over = true })
    ≡ standing_after_own caller_ended t.generation (standing_of (caller_at t k)))
    (eqb-true d c e) refl)
    (λ e. refl)
event_stands f counts t Flusher step part caller_ended h c = absurd h
event_stands f counts t Line step part caller_ended h c = absurd h
event_stands f counts t Clock step part caller_ended h c = absurd h
event_stands f counts t Session step part caller_ended h c = absurd h
event_stands f counts t who step part phase_ended h c =
    map_relates StandsAgain caller_after_phase refl again_stands t.callers c
    ∙ not_session (standing_of (caller_at t c)) who c (standing_of (caller_at t c))
    (standing_after_other phase_ended (standing_of (caller_at t c))) h.0
event_stands f counts t who step part (hung_up dropped) h c =
    map_relates StandsStill caller_after_hangup refl (λ s. stays_stand s (caller_after_hangup s) (hangup_stays s))
    t.callers c
    ∙ same_stand (is_caller who c) (standing_of (caller_at t c))

-- each caller stands after an entry as its own entries and the ends of phases tell
pub step_stands : (f : ℕ → ℕ → Option PlainCall) (counts : List ℕ) (t : Terminal) (e : PlainEntry)
    → Allowed f counts t e → (c : ℕ)
    → standing_of (caller_at (after f t e) c) ≡ standing_after c e (standing_of (caller_at t c))
step_stands f counts t e h c =
    subst (λ (g : ℕ).
    standing_of (caller_at (after f t e) c)
    ≡ (if is_caller e.who c
    then standing_after_own e.event g (standing_of (caller_at t c))
    else standing_after_other e.event (standing_of (caller_at t c))))
    (sym h.0) (event_stands f counts t e.who e.step e.part e.event h.1 c)

pub leads_stands : (f : ℕ → ℕ → Option PlainCall) (counts : List ℕ) (t : Terminal) (es : List PlainEntry) (u : Terminal)
    → Leads f counts t es u → (c : ℕ) → standing_of (caller_at u c) ≡ standing_in c es (standing_of (caller_at t c))
leads_stands f counts t [] u h c = ap (λ (v : Terminal). standing_of (caller_at v c)) h
leads_stands f counts t (e ∷ es) u h c =
    leads_stands f counts (after f t e) es u h.1 c
    ∙ ap (λ (s : Standing). standing_in c es s) (step_stands f counts t e h.0 c)

pub run_stands : (f : ℕ → ℕ → Option PlainCall) (counts : List ℕ) (capacity : ℕ) (es : List PlainEntry) (u : Terminal)
    → IsRun f counts capacity es u → (c : ℕ) → standing_of (caller_at u c) ≡ standing_in c es at_first
run_stands f counts capacity es u h c =
    leads_stands f counts (opening (sum counts) capacity) es u h c
    ∙ ap (λ (s : CallerState). standing_in c es (standing_of s)) (all_idle (sum counts) c)
