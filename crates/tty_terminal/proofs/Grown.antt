-- A run is a run also where more calls are known.
use Rattle.std.proofs.Common.{◌≡◌, ℕ, List, [], ◌∷◌, Option, None, Some, ◌&&◌}
use Rattle.std.proofs.Common.{is_some, length, refl, sym, ◌∙◌, ap, subst}
use Rattle.tty_base.specs.declared.characters.Flagged.{Flagged}
use Rattle.tty_calls.specs.declared.journals.Who.{Who}
use Rattle.tty_calls.specs.declared.journals.Who.TheVariants.{Caller, Flusher, Line, Clock, Session}
use Rattle.tty_calls.specs.Plain.{PlainCall, PlainAnswer, PlainEvent, answered, parted, waited, flushed, ticked}
use Rattle.tty_calls.specs.Plain.{line_ended, clock_ended, caller_ended, phase_ended, hung_up, PlainEntry}
use Rattle.tty_terminal.specs.Terminals.{Terminal, caller_at}
use Rattle.tty_terminal.specs.Calls.{outcome_of}
use Rattle.tty_terminal.specs.Steps.{Answers, Drops, MustWait, TakesPart, quiet, left_by, IsAnswer, IsPart, IsWait}
use Rattle.tty_terminal.specs.Steps.{ByCaller, by_caller, IsAllowed, after_event, Allowed, after, after_answer}
use Rattle.tty_terminal.specs.Steps.{with_dropped, after_part, after_wait, handle_number}
use Rattle.tty_terminal.specs.Runs.{Leads, KnowsMore}

-- a fact that fails where no call is known
same_call : (f g : ℕ → ℕ → Option PlainCall) (c step : ℕ) (P : Option PlainCall → Type 0)
    → KnowsMore f g
    → (P None → ⊥)
    → (o : Option PlainCall)
    → f c step ≡ o
    → P o
    → g c step ≡ f c step
same_call f g c step P grows none None e h = absurd (none h)
same_call f g c step P grows none (Some call) e h = grows c step call e ∙ sym e

pub answer_grown : (f g : ℕ → ℕ → Option PlainCall) (counts : List ℕ) (t : Terminal) (c step part : ℕ) (a : PlainAnswer)
    (dropped : List Flagged)
    → g c step ≡ f c step
    → IsAnswer f counts t c step part a dropped
    → IsAnswer g counts t c step part a dropped
answer_grown f g counts t c step part a dropped e h =
    record {
      next = h.next;
      answer = subst (λ (o : Option PlainCall).
          Answers (is_some (caller_at t c).waits && quiet counts t) (outcome_of t (caller_at t c) o) a)
          (sym e) h.answer;
      drops =
          subst (λ (o : Option PlainCall). Drops t (outcome_of t (caller_at t c) o) (length dropped)) (sym e) h.drops;
    }

pub part_grown : (f g : ℕ → ℕ → Option PlainCall) (t : Terminal) (c step part taken : ℕ)
    → g c step ≡ f c step
    → IsPart f t c step part taken
    → IsPart g t c step part taken
part_grown f g t c step part taken e h =
    record {
      next = h.next;
      takes = subst (λ (o : Option PlainCall). TakesPart (outcome_of t (caller_at t c) o) taken) (sym e) h.takes;
    }

pub wait_grown : (f g : ℕ → ℕ → Option PlainCall) (t : Terminal) (c step part : ℕ)
    → g c step ≡ f c step
    → IsWait f t c step part
    → IsWait g t c step part
wait_grown f g t c step part e h =
    record {
      next = h.next;
      first = h.first;
      must = subst (λ (o : Option PlainCall). MustWait (outcome_of t (caller_at t c) o)) (sym e) h.must;
    }

by_caller_grown : (who : Who) (t : Terminal) (P Q : ℕ → Type 0) (x y : ℕ → Terminal)
    → ((c : ℕ) → P c → Q c × (y c ≡ x c))
    → ByCaller who P
    → ByCaller who Q × (by_caller who t y ≡ by_caller who t x)
by_caller_grown (Caller c) t P Q x y each h = each c h
by_caller_grown Flusher t P Q x y each h = absurd h
by_caller_grown Line t P Q x y each h = absurd h
by_caller_grown Clock t P Q x y each h = absurd h
by_caller_grown Session t P Q x y each h = absurd h

event_grown : (f g : ℕ → ℕ → Option PlainCall) (counts : List ℕ) (t : Terminal) (who : Who) (step part : ℕ)
    (event : PlainEvent)
    → KnowsMore f g
    → IsAllowed f counts t who step part event
    → IsAllowed g counts t who step part event
    × (after_event g t who step part event ≡ after_event f t who step part event)
event_grown f g counts t who step part (answered a dropped) grows h =
    let left : Option PlainCall → ℕ → Terminal = λ o c.
    after_answer (with_dropped (left_by (outcome_of t (caller_at t c) o) t) (length dropped)) c in
    by_caller_grown who t (λ c. IsAnswer f counts t c step part a dropped)
    (λ c. IsAnswer g counts t c step part a dropped) (λ c. left (f c step) c) (λ c. left (g c step) c)
    (λ c k.
    let e = same_call f g c step
    (λ (o : Option PlainCall).
    Answers (is_some (caller_at t c).waits && quiet counts t) (outcome_of t (caller_at t c) o) a) grows (λ n. n)
    (f c step) refl k.answer in
    (answer_grown f g counts t c step part a dropped e k, ap (λ (o : Option PlainCall). left o c) e)) h
event_grown f g counts t who step part (parted taken) grows h =
    let left : Option PlainCall → ℕ → Terminal = λ o c.
    after_part (left_by (outcome_of t (caller_at t c) o) t) c (handle_number o) taken in
    by_caller_grown who t (λ c. IsPart f t c step part taken) (λ c. IsPart g t c step part taken)
    (λ c. left (f c step) c) (λ c. left (g c step) c)
    (λ c k.
    let e = same_call f g c step (λ (o : Option PlainCall). TakesPart (outcome_of t (caller_at t c) o) taken) grows
    (λ n. n) (f c step) refl k.takes in
    (part_grown f g t c step part taken e k, ap (λ (o : Option PlainCall). left o c) e)) h
event_grown f g counts t who step part waited grows h =
    let left : Option PlainCall → ℕ → Terminal = λ o c. after_wait t c (handle_number o) in
    by_caller_grown who t (λ c. IsWait f t c step part) (λ c. IsWait g t c step part) (λ c. left (f c step) c)
    (λ c. left (g c step) c)
    (λ c k.
    let e = same_call f g c step (λ (o : Option PlainCall). MustWait (outcome_of t (caller_at t c) o)) grows (λ n. n)
    (f c step) refl k.must in
    (wait_grown f g t c step part e k, ap (λ (o : Option PlainCall). left o c) e)) h
event_grown f g counts t who step part (flushed chars) grows h = (h, refl)
event_grown f g counts t who step part ticked grows h = (h, refl)
event_grown f g counts t who step part (line_ended n) grows h = (h, refl)
event_grown f g counts t who step part clock_ended grows h = (h, refl)
event_grown f g counts t who step part caller_ended grows h = (h, refl)
event_grown f g counts t who step part phase_ended grows h = (h, refl)
event_grown f g counts t who step part (hung_up dropped) grows h = (h, refl)

pub after_grown : (f g : ℕ → ℕ → Option PlainCall) (counts : List ℕ) (t : Terminal) (e : PlainEntry)
    → KnowsMore f g
    → Allowed f counts t e
    → Allowed g counts t e × (after g t e ≡ after f t e)
after_grown f g counts t e grows h =
    let k = event_grown f g counts t e.who e.step e.part e.event grows h.1 in
    ((h.0, k.0), k.1)

pub leads_grown : (f g : ℕ → ℕ → Option PlainCall) (counts : List ℕ) (t : Terminal) (es : List PlainEntry)
    (u : Terminal)
    → KnowsMore f g
    → Leads f counts t es u
    → Leads g counts t es u
leads_grown f g counts t [] u grows h = h
leads_grown f g counts t (e ∷ es) u grows h =
    let k = after_grown f g counts t e grows h.0 in (
      k.0,
      subst (λ (v : Terminal). Leads g counts v es u) (sym k.1) (leads_grown f g counts (after f t e) es u grows h.1),
    )
