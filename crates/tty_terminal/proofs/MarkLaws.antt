-- Tick, line, clock, phase and flush runs after an entry, and after a run; and who makes which entries.
use Rattle.std.proofs.Common.{◌≡◌, ℕ, ◌<◌, List, [], ◌∷◌, ◌&&◌, is_some, Option, None, Some, length, sum, refl, ◌∙◌, ap}
use Rattle.tty_base.specs.declared.characters.Flagged.{Flagged}
use Rattle.tty_calls.specs.declared.journals.Who.{Who}
use Rattle.tty_calls.specs.declared.journals.Who.TheVariants.{Caller, Flusher, Line, Clock, Session}
use Rattle.tty_calls.specs.Plain.{PlainCall, PlainEvent, answered, parted, waited, flushed, ticked}
use Rattle.tty_calls.specs.Plain.{line_ended, clock_ended, caller_ended, phase_ended, hung_up, PlainEntry}
use Rattle.tty_terminal.specs.Terminals.{Terminal, opening, caller_at}
use Rattle.tty_terminal.specs.Receiving.{after_character, after_characters}
use Rattle.tty_terminal.specs.Calls.{outcome_of}
use Rattle.tty_terminal.specs.Steps.{quiet, Answers, TakesPart, MustWait, left_by}
use Rattle.tty_terminal.specs.Steps.{IsAllowed, after_event, Allowed, after}
use Rattle.tty_terminal.specs.Runs.{Leads, IsRun}
use Rattle.tty_terminal.specs.Marks.{Marks, marks_of, marks_after, marks_in, no_marks}
use Rattle.tty_terminal.specs.Makers.{IsOfCall, IsByItsMaker}
use Rattle.tty_terminal.proofs.Effects.{Leaves, outcome_keeps}

leaves_marks : (t u : Terminal) → Leaves t u → marks_of u ≡ marks_of t
leaves_marks t u h =
    λ i. record {
      tick = h.tick i;
      sent = h.sent i;
      phase = h.phase i;
      line_over = h.line_over i;
      clock_over = h.clock_over i;
      latest = h.flushed i;
    }

receiving_marks : (t : Terminal) (chars : List Flagged) → marks_of (after_characters t chars) ≡ marks_of t
receiving_marks t [] = refl
receiving_marks t (c ∷ cs) = receiving_marks (after_character t c) cs

event_marks : (f : ℕ → ℕ → Option PlainCall) (counts : List ℕ) (t : Terminal) (who : Who) (step part : ℕ)
    (event : PlainEvent)
    → IsAllowed f counts t who step part event
    → marks_of (after_event f t who step part event) ≡ marks_after event step part (marks_of t)
event_marks f counts t (Caller c) step part (answered a dropped) h =
    leaves_marks t (left_by (outcome_of t (caller_at t c) (f c step)) t)
    (outcome_keeps t (caller_at t c) (f c step)).left
event_marks f counts t Flusher step part (answered a dropped) h = absurd h
event_marks f counts t Line step part (answered a dropped) h = absurd h
event_marks f counts t Clock step part (answered a dropped) h = absurd h
event_marks f counts t Session step part (answered a dropped) h = absurd h
event_marks f counts t (Caller c) step part (parted n) h =
    leaves_marks t (left_by (outcome_of t (caller_at t c) (f c step)) t)
    (outcome_keeps t (caller_at t c) (f c step)).left
event_marks f counts t Flusher step part (parted n) h = absurd h
event_marks f counts t Line step part (parted n) h = absurd h
event_marks f counts t Clock step part (parted n) h = absurd h
event_marks f counts t Session step part (parted n) h = absurd h
event_marks f counts t (Caller c) step part waited h = refl
event_marks f counts t Flusher step part waited h = absurd h
event_marks f counts t Line step part waited h = absurd h
event_marks f counts t Clock step part waited h = absurd h
event_marks f counts t Session step part waited h = absurd h
event_marks f counts t who step part (flushed chars) h =
    ap (λ (m : Marks). marks_after (flushed chars) step part m) (receiving_marks t chars)
event_marks f counts t who step part ticked h = refl
event_marks f counts t who step part (line_ended n) h = refl
event_marks f counts t who step part clock_ended h = refl
event_marks f counts t (Caller c) step part caller_ended h = refl
event_marks f counts t Flusher step part caller_ended h = absurd h
event_marks f counts t Line step part caller_ended h = absurd h
event_marks f counts t Clock step part caller_ended h = absurd h
event_marks f counts t Session step part caller_ended h = absurd h
event_marks f counts t who step part phase_ended h = refl
event_marks f counts t who step part (hung_up dropped) h = refl

pub step_marks : (f : ℕ → ℕ → Option PlainCall) (counts : List ℕ) (t : Terminal) (e : PlainEntry)
    → Allowed f counts t e
    → marks_of (after f t e) ≡ marks_after e.event e.step e.part (marks_of t)
step_marks f counts t e h = event_marks f counts t e.who e.step e.part e.event h.1

pub leads_marks : (f : ℕ → ℕ → Option PlainCall) (counts : List ℕ) (t : Terminal) (es : List PlainEntry) (u : Terminal)
    → Leads f counts t es u
    → marks_of u ≡ marks_in es (marks_of t)
leads_marks f counts t [] u h = ap marks_of h
leads_marks f counts t (e ∷ es) u h =
    leads_marks f counts (after f t e) es u h.1 ∙ ap (λ (m : Marks). marks_in es m) (step_marks f counts t e h.0)

pub run_marks : (f : ℕ → ℕ → Option PlainCall) (counts : List ℕ) (capacity : ℕ) (es : List PlainEntry) (u : Terminal)
    → IsRun f counts capacity es u
    → marks_of u ≡ marks_in es no_marks
run_marks f counts capacity es u h = leads_marks f counts (opening (sum counts) capacity) es u h

-- ---- who makes which entries

of_call : (f : ℕ → ℕ → Option PlainCall) (callers c step : ℕ) (P : Option PlainCall → Type 0) → (P None → ⊥)
    → c < callers → (o : Option PlainCall) → f c step ≡ o → P o → IsOfCall f callers (Caller c) step
of_call f callers c step P none known None e h = absurd (none h)
of_call f callers c step P none known (Some call) e h =
    record { caller = c; call = call; by_caller = refl; known = known; called = e }

event_maker : (f : ℕ → ℕ → Option PlainCall) (counts : List ℕ) (t : Terminal) (who : Who) (step part : ℕ)
    (event : PlainEvent)
    → IsAllowed f counts t who step part event
    → IsByItsMaker f (length t.callers) who step event
event_maker f counts t (Caller c) step part (answered a dropped) h =
    of_call f (length t.callers) c step
    (λ (o : Option PlainCall).
    Answers (is_some (caller_at t c).waits && quiet counts t) (outcome_of t (caller_at t c) o) a)
    (λ n. n) h.next.known (f c step) refl h.answer
event_maker f counts t Flusher step part (answered a dropped) h = absurd h
event_maker f counts t Line step part (answered a dropped) h = absurd h
event_maker f counts t Clock step part (answered a dropped) h = absurd h
event_maker f counts t Session step part (answered a dropped) h = absurd h
event_maker f counts t (Caller c) step part (parted n) h =
    of_call f (length t.callers) c step (λ (o : Option PlainCall). TakesPart (outcome_of t (caller_at t c) o) n)
    (λ k. k) h.next.known (f c step) refl h.takes
event_maker f counts t Flusher step part (parted n) h = absurd h
event_maker f counts t Line step part (parted n) h = absurd h
event_maker f counts t Clock step part (parted n) h = absurd h
event_maker f counts t Session step part (parted n) h = absurd h
event_maker f counts t (Caller c) step part waited h =
    of_call f (length t.callers) c step (λ (o : Option PlainCall). MustWait (outcome_of t (caller_at t c) o)) (λ k. k)
    h.next.known (f c step) refl h.must
event_maker f counts t Flusher step part waited h = absurd h
event_maker f counts t Line step part waited h = absurd h
event_maker f counts t Clock step part waited h = absurd h
event_maker f counts t Session step part waited h = absurd h
event_maker f counts t who step part (flushed chars) h = h.0
event_maker f counts t who step part ticked h = h.0
event_maker f counts t who step part (line_ended n) h = h.0
event_maker f counts t who step part clock_ended h = h.0
event_maker f counts t (Caller c) step part caller_ended h = record { caller = c; by_caller = refl; known = h.known }
event_maker f counts t Flusher step part caller_ended h = absurd h
event_maker f counts t Line step part caller_ended h = absurd h
event_maker f counts t Clock step part caller_ended h = absurd h
event_maker f counts t Session step part caller_ended h = absurd h
event_maker f counts t who step part phase_ended h = h.0
event_maker f counts t who step part (hung_up dropped) h = h.0

pub step_maker : (f : ℕ → ℕ → Option PlainCall) (counts : List ℕ) (t : Terminal) (e : PlainEntry)
    → Allowed f counts t e
    → IsByItsMaker f (length t.callers) e.who e.step e.event
step_maker f counts t e h = event_maker f counts t e.who e.step e.part e.event h.1
