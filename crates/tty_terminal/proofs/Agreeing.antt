-- Two functions of calls that agree on the entries of a journal have the same runs.
use Rattle.std.proofs.Common.{◌≡◌, ℕ, List, [], ◌∷◌, true, Option, length, refl, sym, ap, subst}
use Rattle.std.proofs.lemmas.Bool.{eq-eqb}
use Rattle.tty_calls.specs.declared.journals.Who.{Who}
use Rattle.tty_calls.specs.declared.journals.Who.TheVariants.{Caller, Flusher, Line, Clock, Session}
use Rattle.tty_calls.specs.Plain.{PlainCall, PlainEvent, answered, parted, waited, flushed, ticked}
use Rattle.tty_calls.specs.Plain.{line_ended, clock_ended, caller_ended, phase_ended, hung_up, PlainEntry}
use Rattle.tty_terminal.specs.Terminals.{Terminal, caller_at}
use Rattle.tty_terminal.specs.Calls.{outcome_of}
use Rattle.tty_terminal.specs.Steps.{left_by, IsAllowed, after_event, after, after_answer}
use Rattle.tty_terminal.specs.Steps.{with_dropped, after_part, after_wait, handle_number}
use Rattle.tty_terminal.specs.Runs.{Leads, is_of_call, AgreesAt, AgreesOn}
use Rattle.tty_terminal.proofs.Grown.{answer_grown, part_grown, wait_grown}

at_caller : (f g : ℕ → ℕ → Option PlainCall) (c step : ℕ) (event : PlainEvent)
    → is_of_call event ≡ true
    → AgreesAt f g (Caller c) step event
    → g c step ≡ f c step
at_caller f g c step event of_call agrees = agrees c of_call (eq-eqb c c refl)

event_agrees : (f g : ℕ → ℕ → Option PlainCall) (counts : List ℕ) (t : Terminal) (who : Who) (step part : ℕ)
    (event : PlainEvent)
    → AgreesAt f g who step event
    → IsAllowed f counts t who step part event
    → IsAllowed g counts t who step part event
    × (after_event g t who step part event ≡ after_event f t who step part event)
event_agrees f g counts t (Caller c) step part (answered a dropped) agrees h =
    let e = at_caller f g c step (answered a dropped) refl agrees in (
      answer_grown f g counts t c step part a dropped e h,
      ap (λ (o : Option PlainCall).
          after_answer (with_dropped (left_by (outcome_of t (caller_at t c) o) t) (length dropped)) c) e,
    )
event_agrees f g counts t Flusher step part (answered a dropped) agrees h = absurd h
event_agrees f g counts t Line step part (answered a dropped) agrees h = absurd h
event_agrees f g counts t Clock step part (answered a dropped) agrees h = absurd h
event_agrees f g counts t Session step part (answered a dropped) agrees h = absurd h
event_agrees f g counts t (Caller c) step part (parted taken) agrees h =
    let e = at_caller f g c step (parted taken) refl agrees in (
      part_grown f g t c step part taken e h,
      ap (λ (o : Option PlainCall). after_part (left_by (outcome_of t (caller_at t c) o) t) c (handle_number o) taken)
          e,
    )
event_agrees f g counts t Flusher step part (parted taken) agrees h = absurd h
event_agrees f g counts t Line step part (parted taken) agrees h = absurd h
event_agrees f g counts t Clock step part (parted taken) agrees h = absurd h
event_agrees f g counts t Session step part (parted taken) agrees h = absurd h
event_agrees f g counts t (Caller c) step part waited agrees h =
    let e = at_caller f g c step waited refl agrees in
    (wait_grown f g t c step part e h, ap (λ (o : Option PlainCall). after_wait t c (handle_number o)) e)
event_agrees f g counts t Flusher step part waited agrees h = absurd h
event_agrees f g counts t Line step part waited agrees h = absurd h
event_agrees f g counts t Clock step part waited agrees h = absurd h
event_agrees f g counts t Session step part waited agrees h = absurd h
event_agrees f g counts t who step part (flushed chars) agrees h = (h, refl)
event_agrees f g counts t who step part ticked agrees h = (h, refl)
event_agrees f g counts t who step part (line_ended n) agrees h = (h, refl)
event_agrees f g counts t who step part clock_ended agrees h = (h, refl)
event_agrees f g counts t who step part caller_ended agrees h = (h, refl)
event_agrees f g counts t who step part phase_ended agrees h = (h, refl)
event_agrees f g counts t who step part (hung_up dropped) agrees h = (h, refl)

pub leads_agrees : (f g : ℕ → ℕ → Option PlainCall) (counts : List ℕ) (t : Terminal) (es : List PlainEntry)
    (u : Terminal)
    → AgreesOn f g es
    → Leads f counts t es u
    → Leads g counts t es u
leads_agrees f g counts t [] u agrees h = h
leads_agrees f g counts t (e ∷ es) u agrees h =
    let k = event_agrees f g counts t e.who e.step e.part e.event agrees.0 h.0.1 in (
      (h.0.0, k.0),
      subst (λ (v : Terminal). Leads g counts v es u) (sym k.1)
          (leads_agrees f g counts (after f t e) es u agrees.1 h.1),
    )
