-- Entries that are fine one by one are a run in its phases and in one generation, and the other way round.
use Rattle.std.proofs.Common.{◌≡◌, ℕ, Bool, true, false, List, [], ◌∷◌, ◌++◌, sym, subst, append_assoc}
use Rattle.std.specs.Prelude.{MatchBool, ◌&&◌, ◌==◌}
use Rattle.std.proofs.lemmas.List.{append-nil}
use Rattle.tty_calls.specs.declared.journals.Who.{Who}
use Rattle.tty_calls.specs.declared.journals.Who.TheVariants.{Caller, Flusher, Line, Clock, Session}
use Rattle.tty_calls.specs.Plain.{PlainEvent, answered, parted, waited, flushed, ticked, line_ended}
use Rattle.tty_calls.specs.Plain.{clock_ended, caller_ended, phase_ended, hung_up, PlainEntry, is_caller}
use Rattle.tty_calls.specs.Sessions.{PlainSession, call_at, counts_on}
use Rattle.tty_terminal.specs.Terminals.{Terminal}
use Rattle.tty_terminal.specs.Steps.{after}
use Rattle.tty_terminal.specs.Runs.{Leads, is_of_call, RunHas, NextHas, CallGoesOn, GoesOn, OneGeneration}
use Rattle.legal_runs.specs.Legal.{AreInPhases}
use Rattle.journal_check.specs.Verdicts.{AreFine}
use Rattle.legal_runs.proofs.PhaseLemmas.{phase-after}

-- ---- a front of a journal in one generation is in one generation

RunHas-front : (run generation : ℕ) (es more : List PlainEntry)
    → RunHas run generation (es ++ more)
    → RunHas run generation es
RunHas-front run generation [] more has = tt
RunHas-front run generation (e ∷ es) more has = (has.0, RunHas-front run generation es more has.1)

match_second : (b : Bool) (P Q R : Type 0) → (Q → R) → MatchBool b P Q → MatchBool b P R
match_second true P Q R f has = has
match_second false P Q R f has = f has

NextHas-front : (c step generation : ℕ) (es more : List PlainEntry)
    → NextHas c step generation (es ++ more)
    → NextHas c step generation es
NextHas-front c step generation [] more has = tt
NextHas-front c step generation (e ∷ es) more has =
    match_second (is_of_call e.event && is_caller e.who c && (e.step == step)) (e.generation ≡ generation) _ _
    (NextHas-front c step generation es more) has

CallGoesOn-front : (who : Who) (step generation : ℕ) (es more : List PlainEntry)
    → CallGoesOn who step generation (es ++ more)
    → CallGoesOn who step generation es
CallGoesOn-front (Caller c) step generation es more has = NextHas-front c step generation es more has
CallGoesOn-front Flusher step generation es more has = tt
CallGoesOn-front Line step generation es more has = tt
CallGoesOn-front Clock step generation es more has = tt
CallGoesOn-front Session step generation es more has = tt

GoesOn-front : (event : PlainEvent) (who : Who) (step generation : ℕ) (es more : List PlainEntry)
    → GoesOn event who step generation (es ++ more)
    → GoesOn event who step generation es
GoesOn-front (answered a dropped) who step generation es more has = CallGoesOn-front who step generation es more has
GoesOn-front (parted taken) who step generation es more has = CallGoesOn-front who step generation es more has
GoesOn-front waited who step generation es more has = tt
GoesOn-front (flushed chars) who step generation es more has = RunHas-front step generation es more has
GoesOn-front ticked who step generation es more has = tt
GoesOn-front (line_ended n) who step generation es more has = tt
GoesOn-front clock_ended who step generation es more has = tt
GoesOn-front caller_ended who step generation es more has = tt
GoesOn-front phase_ended who step generation es more has = tt
GoesOn-front (hung_up dropped) who step generation es more has = tt

pub OneGeneration-front : (es more : List PlainEntry) → OneGeneration (es ++ more) → OneGeneration es
OneGeneration-front [] more one = tt
OneGeneration-front (e ∷ es) more one =
    (GoesOn-front e.event e.who e.step e.generation es more one.0, OneGeneration-front es more one.1)

-- ---- both directions

pub AreFine-from_run : (p : ℕ) (session : PlainSession) (before : List PlainEntry) (t : Terminal) (es : List PlainEntry)
    (u : Terminal)
    → Leads (call_at p session) (counts_on p session) t es u
    → AreInPhases p session t.phase es
    → OneGeneration (before ++ es)
    → AreFine p session before t es u
AreFine-from_run p session before t [] u leads in_phases one = leads
AreFine-from_run p session before t (e ∷ es) u leads in_phases one =
    let whole : OneGeneration ((before ++ e ∷ []) ++ es) =
    subst OneGeneration (sym (append_assoc before (e ∷ []) es)) one in (
      record {
        step = leads.0;
        one = OneGeneration-front (before ++ e ∷ []) es whole;
        in_phase = in_phases.0;
      },
      AreFine-from_run p session (before ++ e ∷ []) (after (call_at p session) t e) es u leads.1
          (subst (λ (k : ℕ). AreInPhases p session k es)
          (sym (phase-after (call_at p session) (counts_on p session) t e leads.0)) in_phases.1)
          whole,
    )

pub Leads-from_fine : (p : ℕ) (session : PlainSession) (before : List PlainEntry) (t : Terminal) (es : List PlainEntry)
    (u : Terminal)
    → AreFine p session before t es u
    → Leads (call_at p session) (counts_on p session) t es u
Leads-from_fine p session before t [] u fine = fine
Leads-from_fine p session before t (e ∷ es) u fine =
    (fine.0.step, Leads-from_fine p session (before ++ e ∷ []) (after (call_at p session) t e) es u fine.1)

pub AreInPhases-from_fine : (p : ℕ) (session : PlainSession) (before : List PlainEntry) (t : Terminal)
    (es : List PlainEntry) (u : Terminal)
    → AreFine p session before t es u
    → AreInPhases p session t.phase es
AreInPhases-from_fine p session before t [] u fine = tt
AreInPhases-from_fine p session before t (e ∷ es) u fine = (
  fine.0.in_phase,
  subst (λ (k : ℕ). AreInPhases p session k es) (phase-after (call_at p session) (counts_on p session) t e fine.0.step)
      (AreInPhases-from_fine p session (before ++ e ∷ []) (after (call_at p session) t e) es u fine.1),
)

pub OneGeneration-from_fine : (p : ℕ) (session : PlainSession) (before : List PlainEntry) (t : Terminal)
    (es : List PlainEntry) (u : Terminal)
    → OneGeneration before
    → AreFine p session before t es u
    → OneGeneration (before ++ es)
OneGeneration-from_fine p session before t [] u one fine = subst OneGeneration (sym (append-nil before)) one
OneGeneration-from_fine p session before t (e ∷ es) u one fine =
    subst OneGeneration (append_assoc before (e ∷ []) es)
    (OneGeneration-from_fine p session (before ++ e ∷ []) (after (call_at p session) t e) es u fine.0.one fine.1)
