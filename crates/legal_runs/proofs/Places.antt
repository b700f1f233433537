-- A journal with one entry more: where it stands, and that it is in the order and in its phases.
use Rattle.std.proofs.Common.{◌≡◌, ℕ, List, [], ◌∷◌, ◌++◌, Option, refl, sym, ◌∙◌, ap}
use Rattle.tty_calls.specs.Plain.{PlainCall, PlainEntry}
use Rattle.tty_calls.specs.Sessions.{PlainSession, call_at}
use Rattle.tty_terminal.specs.Terminals.{Terminal}
use Rattle.tty_terminal.specs.Steps.{after}
use Rattle.tty_terminal.specs.Runs.{Leads, phase_after}
use Rattle.legal_runs.specs.Legal.{IsInPhase, AreInPhases}
use Rattle.legal_runs.proofs.PhaseLemmas.{phase-after}
use Rattle.legal_runs.specs.Order.{Place, next_place, place_after, IsInTurn, AreInTurn}

pub place_more : (calls : ℕ → ℕ → Option PlainCall) (s : Place) (es : List PlainEntry) (e : PlainEntry)
    → place_after calls s (es ++ e ∷ []) ≡ next_place calls (place_after calls s es) e
place_more calls s [] e = refl
place_more calls s (x ∷ es) e = place_more calls (next_place calls s x) es e

pub place_both : (calls : ℕ → ℕ → Option PlainCall) (s : Place) (es part : List PlainEntry)
    → place_after calls s (es ++ part) ≡ place_after calls (place_after calls s es) part
place_both calls s [] part = refl
place_both calls s (x ∷ es) part = place_both calls (next_place calls s x) es part

pub turns_more : (p : ℕ) (session : PlainSession) (s : Place) (es : List PlainEntry) (e : PlainEntry)
    → AreInTurn p session s es
    → IsInTurn p session (place_after (call_at p session) s es) e
    → AreInTurn p session s (es ++ e ∷ [])
turns_more p session s [] e turns turn = (turn, tt)
turns_more p session s (x ∷ es) e turns turn =
    (turns.0, turns_more p session (next_place (call_at p session) s x) es e turns.1 turn)

-- the phase after these entries
abbrev pub phase_from : ℕ → List PlainEntry → ℕ
phase_from k [] = k
phase_from k (e ∷ es) = phase_from (phase_after e.event k) es

pub in_phases_more : (p : ℕ) (session : PlainSession) (k : ℕ) (es : List PlainEntry) (e : PlainEntry)
    → AreInPhases p session k es
    → IsInPhase p session (phase_from k es) e.who e.step e.event
    → AreInPhases p session k (es ++ e ∷ [])
in_phases_more p session k [] e phases h = (h, tt)
in_phases_more p session k (x ∷ es) e phases h =
    (phases.0, in_phases_more p session (phase_after x.event k) es e phases.1 h)

-- the place is at the terminal to which the entries lead
pub leads_place : (calls : ℕ → ℕ → Option PlainCall) (counts : List ℕ) (s : Place) (t : Terminal) (es : List PlainEntry)
    (u : Terminal)
    → s.terminal ≡ t
    → Leads calls counts t es u
    → (place_after calls s es).terminal ≡ u
leads_place calls counts s t [] u e leads = e ∙ sym leads
leads_place calls counts s t (x ∷ es) u e leads = leads_place calls counts (next_place calls s x) (after calls t x) es u
    (ap (λ (v : Terminal). after calls v x) e) leads.1

pub leads_phase : (calls : ℕ → ℕ → Option PlainCall) (counts : List ℕ) (t : Terminal) (es : List PlainEntry)
    (u : Terminal)
    → Leads calls counts t es u
    → phase_from t.phase es ≡ u.phase
leads_phase calls counts t [] u leads = ap (λ (v : Terminal). v.phase) (sym leads)
leads_phase calls counts t (x ∷ es) u leads =
    ap (λ (k : ℕ). phase_from k es) (sym (phase-after calls counts t x leads.0))
    ∙ leads_phase calls counts (after calls t x) es u leads.1
