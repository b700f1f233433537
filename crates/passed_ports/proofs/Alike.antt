-- Two sessions in which a port was passed the same are one session to it.
use Rattle.std.proofs.Common.{◌≡◌, ◌≤◌, ◌<◌, ◌⊎◌, inl, inr, ℕ, zero, suc, ◌+◌, List, [], ◌∷◌}
use Rattle.std.proofs.Common.{Option, None, Some, length, refl, sym, ap, ◌∙◌, arith}
use Rattle.std.specs.Prelude.{slice_index_or}
use Rattle.tty_calls.specs.declared.journals.Who.{Who}
use Rattle.tty_calls.specs.declared.journals.Who.TheVariants.{Caller, Flusher, Line, Clock, Session}
use Rattle.tty_calls.specs.Plain.{PlainEvent, PlainEntry}
use Rattle.tty_calls.specs.Sessions.{PlainPhase, PlainSession, scripts_on, calls_of}
use Rattle.tty_terminal.specs.Runs.{phase_after}
use Rattle.legal_runs.specs.Legal.{name_at, first_step, steps_in, IsInPhase, AreInPhases}
use Rattle.legal_runs.proofs.NameLemmas.{first_next}
use Rattle.port_core.specs.Ports.{PortValue}
use Rattle.order_laws.specs.Agreed.{Agrees}
use Rattle.order_laws.specs.Growth.{HasShape}
use Rattle.order_laws.proofs.Shapes.{phases_same, caller_same}
use Rattle.passed_calls.specs.Derived.{Passing, BlockPhase}
use Rattle.order_laws.specs.Passed.{IsPassedBy}
use Rattle.order_laws.specs.Witness.{scene_on}
use Rattle.order_laws.proofs.Counted.{first_is, call_is}

abbrev nothing : PlainPhase
nothing = record { lines = []; ticks = []; callers = [] }

past : {X : Type 0} (xs : List X) (k : ℕ) (d : X) → length xs ≤ k → slice_index_or xs k d ≡ d
past [] k d le = refl
past (x ∷ xs) zero d le = absurd (omega (arith, le))
past (x ∷ xs) (suc k) d le = past xs k d (omega (arith, le))

no_calls : (o : Option (List ℕ)) → length (calls_of [] o) ≡ 0
no_calls None = refl
no_calls (Some name) = refl

none_past : (p : ℕ) (session : PlainSession) (k c : ℕ) → length session.phases ≤ k → steps_in p session k c ≡ 0
none_past p session k c le =
    ap (λ (phase : PlainPhase). length (calls_of (scripts_on p phase) (name_at p session c)))
    (past session.phases k nothing le)
    ∙ no_calls (name_at p session c)

below_or : (a b : ℕ) → (a < b) ⊎ (b ≤ a)
below_or a zero = inr (omega arith)
below_or zero (suc b) = inl (omega arith)
below_or (suc a) (suc b) = elim (below_or a b) [
  | inl lt ↦ inl (omega (arith, lt))
  | inr le ↦ inr (omega (arith, le))
]

-- ---- steps

first_same : (p : ℕ) (phases : List BlockPhase) (mine : ℕ → List Passing) (session other : PlainSession) (k c : ℕ)
    → IsPassedBy p phases mine session
    → IsPassedBy p phases mine other
    → first_step p other k c ≡ first_step p session k c
first_same p phases mine session other k c h g =
    first_is p phases mine other k c g ∙ sym (first_is p phases mine session k c h)

steps_same : (p : ℕ) (phases : List BlockPhase) (mine : ℕ → List Passing) (session other : PlainSession) (k c : ℕ)
    → HasShape p session other
    → IsPassedBy p phases mine session
    → IsPassedBy p phases mine other
    → steps_in p other k c ≡ steps_in p session k c
steps_same p phases mine session other k c shape h g =
    let many = phases_same p session other shape in
    elim (below_or k (length session.phases)) [
      | inl lt ↦
          let here = first_same p phases mine session other k c h g in
          let next = first_same p phases mine session other (k + 1) c h g in
          let a = first_next p session k c lt in
          let b = first_next p other k c (omega (arith, lt, many)) in
          omega (arith, here, next, a, b)
      | inr le ↦ none_past p other k c (omega (arith, le, many)) ∙ sym (none_past p session k c le)
    ]

-- ---- entries

in_phase : (p : ℕ) (phases : List BlockPhase) (mine : ℕ → List Passing) (session other : PlainSession) (k : ℕ)
    (who : Who) (step : ℕ) (event : PlainEvent)
    → HasShape p session other
    → IsPassedBy p phases mine session
    → IsPassedBy p phases mine other
    → IsInPhase p session k who step event
    → IsInPhase p other k who step event
in_phase p phases mine session other k (Caller c) step event shape h g is =
    let first = first_same p phases mine session other k c h g in
    let steps = steps_same p phases mine session other k c shape h g in (
      caller_same p session other k c shape ∙ is.0,
      (λ of_call. (let at = is.1 of_call in (omega (arith, first, at.0), omega (arith, first, steps, at.1)))),
      (λ ends. (let past_all = is.2 ends in omega (arith, first, steps, past_all))),
    )
in_phase p phases mine session other k Flusher step event shape h g is = tt
in_phase p phases mine session other k Line step event shape h g is = tt
in_phase p phases mine session other k Clock step event shape h g is = tt
in_phase p phases mine session other k Session step event shape h g is = tt

in_phases : (p : ℕ) (phases : List BlockPhase) (mine : ℕ → List Passing) (session other : PlainSession) (k : ℕ)
    (es : List PlainEntry)
    → HasShape p session other
    → IsPassedBy p phases mine session
    → IsPassedBy p phases mine other
    → AreInPhases p session k es
    → AreInPhases p other k es
in_phases p phases mine session other k [] shape h g are = tt
in_phases p phases mine session other k (e ∷ es) shape h g are = (
  in_phase p phases mine session other k e.who e.step e.event shape h g are.0,
  in_phases p phases mine session other (phase_after e.event k) es shape h g are.1,
)

pub agrees_alike : (p : ℕ) (phases : List BlockPhase) (mine : ℕ → List Passing) (session other : PlainSession)
    (v : PortValue)
    → HasShape p session other
    → IsPassedBy p phases mine session
    → IsPassedBy p phases mine other
    → Agrees (scene_on p session) v
    → Agrees (scene_on p other) v
agrees_alike p phases mine session other v shape h g agrees =
    record {
      known = λ c step call is.
          call_is p phases mine other c step g
          ∙ (sym (call_is p phases mine session c step h) ∙ agrees.known c step call is);
      in_phases = in_phases p phases mine session other 0 v.journal shape h g agrees.in_phases;
    }
