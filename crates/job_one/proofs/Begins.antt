-- A caller's first step in a phase, by its calls and by its blocks.
use Rattle.std.proofs.Common.{◌≡◌, ◌≤◌, ◌<◌, ℕ, ◌+◌, List, [], ◌∷◌, ◌++◌}
use Rattle.std.proofs.Common.{Option, None, Some, length, map, take, refl, sym, ap, ◌∙◌}
use Rattle.std.proofs.Common.{arith, filter, ◌==◌}
use Rattle.std.specs.Prelude.{flat_map, slice_get}
use Rattle.passed_calls.specs.Blocks.{Block, names_on}
use Rattle.passed_calls.specs.Derived.{BlockPhase, blocks_of}
use Rattle.passed_calls.specs.Scripts.{CallerScript, block_of, calls_named}
use Rattle.job_text.specs.Sessions.{JobCall, JobsPhase, JobsSession, block_phase_of}
use Rattle.job_steps.specs.Derived.{block_phases, steps_before, IsStepIn}
use Rattle.order_laws.specs.Passed.{begin_of}
use Rattle.order_laws.proofs.Shares.{on_port, over, named, take_map, all_counted, begin_named, begin_nobody}

abbrev One : Type 0
One = CallerScript JobCall

abbrev callers_of : JobsPhase → List One
callers_of phase = phase.callers

blocks_by_phase : (phases : List JobsPhase)
    → map (λ (phase : BlockPhase). phase.blocks) (map block_phase_of phases)
    ≡ map (map block_of) (map callers_of phases)
blocks_by_phase [] = refl
blocks_by_phase (phase ∷ phases) =
    ap (λ (bs : List (List Block)). map block_of phase.callers ∷ bs) (blocks_by_phase phases)

-- the scripts of a port in some phases
abbrev all_over : ℕ → List JobsPhase → List One
all_over p phases = flat_map (λ phase. filter (λ s. s.port == p) phase.callers) phases

over_are : (p : ℕ) (phases : List JobsPhase) → all_over p phases ≡ over p (map callers_of phases)
over_are p [] = refl
over_are p (phase ∷ phases) = ap (λ (ss : List One). on_port p phase.callers ++ ss) (over_are p phases)

-- ---- the step of a call in a phase

pub blocks_all : (phases : List JobsPhase)
    → flat_map (λ phase. map block_of phase.callers) phases ≡ blocks_of (map block_phase_of phases)
blocks_all [] = refl
blocks_all (phase ∷ phases) = ap (λ (bs : List Block). map block_of phase.callers ++ bs) (blocks_all phases)

by_name : (p : ℕ) (session : JobsSession) (k c : ℕ) (name : Option (List ℕ))
    → slice_get (names_on p (blocks_of (block_phases session))) c ≡ name
    → length (calls_named name (all_over p (take k session.phases))) ≡ begin_of p (block_phases session) k c
by_name p session k c None is = sym (begin_nobody p (block_phases session) k c is)
by_name p session k c (Some name) is =
    let scripts = map callers_of session.phases in
    ap (λ (ss : List One). length (named name ss))
    (over_are p (take k session.phases)
    ∙ ap (λ (ps : List (List One)). over p ps) (sym (take_map callers_of k session.phases)))
    ∙ sym (begin_named p (block_phases session) scripts k c name is
    (all_counted p (block_phases session) scripts name (blocks_by_phase session.phases)))

pub steps_begin : (p : ℕ) (session : JobsSession) (k c : ℕ)
    → steps_before p session k c ≡ begin_of p (block_phases session) k c
steps_begin p session k c =
    let names = ap (λ (bs : List Block). slice_get (names_on p bs) c) (blocks_all session.phases) in
    ap (λ (name : Option (List ℕ)). length (calls_named name (all_over p (take k session.phases)))) names
    ∙ by_name p session k c (slice_get (names_on p (blocks_of (block_phases session))) c) refl

pub step_in_phase : (p : ℕ) (session : JobsSession) (k c step : ℕ)
    → begin_of p (block_phases session) k c ≤ step
    → step < begin_of p (block_phases session) (k + 1) c
    → IsStepIn p session k c step
step_in_phase p session k c step low high =
    let first = steps_begin p session k c in
    let next = steps_begin p session (k + 1) c in
    record { from = omega (arith, low, first); to = omega (arith, high, next) }
