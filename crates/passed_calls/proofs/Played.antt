-- A caller's calls in the session that was played, by its number and step.
use Rattle.std.proofs.Common.{◌≡◌, ℕ, List, Some, ap, ◌∙◌}
use Rattle.std.specs.Prelude.{slice_get}
use Rattle.tty_calls.specs.Sessions.{PlainScript, PlainSession, scripts_over, names_of, calls_of, call_at}
use Rattle.passed_calls.specs.Blocks.{blocks_on, names_on, number_on, steps_under}
use Rattle.passed_calls.specs.Derived.{Passed, BlockPhase, AreInSteps, blocks_of}
use Rattle.passed_calls.specs.Derived.{by_caller, all_calls, calls_for, passed_phases}
use Rattle.passed_calls.proofs.Names.{names_stay}
use Rattle.passed_calls.proofs.Stepped.{calls_are_passed}
use Rattle.passed_calls.proofs.Ordered.{passed_in_order}

pub played_calls :
    (passed : Passed) (phases : List BlockPhase) (session : PlainSession) (p c step : ℕ) (name : List ℕ)
    → session.phases ≡ passed_phases passed phases
    → slice_get (names_on p (blocks_of phases)) c ≡ Some name → number_on p (blocks_of phases) name ≡ c
    → AreInSteps 0 (steps_under name (blocks_on p (blocks_of phases))) (by_caller c (passed p))
    → call_at p session c step ≡ slice_get (all_calls (by_caller c (passed p))) step
played_calls passed phases session p c step name is_played is_name is_number in_steps =
    let scripts : List PlainScript = scripts_over p (passed_phases passed phases) in
    let count : ℕ = steps_under name (blocks_on p (blocks_of phases)) in
    ap (λ ps. slice_get (calls_of (scripts_over p ps) (slice_get (names_of (scripts_over p ps)) c)) step) is_played
    ∙ (ap (λ names. slice_get (calls_of scripts (slice_get names c)) step) (names_stay passed phases p)
    ∙ (ap (λ named. slice_get (calls_of scripts named) step) is_name
    ∙ ap (λ calls. slice_get calls step)
    (calls_are_passed passed phases p name
    ∙ (ap (λ number. calls_for (by_caller number (passed p)) 0 count) is_number
    ∙ passed_in_order (by_caller c (passed p)) count in_steps))))
