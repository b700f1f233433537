-- The calls of a caller in a session that was played, up to a phase.
use Rattle.std.proofs.Common.{◌≡◌, ℕ, zero, suc, ◌+◌, List, [], ◌∷◌, ◌++◌, Option}
use Rattle.std.proofs.Common.{None, Some, length, map, take, refl, ap, ◌∙◌}
use Rattle.std.specs.Prelude.{slice_get, unwrap_or}
use Rattle.tty_calls.specs.Plain.{PlainCall}
use Rattle.tty_calls.specs.Sessions.{PlainPhase, PlainSession, scripts_over, names_of, calls_under, calls_of, call_at}
use Rattle.passed_calls.specs.Blocks.{Block, bare, blocks_on, names_on, number_on, steps_under}
use Rattle.passed_calls.specs.Derived.{Passing, Passed, BlockPhase, blocks_of, by_caller}
use Rattle.passed_calls.specs.Derived.{calls_for, passed_scripts, passed_phases_after}
use Rattle.passed_calls.proofs.Names.{over_phases, names_stay}
use Rattle.passed_calls.proofs.Stepped.{under_name}
use Rattle.legal_runs.specs.Legal.{name_at, first_step}
use Rattle.play_base.proofs.NameLemmas.{number_at}
use Rattle.order_laws.specs.Passed.{steps_named, begin_of, IsPassedBy}

-- a caller has the number of its name
own_number : (p : ℕ) (all : List Block) (c : ℕ) (name : List ℕ)
    → slice_get (names_on p all) c ≡ Some name
    → number_on p all name ≡ c
own_number p all c name is =
    ap (λ (o : Option ℕ). unwrap_or o (length (names_on p all))) (number_at (map bare (blocks_on p all)) name c is)

calls_named : (passed : Passed) (all : List Block) (phases : List BlockPhase) (p c : ℕ) (o : Option (List ℕ))
    → slice_get (names_on p all) c ≡ o
    → calls_of (scripts_over p (passed_phases_after passed all [] phases)) o
    ≡ calls_for (by_caller c (passed p)) 0 (steps_named p (blocks_of phases) o)
calls_named passed all phases p c None is = refl
calls_named passed all phases p c (Some name) is =
    ap (calls_under name) (over_phases passed all [] phases p)
    ∙ (under_name passed all [] (blocks_of phases) p name
    ∙ ap (λ (n : ℕ). calls_for (by_caller n (passed p)) 0 (steps_under name (blocks_on p (blocks_of phases))))
    (own_number p all c name is))

abbrev first_of : Passed → (all before : List Block) → BlockPhase → PlainPhase
first_of passed all before phase =
    record { lines = phase.lines; ticks = phase.ticks; callers = passed_scripts passed all before phase.blocks }

take_phases : (passed : Passed) (all before : List Block) (k : ℕ) (phases : List BlockPhase)
    → take k (passed_phases_after passed all before phases) ≡ passed_phases_after passed all before (take k phases)
take_phases passed all before zero phases = refl
take_phases passed all before (suc k) [] = refl
take_phases passed all before (suc k) (phase ∷ phases) =
    ap (λ (rest : List PlainPhase). first_of passed all before phase ∷ rest)
    (take_phases passed all (before ++ phase.blocks) k phases)

pub name_is : (p : ℕ) (phases : List BlockPhase) (mine : ℕ → List Passing) (session : PlainSession) (c : ℕ)
    → IsPassedBy p phases mine session
    → name_at p session c ≡ slice_get (names_on p (blocks_of phases)) c
name_is p phases mine session c h =
    ap (λ (ps : List PlainPhase). slice_get (names_of (scripts_over p ps)) c) h.are
    ∙ ap (λ (names : List (List ℕ)). slice_get names c) (names_stay h.passed phases p)

-- the calls before phase k
pub calls_before : (p : ℕ) (phases : List BlockPhase) (mine : ℕ → List Passing) (session : PlainSession) (k c : ℕ)
    → IsPassedBy p phases mine session
    → calls_of (scripts_over p (take k session.phases)) (name_at p session c)
    ≡ calls_for (mine c) 0 (begin_of p phases k c)
calls_before p phases mine session k c h =
    let all = blocks_of phases in
    let o = slice_get (names_on p all) c in
    ap (λ (ps : List PlainPhase). calls_of (scripts_over p (take k ps)) (name_at p session c)) h.are
    ∙ (ap (λ (ps : List PlainPhase). calls_of (scripts_over p ps) (name_at p session c))
    (take_phases h.passed all [] k phases)
    ∙ (ap (λ (n : Option (List ℕ)). calls_of (scripts_over p (passed_phases_after h.passed all [] (take k phases))) n)
    (name_is p phases mine session c h)
    ∙ (calls_named h.passed all (take k phases) p c o refl
    ∙ ap (λ (ms : List Passing). calls_for ms 0 (begin_of p phases k c)) (h.by c))))

pub first_is : (p : ℕ) (phases : List BlockPhase) (mine : ℕ → List Passing) (session : PlainSession) (k c : ℕ)
    → IsPassedBy p phases mine session
    → first_step p session k c ≡ length (calls_for (mine c) 0 (begin_of p phases k c))
first_is p phases mine session k c h =
    ap (λ (cs : List PlainCall). length cs) (calls_before p phases mine session k c h)

-- a caller's call by its step
pub call_is : (p : ℕ) (phases : List BlockPhase) (mine : ℕ → List Passing) (session : PlainSession) (c step : ℕ)
    → IsPassedBy p phases mine session
    → call_at p session c step
    ≡ slice_get (calls_for (mine c) 0 (steps_named p (blocks_of phases) (slice_get (names_on p (blocks_of phases)) c)))
    step
call_is p phases mine session c step h =
    let all = blocks_of phases in
    let o = slice_get (names_on p all) c in
    ap (λ (ps : List PlainPhase). slice_get (calls_of (scripts_over p ps) (name_at p session c)) step) h.are
    ∙ (ap
    (λ (n : Option (List ℕ)). slice_get (calls_of (scripts_over p (passed_phases_after h.passed all [] phases)) n) step)
    (name_is p phases mine session c h)
    ∙ (ap (λ (cs : List PlainCall). slice_get cs step) (calls_named h.passed all phases p c o refl)
    ∙ ap (λ (ms : List Passing). slice_get (calls_for ms 0 (steps_named p all o)) step) (h.by c)))
