-- Sessions of the same blocks have one shape.
use Rattle.std.proofs.Common.{◌≡◌, ℕ, List, [], ◌∷◌, ◌++◌, map, refl, sym, ap, ◌∙◌}
use Rattle.std.specs.Prelude.{slice_index_or}
use Rattle.tty_base.specs.declared.lines.LineStep.{LineStep}
use Rattle.tty_calls.specs.Sessions.{PlainSession, line_on, ticks_on}
use Rattle.passed_calls.specs.Blocks.{Block, bare, blocks_on}
use Rattle.passed_calls.specs.Derived.{Passing, Passed, BlockPhase, blocks_of, passed_phases_after}
use Rattle.passed_calls.proofs.Names.{name_of, names_of_blocks}
use Rattle.legal_runs.specs.Legal.{flip_on}
use Rattle.legal_runs.specs.Order.{is_of_consoles}
use Rattle.order_laws.specs.Growth.{names_in, HasShape}
use Rattle.order_laws.specs.Passed.{IsOfBlocks, IsPassedBy}

bare_names : (blocks : List Block) → map name_of (map bare blocks) ≡ map (λ b. b.name) blocks
bare_names [] = refl
bare_names (b ∷ bs) = ap (λ (ns : List (List ℕ)). b.name ∷ ns) (bare_names bs)

abbrev names_on_port : ℕ → BlockPhase → List (List ℕ)
names_on_port p phase = map (λ b. b.name) (blocks_on p phase.blocks)

names_after : (passed : Passed) (all before : List Block) (phases : List BlockPhase) (p : ℕ)
    → map (names_in p) (passed_phases_after passed all before phases) ≡ map (names_on_port p) phases
names_after passed all before [] p = refl
names_after passed all before (phase ∷ phases) p =
    let here = names_of_blocks passed all before phase.blocks p ∙ bare_names (blocks_on p phase.blocks) in
    let rest = names_after passed all (before ++ phase.blocks) phases p in
    λ i. here i ∷ rest i

lines_after : (passed : Passed) (all before : List Block) (phases : List BlockPhase) (p : ℕ)
    → map (line_on p) (passed_phases_after passed all before phases)
    ≡ map (λ phase. slice_index_or phase.lines p []) phases
lines_after passed all before [] p = refl
lines_after passed all before (phase ∷ phases) p =
    ap (λ (ls : List (List LineStep)). slice_index_or phase.lines p [] ∷ ls)
    (lines_after passed all (before ++ phase.blocks) phases p)

ticks_after : (passed : Passed) (all before : List Block) (phases : List BlockPhase) (p : ℕ)
    → map (ticks_on p) (passed_phases_after passed all before phases)
    ≡ map (λ phase. slice_index_or phase.ticks p 0) phases
ticks_after passed all before [] p = refl
ticks_after passed all before (phase ∷ phases) p =
    ap (λ (ns : List ℕ). slice_index_or phase.ticks p 0 ∷ ns) (ticks_after passed all (before ++ phase.blocks) phases p)

pub of_blocks : (p : ℕ) (phases : List BlockPhase) (mine : ℕ → List Passing) (session : PlainSession)
    → IsPassedBy p phases mine session
    → IsOfBlocks p phases session
of_blocks p phases mine session h =
    record {
      lines = ap (map (line_on p)) h.are ∙ lines_after h.passed (blocks_of phases) [] phases p;
      ticks = ap (map (ticks_on p)) h.are ∙ ticks_after h.passed (blocks_of phases) [] phases p;
      names = ap (map (names_in p)) h.are ∙ names_after h.passed (blocks_of phases) [] phases p;
    }

pub same_shape : (p : ℕ) (phases : List BlockPhase) (session later : PlainSession)
    → is_of_consoles later ≡ is_of_consoles session
    → flip_on p later ≡ flip_on p session
    → IsOfBlocks p phases session
    → IsOfBlocks p phases later
    → HasShape p session later
same_shape p phases session later consoles flip h k =
    record { consoles = consoles; flip = flip; lines = k.lines ∙ sym h.lines; names = k.names ∙ sym h.names }
