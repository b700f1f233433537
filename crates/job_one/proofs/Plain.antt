-- The ports' part of a session of processes is a session of its blocks.
use Rattle.std.proofs.Common.{◌≡◌, ℕ, ◌+◌, Bool, true, false, cond, ◌==◌, List}
use Rattle.std.proofs.Common.{[], ◌∷◌, map, filter, length, refl, sym, ap}
use Rattle.std.specs.Prelude.{slice_index_or, take, drop}
use Rattle.tty_base.specs.declared.lines.LineStep.{LineStep}
use Rattle.tty_calls.specs.Sessions.{PlainScript, PlainPhase, PlainSession, line_on, ticks_on}
use Rattle.passed_calls.specs.declared.placed.PlacedCall.{PlacedCall}
use Rattle.passed_calls.specs.Blocks.{Block, blocks_on}
use Rattle.passed_calls.specs.Derived.{BlockPhase}
use Rattle.passed_calls.specs.Scripts.{block_of, count_in, mixed, mixed_scripts, phases_with}
use Rattle.passed_calls.proofs.Names.{name_of, on_port}
use Rattle.job_text.specs.declared.calls.OwnCall.{OwnCall}
use Rattle.job_text.specs.declared.sessions.PortProc.{PortProc}
use Rattle.job_text.specs.Sessions.{JobsPhase, phase_with, session_with}
use Rattle.job_steps.specs.Derived.{block_phases}
use Rattle.order_laws.specs.Growth.{names_in}
use Rattle.order_laws.specs.Passed.{IsOfBlocks}

abbrev block_phase : JobsPhase → BlockPhase
block_phase phase = record { lines = phase.lines; ticks = phase.ticks; blocks = map block_of phase.callers }

one_name : (t : Bool) (b : Block) (s : PlainScript) (bs : List Block) (ss : List PlainScript)
    → b.name ≡ s.name
    → map (λ x. x.name) bs ≡ map name_of ss
    → map (λ x. x.name) (cond t (b ∷ bs) bs) ≡ map name_of (cond t (s ∷ ss) ss)
one_name true b s bs ss same rest = λ i. same i ∷ rest i
one_name false b s bs ss same rest = rest

mixed_names : (k : ℕ) (ss : List PlainScript) (placed : List (PlacedCall OwnCall)) (p : ℕ)
    → map (λ x. x.name) (blocks_on p (map block_of (mixed_scripts k ss placed))) ≡ map name_of (filter (on_port p) ss)
mixed_names k [] placed p = refl
mixed_names k (s ∷ ss) placed p =
    let rest = drop (count_in k placed) placed in
    one_name (s.port == p)
    (record { port = s.port; name = s.name; steps = length (mixed 0 s.calls (take (count_in k placed) placed)) }) s
    (blocks_on p (map block_of (mixed_scripts (k + 1) ss rest))) (filter (on_port p) ss) refl
    (mixed_names (k + 1) ss rest p)

lines_stay : (p n : ℕ) (parts : List (List (PlacedCall OwnCall))) (phases : List PlainPhase)
    → map (line_on p) phases
    ≡ map (λ phase. slice_index_or phase.lines p []) (map block_phase (phases_with phase_with [] parts n phases))
lines_stay p n parts [] = refl
lines_stay p n parts (phase ∷ phases) =
    ap (λ (ls : List (List LineStep)). line_on p phase ∷ ls) (lines_stay p (n + 1) parts phases)

ticks_stay : (p n : ℕ) (parts : List (List (PlacedCall OwnCall))) (phases : List PlainPhase)
    → map (ticks_on p) phases
    ≡ map (λ phase. slice_index_or phase.ticks p 0) (map block_phase (phases_with phase_with [] parts n phases))
ticks_stay p n parts [] = refl
ticks_stay p n parts (phase ∷ phases) = ap (λ (ns : List ℕ). ticks_on p phase ∷ ns) (ticks_stay p (n + 1) parts phases)

names_stay : (p n : ℕ) (parts : List (List (PlacedCall OwnCall))) (phases : List PlainPhase)
    → map (names_in p) phases
    ≡ map (λ phase. map (λ x. x.name) (blocks_on p phase.blocks))
    (map block_phase (phases_with phase_with [] parts n phases))
names_stay p n parts [] = refl
names_stay p n parts (phase ∷ phases) =
    let here = sym (mixed_names 0 phase.callers (slice_index_or parts n []) p) in
    let rest = names_stay p (n + 1) parts phases in
    λ i. here i ∷ rest i

pub plain_of_blocks : (p : ℕ) (plain : PlainSession) (procs : List PortProc) (parts : List (List (PlacedCall OwnCall)))
    → IsOfBlocks p (block_phases (session_with plain procs parts)) plain
plain_of_blocks p plain procs parts =
    record {
      lines = lines_stay p 0 parts plain.phases;
      ticks = ticks_stay p 0 parts plain.phases;
      names = names_stay p 0 parts plain.phases;
    }
