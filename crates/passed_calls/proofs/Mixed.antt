-- Scripts with further calls among those for the port keep the limits that the scripts keep, where all calls count.
use Rattle.std.proofs.Common.{◌≡◌, inl, inr, ℕ, ◌+◌, ◌-◌, ◌<◌, ◌≤◌, ◌==◌, Bool, true, false, cond}
use Rattle.std.proofs.Common.{List, [], ◌∷◌, length, map, refl, sym, ◌∙◌, ap, arith, length-append}
use Rattle.std.specs.Prelude.{All, drop, filter, sum_by, slice_index_or, take}
use Rattle.std.proofs.lemmas.Bool.{cases_lt}
use Rattle.std.proofs.lemmas.List.{drop_all, drop_more, get_or_past, length-map, take-append-drop}
use Rattle.std.proofs.lemmas.List.Elements.{All-nil, All-cons, All-head, All-tail}
use Rattle.std.proofs.lemmas.List.Elements.{All-append, All-map, All-take, All-drop}
use Rattle.std.proofs.lemmas.List.Sums.{sum_by-cons}
use Rattle.tty_base.specs.Sizes.{MOST_STEPS}
use Rattle.tty_base.specs.declared.lines.LineStep.{LineStep}
use Rattle.tty_base.specs.Lines.{arrival_count}
use Rattle.tty_calls.specs.Limits.{IsCallWithin, IsPhaseWithin, IsWithinLimits, call_count as plain_count}
use Rattle.tty_calls.specs.Plain.{PlainCall}
use Rattle.tty_calls.specs.Sessions.{PlainScript, PlainPhase, PlainSession, line_on, ticks_on, scripts_on}
use Rattle.passed_calls.specs.declared.placed.PlacedCall.{PlacedCall}
use Rattle.passed_calls.specs.Blocks.{Block, bare, blocks_on}
use Rattle.passed_calls.specs.Derived.{BlockPhase}
use Rattle.passed_calls.specs.Scripts.{AnyCall, CallerScript, plain, further, block_of}
use Rattle.passed_calls.specs.Scripts.{mixed, count_in, mixed_scripts, phases_with}
use Rattle.passed_calls.specs.Within.{IsBlockPhaseWithin, AreBlocksWithin, IsAnyCallWithin, AreCallsWithin}
use Rattle.passed_calls.proofs.Names.{name_of, names_by_names}

-- ---- the calls of a script

mixed_length : {C : Type 0} (n : ℕ) (calls : List PlainCall) (os : List (PlacedCall C))
    → length (mixed n calls os) ≡ length calls + length os
mixed_length {C} n calls [] = omega (arith, length-map {B = AnyCall C} calls plain)
mixed_length {C} n calls (o ∷ os) =
    let k = o.place - n in
    let front : List (AnyCall C) = map plain (take k calls) in
    let behind : List (AnyCall C) = further o.call ∷ mixed (o.place + 1) (drop k calls) os in
    omega (
      arith,
      length-append front behind,
      length-map {B = AnyCall C} (take k calls) plain,
      mixed_length (o.place + 1) (drop k calls) os,
      length-append (take k calls) (drop k calls),
      ap (λ (xs : List PlainCall). length xs) (take-append-drop k calls),
    )

mixed_within : {C : Type 0} (n : ℕ) (calls : List PlainCall) (os : List (PlacedCall C))
    → All IsCallWithin calls
    → All IsAnyCallWithin (mixed n calls os)
mixed_within n calls [] h = All-map IsAnyCallWithin plain calls h
mixed_within n calls (o ∷ os) h =
    let m = o.place - n in
    All-append IsAnyCallWithin (map plain (take m calls)) (further o.call ∷ mixed (o.place + 1) (drop m calls) os)
    (All-map IsAnyCallWithin plain (take m calls) (All-take IsCallWithin m calls h))
    (All-cons IsAnyCallWithin (further o.call) (mixed (o.place + 1) (drop m calls) os) tt
    (mixed_within (o.place + 1) (drop m calls) os (All-drop IsCallWithin m calls h)))

-- ---- the scripts of a phase

abbrev mixed_blocks : {C : Type 0} → ℕ → List PlainScript → List (PlacedCall C) → List Block
mixed_blocks k ss placed = map block_of (mixed_scripts k ss placed)

pub steps_mixed : {C : Type 0} (k : ℕ) (ss : List PlainScript) (placed : List (PlacedCall C))
    → sum_by (λ (b : Block). b.steps) (mixed_blocks k ss placed)
    ≤ sum_by (λ (s : PlainScript). length s.calls) ss + length placed
steps_mixed k [] placed = omega arith
steps_mixed {C} k (s ∷ ss) placed =
    let m = count_in k placed in
    let first : CallerScript (AnyCall C) =
    record { port = s.port; name = s.name; calls = mixed 0 s.calls (take m placed) } in
    omega (
      arith,
      mixed_length 0 s.calls (take m placed),
      steps_mixed (k + 1) ss (drop m placed),
      length-append (take m placed) (drop m placed),
      ap (λ (xs : List (PlacedCall C)). length xs) (take-append-drop m placed),
      sum_by-cons (λ (b : Block). b.steps) (block_of first) (mixed_blocks (k + 1) ss (drop m placed)),
      sum_by-cons (λ (x : PlainScript). length x.calls) s ss,
    )

pub scripts_within : {C : Type 0} (k : ℕ) (ss : List PlainScript) (placed : List (PlacedCall C))
    → All (λ s. All IsCallWithin s.calls) ss
    → AreCallsWithin (mixed_scripts k ss placed)
scripts_within k [] placed h = All-nil (λ script. All IsAnyCallWithin script.calls)
scripts_within {C} k (s ∷ ss) placed h =
    let m = count_in k placed in
    let first : CallerScript (AnyCall C) =
    record { port = s.port; name = s.name; calls = mixed 0 s.calls (take m placed) } in
    All-cons (λ script. All IsAnyCallWithin script.calls) first (mixed_scripts (k + 1) ss (drop m placed))
    (mixed_within 0 s.calls (take m placed) (All-head (λ (x : PlainScript). All IsCallWithin x.calls) s ss h))
    (scripts_within (k + 1) ss (drop m placed) (All-tail (λ (x : PlainScript). All IsCallWithin x.calls) s ss h))

-- what holds of the ports and the names of scripts
pub keys_mixed : {C : Type 0} (P : ℕ → List ℕ → Type 0) (k : ℕ) (ss : List PlainScript) (placed : List (PlacedCall C))
    → All (λ s. P s.port s.name) ss
    → All (λ (b : Block). P b.port b.name) (mixed_blocks k ss placed)
keys_mixed P k [] placed h = All-nil (λ (b : Block). P b.port b.name)
keys_mixed {C} P k (s ∷ ss) placed h =
    let m = count_in k placed in
    let first : CallerScript (AnyCall C) =
    record { port = s.port; name = s.name; calls = mixed 0 s.calls (take m placed) } in
    All-cons (λ (b : Block). P b.port b.name) (block_of first) (mixed_blocks (k + 1) ss (drop m placed))
    (All-head (λ (x : PlainScript). P x.port x.name) s ss h)
    (keys_mixed P (k + 1) ss (drop m placed) (All-tail (λ (x : PlainScript). P x.port x.name) s ss h))

one_name : (t : Bool) (b : Block) (s : PlainScript) (bs : List Block) (ss : List PlainScript)
    → b.name ≡ s.name
    → map (λ (x : Block). x.name) bs ≡ map name_of ss
    → map (λ (x : Block). x.name) (cond t (b ∷ bs) bs) ≡ map name_of (cond t (s ∷ ss) ss)
one_name true b s bs ss same rest =
    ap (λ (n : List ℕ). n ∷ map (λ (x : Block). x.name) bs) same ∙ ap (λ (ns : List (List ℕ)). s.name ∷ ns) rest
one_name false b s bs ss same rest = rest

pub names_mixed : {C : Type 0} (p k : ℕ) (ss : List PlainScript) (placed : List (PlacedCall C))
    → map (λ (b : Block). b.name) (blocks_on p (mixed_blocks k ss placed))
    ≡ map name_of (filter (λ (s : PlainScript). s.port == p) ss)
names_mixed p k [] placed = refl
names_mixed {C} p k (s ∷ ss) placed =
    let m = count_in k placed in
    let first : CallerScript (AnyCall C) =
    record { port = s.port; name = s.name; calls = mixed 0 s.calls (take m placed) } in
    one_name (s.port == p) (block_of first) s (blocks_on p (mixed_blocks (k + 1) ss (drop m placed)))
    (filter (λ (x : PlainScript). x.port == p) ss) refl (names_mixed p (k + 1) ss (drop m placed))

pub bare_names : (bs : List Block) → map name_of (map bare bs) ≡ map (λ (b : Block). b.name) bs
bare_names [] = refl
bare_names (b ∷ bs) = ap (λ (ns : List (List ℕ)). b.name ∷ ns) (bare_names bs)

pub phase_within : {C : Type 0} (ports : ℕ) (phase : PlainPhase) (placed : List (PlacedCall C))
    → IsPhaseWithin ports phase
    → IsBlockPhaseWithin ports
    (record { lines = phase.lines; ticks = phase.ticks; blocks = mixed_blocks 0 phase.callers placed })
phase_within ports phase placed h =
    let names : (p : ℕ)
    → map (λ (b : Block). b.name) (blocks_on p (mixed_blocks 0 phase.callers placed))
    ≡ map name_of (scripts_on p phase) = λ p. names_mixed p 0 phase.callers placed in
    record {
      lines = h.lines;
      ticks = h.ticks;
      steps = h.steps;
      blocks = keys_mixed (λ port name. port < ports) 0 phase.callers placed (λ k d fits. (h.scripts k d fits).port);
      few_callers = λ p. omega (
        arith,
        h.few_callers p,
        ap length (names p),
        length-map (blocks_on p (mixed_blocks 0 phase.callers placed)) (λ (b : Block). b.name),
        length-map (scripts_on p phase) name_of,
      );
      own_names = λ p.
          names_by_names (map bare (blocks_on p (mixed_blocks 0 phase.callers placed))) (scripts_on p phase)
          (bare_names (blocks_on p (mixed_blocks 0 phase.callers placed)) ∙ names p)
          ∙ (h.own_names p ∙ sym (names p));
    }

-- ---- the phases

pub phases_hold : {P Q : Type 0} (with_part : PlainPhase → P → Q) (nothing : P) (G : PlainPhase → Type 0)
    (R : Q → Type 0) (parts : List P) (n : ℕ) (phases : List PlainPhase)
    → ((phase : PlainPhase) (part : P) → G phase → R (with_part phase part))
    → All G phases
    → All R (phases_with with_part nothing parts n phases)
phases_hold with_part nothing G R parts n [] each g = All-nil R
phases_hold with_part nothing G R parts n (phase ∷ phases) each g =
    All-cons R (with_part phase (slice_index_or parts n nothing)) (phases_with with_part nothing parts (n + 1) phases)
    (each phase (slice_index_or parts n nothing) (All-head G phase phases g))
    (phases_hold with_part nothing G R parts (n + 1) phases each (All-tail G phase phases g))

weights : {P : Type 0} (weight : P → ℕ) (nothing : P) (parts : List P) (n : ℕ) → weight nothing ≡ 0
    → weight (slice_index_or parts n nothing) + sum_by weight (drop (n + 1) parts) ≤ sum_by weight (drop n parts)
weights weight nothing parts n none =
    elim (cases_lt n (length parts)) [
      | inl within ↦
          omega (
            arith,
            ap (sum_by weight) (drop_more parts n nothing within),
            sum_by-cons weight (slice_index_or parts n nothing) (drop (n + 1) parts),
          )
      | inr past ↦
          let rest : sum_by weight (drop (n + 1) parts) ≡ 0 =
          ap (sum_by weight) (drop_all (n + 1) parts (omega (arith, past))) in
          omega (arith, none, ap weight (get_or_past parts n nothing past), rest)
    ]

pub phases_weigh : {P Q : Type 0} (with_part : PlainPhase → P → Q) (nothing : P) (f : Q → ℕ) (g : PlainPhase → ℕ)
    (weight : P → ℕ) (parts : List P) (n : ℕ) (phases : List PlainPhase)
    → weight nothing ≡ 0
    → ((phase : PlainPhase) (part : P) → f (with_part phase part) ≤ g phase + weight part)
    → sum_by f (phases_with with_part nothing parts n phases) ≤ sum_by g phases + sum_by weight (drop n parts)
phases_weigh with_part nothing f g weight parts n [] none each = omega arith
phases_weigh with_part nothing f g weight parts n (phase ∷ phases) none each =
    let part = slice_index_or parts n nothing in
    omega (
      arith,
      each phase part,
      weights weight nothing parts n none,
      phases_weigh with_part nothing f g weight parts (n + 1) phases none each,
      sum_by-cons f (with_part phase part) (phases_with with_part nothing parts (n + 1) phases),
      sum_by-cons g phase phases,
    )

pub phases_count : {P Q : Type 0} (with_part : PlainPhase → P → Q) (nothing : P) (f : Q → ℕ) (g : PlainPhase → ℕ)
    (parts : List P) (n : ℕ) (phases : List PlainPhase)
    → ((phase : PlainPhase) (part : P) → f (with_part phase part) ≡ g phase)
    → sum_by f (phases_with with_part nothing parts n phases) ≡ sum_by g phases
phases_count with_part nothing f g parts n [] each = refl
phases_count with_part nothing f g parts n (phase ∷ phases) each =
    let part = slice_index_or parts n nothing in
    omega (
      arith,
      each phase part,
      phases_count with_part nothing f g parts (n + 1) phases each,
      sum_by-cons f (with_part phase part) (phases_with with_part nothing parts (n + 1) phases),
      sum_by-cons g phase phases,
    )

phases_many : {P Q : Type 0} (with_part : PlainPhase → P → Q) (nothing : P) (parts : List P) (n : ℕ)
    (phases : List PlainPhase)
    → length (phases_with with_part nothing parts n phases) ≡ length phases
phases_many with_part nothing parts n [] = refl
phases_many with_part nothing parts n (phase ∷ phases) =
    omega (arith, phases_many with_part nothing parts (n + 1) phases)

pub map_phases : {P Q R : Type 0} (with_part : PlainPhase → P → Q) (view : Q → R) (nothing : P) (parts : List P) (n : ℕ)
    (phases : List PlainPhase)
    → map view (phases_with with_part nothing parts n phases)
    ≡ phases_with (λ phase part. view (with_part phase part)) nothing parts n phases
map_phases with_part view nothing parts n [] = refl
map_phases {R = R} with_part view nothing parts n (phase ∷ phases) =
    ap (λ (rest : List R). view (with_part phase (slice_index_or parts n nothing)) ∷ rest)
    (map_phases with_part view nothing parts (n + 1) phases)

-- a session, with what its phases have beside, keeps the limits, where each phase does, and the calls are few with what
-- each phase adds to them
pub blocks_within : {P : Type 0} (with_part : PlainPhase → P → BlockPhase) (nothing : P) (G : PlainPhase → Type 0)
    (weight : P → ℕ) (session : PlainSession) (parts : List P)
    → weight nothing ≡ 0
    → ((phase : PlainPhase) (part : P)
    → IsPhaseWithin session.ports phase
    → G phase
    → IsBlockPhaseWithin session.ports (with_part phase part))
    → ((phase : PlainPhase) (part : P)
    → sum_by (λ (b : Block). b.steps) (with_part phase part).blocks
    ≤ sum_by (λ (s : PlainScript). length s.calls) phase.callers + weight part)
    → ((phase : PlainPhase) (part : P) → (with_part phase part).lines ≡ phase.lines)
    → ((phase : PlainPhase) (part : P) → (with_part phase part).ticks ≡ phase.ticks)
    → IsWithinLimits session
    → All G session.phases
    → plain_count session.phases + sum_by weight parts ≤ MOST_STEPS
    → AreBlocksWithin session.ports session.flips (phases_with with_part nothing parts 0 session.phases)
blocks_within with_part nothing G weight session parts none phase few lines ticks h good calls = record {
  some_ports = h.some_ports;
  few_ports = h.few_ports;
  flips_of_all = h.flips;
  some_flip = h.some_flip;
  few_flip = h.few_flip;
  few_phases = omega (arith, h.few_phases, phases_many with_part nothing parts 0 session.phases);
  each =
      phases_hold with_part nothing (λ ph. IsPhaseWithin session.ports ph × G ph) (IsBlockPhaseWithin session.ports)
      parts 0 session.phases
      (λ ph part is. phase ph part is.0 is.1) (λ k d within. (h.phases k d within, good k d within));
  few_calls =
      omega (
        arith,
        calls,
        phases_weigh with_part nothing (λ ph. sum_by (λ (b : Block). b.steps) ph.blocks)
            (λ ph. sum_by (λ (s : PlainScript). length s.calls) ph.callers) weight parts 0 session.phases none few,
      );
  few_characters = λ p.
      omega (
        arith,
        h.few_characters p,
        phases_count with_part nothing (λ ph. arrival_count (slice_index_or ph.lines p []))
            (λ ph. arrival_count (line_on p ph)) parts 0 session.phases
            (λ ph part. ap (λ (ls : List (List LineStep)). arrival_count (slice_index_or ls p [])) (lines ph part)),
      );
  few_ticks = λ p.
      omega (
        arith,
        h.few_ticks p,
        phases_count with_part nothing (λ ph. slice_index_or ph.ticks p 0) (ticks_on p) parts 0 session.phases
            (λ ph part. ap (λ (ns : List ℕ). slice_index_or ns p 0) (ticks ph part)),
      );
}
