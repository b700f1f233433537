-- What is passed down keeps the limits, where the blocks of the session do, and the calls that were passed.
use Rattle.std.proofs.Common.{◌≡◌, ◌≤◌, ◌<◌, ℕ, zero, suc, ◌+◌, Bool, true, false, ◌==◌, List, [], ◌∷◌, ◌++◌}
use Rattle.std.proofs.Common.{length, map, filter, if◌then◌else◌, refl, sym, ap, ◌∙◌, subst, arith, length-append}
use Rattle.std.specs.Prelude.{All, sum_by, slice_index_or}
use Rattle.std.proofs.lemmas.List.{length-map}
use Rattle.std.proofs.lemmas.List.Elements.{All-nil, All-cons, All-head, All-tail, All-append, All-filter}
use Rattle.std.proofs.lemmas.List.Sums.{sum_by-cons}
use Rattle.tty_base.specs.Lines.{arrival_count}
use Rattle.tty_calls.specs.Plain.{PlainCall}
use Rattle.tty_calls.specs.Limits.{IsCallWithin, IsScriptWithin, IsPhaseWithin}
use Rattle.tty_calls.specs.Limits.{IsWithinLimits, call_count, character_count, tick_count}
use Rattle.tty_calls.specs.Sessions.{PlainScript, PlainPhase, PlainSession, names_of, line_on, ticks_on}
use Rattle.passed_calls.specs.Blocks.{Block, bare, blocks_on, names_on, number_on, steps_before}
use Rattle.passed_calls.specs.Derived.{Passing, Passed, BlockPhase, blocks_of, by_caller, calls_at, calls_for}
use Rattle.passed_calls.specs.Derived.{passed_script, passed_scripts, passed_phases_after, passed_phases}
use Rattle.passed_calls.specs.Within.{IsBlockPhaseWithin, AreBlocksWithin, ArePassedWithin}
use Rattle.passed_calls.proofs.Mixed.{bare_names}
use Rattle.passed_calls.proofs.Names.{name_of, on_port, names_of_blocks, names_by_names}

-- ---- the calls of a script

calls_within : (P : PlainCall → Type 0) (ms : List Passing) (step : ℕ)
    → All (λ m. All P m.calls) ms
    → All P (calls_at ms step)
calls_within P [] step h = All-nil P
calls_within P (m ∷ ms) step h = All-append P (if m.step == step then m.calls else []) (calls_at ms step)
    (of_one (m.step == step) (All-head (λ (x : Passing). All P x.calls) m ms h))
    (calls_within P ms step (All-tail (λ (x : Passing). All P x.calls) m ms h))
  where
    of_one : (b : Bool) → All P m.calls → All P (if b then m.calls else [])
    of_one true own = own
    of_one false own = All-nil P

for_within : (P : PlainCall → Type 0) (ms : List Passing) (first n : ℕ)
    → All (λ m. All P m.calls) ms
    → All P (calls_for ms first n)
for_within P ms first zero h = All-nil P
for_within P ms first (suc n) h = All-append P (calls_at ms first) (calls_for ms (first + 1) n)
    (calls_within P ms first h) (for_within P ms (first + 1) n h)

-- at most one for each step
few_for : (ms : List Passing) (first n : ℕ)
    → ((step : ℕ) → length (calls_at ms step) ≤ 1)
    → length (calls_for ms first n) ≤ n
few_for ms first zero one = omega arith
few_for ms first (suc n) one = omega
    (arith, one first, few_for ms (first + 1) n one, length-append (calls_at ms first) (calls_for ms (first + 1) n))

-- ---- the scripts of a phase

scripts_within : (ports : ℕ) (passed : Passed) (all before blocks : List Block)
    → ArePassedWithin passed
    → All (λ b. b.port < ports) blocks
    → All (IsScriptWithin ports) (passed_scripts passed all before blocks)
scripts_within ports passed all before [] w h = All-nil (IsScriptWithin ports)
scripts_within ports passed all before (b ∷ bs) w h =
    let mine = by_caller (number_on b.port all b.name) (passed b.port) in
    All-cons (IsScriptWithin ports) (passed_script passed all before b)
    (passed_scripts passed all (before ++ b ∷ []) bs)
    (record {
      port = All-head (λ (x : Block). x.port < ports) b bs h;
      calls = for_within IsCallWithin mine (steps_before before b) b.steps
          (All-filter (λ (x : Passing). x.caller == number_on b.port all b.name)
          (λ (x : Passing). All IsCallWithin x.calls) (passed b.port) (w.calls b.port));
    })
    (scripts_within ports passed all (before ++ b ∷ []) bs w (All-tail (λ (x : Block). x.port < ports) b bs h))

few_calls_in : (passed : Passed) (all before blocks : List Block)
    → ArePassedWithin passed
    → sum_by (λ script. length script.calls) (passed_scripts passed all before blocks) ≤ sum_by (λ b. b.steps) blocks
few_calls_in passed all before [] w = omega arith
few_calls_in passed all before (b ∷ bs) w =
    let script = passed_script passed all before b in
    let rest = passed_scripts passed all (before ++ b ∷ []) bs in
    let one = few_for (by_caller (number_on b.port all b.name) (passed b.port)) (steps_before before b) b.steps
    (w.single b.port (number_on b.port all b.name)) in
    omega (
      arith,
      one,
      few_calls_in passed all (before ++ b ∷ []) bs w,
      sum_by-cons (λ (x : PlainScript). length x.calls) script rest,
      sum_by-cons (λ (x : Block). x.steps) b bs,
    )

same_names : (passed : Passed) (all before blocks : List Block) (p : ℕ)
    → names_of (filter (on_port p) (passed_scripts passed all before blocks)) ≡ names_on p blocks
same_names passed all before blocks p =
    names_by_names (filter (on_port p) (passed_scripts passed all before blocks)) (map bare (blocks_on p blocks))
    (names_of_blocks passed all before blocks p)

phase_within : (ports : ℕ) (passed : Passed) (all before : List Block) (phase : BlockPhase)
    → ArePassedWithin passed
    → IsBlockPhaseWithin ports phase
    → IsPhaseWithin ports
    (record { lines = phase.lines; ticks = phase.ticks; callers = passed_scripts passed all before phase.blocks })
phase_within ports passed all before phase w h =
    let names : (p : ℕ)
    → map name_of (filter (on_port p) (passed_scripts passed all before phase.blocks))
    ≡ map (λ b. b.name) (blocks_on p phase.blocks) =
    λ p. names_of_blocks passed all before phase.blocks p ∙ bare_names (blocks_on p phase.blocks) in
    record {
      lines = h.lines;
      ticks = h.ticks;
      steps = h.steps;
      scripts = scripts_within ports passed all before phase.blocks w h.blocks;
      few_callers = λ p. omega (
        arith,
        h.few_callers p,
        ap (λ (ns : List (List ℕ)). length ns) (names p),
        length-map (filter (on_port p) (passed_scripts passed all before phase.blocks)) name_of,
        length-map (blocks_on p phase.blocks) (λ b. b.name),
      );
      own_names = λ p. same_names passed all before phase.blocks p ∙ (h.own_names p ∙ sym (names p));
    }

-- ---- all phases

phases_within : (ports : ℕ) (passed : Passed) (all before : List Block) (phases : List BlockPhase)
    → ArePassedWithin passed
    → All (IsBlockPhaseWithin ports) phases
    → All (IsPhaseWithin ports) (passed_phases_after passed all before phases)
phases_within ports passed all before [] w h = All-nil (IsPhaseWithin ports)
phases_within ports passed all before (phase ∷ phases) w h =
    All-cons (IsPhaseWithin ports)
    (record { lines = phase.lines; ticks = phase.ticks; callers = passed_scripts passed all before phase.blocks })
    (passed_phases_after passed all (before ++ phase.blocks) phases)
    (phase_within ports passed all before phase w (All-head (IsBlockPhaseWithin ports) phase phases h))
    (phases_within ports passed all (before ++ phase.blocks) phases w
    (All-tail (IsBlockPhaseWithin ports) phase phases h))

abbrev script_calls : PlainPhase → ℕ
script_calls phase = sum_by (λ script. length script.calls) phase.callers

few_calls : (passed : Passed) (all before : List Block) (phases : List BlockPhase)
    → ArePassedWithin passed
    → call_count (passed_phases_after passed all before phases)
    ≤ sum_by (λ phase. sum_by (λ b. b.steps) phase.blocks) phases
few_calls passed all before [] w = omega arith
few_calls passed all before (phase ∷ phases) w =
    let first : PlainPhase =
    record { lines = phase.lines; ticks = phase.ticks; callers = passed_scripts passed all before phase.blocks } in
    omega (
      arith,
      few_calls_in passed all before phase.blocks w,
      few_calls passed all (before ++ phase.blocks) phases w,
      sum_by-cons script_calls first (passed_phases_after passed all (before ++ phase.blocks) phases),
      sum_by-cons (λ (x : BlockPhase). sum_by (λ b. b.steps) x.blocks) phase phases,
    )

character_counts : (passed : Passed) (all before : List Block) (phases : List BlockPhase) (p : ℕ)
    → character_count p (passed_phases_after passed all before phases)
    ≡ sum_by (λ phase. arrival_count (slice_index_or phase.lines p [])) phases
character_counts passed all before [] p = refl
character_counts passed all before (phase ∷ phases) p =
    let first : PlainPhase =
    record { lines = phase.lines; ticks = phase.ticks; callers = passed_scripts passed all before phase.blocks } in
    omega (
      arith,
      character_counts passed all (before ++ phase.blocks) phases p,
      sum_by-cons (λ (x : PlainPhase). arrival_count (line_on p x)) first
          (passed_phases_after passed all (before ++ phase.blocks) phases),
      sum_by-cons (λ (x : BlockPhase). arrival_count (slice_index_or x.lines p [])) phase phases,
    )

tick_counts : (passed : Passed) (all before : List Block) (phases : List BlockPhase) (p : ℕ)
    → tick_count p (passed_phases_after passed all before phases)
    ≡ sum_by (λ phase. slice_index_or phase.ticks p 0) phases
tick_counts passed all before [] p = refl
tick_counts passed all before (phase ∷ phases) p =
    let first : PlainPhase =
    record { lines = phase.lines; ticks = phase.ticks; callers = passed_scripts passed all before phase.blocks } in
    omega (
      arith,
      tick_counts passed all (before ++ phase.blocks) phases p,
      sum_by-cons (ticks_on p) first (passed_phases_after passed all (before ++ phase.blocks) phases),
      sum_by-cons (λ (x : BlockPhase). slice_index_or x.ticks p 0) phase phases,
    )

count_same : (passed : Passed) (all before : List Block) (phases : List BlockPhase)
    → length (passed_phases_after passed all before phases) ≡ length phases
count_same passed all before [] = refl
count_same passed all before (phase ∷ phases) =
    ap (λ (n : ℕ). suc n) (count_same passed all (before ++ phase.blocks) phases)

pub within_limits : (phases : List BlockPhase) (passed : Passed) (session : PlainSession)
    → session.phases ≡ passed_phases passed phases
    → AreBlocksWithin session.ports session.flips phases
    → ArePassedWithin passed
    → IsWithinLimits session
within_limits phases passed session are b w =
    let all = blocks_of phases in
    record {
      some_ports = b.some_ports;
      few_ports = b.few_ports;
      flips = b.flips_of_all;
      some_flip = b.some_flip;
      few_flip = b.few_flip;
      few_phases =
          omega (arith, b.few_phases, ap (λ (ps : List PlainPhase). length ps) are, count_same passed all [] phases);
      phases = subst (λ (ps : List PlainPhase). All (IsPhaseWithin session.ports) ps) (sym are)
          (phases_within session.ports passed all [] phases w b.each);
      few_calls = omega (arith, b.few_calls, ap call_count are, few_calls passed all [] phases w);
      few_characters = λ p.
          omega (arith, b.few_characters p, ap (character_count p) are, character_counts passed all [] phases p);
      few_ticks = λ p. omega (arith, b.few_ticks p, ap (tick_count p) are, tick_counts passed all [] phases p);
    }
