-- The ports' part of a session of processes keeps the limits of every session.
use Rattle.std.proofs.Common.{◌≡◌, ◌≤◌, ◌<◌, ℕ, zero, suc, ◌+◌, ◌-◌, ◌==◌, List, [], ◌∷◌, ◌++◌, length}
use Rattle.std.proofs.Common.{map, filter, take, drop, refl, sym, ap, ◌∙◌, subst, arith, length-append}
use Rattle.std.specs.Prelude.{All, fold, sum_by, slice_index_or}
use Rattle.std.proofs.lemmas.List.{length-map}
use Rattle.std.proofs.lemmas.List.Elements.{All-nil, All-cons, All-head, All-tail, All-append}
use Rattle.std.proofs.lemmas.List.Sums.{sum_by-cons}
use Rattle.tty_base.specs.Lines.{arrival_count}
use Rattle.tty_calls.specs.Plain.{PlainCall}
use Rattle.tty_calls.specs.Limits.{IsCallWithin, IsScriptWithin, IsPhaseWithin}
use Rattle.tty_calls.specs.Limits.{IsWithinLimits, call_count, character_count, tick_count}
use Rattle.tty_calls.specs.Sessions.{PlainScript, PlainPhase, PlainSession, line_on}
use Rattle.tty_calls.specs.Sessions.{ticks_on, scripts_on, with_name}
use Rattle.passed_calls.specs.declared.placed.PlacedCall.{PlacedCall}
use Rattle.passed_calls.specs.Blocks.{Block, bare, blocks_on}
use Rattle.passed_calls.specs.Derived.{BlockPhase}
use Rattle.passed_calls.specs.Scripts.{CallerScript, plain, further, block_of, count_in, mixed, mixed_scripts}
use Rattle.passed_calls.specs.Scripts.{phases_with}
use Rattle.passed_calls.specs.Within.{IsBlockPhaseWithin, IsAnyCallWithin, AreCallsWithin}
use Rattle.job_text.specs.declared.calls.OwnCall.{OwnCall}
use Rattle.job_text.specs.declared.sessions.PortProc.{PortProc}
use Rattle.job_text.specs.Sessions.{JobCall, JobsPhase, block_phase_of, phase_with, session_with}
use Rattle.job_text.specs.Within.{IsJobsSessionWithin}
use Rattle.order_laws.proofs.Shares.{blocks_one}
use Rattle.passed_ports.proofs.Leaving.{mixed_names}

abbrev One : Type 0
One = CallerScript JobCall

abbrev Placed : Type 0
Placed = List (PlacedCall OwnCall)

-- ---- calls for the port among others

abbrev as_job : PlainCall → JobCall
as_job c = plain c

plain_all : (calls : List PlainCall)
    → All IsAnyCallWithin (map (λ (c : PlainCall). as_job c) calls)
    → All IsCallWithin calls
plain_all [] h = All-nil IsCallWithin
plain_all (c ∷ cs) h = All-cons IsCallWithin c cs
    (All-head IsAnyCallWithin (as_job c) (map (λ (x : PlainCall). as_job x) cs) h)
    (plain_all cs (All-tail IsAnyCallWithin (as_job c) (map (λ (x : PlainCall). as_job x) cs) h))

all_front : (xs ys : List JobCall) → All IsAnyCallWithin (xs ++ ys) → All IsAnyCallWithin xs
all_front [] ys h = All-nil IsAnyCallWithin
all_front (x ∷ xs) ys h = All-cons IsAnyCallWithin x xs (All-head IsAnyCallWithin x (xs ++ ys) h)
    (all_front xs ys (All-tail IsAnyCallWithin x (xs ++ ys) h))

all_back : (xs ys : List JobCall) → All IsAnyCallWithin (xs ++ ys) → All IsAnyCallWithin ys
all_back [] ys h = h
all_back (x ∷ xs) ys h = all_back xs ys (All-tail IsAnyCallWithin x (xs ++ ys) h)

joined : (k : ℕ) (calls : List PlainCall) → take k calls ++ drop k calls ≡ calls
joined zero calls = refl
joined (suc k) [] = refl
joined (suc k) (c ∷ cs) = ap (λ (xs : List PlainCall). c ∷ xs) (joined k cs)

mixed_calls : (n : ℕ) (calls : List PlainCall) (os : Placed)
    → All IsAnyCallWithin (mixed n calls os)
    → All IsCallWithin calls
mixed_calls n calls [] h = plain_all calls h
mixed_calls n calls (o ∷ os) h =
    let k = o.place - n in
    let front = map (λ (c : PlainCall). as_job c) (take k calls) in
    let back : List JobCall = mixed (o.place + 1) (drop k calls) os in
    let rest = all_back front (further o.call ∷ back) h in
    subst (All IsCallWithin) (joined k calls)
    (All-append IsCallWithin (take k calls) (drop k calls)
    (plain_all (take k calls) (all_front front (further o.call ∷ back) h))
    (mixed_calls (o.place + 1) (drop k calls) os (All-tail IsAnyCallWithin (further o.call) back rest)))

mixed_many : (n : ℕ) (calls : List PlainCall) (os : Placed) → length calls ≤ length (mixed n calls os)
mixed_many n calls [] = omega (arith, length-map calls (λ (c : PlainCall). as_job c))
mixed_many n calls (o ∷ os) =
    let k = o.place - n in
    let front = map (λ (c : PlainCall). as_job c) (take k calls) in
    let back : List JobCall = mixed (o.place + 1) (drop k calls) os in
    let rest = mixed_many (o.place + 1) (drop k calls) os in
    let both = length-append front (further o.call ∷ back) in
    let parts = length-append (take k calls) (drop k calls) in
    let whole = ap (λ (cs : List PlainCall). length cs) (joined k calls) in
    let same = length-map (take k calls) (λ (c : PlainCall). as_job c) in
    omega (arith, rest, both, parts, whole, same)

-- ---- scripts

abbrev Every : List One → Type 0
Every ss = All (λ (s : One). All IsAnyCallWithin s.calls) ss

abbrev IsPort : ℕ → Block → Type 0
IsPort ports b = b.port < ports

scripts_within : (ports k : ℕ) (ss : List PlainScript) (placed : Placed)
    → All (IsPort ports) (map block_of (mixed_scripts k ss placed))
    → Every (mixed_scripts k ss placed)
    → All (IsScriptWithin ports) ss
scripts_within ports k [] placed blocks calls = All-nil (IsScriptWithin ports)
scripts_within ports k (s ∷ ss) placed blocks calls =
    let own = take (count_in k placed) placed in
    let here : One = record { port = s.port; name = s.name; calls = mixed 0 s.calls own } in
    let later : List One = mixed_scripts (k + 1) ss (drop (count_in k placed) placed) in
    All-cons (IsScriptWithin ports) s ss
    (record {
      port = All-head (IsPort ports) (block_of here) (map block_of later) blocks;
      calls = mixed_calls 0 s.calls own (All-head (λ (x : One). All IsAnyCallWithin x.calls) here later calls);
    })
    (scripts_within ports (k + 1) ss (drop (count_in k placed) placed)
    (All-tail (IsPort ports) (block_of here) (map block_of later) blocks)
    (All-tail (λ (x : One). All IsAnyCallWithin x.calls) here later calls))

calls_few : (k : ℕ) (ss : List PlainScript) (placed : Placed)
    → sum_by (λ (s : PlainScript). length s.calls) ss
    ≤ sum_by (λ (b : Block). b.steps) (map block_of (mixed_scripts k ss placed))
calls_few k [] placed = omega arith
calls_few k (s ∷ ss) placed =
    let own = take (count_in k placed) placed in
    let here : One = record { port = s.port; name = s.name; calls = mixed 0 s.calls own } in
    let later : List One = mixed_scripts (k + 1) ss (drop (count_in k placed) placed) in
    let rest = calls_few (k + 1) ss (drop (count_in k placed) placed) in
    let many = mixed_many 0 s.calls own in
    let a = sum_by-cons (λ (x : PlainScript). length x.calls) s ss in
    let b = sum_by-cons (λ (x : Block). x.steps) (block_of here) (map block_of later) in
    omega (arith, rest, many, a, b)

fold_names : (xs : List PlainScript) (start : List (List ℕ))
    → fold (λ names s. with_name names s.name) start xs ≡ fold with_name start (map (λ (s : PlainScript). s.name) xs)
fold_names [] start = refl
fold_names (x ∷ xs) start = fold_names xs (with_name start x.name)

bare_same : (bs : List Block) → map (λ (s : PlainScript). s.name) (map bare bs) ≡ map (λ b. b.name) bs
bare_same [] = refl
bare_same (b ∷ bs) = λ i. b.name ∷ bare_same bs i

block_names : (ss : List One) → map (λ (b : Block). b.name) (map block_of ss) ≡ map (λ (s : One). s.name) ss
block_names [] = refl
block_names (s ∷ ss) = λ i. s.name ∷ block_names ss i

phase_within : (ports : ℕ) (phase : PlainPhase) (placed : Placed)
    → IsBlockPhaseWithin ports (block_phase_of (phase_with phase placed))
    → AreCallsWithin (phase_with phase placed).callers
    → IsPhaseWithin ports phase
phase_within ports phase placed h calls =
    let mixed_all : List One = mixed_scripts 0 phase.callers placed in
    let blocks = map block_of mixed_all in
    let names : (p : ℕ)
    → map (λ (b : Block). b.name) (blocks_on p blocks) ≡ map (λ (s : PlainScript). s.name) (scripts_on p phase) =
    λ p.
    ap (map (λ (b : Block). b.name)) (blocks_one p mixed_all)
    ∙ (block_names (filter (λ s. s.port == p) mixed_all) ∙ mixed_names 0 phase.callers placed p) in
    record {
      lines = h.lines;
      ticks = h.ticks;
      steps = h.steps;
      scripts = scripts_within ports 0 phase.callers placed h.blocks calls;
      few_callers = λ p.
          let few = h.few_callers p in
          let same = ap (λ (ns : List (List ℕ)). length ns) (names p) in
          let a = length-map (blocks_on p blocks) (λ (b : Block). b.name) in
          let b = length-map (scripts_on p phase) (λ (s : PlainScript). s.name) in
          omega (arith, few, same, a, b);
      own_names = λ p.
          fold_names (scripts_on p phase) []
          ∙ (ap (λ (ns : List (List ℕ)). fold with_name [] ns) (sym (names p))
          ∙ (ap (λ (ns : List (List ℕ)). fold with_name [] ns) (sym (bare_same (blocks_on p blocks)))
          ∙ (sym (fold_names (map bare (blocks_on p blocks)) []) ∙ (h.own_names p ∙ names p))));
    }

-- ---- phases

abbrev with_parts : List Placed → ℕ → List PlainPhase → List JobsPhase
with_parts parts n phases = phases_with phase_with [] parts n phases

abbrev IsJobsPhaseWithin : JobsPhase → Type 0
IsJobsPhaseWithin phase = AreCallsWithin phase.callers

phases_within : (ports n : ℕ) (parts : List Placed) (phases : List PlainPhase)
    → All (IsBlockPhaseWithin ports) (map block_phase_of (with_parts parts n phases))
    → All IsJobsPhaseWithin (with_parts parts n phases)
    → All (IsPhaseWithin ports) phases
phases_within ports n parts [] h calls = All-nil (IsPhaseWithin ports)
phases_within ports n parts (phase ∷ phases) h calls =
    let placed = slice_index_or parts n [] in
    let first = phase_with phase placed in
    let later = with_parts parts (n + 1) phases in
    All-cons (IsPhaseWithin ports) phase phases
    (phase_within ports phase placed
    (All-head (IsBlockPhaseWithin ports) (block_phase_of first) (map block_phase_of later) h)
    (All-head IsJobsPhaseWithin first later calls))
    (phases_within ports (n + 1) parts phases
    (All-tail (IsBlockPhaseWithin ports) (block_phase_of first) (map block_phase_of later) h)
    (All-tail IsJobsPhaseWithin first later calls))

all_calls_few : (n : ℕ) (parts : List Placed) (phases : List PlainPhase)
    → call_count phases
    ≤ sum_by (λ (x : BlockPhase). sum_by (λ b. b.steps) x.blocks) (map block_phase_of (with_parts parts n phases))
all_calls_few n parts [] = omega arith
all_calls_few n parts (phase ∷ phases) =
    let placed = slice_index_or parts n [] in
    let first = block_phase_of (phase_with phase placed) in
    let here = calls_few 0 phase.callers placed in
    let rest = all_calls_few (n + 1) parts phases in
    let a = sum_by-cons (λ (x : PlainPhase). sum_by (λ script. length script.calls) x.callers) phase phases in
    let b = sum_by-cons (λ (x : BlockPhase). sum_by (λ b. b.steps) x.blocks) first
    (map block_phase_of (with_parts parts (n + 1) phases)) in
    omega (arith, here, rest, a, b)

characters_same : (p n : ℕ) (parts : List Placed) (phases : List PlainPhase)
    → character_count p phases
    ≡ sum_by (λ (x : BlockPhase). arrival_count (slice_index_or x.lines p []))
    (map block_phase_of (with_parts parts n phases))
characters_same p n parts [] = refl
characters_same p n parts (phase ∷ phases) =
    let first = block_phase_of (phase_with phase (slice_index_or parts n [])) in
    let rest = characters_same p (n + 1) parts phases in
    let a = sum_by-cons (λ (x : PlainPhase). arrival_count (line_on p x)) phase phases in
    let b = sum_by-cons (λ (x : BlockPhase). arrival_count (slice_index_or x.lines p [])) first
    (map block_phase_of (with_parts parts (n + 1) phases)) in
    omega (arith, rest, a, b)

ticks_same : (p n : ℕ) (parts : List Placed) (phases : List PlainPhase)
    → tick_count p phases
    ≡ sum_by (λ (x : BlockPhase). slice_index_or x.ticks p 0) (map block_phase_of (with_parts parts n phases))
ticks_same p n parts [] = refl
ticks_same p n parts (phase ∷ phases) =
    let first = block_phase_of (phase_with phase (slice_index_or parts n [])) in
    let rest = ticks_same p (n + 1) parts phases in
    let a = sum_by-cons (ticks_on p) phase phases in
    let b = sum_by-cons (λ (x : BlockPhase). slice_index_or x.ticks p 0) first
    (map block_phase_of (with_parts parts (n + 1) phases)) in
    omega (arith, rest, a, b)

many_same : (n : ℕ) (parts : List Placed) (phases : List PlainPhase)
    → length (map block_phase_of (with_parts parts n phases)) ≡ length phases
many_same n parts [] = refl
many_same n parts (phase ∷ phases) = ap suc (many_same (n + 1) parts phases)

pub plain_within : (base : PlainSession) (procs : List PortProc) (parts : List Placed)
    → IsJobsSessionWithin (session_with base procs parts)
    → IsWithinLimits base
plain_within base procs parts h =
    let b = h.blocks in
    record {
      some_ports = b.some_ports;
      few_ports = b.few_ports;
      flips = b.flips_of_all;
      some_flip = b.some_flip;
      few_flip = b.few_flip;
      few_phases = omega (arith, b.few_phases, many_same 0 parts base.phases);
      phases = phases_within base.ports 0 parts base.phases b.each h.calls;
      few_calls = omega (arith, b.few_calls, all_calls_few 0 parts base.phases);
      few_characters = λ p. omega (arith, b.few_characters p, characters_same p 0 parts base.phases);
      few_ticks = λ p. omega (arith, b.few_ticks p, ticks_same p 0 parts base.phases);
    }
