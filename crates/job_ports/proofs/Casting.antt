-- What a phase is played of: the roles of its callers, and what they have to call.
use Rattle.std.proofs.Common.{◌≡◌, ◌≤◌, ◌<◌, ℕ, zero, suc, ◌+◌, List, [], ◌∷◌, ◌++◌}
use Rattle.std.proofs.Common.{Option, Some, length, map, sum, refl, sym, ap, ◌∙◌, subst, arith, append-nil}
use Rattle.std.specs.Prelude.{All, slice_get, slice_index_or, flat_map}
use Rattle.tty_calls.specs.declared.sessions.Script.{Script}
use Rattle.tty_calls.specs.Sessions.{PlainScript, PlainPhase, PlainSession}
use Rattle.tty_calls.specs.Sessions.{script_of, scripts_over}
use Rattle.legal_runs.specs.Legal.{phase_at}
use Rattle.play_base.specs.Roles.{Scene, names_in, role_in}
use Rattle.play_base.specs.Casting.{IsNumbered, own_scripts, cast_of}
use Rattle.play_base.specs.declared.roles.Role.{Role}
use Rattle.play_base.proofs.NameLemmas.{number_at, few_names}
use Rattle.play_base.proofs.RoleLemmas.{phase_numbered, sum_counts}
use Rattle.order_laws.proofs.Shapes.{names_same, counts_same}
use Rattle.passed_calls.specs.declared.placed.PlacedCall.{PlacedCall}
use Rattle.passed_calls.specs.Blocks.{names_on}
use Rattle.passed_calls.specs.Derived.{Passed, BlockPhase, blocks_of, passed_phases}
use Rattle.passed_calls.specs.Scripts.{CallerScript, block_of, mixed_scripts, phases_with, numbered_call}
use Rattle.passed_calls.specs.Within.{IsBlockPhaseWithin}
use Rattle.passed_calls.proofs.Names.{names_stay}
use Rattle.job_text.specs.declared.calls.OwnCall.{OwnCall}
use Rattle.job_text.specs.declared.sessions.PortProc.{PortProc}
use Rattle.job_text.specs.Sessions.{JobCall, JobsPhase, JobsSession, block_phase_of, phase_with, session_with}
use Rattle.job_text.specs.Sessions.{blocks_in}
use Rattle.job_text.specs.Within.{IsJobsSessionWithin}
use Rattle.job_steps.specs.Derived.{block_phases, job_call_at}
use Rattle.order_laws.specs.Passed.{IsPassedBy, begin_of}
use Rattle.calls_left.specs.Remaining.{calls_of_port}
use Rattle.job_one.specs.Remaining.{AreLeft}
use Rattle.order_laws.proofs.Blocks.{of_blocks, same_shape}
use Rattle.job_one.proofs.Plain.{plain_of_blocks}
use Rattle.job_one.specs.Played.{by_blocks}
use Rattle.passed_ports.specs.Ports.{IsSceneOf}
use Rattle.job_ports.specs.Between.{IsBetween}
use Rattle.job_ports.specs.declared.phases.JobStation.{JobStation}
use Rattle.order_laws.proofs.Shares.{on_port, over, all_counted, blocks_one}
use Rattle.passed_ports.proofs.Leaving.{mixed_names, below_if, get_map, HasShares, AreSharesLeft, shares_left}
use Rattle.passed_ports.proofs.Leaving.{own_scripts_of, at_of}
use Rattle.job_ports.proofs.Playing.{blocks_same}

abbrev One : Type 0
One = CallerScript JobCall

abbrev Placed : Type 0
Placed = List (PlacedCall OwnCall)

abbrev scene_in : ℕ → PlainSession → Scene
scene_in p base = record { port = p; session = base }

pub scene_of_session : (p : ℕ) (base : PlainSession) (procs : List PortProc) (parts : List Placed)
    → IsSceneOf (scene_in p base) (by_blocks (session_with base procs parts))
scene_of_session p base procs parts =
    record { version = refl; ports = refl; flips = refl; of_blocks = plain_of_blocks p base procs parts }

-- ---- names

abbrev none_passed : Passed
none_passed q = []

pub names_too : (p : ℕ) (base : PlainSession) (procs : List PortProc) (parts : List Placed)
    → names_in (scene_in p base) ≡ names_on p (blocks_of (block_phases (session_with base procs parts)))
names_too p base procs parts =
    let phases = block_phases (session_with base procs parts) in
    let empty : PlainSession = record base { phases = passed_phases none_passed phases } in
    let by : IsPassedBy p phases (λ c. []) empty = record { passed = none_passed; are = refl; by = λ c. refl } in
    let shape = same_shape p phases base empty refl refl (plain_of_blocks p base procs parts)
    (of_blocks p phases (λ c. []) empty by) in
    sym (names_same p base empty shape) ∙ names_stay none_passed phases p

pub names_are : (p : ℕ) (base : PlainSession) (procs : List PortProc) (parts : List Placed)
    → names_in (scene_in p base) ≡ names_on p (blocks_in (session_with base procs parts))
names_are p base procs parts =
    names_too p base procs parts ∙ ap (names_on p) (blocks_same (session_with base procs parts).phases)

-- ---- phases

found_from : (parts : List Placed) (n k : ℕ) (phases : List PlainPhase) (d : PlainPhase)
    → k < length phases
    → slice_get (phases_with phase_with [] parts n phases) k
    ≡ Some (phase_with (slice_index_or phases k d) (slice_index_or parts (n + k) []))
found_from parts n k [] d lt = absurd (omega (arith, lt))
found_from parts n zero (phase ∷ phases) d lt =
    (let same : n ≡ n + 0 = omega arith in ap (λ (m : ℕ). Some (phase_with phase (slice_index_or parts m []))) same)
found_from parts n (suc k) (phase ∷ phases) d lt =
    let same : (n + 1) + k ≡ n + suc k = omega arith in
    found_from parts (n + 1) k phases d (omega (arith, lt))
    ∙ ap (λ (m : ℕ). Some (phase_with (slice_index_or phases k d) (slice_index_or parts m []))) same

phase_found : (base : PlainSession) (procs : List PortProc) (parts : List Placed) (k : ℕ)
    → k < length base.phases
    → slice_get (session_with base procs parts).phases k
    ≡ Some (phase_with (phase_at base k) (slice_index_or parts k []))
phase_found base procs parts k lt =
    let same : 0 + k ≡ k = omega arith in
    found_from parts 0 k base.phases (record { lines = []; ticks = []; callers = [] }) lt
    ∙ ap (λ (m : ℕ). Some (phase_with (phase_at base k) (slice_index_or parts m []))) same

-- ---- what is left to the callers of a phase

abbrev callers_in : JobsSession → List (List One)
callers_in session = map (λ (phase : JobsPhase). phase.callers) session.phases

blocks_are : (phases : List JobsPhase)
    → map (λ (phase : BlockPhase). phase.blocks) (map block_phase_of phases)
    ≡ map (map block_of) (map (λ (phase : JobsPhase). phase.callers) phases)
blocks_are [] = refl
blocks_are (phase ∷ phases) = λ i. map block_of phase.callers ∷ blocks_are phases i

over_are : (p : ℕ) (phases : List JobsPhase)
    → over p (map (λ (phase : JobsPhase). phase.callers) phases)
    ≡ flat_map (λ (phase : JobsPhase). on_port p phase.callers) phases
over_are p [] = refl
over_are p (phase ∷ phases) = ap (λ (ss : List One). on_port p phase.callers ++ ss) (over_are p phases)

shares_of : (p k : ℕ) (base : PlainSession) (procs : List PortProc) (parts : List Placed) (scripts : List Script)
    (run : ℕ) (at : JobStation)
    → IsJobsSessionWithin (session_with base procs parts)
    → k < length base.phases
    → map script_of scripts ≡ (phase_at base k).callers
    → IsBetween (scene_in p base) (session_with base procs parts) k run at
    → HasShares p k (block_phases (session_with base procs parts)) (callers_in (session_with base procs parts))
    (map script_of scripts) (names_in (scene_in p base)) []
    (phase_with (phase_at base k) (slice_index_or parts k [])).callers at.desk.next
shares_of p k base procs parts scripts run at limits lt callers h =
    let first = scene_in p base in
    let session = session_with base procs parts in
    let phases = block_phases session in
    let names = names_in first in
    let phase = phase_with (phase_at base k) (slice_index_or parts k []) in
    let found = phase_found base procs parts k lt in
    let within : IsBlockPhaseWithin session.ports (block_phase_of phase) =
    at_of (IsBlockPhaseWithin session.ports) phases k (block_phase_of phase) limits.blocks.each
    (get_map block_phase_of session.phases k phase found) in
    record {
      few_calls = limits.blocks.few_calls;
      at_phase = get_map (λ (x : JobsPhase). x.callers) session.phases k phase found;
      own_names = own_scripts_of session.ports p (block_phase_of phase) phase.callers within
          (blocks_one p phase.callers);
      apart = λ i o is j none. absurd (cc);
      counted = λ name none. all_counted p phases (callers_in session) name (blocks_are session.phases);
      same_names =
          ap (λ (ss : List PlainScript). map (λ (s : PlainScript). s.name) (own_scripts p ss)) callers
          ∙ (sym (mixed_names 0 (phase_at base k).callers (slice_index_or parts k []) p)
          ∙ sym (append-nil (map (λ (s : One). s.name) (on_port p phase.callers))));
      numbered = subst (λ (ss : List PlainScript). All (IsNumbered names) (own_scripts p ss)) (sym callers)
          (phase_numbered first k lt);
      names_are = names_too p base procs parts;
      own_places = λ c name is. number_at (scripts_over p base.phases) name c is;
      next_many = h.procs.next ∙ sym (ap (λ (ns : List (List ℕ)). length ns) (names_are p base procs parts));
      next_are = λ c other. subst (λ (j : ℕ). slice_index_or at.desk.next c 0 ≡ begin_of p phases j c) h.phase
          (h.before.steps c);
    }

pub calls_left : (p k : ℕ) (base : PlainSession) (procs : List PortProc) (parts : List Placed) (scripts : List Script)
    (placed : Placed) (steps : List ℕ) (roles : List Role) (run : ℕ) (at : JobStation)
    → IsJobsSessionWithin (session_with base procs parts)
    → k < length base.phases
    → map script_of scripts ≡ (phase_at base k).callers
    → placed ≡ slice_index_or parts k []
    → IsBetween (scene_in p base) (session_with base procs parts) k run at
    → map (role_in scripts) roles ≡ cast_of (names_in (scene_in p base)) steps p (map script_of scripts)
    → AreLeft p k (session_with base procs parts) roles at.desk.next (calls_of_port p scripts placed)
calls_left p k base procs parts scripts placed steps roles run at limits lt callers beside h cast =
    let session = session_with base procs parts in
    let phases = block_phases session in
    let names = names_in (scene_in p base) in
    let phase = phase_with (phase_at base k) (slice_index_or parts k []) in
    let left = map (λ (s : One). s.calls) (on_port p phase.callers) in
    let mixed_is : mixed_scripts 0 (map script_of scripts) placed ≡ phase.callers = λ i.
    mixed_scripts 0 (callers i) (beside i) in
    let shares : AreSharesLeft p k phases (numbered_call names (over p (callers_in session))) roles at.desk.next left
    0 =
    shares_left p k phases (callers_in session) scripts names [] steps phase.callers at.desk.next roles
    (shares_of p k base procs parts scripts run at limits lt callers h) cast in
    let its : AreSharesLeft p k phases (job_call_at p session) roles at.desk.next left 0 =
    subst (λ (f : ℕ → ℕ → Option JobCall). AreSharesLeft p k phases f roles at.desk.next left 0)
    (λ i. numbered_call (names_are p base procs parts i) (over_are p session.phases i)) shares in
    let its_left : AreLeft p k session roles at.desk.next left = record {
      many = (let many = its.many in omega (arith, many));
      each = λ i r is. its.each i r is (let many = its.many in omega (arith, many, below_if roles i r is));
      others = its.absent;
    } in
    subst (λ (ss : List One). AreLeft p k session roles at.desk.next (map (λ (s : One). s.calls) (on_port p ss)))
    (sym mixed_is) its_left

-- ---- the next steps of callers

pub callers_known : (p k run : ℕ) (base : PlainSession) (session : JobsSession) (at : JobStation)
    → IsBetween (scene_in p base) session k run at
    → length at.names ≤ sum at.station.port.counts
callers_known p k run base session at h =
    let has = h.before.has in
    let there = (h.before.each.each (record { port = p; session = has.session }) has.like has.agrees).0 in
    let counts = there.of_scene.counts ∙ counts_same p base has.session has.like.shape in
    let many = few_names (scripts_over p base.phases) in
    let all = sum_counts p base in
    let same = ap (λ (xs : List ℕ). sum xs) counts in
    let names = ap (λ (ns : List (List ℕ)). length ns) h.names in
    omega (arith, many, all, same, names)
