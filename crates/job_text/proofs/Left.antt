-- What is left of a text is a session, and what is read keeps the limits.
use Rattle.std.proofs.Common.{◌≡◌, inl, inr, ℕ, suc, ◌+◌, ◌<◌, ◌≤◌, nat_lt, Bool, true}
use Rattle.std.proofs.Common.{false, cond, Some, None, List, [], ◌∷◌, ◌++◌, length, map, Ok}
use Rattle.std.proofs.Common.{append-nil, append_assoc, refl, sym, ◌∙◌, ap, subst, arith}
use Rattle.std.specs.Prelude.{◌||◌, not, All, IsSome, count_by, filter, flat_map, is_some, slice_index_or}
use Rattle.std.specs.List.{AllByRecursion, list_any, position_or_len, prefix_len, range_with_len}
use Rattle.std.specs.Str.{bytes_eq}
use Rattle.std.proofs.lemmas.Bool.{cases_lt, lt-ltb}
use Rattle.std.proofs.lemmas.List.{get_or_past, length-map}
use Rattle.std.proofs.lemmas.List.Elements.{All-nil, All-cons, All-head, All-tail, All-append}
use Rattle.std.proofs.lemmas.List.FromFn.{get_or-map-range_with_len, length-map-range_with_len}
use Rattle.std.proofs.lemmas.List.Sums.{length-filter}
use Rattle.tty_base.specs.Sizes.{MOST_PROCESSES, MOST_STEPS}
use Rattle.tty_calls.specs.Limits.{IsWithinLimits, IsPhaseWithin, call_count}
use Rattle.tty_calls.specs.Sessions.{PlainScript, PlainPhase, PlainSession}
use Rattle.session_text.specs.Drafts.{all_phases}
use Rattle.session_text.specs.Refusals.{next_line, lines_in}
use Rattle.session_text.specs.Stands.{PlainKey}
use Rattle.job_control.specs.declared.processes.Proc.{Proc}
use Rattle.passed_calls.specs.declared.placed.PlacedCall.{PlacedCall}
use Rattle.passed_calls.specs.Blocks.{Block}
use Rattle.passed_calls.specs.Derived.{BlockPhase}
use Rattle.passed_calls.specs.Scripts.{block_of, mixed_scripts, phases_with}
use Rattle.passed_calls.specs.Within.{AreBlocksWithin, AreCallsWithin}
use Rattle.passed_calls.proofs.Mixed.{blocks_within, keys_mixed, map_phases, phase_within}
use Rattle.passed_calls.proofs.Mixed.{phases_hold, scripts_within, steps_mixed}
use Rattle.further_text.specs.Reading.{base_at_end}
use Rattle.further_text.proofs.Drafts.{all_calls, each_phase, ended_outside, keys_in}
use Rattle.further_text.proofs.Items.{then_ok, good, ok_is, Later, end_left, ended_is}
use Rattle.further_text.proofs.Spelled.{left_spells, left_within}
use Rattle.job_text.specs.declared.calls.OwnCall.{OwnCall}
use Rattle.job_text.specs.declared.sessions.PortProc.{PortProc}
use Rattle.job_text.specs.Left.{IsLeft, is_own, calls_said, calls_beside}
use Rattle.job_text.specs.Sessions.{JobsPhase, JobsSession, block_phase_of}
use Rattle.job_text.specs.Sessions.{phase_with, proc_place, procs_on, session_with}
use Rattle.job_text.specs.Reading.{JobsReading, first_jobs_reading, after_line, jobs_from, jobs_in}
use Rattle.job_text.specs.Within.{IsJobsSessionWithin}
use Rattle.job_text.proofs.Steps.{on_port, is_named, IsProcKey, AreProcs, own_count, Holds}
use Rattle.job_text.proofs.Steps.{first_holds, Outside, first_outside, own_calls, goes_line}

-- the session of ports that is read of lines, its processes, and what its phases have beside
record Ends (r : JobsReading) (lines : List (List (List ℕ))) (s : JobsSession) : Type 0 where
  base : PlainSession
  procs : List PortProc
  parts : List (List (PlacedCall OwnCall))
  left : Later is_own r.base.session lines base
  is : s ≡ session_with base procs parts
  calls : Outside r → calls_beside parts ≡ own_calls r ++ flat_map calls_said lines
  few : Holds r → call_count base.phases + own_count parts ≤ MOST_STEPS
  few_procs : Holds r → (p : ℕ) → count_by (on_port p) procs ≤ MOST_PROCESSES
  callers : Holds r → AllByRecursion (λ (phase : PlainPhase). AreProcs procs (keys_in phase)) base.phases

ends : (lines : List (List (List ℕ))) (r : JobsReading) (n : ℕ) (s : JobsSession)
    → jobs_from r n lines ≡ Ok s
    → Ends r lines s
ends [] r n s e =
    let went = then_ok (base_at_end r.base n) (λ session. good (session_with session r.procs r.parts)) s e in
    let phases : went.x.phases ≡ all_phases r.base.session.draft = ended_is r.base.session n went.x went.was in
    record {
      base = went.x;
      procs = r.procs;
      parts = r.parts;
      left = end_left is_own r.base.session n went.x went.was;
      is = sym (ok_is (session_with went.x r.procs r.parts) s went.goes_on);
      calls = λ h.
          sym (append-nil (own_calls r)
          ∙ ap
          (λ (own : List (PlacedCall OwnCall)). calls_beside r.parts ++ map (λ (o : PlacedCall OwnCall). o.call) own)
          (h (ended_outside r.base.session n went.x went.was)).none
          ∙ append-nil (calls_beside r.parts));
      few = λ h. omega (arith, h.few, ap call_count phases, all_calls r.base.session.draft);
      few_procs = λ h. h.procs;
      callers = λ h. subst (AllByRecursion (λ (phase : PlainPhase). AreProcs r.procs (keys_in phase))) (sym phases)
          (each_phase (AreProcs r.procs) r.base.session.draft h.callers);
    }
ends (words ∷ lines) r n s e =
    let went = then_ok (after_line r n words) (λ next. jobs_from next (next_line n) lines) s e in
    let goes = goes_line r went.x n words went.was in
    let rest = ends lines went.x (next_line n) s went.goes_on in
    record {
      base = rest.base;
      procs = rest.procs;
      parts = rest.parts;
      left = goes.left lines rest.base rest.left;
      is = rest.is;
      calls = λ h.
          let says = goes.says h in
          rest.calls says.outside
          ∙ ap (λ (xs : List OwnCall). xs ++ flat_map calls_said lines) says.said
          ∙ append_assoc (own_calls r) (calls_said words) (flat_map calls_said lines);
      few = λ h. rest.few (goes.holds h);
      few_procs = λ h. rest.few_procs (goes.holds h);
      callers = λ h. rest.callers (goes.holds h);
    }

pub session_left : (text : List ℕ) (s : JobsSession) → jobs_in text ≡ Ok s → IsLeft text s
session_left text s e =
    let is = ends (lines_in text) first_jobs_reading 1 s e in
    record {
      base = is.base;
      procs = is.procs;
      parts = is.parts;
      spells = left_spells is_own text is.base is.left;
      is = is.is;
      calls = is.calls first_outside;
    }

-- ---- the processes

procs_at : (ports : ℕ) (procs : List PortProc) (p : ℕ)
    → p < ports
    → slice_index_or (map (λ q. procs_on q procs) (range_with_len 0 ports)) p [] ≡ procs_on p procs
procs_at ports procs p h = get_or-map-range_with_len (λ q. procs_on q procs) 0 ports p p [] h (omega arith)

few_at : (ports : ℕ) (procs : List PortProc) (p : ℕ)
    → count_by (on_port p) procs ≤ MOST_PROCESSES
    → length (slice_index_or (map (λ q. procs_on q procs) (range_with_len 0 ports)) p []) ≤ MOST_PROCESSES
few_at ports procs p few =
    elim (cases_lt p ports) [
      | inl within ↦ omega (
        arith,
        few,
        ap (λ (xs : List Proc). length xs) (procs_at ports procs p within),
        length-map (filter (on_port p) procs) (λ (q : PortProc). q.proc),
        length-filter (on_port p) procs,
      )
      | inr past ↦ omega (
        arith,
        ap (λ (xs : List Proc). length xs) (get_or_past (map (λ q. procs_on q procs) (range_with_len 0 ports)) p []
            (omega (arith, past, length-map-range_with_len (λ q. procs_on q procs) 0 ports))),
      )
    ]

-- a process that is there is found
place_by : (t any : Bool) (n m : ℕ) → (any ≡ true → n < m) → (t || any) ≡ true → cond (not t) (1 + n) 0 < suc m
place_by true any n m later e = omega arith
place_by false any n m later e = omega (arith, later e)

any_place : {X : Type 0} (test : X → Bool) (xs : List X) → list_any test xs ≡ true → position_or_len test xs < length xs
any_place test [] h = absurd (cc)
any_place test (x ∷ xs) h =
    place_by (test x) (list_any test xs) (prefix_len (λ y. not (test y)) xs) (length xs) (any_place test xs) h

any_found : {X : Type 0} (test : X → Bool) (xs : List X)
    → list_any test xs ≡ true
    → is_some (cond (nat_lt (position_or_len test xs) (length xs)) (Some (position_or_len test xs)) None) ≡ true
any_found test xs h = ap (λ (b : Bool). is_some (cond b (Some (position_or_len test xs)) None))
    (lt-ltb (position_or_len test xs) (length xs) (any_place test xs h))

any_proc : (name : List ℕ) (qs : List PortProc)
    → list_any (λ (proc : Proc). bytes_eq proc.name.bytes name) (map (λ (q : PortProc). q.proc) qs)
    ≡ list_any (is_named name) qs
any_proc name [] = refl
any_proc name (q ∷ qs) = ap (λ (b : Bool). bytes_eq q.proc.name.bytes name || b) (any_proc name qs)

proc_found : (ports : ℕ) (procs : List PortProc) (port : ℕ) (name : List ℕ)
    → port < ports
    → list_any (is_named name) (filter (on_port port) procs) ≡ true
    → IsSome (proc_place (slice_index_or (map (λ q. procs_on q procs) (range_with_len 0 ports)) port []) name)
proc_found ports procs port name within h =
    subst (λ (ps : List Proc). IsSome (proc_place ps name)) (sym (procs_at ports procs port within))
    (any_found (λ (proc : Proc). bytes_eq proc.name.bytes name) (procs_on port procs)
    (any_proc name (filter (on_port port) procs) ∙ h))

-- ---- the callers

abbrev IsFound : (ports : ℕ) → List PortProc → ℕ → List ℕ → Type 0
IsFound ports procs port name =
    IsSome (proc_place (slice_index_or (map (λ q. procs_on q procs) (range_with_len 0 ports)) port []) name)

scripts_found : (ports : ℕ) (procs : List PortProc) (ss : List PlainScript)
    → All (λ (s : PlainScript). s.port < ports) ss
    → AllByRecursion (IsProcKey procs)
    (map (λ (s : PlainScript). let key : PlainKey = record { name = s.name; port = s.port } in key) ss)
    → All (λ (s : PlainScript). IsFound ports procs s.port s.name) ss
scripts_found ports procs [] h k = All-nil (λ (s : PlainScript). IsFound ports procs s.port s.name)
scripts_found ports procs (s ∷ ss) h k =
    All-cons (λ (s : PlainScript). IsFound ports procs s.port s.name) s ss
    (proc_found ports procs s.port s.name (All-head (λ (x : PlainScript). x.port < ports) s ss h) k.0)
    (scripts_found ports procs ss (All-tail (λ (x : PlainScript). x.port < ports) s ss h) k.1)

callers_found : (ports : ℕ) (procs : List PortProc) (parts : List (List (PlacedCall OwnCall))) (n : ℕ)
    (phases : List PlainPhase)
    → All (IsPhaseWithin ports) phases
    → AllByRecursion (λ (phase : PlainPhase). AreProcs procs (keys_in phase)) phases
    → All (λ (b : Block). IsFound ports procs b.port b.name)
    (flat_map (λ (phase : JobsPhase). map block_of phase.callers) (phases_with phase_with [] parts n phases))
callers_found ports procs parts n [] h k = All-nil (λ (b : Block). IsFound ports procs b.port b.name)
callers_found ports procs parts n (phase ∷ phases) h k =
    let own = slice_index_or parts n [] in
    let within = All-head (IsPhaseWithin ports) phase phases h in
    All-append (λ (b : Block). IsFound ports procs b.port b.name) (map block_of (mixed_scripts 0 phase.callers own))
    (flat_map (λ (phase : JobsPhase). map block_of phase.callers) (phases_with phase_with [] parts (n + 1) phases))
    (keys_mixed (IsFound ports procs) 0 phase.callers own
    (scripts_found ports procs phase.callers (λ i d fits. (within.scripts i d fits).port) k.0))
    (callers_found ports procs parts (n + 1) phases (All-tail (IsPhaseWithin ports) phase phases h) k.1)

-- ---- the limits

with_limits : (base : PlainSession) (procs : List PortProc) (parts : List (List (PlacedCall OwnCall)))
    → IsWithinLimits base
    → call_count base.phases + own_count parts ≤ MOST_STEPS
    → ((p : ℕ) → count_by (on_port p) procs ≤ MOST_PROCESSES)
    → AllByRecursion (λ (phase : PlainPhase). AreProcs procs (keys_in phase)) base.phases
    → IsJobsSessionWithin (session_with base procs parts)
with_limits base procs parts h few few_procs callers = record {
  blocks =
      subst (λ (phases : List BlockPhase). AreBlocksWithin base.ports base.flips phases)
      (sym (map_phases phase_with block_phase_of [] parts 0 base.phases))
      (blocks_within (λ phase own. block_phase_of (phase_with phase own)) [] (λ phase. Unit {0})
      (λ (own : List (PlacedCall OwnCall)). length own) base parts refl
      (λ phase own within any. phase_within base.ports phase own within) (λ phase own. steps_mixed 0 phase.callers own)
      (λ phase own. refl) (λ phase own. refl)
      h (λ k d fits. tt) few);
  calls =
      phases_hold phase_with [] (IsPhaseWithin base.ports) (λ (phase : JobsPhase). AreCallsWithin phase.callers)
      parts 0 base.phases
      (λ phase own within. scripts_within 0 phase.callers own (λ k d fits. (within.scripts k d fits).calls)) h.phases;
  procs = λ p. few_at base.ports procs p (few_procs p);
  callers = callers_found base.ports procs parts 0 base.phases h.phases callers;
}

pub session_within : (text : List ℕ) (s : JobsSession) → jobs_in text ≡ Ok s → IsJobsSessionWithin s
session_within text s e =
    let is = ends (lines_in text) first_jobs_reading 1 s e in
    let limits = left_within is_own text is.base (left_spells is_own text is.base is.left) in
    subst IsJobsSessionWithin (sym is.is)
    (with_limits is.base is.procs is.parts limits (is.few first_holds) (is.few_procs first_holds)
    (is.callers first_holds))
