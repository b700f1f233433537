-- The session that is derived of what was kept is the one that the ports were played.
use Rattle.std.proofs.Common.{◌≡◌, ◌<◌, inl, inr, ℕ, ◌+◌, ◌==◌}
use Rattle.std.proofs.Common.{List, [], ◌∷◌, ◌++◌, Option, None, Some, length, map, filter, flat_map}
use Rattle.std.proofs.Common.{get_or, refl, sym, ap, ◌∙◌, arith}
use Rattle.std.proofs.Common.{append-nil}
use Rattle.std.specs.Prelude.{All, option_map, slice_index_or}
use Rattle.std.specs.List.{range_with_len}
use Rattle.std.proofs.lemmas.Bool.{cases_lt}
use Rattle.std.proofs.lemmas.List.{get_or_past, map-append}
use Rattle.std.proofs.lemmas.List.Elements.{All-weaker, filter-append}
use Rattle.tty_calls.specs.declared.journals.PortRun.{PortRun}
use Rattle.tty_calls.specs.Limits.{IsPhaseWithin, IsScriptWithin, IsWithinLimits}
use Rattle.tty_calls.specs.Plain.{PlainCall, hangs_up}
use Rattle.tty_calls.specs.Sessions.{PlainPhase, PlainScript, PlainSession, scripts_over as plain_over, names_of}
use Rattle.passed_calls.specs.declared.placed.PlacedCall.{PlacedCall}
use Rattle.passed_calls.specs.Blocks.{Block, names_on}
use Rattle.passed_calls.specs.Derived.{Passing, passed_phases}
use Rattle.passed_calls.specs.Scripts.{CallerScript, plain, further, block_of, mixed_scripts, numbered_call}
use Rattle.passed_calls.specs.Scripts.{phases_with}
use Rattle.job_text.specs.declared.calls.OwnCall.{OwnCall}
use Rattle.job_text.specs.declared.sessions.PortProc.{PortProc}
use Rattle.job_text.specs.Events.{JobEvent, own, passed, passed_down, sent, JobLog, events_on}
use Rattle.job_text.specs.Sessions.{JobCall, JobsPhase, block_phase_of as jobs_block_phase, phase_with}
use Rattle.job_text.specs.Sessions.{session_with, blocks_in}
use Rattle.job_steps.specs.Derived.{job_call_at, plain_call, passings_from}
use Rattle.derived_session.specs.declared.passed.PassedDown.{PassedDown}
use Rattle.derived_session.specs.declared.passed.Down.TheVariants as down
use Rattle.derived_session.specs.Begun.{begun_down}
use Rattle.derived_session.specs.Steps.{CallerStep, StepsPhase, step_of, steps_in, phases_steps, block_phase_of}
use Rattle.derived_session.specs.Steps.{scripts_in}
use Rattle.derived_session.specs.Steps.{step_at, own_call, passing_of, passings_of, derived_of}
use Rattle.derived_session.proofs.Stepping.{blocks_kept, own_kept, numbered_kept}
use Rattle.derived_session.proofs.ByCalls.{one_passed, kept_begun, begun_of, begun_passed}
use Rattle.job_one.specs.Played.{answered_by, is_answer_to, derived_with, all_passed}
use Rattle.job_ports.specs.Walked.{Walked, first_walk, walked_by, walked_over, all_down, down_on}
use Rattle.job_ports.proofs.Casting.{names_are}
use Rattle.job_ports.proofs.Joining.{no_passings}
use Rattle.passed_ports.proofs.Started.{zeros_at, zeros_long}
use Rattle.passed_ports.proofs.Joining.{run_at}
use Rattle.order_laws.specs.Sessions.{journal_on}
use Rattle.order_laws.proofs.Answering.{stepped, set_length, answers_more}

abbrev Placed : Type 0
Placed = List (PlacedCall OwnCall)

abbrev One : Type 0
One = CallerScript JobCall

-- ---- the phases

abbrev jobs_phases : List Placed → (n : ℕ) → List PlainPhase → List JobsPhase
jobs_phases parts n phases = phases_with phase_with [] parts n phases

abbrev steps_phases : List Placed → (n : ℕ) → List PlainPhase → List StepsPhase
steps_phases parts n phases = phases_steps parts [] n phases

abbrev callers_in : List JobsPhase → List One
callers_in phases = flat_map (λ (phase : JobsPhase). phase.callers) phases

pub phases_are : (parts : List Placed) (n : ℕ) (phases : List PlainPhase)
    → map block_phase_of (steps_phases parts n phases) ≡ map jobs_block_phase (jobs_phases parts n phases)
phases_are parts n [] = refl
phases_are parts n (phase ∷ phases) =
    let mixed : List One = mixed_scripts 0 phase.callers (slice_index_or parts n []) in
    let blocks : map block_of (map steps_in mixed ++ []) ≡ map block_of mixed =
    ap (map block_of) (append-nil (map steps_in mixed)) ∙ blocks_kept mixed in
    λ i. record { lines = phase.lines; ticks = phase.ticks; blocks = blocks i } ∷ phases_are parts (n + 1) phases i

scripts_are : (parts : List Placed) (n : ℕ) (phases : List PlainPhase)
    → scripts_in (steps_phases parts n phases) ≡ map steps_in (callers_in (jobs_phases parts n phases))
scripts_are parts n [] = refl
scripts_are parts n (phase ∷ phases) =
    let mixed : List One = mixed_scripts 0 phase.callers (slice_index_or parts n []) in
    (λ i. append-nil (map steps_in mixed) i ++ scripts_are parts (n + 1) phases i)
    ∙ sym (map-append steps_in mixed (callers_in (jobs_phases parts (n + 1) phases)))

blocks_are : (phases : List JobsPhase)
    → flat_map (λ (phase : JobsPhase). map block_of phase.callers) phases ≡ map block_of (callers_in phases)
blocks_are [] = refl
blocks_are (phase ∷ phases) =
    ap (λ (bs : List Block). map block_of phase.callers ++ bs) (blocks_are phases)
    ∙ sym (map-append block_of phase.callers (callers_in phases))

over_are : (p : ℕ) (phases : List JobsPhase)
    → flat_map (λ (phase : JobsPhase). filter (λ (s : One). s.port == p) phase.callers) phases
    ≡ filter (λ (s : One). s.port == p) (callers_in phases)
over_are p [] = refl
over_are p (phase ∷ phases) =
    ap (λ (ss : List One). filter (λ (s : One). s.port == p) phase.callers ++ ss) (over_are p phases)
    ∙ sym (filter-append (λ (s : One). s.port == p) phase.callers (callers_in phases))

-- ---- the call of a caller at a step

plain_is : (o : Option JobCall) → own_call (option_map step_of o) ≡ plain_call o
plain_is None = refl
plain_is (Some (plain call)) = refl
plain_is (Some (further call)) = refl

step_is : (base : PlainSession) (procs : List PortProc) (parts : List Placed) (p c n : ℕ)
    → step_at (scripts_in (steps_phases parts 0 base.phases)) p c n
    ≡ option_map step_of (job_call_at p (session_with base procs parts) c n)
step_is base procs parts p c n =
    let phases = jobs_phases parts 0 base.phases in
    let all = callers_in phases in
    ap (λ (ss : List (CallerScript CallerStep)). step_at ss p c n) (scripts_are parts 0 base.phases)
    ∙ ((λ i. numbered_call (names_on p (blocks_kept all i)) (own_kept p all i) c n)
    ∙ (numbered_kept (names_on p (map block_of all)) (filter (λ (s : One). s.port == p) all) c n
    ∙ λ i. option_map step_of (numbered_call (names_on p (sym (blocks_are phases) i)) (sym (over_are p phases) i) c n)))

pub call_is : (base : PlainSession) (procs : List PortProc) (parts : List Placed) (p c n : ℕ)
    → own_call (step_at (scripts_in (steps_phases parts 0 base.phases)) p c n)
    ≡ plain_call (job_call_at p (session_with base procs parts) c n)
call_is base procs parts p c n =
    ap own_call (step_is base procs parts p c n) ∙ plain_is (job_call_at p (session_with base procs parts) c n)

-- ---- what was logged of a port

module _ (made : (c step : ℕ) → Option CallerStep) (calls : (c step : ℕ) → Option JobCall)
    (same : (c step : ℕ) → own_call (made c step) ≡ plain_call (calls c step)) where
  abbrev own_at : (c step : ℕ) → List PlainCall
  own_at c step = plain_call (calls c step)

  abbrev all_of : List PassedDown → List Passing
  all_of ds = map (passing_of made) ds

  pub walk_passed : (w : Walked) (es : List JobEvent)
      → all_of (walked_over w es).passed ≡ all_of w.passed ++ passings_from calls w.latest es
  walk_passed w [] = sym (append-nil (all_of w.passed))
  walk_passed w (own c step answer ∷ es) = walk_passed (walked_by w (own c step answer)) es
  walk_passed w (passed c step answer ∷ es) =
      walk_passed (walked_by w (passed c step answer)) es
      ∙ one_passed made own_at same w.passed (record { caller = c; step = step; down = down.Call })
      (record { caller = c; step = step; calls = plain_call (calls c step) }) (passings_from calls w.latest es)
      (ap (λ (cs : List PlainCall). record { caller = c; step = step; calls = cs }) (same c step))
  walk_passed w (passed_down c h ∷ es) =
      walk_passed (walked_by w (passed_down c h)) es
      ∙ one_passed made own_at same w.passed (record { caller = c; step = w.latest; down = down.Hangup h })
      (record { caller = c; step = w.latest; calls = hangs_up h ∷ [] }) (passings_from calls w.latest es) refl
  walk_passed w (sent signal target ∷ es) = walk_passed w es

-- ---- how many calls were answered

pub answers_walked : (w : Walked) (es : List JobEvent) (c : ℕ)
    → c < length w.answered
    → slice_index_or (walked_over w es).answered c 0 ≡ slice_index_or w.answered c 0 + answered_by c es
answers_walked w [] c lt = omega arith
answers_walked w (own d step answer ∷ es) c lt =
    let rest = answers_walked (walked_by w (own d step answer)) es c
    (omega (arith, lt, set_length w.answered d (slice_index_or w.answered d 0 + 1))) in
    let one = stepped w.answered d c lt in
    let more = answers_more is_answer_to c (own d step answer) es in
    omega (arith, rest, one, more)
answers_walked w (passed d step answer ∷ es) c lt =
    let rest = answers_walked (walked_by w (passed d step answer)) es c
    (omega (arith, lt, set_length w.answered d (slice_index_or w.answered d 0 + 1))) in
    let one = stepped w.answered d c lt in
    let more = answers_more is_answer_to c (passed d step answer) es in
    omega (arith, rest, one, more)
answers_walked w (passed_down d h ∷ es) c lt =
    let rest = answers_walked (walked_by w (passed_down d h)) es c lt in
    let more = answers_more is_answer_to c (passed_down d h) es in
    omega (arith, rest, more)
answers_walked w (sent signal target ∷ es) c lt =
    let rest = answers_walked w es c lt in
    let more = answers_more is_answer_to c (sent signal target) es in
    omega (arith, rest, more)

pub walked_long : (w : Walked) (es : List JobEvent) → length (walked_over w es).answered ≡ length w.answered
walked_long w [] = refl
walked_long w (own d step answer ∷ es) =
    walked_long (walked_by w (own d step answer)) es ∙ set_length w.answered d (slice_index_or w.answered d 0 + 1)
walked_long w (passed d step answer ∷ es) =
    walked_long (walked_by w (passed d step answer)) es ∙ set_length w.answered d (slice_index_or w.answered d 0 + 1)
walked_long w (passed_down d h ∷ es) = walked_long (walked_by w (passed_down d h)) es
walked_long w (sent signal target ∷ es) = walked_long w es

-- ---- all of a port

port_is : (base : PlainSession) (procs : List PortProc) (parts : List Placed) (log : JobLog) (runs : List PortRun)
    (p : ℕ)
    → map (passing_of (step_at (scripts_in (steps_phases parts 0 base.phases)) p)) (down_on base log runs p)
    ≡ all_passed (session_with base procs parts) log p (journal_on runs p)
port_is base procs parts log runs p =
    let session = session_with base procs parts in
    let made = step_at (scripts_in (steps_phases parts 0 base.phases)) p in
    let calls = job_call_at p session in
    let own_calls : (c n : ℕ) → List PlainCall = λ c n. plain_call (calls c n) in
    let same : (c n : ℕ) → own_call (made c n) ≡ plain_call (calls c n) = call_is base procs parts p in
    let n = length (names_of (plain_over p base.phases)) in
    let es = events_on p log in
    let w = walked_over (first_walk n) es in
    let journal = journal_on runs p in
    let many : length w.answered ≡ n = walked_long (first_walk n) es ∙ zeros_long n in
    let known : n ≡ length (names_on p (blocks_in session)) =
    ap (λ (ns : List (List ℕ)). length ns) (names_are p base procs parts) in
    let counts : (c : ℕ) → c < n → slice_index_or w.answered c 0 ≡ answered_by c es =
    λ c lt.
    (let all = answers_walked (first_walk n) es c (omega (arith, lt, zeros_long n)) in
    let none = zeros_at n c in
    omega (arith, all, none)) in
    map-append (passing_of made) w.passed (begun_down journal w.answered)
    ∙ (λ i.
    walk_passed made calls same (first_walk n) es i
    ++ (ap
    (λ (m : ℕ). map (passing_of made) (flat_map (kept_begun made own_calls same journal w.answered)
    (range_with_len 0 m)))
    many
    ∙ (begun_passed made own_calls same journal w.answered (λ c. answered_by c es) 0 n
    (λ c lt. counts c (omega (arith, lt)))
    ∙ ap
    (λ (m : ℕ).
    flat_map (begun_of made own_calls same journal (λ c. answered_by c es)) (range_with_len 0 m)) known)) i)

-- ---- the session

pub passings_are : (base : PlainSession) (procs : List PortProc) (parts : List Placed) (log : JobLog)
    (runs : List PortRun) (lists : List (List PassedDown))
    → length runs ≡ base.ports
    → All (λ l. l.port < base.ports) log
    → length lists ≡ length runs
    → ((p : ℕ) → p < length runs → slice_index_or lists p [] ≡ down_on base log runs p)
    → (p : ℕ)
    → passings_of (scripts_in (steps_phases parts 0 base.phases)) lists p
    ≡ all_passed (session_with base procs parts) log p (journal_on runs p)
passings_are base procs parts log runs lists many below long each p = elim (cases_lt p (length runs)) [
  | inl lt ↦
      ap
      (λ (ds : List PassedDown). map (passing_of (step_at (scripts_in (steps_phases parts 0 base.phases)) p)) ds)
      (each p lt)
      ∙ port_is base procs parts log runs p
  | inr le ↦
      ap
      (λ (ds : List PassedDown). map (passing_of (step_at (scripts_in (steps_phases parts 0 base.phases)) p)) ds)
      (get_or_past lists p [] (omega (arith, le, long)))
      ∙ sym (no_passings (session_with base procs parts) base.ports log runs p many below le)
]

pub derived_are : (base : PlainSession) (procs : List PortProc) (parts : List Placed) (log : JobLog)
    (runs : List PortRun) (lists : List (List PassedDown))
    → ((p : ℕ)
    → passings_of (scripts_in (steps_phases parts 0 base.phases)) lists p
    ≡ all_passed (session_with base procs parts) log p (journal_on runs p))
    → derived_of base (steps_phases parts 0 base.phases) lists ≡ derived_with (session_with base procs parts) log runs
derived_are base procs parts log runs lists are = λ i. record {
  version = base.version;
  ports = base.ports;
  flips = base.flips;
  phases = passed_phases (λ p. are p i) (phases_are parts 0 base.phases i);
}

-- ---- ports, one after the other

abbrev pub IsDown : PlainSession → JobLog → List PortRun → ℕ → List PassedDown → Type 0
IsDown session log runs p ds = ds ≡ down_on session log runs p

pub is_down : (session : PlainSession) (log : JobLog) (runs : List PortRun) (p names : ℕ) (run : PortRun)
    (ds : List PassedDown)
    → p < length runs
    → run ≡ get_or runs p run
    → names ≡ length (names_of (plain_over p session.phases))
    → ds ≡ all_down names (events_on p log) run.journal.items
    → IsDown session log runs p ds
is_down session log runs p names run ds lt at known is =
    is ∙ λ i. all_down (known i) (events_on p log) (sym (run_at runs p run lt at) i)

-- ---- what the session asks of its derivation

pub scripts_on_ports : (base : PlainSession)
    → IsWithinLimits base
    → All (λ (phase : PlainPhase). All (λ (s : PlainScript). s.port < base.ports) phase.callers) base.phases
scripts_on_ports base h =
    All-weaker (IsPhaseWithin base.ports)
    (λ (phase : PlainPhase). All (λ (s : PlainScript). s.port < base.ports) phase.callers)
    (λ phase within.
    All-weaker (IsScriptWithin base.ports) (λ (s : PlainScript). s.port < base.ports) (λ s is. is.port) phase.callers
    within.scripts) base.phases h.phases
