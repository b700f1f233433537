-- What a session of processes asks.
use Rattle.std.proofs.Common.{◌≡◌, ℕ, ◌+◌, ◌*◌, ◌≤◌, ◌==◌, Option, None, Some, Ok, Err, List, []}
use Rattle.std.proofs.Common.{◌∷◌, ◌++◌, length, map, refl, sym, ap, ◌∙◌, subst, arith, length-append}
use Rattle.std.specs.Prelude.{All, filter, flat_map, option_map, sum_by}
use Rattle.std.proofs.lemmas.List.{length-map, map-append}
use Rattle.std.proofs.lemmas.List.Elements.{All-nil, All-cons}
use Rattle.std.proofs.lemmas.List.Sums.{sum_by-cons}
use Rattle.session_text.proofs.TextAsks.{text_asks}
use Rattle.passed_calls.specs.declared.placed.PlacedCall.{PlacedCall}
use Rattle.tty_calls.specs.Plain.{hangs_up}
use Rattle.tty_calls.specs.Sessions.{PlainPhase}
use Rattle.passed_calls.specs.Blocks.{Block, names_on}
use Rattle.passed_calls.specs.Derived.{BlockPhase, Passing, blocks_of}
use Rattle.passed_calls.specs.Scripts.{CallerScript, plain, further, block_of, numbered_call}
use Rattle.passed_calls.proofs.Mixed.{map_phases}
use Rattle.further_text.specs.Faults.{Read}
use Rattle.job_text.specs.declared.calls.OwnCall.{OwnCall}
use Rattle.job_text.specs.Events.{JobEvent, own, passed, passed_down, sent, JobLog, events_on}
use Rattle.job_text.specs.Left.{IsLeft, calls_beside, calls_by, calls_said, call_by}
use Rattle.job_text.specs.Reading.{jobs_in}
use Rattle.job_text.specs.Sessions.{JobCall, JobsPhase, JobsSession, blocks_in, phase_with}
use Rattle.job_text.specs.Verbs.{all_verbs, verb_text}
use Rattle.job_text.proofs.Left.{session_left}
use Rattle.job_steps.specs.Derived.{job_call_at, passings_from, passings_on}
use Rattle.job_steps.specs.Derived.{plain_call, scripts_over as job_scripts}
use Rattle.further_asked.specs.Asked.{AskedPhase, AskNoMore, AsksWithin, any_asks, asked_at, asked_on}
use Rattle.further_asked.specs.Asked.{asks_of, block_phases, call_asks, scripts_over}
use Rattle.further_asked.specs.Jobs.{asked_phase_of, asked_phases}
use Rattle.further_asked.proofs.Mixing.{phases_ask, scripts_ask}
use Rattle.further_asked.proofs.Scripts.{AsksThree, asked_blocks, asked_call, asked_on_port, hangup_within}
use Rattle.further_asked.proofs.Scripts.{scripts_three}
use Rattle.further_asked.proofs.Texts.{Each, left_asks}

-- ---- a text

one_call : (read : Read OwnCall) → length (call_by read) ≤ 1
one_call (Ok call) = omega arith
one_call (Err reason) = omega arith

few_said : (arguments : List (List ℕ)) → Each (λ v. length (calls_by (Some v) arguments) ≤ 1) all_verbs
few_said arguments =
    (omega arith, (one_call _, (one_call _, (one_call _, (one_call _, (one_call _, tt))))))

verbs_long : Each (λ v. 2 ≤ length (verb_text v)) all_verbs
verbs_long =
    (omega arith, (omega arith, (omega arith, (omega arith, (omega arith, (omega arith, tt))))))

calls_many : (parts : List (List (PlacedCall OwnCall)))
    → sum_by (λ placed. 3 * length placed) parts ≡ 3 * length (calls_beside parts)
calls_many [] = refl
calls_many (placed ∷ parts) =
    omega (
      arith,
      sum_by-cons (λ (os : List (PlacedCall OwnCall)). 3 * length os) placed parts,
      calls_many parts,
      length-append (map (λ (o : PlacedCall OwnCall). o.call) placed) (calls_beside parts),
      length-map placed (λ (o : PlacedCall OwnCall). o.call),
    )

abbrev phase_asked : PlainPhase → List (PlacedCall OwnCall) → AskedPhase
phase_asked phase placed = asked_phase_of (phase_with phase placed)

asks_by : (text : List ℕ) (session : JobsSession) (p : ℕ)
    → IsLeft text session
    → asked_on p (asked_phases session) ≤ length text + 1
asks_by text session p h =
    let phases = map_phases phase_with asked_phase_of [] h.parts 0 h.base.phases in
    omega (
      arith,
      ap (λ (s : JobsSession). asked_on p (asked_phases s)) h.is,
      ap (λ (ps : List AskedPhase). asked_on p ps) phases,
      phases_ask phase_asked [] (λ placed. 3 * length placed) p refl
          (λ phase placed. scripts_ask p 0 phase.callers placed) (λ phase placed. refl) h.parts h.base.phases,
      calls_many h.parts,
      text_asks _ h.base p h.spells,
      ap (λ (cs : List OwnCall). length cs) h.calls,
      left_asks verb_text all_verbs calls_by calls_said refl (λ word arguments. refl) (λ arguments. omega arith)
          few_said verbs_long
          text,
    )

pub text_asks_all : (text : List ℕ) (session : JobsSession) (p : ℕ)
    → jobs_in text ≡ Ok session
    → asked_on p (asked_phases session) ≤ length text + 1
text_asks_all text session p h = asks_by text session p (session_left text session h)

-- ---- the blocks of what is asked

pub asked_blocks_are : (phases : List JobsPhase)
    → block_phases (map asked_phase_of phases)
    ≡ map (λ (phase : JobsPhase).
    let b : BlockPhase = record { lines = phase.lines; ticks = phase.ticks; blocks = map block_of phase.callers } in b)
    phases
asked_blocks_are [] = refl
asked_blocks_are (phase ∷ phases) = λ i.
    (let first : BlockPhase =
    record { lines = phase.lines; ticks = phase.ticks; blocks = asked_blocks phase.callers i } in first)
    ∷ asked_blocks_are phases i

flat_blocks : (phases : List JobsPhase)
    → blocks_of (block_phases (map asked_phase_of phases))
    ≡ flat_map (λ (phase : JobsPhase). map block_of phase.callers) phases
flat_blocks [] = refl
flat_blocks (phase ∷ phases) = λ i. asked_blocks phase.callers i ++ flat_blocks phases i

-- ---- what a log passes

flat_scripts : (p : ℕ) (phases : List JobsPhase)
    → scripts_over p (map asked_phase_of phases)
    ≡ map asks_of (flat_map (λ (phase : JobsPhase). filter (λ s. s.port == p) phase.callers) phases)
flat_scripts p [] = refl
flat_scripts p (phase ∷ phases) =
    ap (λ (ss : List (CallerScript ℕ)). ss ++ scripts_over p (map asked_phase_of phases))
    (asked_on_port p phase.callers)
    ∙ (ap (λ (ss : List (CallerScript ℕ)). map asks_of (filter (λ s. s.port == p) phase.callers) ++ ss)
    (flat_scripts p phases)
    ∙ sym (map-append asks_of (filter (λ s. s.port == p) phase.callers)
    (flat_map (λ (x : JobsPhase). filter (λ s. s.port == p) x.callers) phases)))

asked_is : (session : JobsSession) (p c step : ℕ)
    → asked_at p (asked_phases session) c step ≡ option_map any_asks (job_call_at p session c step)
asked_is session p c step =
    ap (λ (bs : List Block). numbered_call (names_on p bs) (scripts_over p (asked_phases session)) c step)
    (flat_blocks session.phases)
    ∙ (ap (λ (ss : List (CallerScript ℕ)). numbered_call (names_on p (blocks_in session)) ss c step)
    (flat_scripts p session.phases)
    ∙ asked_call (names_on p (blocks_in session)) (job_scripts p session) c step)

plain_within : (o : Option JobCall) → All (AsksWithin (option_map any_asks o)) (plain_call o)
plain_within None = All-nil (AsksWithin None)
plain_within (Some (plain call)) =
    All-cons (AsksWithin (Some (call_asks call))) call [] (omega arith) (All-nil (AsksWithin (Some (call_asks call))))
plain_within (Some (further call)) = All-nil (AsksWithin (Some 3))

pub call_within : (session : JobsSession) (p c step : ℕ)
    → All (AsksWithin (asked_at p (asked_phases session) c step)) (plain_call (job_call_at p session c step))
call_within session p c step = subst
    (λ (o : Option ℕ). All (AsksWithin o) (plain_call (job_call_at p session c step))) (sym (asked_is session p c step))
    (plain_within (job_call_at p session c step))

all_three : (session : JobsSession) (p : ℕ) → All AsksThree (scripts_over p (asked_phases session))
all_three session p =
    subst (λ (ss : List (CallerScript ℕ)). All AsksThree ss) (sym (flat_scripts p session.phases))
    (scripts_three (job_scripts p session))

module _ (session : JobsSession) (p : ℕ) where
  abbrev Within : Passing → Type 0
  Within m = All (AsksWithin (asked_at p (asked_phases session) m.caller m.step)) m.calls

  events_within : (latest : ℕ) (es : List JobEvent) → All Within (passings_from (job_call_at p session) latest es)
  events_within latest [] = All-nil Within
  events_within latest (own c step answer ∷ es) = events_within step es
  events_within latest (passed c step answer ∷ es) =
      All-cons Within (record { caller = c; step = step; calls = plain_call (job_call_at p session c step) })
      (passings_from (job_call_at p session) latest es) (call_within session p c step) (events_within latest es)
  events_within latest (passed_down c h ∷ es) =
      All-cons Within (record { caller = c; step = latest; calls = hangs_up h ∷ [] })
      (passings_from (job_call_at p session) latest es)
      (hangup_within (names_on p (blocks_of (block_phases (asked_phases session))))
      (scripts_over p (asked_phases session)) c latest h (all_three session p))
      (events_within latest es)
  events_within latest (sent signal target ∷ es) = events_within latest es

pub logged_within : (session : JobsSession) (log : JobLog) (p : ℕ)
    → AskNoMore p (asked_phases session) (passings_on session log p)
logged_within session log p = events_within session p 0 (events_on p log)
