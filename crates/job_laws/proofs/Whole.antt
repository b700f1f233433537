-- What is known of a whole run of a port of processes, with the log beside it.
use Rattle.std.proofs.Common.{◌≡◌, ◌≤◌, ◌<◌, ◌⊎◌, inl, inr, ℕ, ◌+◌, ◌==◌, ◌&&◌, Bool, true, false}
use Rattle.std.proofs.Common.{not, List, [], ◌∷◌, ◌++◌, Option, None, Some, length, take, drop}
use Rattle.std.proofs.Common.{if◌then◌else◌, refl, sym, ap, ◌∙◌, arith, length-append}
use Rattle.std.specs.Prelude.{slice_get, nat_le, flat_map}
use Rattle.std.specs.Str.{bytes_eq}
use Rattle.std.specs.Prelude.{filter}
use Rattle.std.proofs.lemmas.List.{take-append-drop, take-take}
use Rattle.std.proofs.lemmas.List.Concat.{flat_map-append}
use Rattle.tty_calls.specs.declared.journals.Who.{Who}
use Rattle.tty_calls.specs.declared.journals.Who.TheVariants.{Caller, Flusher, Line, Clock, Session}
use Rattle.tty_calls.specs.Plain.{PlainCall, PlainEvent, answered, parted, waited, flushed, ticked, line_ended}
use Rattle.tty_calls.specs.Plain.{clock_ended, caller_ended, phase_ended, hung_up, PlainEntry}
use Rattle.tty_calls.specs.Sessions.{PlainSession, scripts_over, names_of, call_at}
use Rattle.tty_terminal.specs.Terminals.{Terminal}
use Rattle.tty_terminal.specs.Steps.{nothing_to_flush}
use Rattle.tty_terminal.specs.Runs.{is_of_call}
use Rattle.legal_runs.specs.Legal.{first_step, steps_in}
use Rattle.legal_runs.specs.Order.{Place, first_place as place_first, turn, turn_after, turn_by_rank, turn_after_event}
use Rattle.legal_runs.specs.Order.{AreInTurn, first_of, can_go_on, is_waiting, callers_of, is_of_consoles, due}
use Rattle.passed_calls.specs.Blocks.{names_on}
use Rattle.passed_calls.specs.Scripts.{CallerScript, calls_named}
use Rattle.job_text.specs.Sessions.{JobCall, JobsPhase, JobsSession, blocks_in}
use Rattle.job_steps.specs.Derived.{scripts_over as job_scripts_over, steps_before, IsStepIn}
use Rattle.job_steps.specs.Steps.{JobsState, next_of, raised_at}
use Rattle.job_one.specs.Played.{port_in}
use Rattle.order_laws.proofs.Journeys.{answer_count, answers_in}
use Rattle.logged_laws.proofs.Entries.{one_phase}
use Rattle.logged_laws.proofs.TwoLogs.{WholeRun}
use Rattle.job_laws.proofs.Steps.{job_log}
use Rattle.order_laws.proofs.Comings.{IsPartBy}

-- ---- the steps of a caller, phase by phase

-- how many calls a caller has in all
abbrev pub all_steps : ℕ → JobsSession → ℕ → ℕ
all_steps p session c =
    length (calls_named (slice_get (names_on p (blocks_in session)) c) (job_scripts_over p session))

named_both : (name : Option (List ℕ)) (xs ys : List (CallerScript JobCall))
    → length (calls_named name (xs ++ ys)) ≡ length (calls_named name xs) + length (calls_named name ys)
named_both None xs ys = omega arith
named_both (Some name) xs ys =
    let mine : CallerScript JobCall → List JobCall = λ s. if bytes_eq s.name name then s.calls else [] in
    ap (λ (cs : List JobCall). length cs) (flat_map-append mine xs ys)
    ∙ length-append (flat_map mine xs) (flat_map mine ys)

-- the scripts of a port in some phases
abbrev over : ℕ → List JobsPhase → List (CallerScript JobCall)
over p phases = flat_map (λ phase. filter (λ s. s.port == p) phase.callers) phases

count_few : (p : ℕ) (name : Option (List ℕ)) (phases : List JobsPhase) (k : ℕ)
    → length (calls_named name (over p (take k phases))) ≤ length (calls_named name (over p phases))
count_few p name phases k =
    let mine : JobsPhase → List (CallerScript JobCall) = λ phase. filter (λ s. s.port == p) phase.callers in
    let parts : over p phases ≡ over p (take k phases) ++ over p (drop k phases) =
    ap (λ (ps : List JobsPhase). over p ps) (sym (take-append-drop k phases))
    ∙ flat_map-append mine (take k phases) (drop k phases) in
    let all = ap (λ (ss : List (CallerScript JobCall)). length (calls_named name ss)) parts in
    let both = named_both name (over p (take k phases)) (over p (drop k phases)) in
    omega (arith, all, both)

pub steps_few : (p : ℕ) (session : JobsSession) (k c : ℕ) → steps_before p session k c ≤ all_steps p session c
steps_few p session k c = count_few p (slice_get (names_on p (blocks_in session)) c) session.phases k

steps_rise : (p : ℕ) (session : JobsSession) (j k c : ℕ)
    → j ≤ k
    → steps_before p session j c ≤ steps_before p session k c
steps_rise p session j k c le =
    let name = slice_get (names_on p (blocks_in session)) c in
    let few = count_few p name (take k session.phases) j in
    let same = ap (λ (ps : List JobsPhase). length (calls_named name (over p ps))) (take-take j k session.phases le) in
    omega (arith, few, same)

-- a step is of one phase
pub step_phase : (p : ℕ) (session : JobsSession) (j k c step : ℕ)
    → IsStepIn p session j c step
    → IsStepIn p session k c step
    → j ≡ k
step_phase p session j k c step h g =
    one_phase (λ i. steps_before p session i c) j k step (λ a b le. steps_rise p session a b c le) h.from h.to g.from
    g.to

-- ---- a whole run

pub record Whole (p : ℕ) (session : JobsSession) (played : PlainSession) (journal : List PlainEntry) (last : Terminal)
    (end : JobsState) : Type 0 where
  pub run : WholeRun (job_log p session) p played journal last end
  pub bounds : (k c : ℕ) → first_step p played k c + steps_in p played k c ≤ answers_in c journal
  pub names : names_of (scripts_over p played.phases) ≡ names_on p (blocks_in session)
  pub answered : (c : ℕ) → c < length (names_on p (blocks_in session)) → next_of end c ≡ all_steps p session c
  pub turns : AreInTurn p played (place_first p played) journal
  pub ends : last.phase ≡ length played.phases
  pub sent : end.signals
      ≡ length (raised_at (port_in session played p journal).journal (length journal))

-- ---- whose turn it is

test_case : (b : Bool) (d : ℕ) (rest : Who) (c : ℕ)
    → (if b then Caller d else rest) ≡ Caller c
    → ((b ≡ true) × (d ≡ c)) ⊎ (rest ≡ Caller c)
test_case true d rest c e = inl (refl, cc)
test_case false d rest c e = inr e

first_case : (f : ℕ → Bool) (cs : List ℕ) (other : Who) (c : ℕ)
    → first_of f cs other ≡ Caller c
    → (f c ≡ true) ⊎ (other ≡ Caller c)
first_case f [] other c e = inr e
first_case f (d ∷ ds) other c e = elim (test_case (f d) d (first_of f ds other) c e) [
  | inl here ↦ inl (sym (ap f here.1) ∙ here.0)
  | inr rest ↦ first_case f ds other c rest
]

-- it goes on, or waits
rank_case : (first : Bool) (calls : ℕ → ℕ → Option PlainCall) (callers : List ℕ) (t : Terminal) (c : ℕ)
    → turn_by_rank first calls callers t ≡ Caller c
    → (can_go_on calls t c ≡ true) ⊎ (is_waiting t c ≡ true)
rank_case first calls callers t c e =
    by_tests (not (nothing_to_flush t)) (first && not t.clock_over) (not t.clock_over) e
  where
    by_tests : (a b d : Bool)
        → (if a then Flusher
        else if b then Clock
        else first_of (can_go_on calls t) callers (if d then Clock else first_of (is_waiting t) callers Session))
        ≡ Caller c
        → (can_go_on calls t c ≡ true) ⊎ (is_waiting t c ≡ true)
    by_tests true b d e = absurd (cc)
    by_tests false true d e = absurd (cc)
    by_tests false false true e = elim (first_case (can_go_on calls t) callers Clock c e) [
      | inl go ↦ inl go
      | inr never ↦ absurd (cc)
    ]
    by_tests false false false e =
        elim (first_case (can_go_on calls t) callers (first_of (is_waiting t) callers Session) c e) [
          | inl go ↦ inl go
          | inr other ↦ elim (first_case (is_waiting t) callers Session c other) [
            | inl waits ↦ inr waits
            | inr never ↦ absurd (cc)
          ]
        ]

after_case : (before : Option PlainEntry) (other : Who) (c : ℕ)
    → turn_after before other ≡ Caller c
    → IsPartBy c before ⊎ (other ≡ Caller c)
after_case None other c e = inr e
after_case (Some e) other c turned = by_event e.event refl turned
  where
    by_event : (event : PlainEvent)
        → e.event ≡ event
        → turn_after_event e.event e.who other ≡ Caller c
        → IsPartBy c (Some e) ⊎ (other ≡ Caller c)
    by_event (answered a dropped) is t = inr (sym (ap (λ (x : PlainEvent). turn_after_event x e.who other) is) ∙ t)
    by_event (parted n) is t = inl (record {
      entry = e;
      is = refl;
      who = sym (ap (λ (x : PlainEvent). turn_after_event x e.who other) is) ∙ t;
      of_call = ap is_of_call is;
      none = ap answer_count is;
    })
    by_event waited is t = inr (sym (ap (λ (x : PlainEvent). turn_after_event x e.who other) is) ∙ t)
    by_event (flushed chars) is t = inr (sym (ap (λ (x : PlainEvent). turn_after_event x e.who other) is) ∙ t)
    by_event ticked is t = inr (sym (ap (λ (x : PlainEvent). turn_after_event x e.who other) is) ∙ t)
    by_event (line_ended n) is t = inr (sym (ap (λ (x : PlainEvent). turn_after_event x e.who other) is) ∙ t)
    by_event clock_ended is t = inr (sym (ap (λ (x : PlainEvent). turn_after_event x e.who other) is) ∙ t)
    by_event caller_ended is t = inr (sym (ap (λ (x : PlainEvent). turn_after_event x e.who other) is) ∙ t)
    by_event phase_ended is t = inr (sym (ap (λ (x : PlainEvent). turn_after_event x e.who other) is) ∙ t)
    by_event (hung_up dropped) is t = inr (sym (ap (λ (x : PlainEvent). turn_after_event x e.who other) is) ∙ t)

pub turn_case : (p : ℕ) (session : PlainSession) (s : Place) (c : ℕ)
    → turn p session s ≡ Caller c
    → IsPartBy c s.before ⊎ ((can_go_on (call_at p session) s.terminal c ≡ true) ⊎ (is_waiting s.terminal c ≡ true))
turn_case p session s c e =
    by_tests (nat_le (length session.phases) s.terminal.phase) (not s.terminal.line_over)
    (length (due p session s) == 0) e
  where
    by_tests : (a b d : Bool)
        → (if a then Session
        else if b then (if d then Line else Flusher)
        else turn_after s.before (turn_by_rank (is_of_consoles session) (call_at p session)
        (callers_of p session s.terminal.phase) s.terminal))
        ≡ Caller c
        → IsPartBy c s.before ⊎ ((can_go_on (call_at p session) s.terminal c ≡ true) ⊎ (is_waiting s.terminal c ≡ true))
    by_tests true b d e = absurd (cc)
    by_tests false true true e = absurd (cc)
    by_tests false true false e = absurd (cc)
    by_tests false false d e = elim (after_case s.before _ c e) [
      | inl part ↦ inl part
      | inr ranked ↦ inr (rank_case (is_of_consoles session) (call_at p session)
          (callers_of p session s.terminal.phase) s.terminal c ranked)
    ]
