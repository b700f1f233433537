-- A caller's next call: whether it has begun it, and what its turn with it needs.
use Rattle.std.proofs.Common.{◌≡◌, ◌≤◌, ◌<◌, ◌⊎◌, inl, inr, ℕ, ◌+◌, ◌==◌, Bool, true, false, List}
use Rattle.std.proofs.Common.{[], ◌∷◌, ◌++◌, Option, None, Some, IsTrue, length, filter, flat_map}
use Rattle.std.proofs.Common.{get_or, if◌then◌else◌, refl, sym, ◌∙◌, subst, arith, append-nil}
use Rattle.std.specs.Prelude.{◌-◌, ◌^◌, All, MatchBool, not, is_none, slice_get, slice_index_or, sum}
use Rattle.std.specs.Str.{bytes_eq}
use Rattle.std.proofs.lemmas.Bool.{false≢true}
use Rattle.std.proofs.lemmas.Option.{get_or_from_slice_get, slice_get_within}
use Rattle.std.proofs.lemmas.List.Elements.{All-append, All-cons, All-head, All-nil, All-tail}
use Rattle.tty_calls.specs.Plain.{PlainCall}
use Rattle.tty_terminal.specs.Terminals.{opening}
use Rattle.passed_calls.specs.Blocks.{names_on}
use Rattle.passed_calls.specs.Derived.{Passing, AreInSteps, by_caller}
use Rattle.passed_calls.specs.Journals.{Journal}
use Rattle.passed_calls.specs.Scripts.{CallerScript, plain, further, calls_named}
use Rattle.passed_calls.specs.Within.{IsAnyCallWithin, AreCallsWithin}
use Rattle.port_core.specs.Ports.{PortValue, call_in}
use Rattle.one_thread.specs.Turns.{Plays}
use Rattle.play_base.specs.declared.roles.Role.{Role}
use Rattle.one_thread.specs.declared.after_line.Stand.{Stand}
use Rattle.one_thread.specs.declared.after_line.Turn.TheVariants as turn
use Rattle.one_thread.proofs.Ready.{role_known}
use Rattle.job_control.specs.declared.processes.Judged.{Judged}
use Rattle.job_control.specs.declared.processes.Judged.TheVariants.{Pass}
use Rattle.job_text.specs.declared.calls.OwnCall.{OwnCall}
use Rattle.job_text.specs.Events.{JobEvent}
use Rattle.job_text.specs.Sessions.{JobCall, JobsPhase, JobsSession, blocks_in}
use Rattle.job_steps.specs.Derived.{block_phases, job_call_at, scripts_over, passings_on}
use Rattle.job_steps.specs.Steps.{Port, JobsState, WentToPort, is_own, judged_call, judged_answer}
use Rattle.order_laws.specs.Passed.{begin_of}
use Rattle.order_laws.specs.Witness.{scene_on}
use Rattle.order_laws.specs.Later.{IsLater}
use Rattle.job_one.specs.Later.{port_with}
use Rattle.job_one.specs.Desk.{call_after}
use Rattle.job_one.specs.Events.{DeskState}
use Rattle.job_one.specs.Between.{value_at}
use Rattle.order_laws.specs.Begun.{begun_at}
use Rattle.job_one.specs.Playing.{next_passing}
use Rattle.job_one.specs.Frames.{Frame, IsOwing, IsAtTurn, IsNextTurn, IsForPort, IsOwnCall}
use Rattle.job_one.specs.AfterLine.{IsFrameWithin}
use Rattle.job_one.specs.Taken.{GoesToPort, IsNextOf}
use Rattle.order_laws.proofs.Steps.{tail, tail_one}
use Rattle.job_one.proofs.Turning.{call_begins, call_continues}

-- ---- the calls of a session keep the limits

all_got : {X : Type 0} (P : X → Type 0) (xs : List X) (i : ℕ) (x : X) → All P xs → slice_get xs i ≡ Some x → P x
all_got P xs i x all is = subst P (get_or_from_slice_get xs i x x is) (all i x (slice_get_within xs i x is))

if_all : (b : Bool) (calls : List JobCall) → All IsAnyCallWithin calls → All IsAnyCallWithin (if b then calls else [])
if_all true calls h = h
if_all false calls h = All-nil (λ (x : JobCall). IsAnyCallWithin x)

all_named : (name : List ℕ) (scripts : List (CallerScript JobCall))
    → All (λ s. All IsAnyCallWithin s.calls) scripts
    → All IsAnyCallWithin (flat_map (λ s. if bytes_eq s.name name then s.calls else []) scripts)
all_named name [] h = All-nil (λ (x : JobCall). IsAnyCallWithin x)
all_named name (s ∷ ss) h =
    All-append (λ (x : JobCall). IsAnyCallWithin x) (if bytes_eq s.name name then s.calls else [])
    (flat_map (λ s. if bytes_eq s.name name then s.calls else []) ss)
    (if_all (bytes_eq s.name name) s.calls
    (All-head (λ (x : CallerScript JobCall). All IsAnyCallWithin x.calls) s ss h))
    (all_named name ss (All-tail (λ (x : CallerScript JobCall). All IsAnyCallWithin x.calls) s ss h))

all_numbered : (name : Option (List ℕ)) (scripts : List (CallerScript JobCall))
    → All (λ s. All IsAnyCallWithin s.calls) scripts
    → All IsAnyCallWithin (calls_named name scripts)
all_numbered None scripts h = All-nil (λ (x : JobCall). IsAnyCallWithin x)
all_numbered (Some name) scripts h = all_named name scripts h

kept_or : (b : Bool) (s : CallerScript JobCall) (ss : List (CallerScript JobCall))
    → All IsAnyCallWithin s.calls
    → All (λ s. All IsAnyCallWithin s.calls) ss
    → All (λ s. All IsAnyCallWithin s.calls) (if b then s ∷ ss else ss)
kept_or true s ss h k = All-cons (λ (x : CallerScript JobCall). All IsAnyCallWithin x.calls) s ss h k
kept_or false s ss h k = k

all_filtered : (p : ℕ) (scripts : List (CallerScript JobCall))
    → All (λ s. All IsAnyCallWithin s.calls) scripts
    → All (λ s. All IsAnyCallWithin s.calls) (filter (λ s. s.port == p) scripts)
all_filtered p [] h = All-nil (λ (x : CallerScript JobCall). All IsAnyCallWithin x.calls)
all_filtered p (s ∷ ss) h =
    kept_or (s.port == p) s (filter (λ s. s.port == p) ss)
    (All-head (λ (x : CallerScript JobCall). All IsAnyCallWithin x.calls) s ss h)
    (all_filtered p ss (All-tail (λ (x : CallerScript JobCall). All IsAnyCallWithin x.calls) s ss h))

all_over : (p : ℕ) (phases : List JobsPhase)
    → All (λ phase. AreCallsWithin phase.callers) phases
    → All (λ s. All IsAnyCallWithin s.calls) (flat_map (λ phase. filter (λ s. s.port == p) phase.callers) phases)
all_over p [] h = All-nil (λ (x : CallerScript JobCall). All IsAnyCallWithin x.calls)
all_over p (phase ∷ phases) h =
    All-append (λ (x : CallerScript JobCall). All IsAnyCallWithin x.calls) (filter (λ s. s.port == p) phase.callers)
    (flat_map (λ phase. filter (λ s. s.port == p) phase.callers) phases)
    (all_filtered p phase.callers (All-head (λ (x : JobsPhase). AreCallsWithin x.callers) phase phases h))
    (all_over p phases (All-tail (λ (x : JobsPhase). AreCallsWithin x.callers) phase phases h))

pub call_within : (p : ℕ) (session : JobsSession) (c step : ℕ) (call : JobCall)
    → All (λ phase. AreCallsWithin phase.callers) session.phases
    → job_call_at p session c step ≡ Some call
    → IsAnyCallWithin call
call_within p session c step call within is =
    all_got (λ (x : JobCall). IsAnyCallWithin x)
    (calls_named (slice_get (names_on p (blocks_in session)) c) (scripts_over p session)) step call
    (all_numbered (slice_get (names_on p (blocks_in session)) c) (scripts_over p session)
    (all_over p session.phases within)) is

-- ---- a call that was begun is for the port

abbrev IsPlainCall : Option JobCall → Type 0
IsPlainCall None = ⊥
IsPlainCall (Some (plain call)) = Unit {0}
IsPlainCall (Some (further call)) = ⊥

goes_plain : (port : Port) (s : JobsState) (place c : ℕ) (o : Option JobCall) → WentToPort port s place c o
    → IsPlainCall o
goes_plain port s place c None h = h
goes_plain port s place c (Some (plain call)) h = tt
goes_plain port s place c (Some (further call)) h = h

-- the journal so far
abbrev own_journal : PortValue → Journal
own_journal v = record { entries = v.journal; calls = call_in v.kept; opening = opening (sum v.counts) v.flip.capacity }

own_later : (v : PortValue) → IsLater v (own_journal v)
own_later v = record { opens = refl; calls = λ c step call is. is; rest = []; entries = sym (append-nil v.journal) }

in_last_step : (from end : ℕ) (ms : List Passing) (m : Passing) → AreInSteps from end (ms ++ m ∷ []) → m.step < end
in_last_step from end [] m h = h.1
in_last_step from end (x ∷ ms) m h = in_last_step x.step end ms m h.2

test_cases : (b : Bool) → (b ≡ true) ⊎ (b ≡ false)
test_cases true = inl refl
test_cases false = inr refl

module _ (f : Frame) (roles : List Role) where
  abbrev p : ℕ
  p = f.first.port

  -- a scene that is played
  pub plays_it : (v : PortValue) (d : DeskState) (stand : Stand) (due : List JobEvent)
      → (h : IsOwing f roles v d stand due)
      → Plays (scene_on p h.playing.playing.has.session) (f.scripts (scene_on p h.playing.playing.has.session))
      roles v stand
  plays_it v d stand due h = (h.playing.playing.each.each (scene_on p h.playing.playing.has.session)
      h.playing.playing.has.like h.playing.playing.has.agrees).plays

  -- it is the phase behind whose line the player began
  pub phase_is : (v : PortValue) (d : DeskState) (stand : Stand) (due : List JobEvent)
      → IsOwing f roles v d stand due
      → v.terminal.phase ≡ f.start.terminal.phase
  phase_is v d stand due h = (h.playing.playing.each.each (scene_on p h.playing.playing.has.session)
      h.playing.playing.has.like h.playing.playing.has.agrees).phase

  -- the flip buffer's ring stays
  pub ring_is : (v : PortValue) (d : DeskState) (stand : Stand) (due : List JobEvent)
      → IsOwing f roles v d stand due
      → v.flip.ring ≡ f.start.flip.ring
  ring_is v d stand due h = (h.playing.playing.each.each (scene_on p h.playing.playing.has.session)
      h.playing.playing.has.like h.playing.playing.has.agrees).ring

  begun_plain : (v : PortValue) (d : DeskState) (stand : Stand) (c : ℕ)
      → IsAtTurn f roles v d stand
      → begun_at v c ≡ true
      → IsPlainCall (call_after f.session p d.next c)
  begun_plain v d stand c h begun =
      let desk = h.playing.desk in
      let gone = desk.at.gone_on c begun in
      let goes = gone.goes_on (own_journal v) (own_later v) in
      subst (λ (ns : List ℕ). IsPlainCall (call_after f.session p ns c)) desk.next_are
      (goes_plain (port_with p f.session (own_journal v)) desk.state gone.place c
      (call_after f.session p desk.state.next c) goes)

  -- who comes to a call of job control has begun none
  pub rests_own : (v : PortValue) (d : DeskState) (stand : Stand) (c : ℕ) (own_call : OwnCall)
      → IsAtTurn f roles v d stand
      → call_after f.session p d.next c ≡ Some (further own_call)
      → begun_at v c ≡ false
  rests_own v d stand c own_call h has = elim (test_cases (begun_at v c)) [
    | inl begun ↦ absurd (subst IsPlainCall has (begun_plain v d stand c h begun))
    | inr rest ↦ rest
  ]

  -- who has no call left in the phase has begun none
  pub rests_last : (v : PortValue) (d : DeskState) (stand : Stand) (c : ℕ)
      → IsAtTurn f roles v d stand
      → slice_index_or d.next c 0 ≡ begin_of p (block_phases f.session) (f.start.terminal.phase + 1) c
      → begun_at v c ≡ false
  rests_last v d stand c h ended = elim (test_cases (begun_at v c)) [
    | inl begun ↦
        let m = next_passing f.session p (value_at d) c in
        let ms = by_caller c (passings_on f.session d.log p) in
        let up_to : AreInSteps 0 (begin_of p (block_phases f.session) (f.start.terminal.phase + 1) c)
        (ms ++ tail (begun_at v c) m) =
        subst (λ (k : ℕ). AreInSteps 0 (begin_of p (block_phases f.session) (k + 1) c) (ms ++ tail (begun_at v c) m))
        (phase_is v d stand [] h) (h.playing.playing.up_to c) in
        let in_steps : AreInSteps 0 (begin_of p (block_phases f.session) (f.start.terminal.phase + 1) c)
        (ms ++ m ∷ []) =
        subst (λ (xs : List Passing).
        AreInSteps 0 (begin_of p (block_phases f.session) (f.start.terminal.phase + 1) c) (ms ++ xs))
        (tail_one (begun_at v c) m begun) up_to in
        absurd (omega (
          arith,
          in_last_step 0 (begin_of p (block_phases f.session) (f.start.terminal.phase + 1) c) ms m in_steps,
          ended,
        ))
    | inr rest ↦ rest
  ]

  -- ---- what its turn needs

  pub for_port : (v : PortValue) (d : DeskState) (stand : Stand) (place : ℕ) (call : PlainCall)
      → IsFrameWithin f
      → IsAtTurn f roles v d stand
      → IsNextTurn f roles v stand (turn.Call place)
      → (h : IsNextOf f roles d place (plain call))
      → GoesToPort true (begun_at v h.role.number)
      (judged_call d.jobs v.terminal (slice_index_or d.callers h.role.number 0) call)
      → IsForPort f roles v d stand place call
  for_port v d stand place call frame at is h goes =
      let c = h.role.number in
      let phase = phase_is v d stand [] at in
      record {
        role = h.role;
        at_place = h.at_place;
        known = h.known;
        few = h.few;
        has = h.has;
        from = h.from;
        to = h.to;
        goes_on = λ rest. subst (λ (q : ℕ). judged_call d.jobs v.terminal q call ≡ Pass) h.proc (goes rest);
        calling = elim (test_cases (begun_at v c)) [
          | inl begun ↦ call_continues f.first f.session f.scripts roles f.start d.log v (value_at d) f.ticks
              stand place h.role call at.playing h.at_place begun h.has
          | inr rest ↦ call_begins f.first f.session f.scripts roles f.start d.log v (value_at d) f.ticks stand place
              h.role call at.playing is h.at_place rest frame.of_blocks frame.blocks
              (call_within p f.session c (slice_index_or d.next c 0) (plain call) frame.within.calls h.has) h.has
              (subst (λ (k : ℕ). begin_of p (block_phases f.session) k c ≤ slice_index_or d.next c 0) (sym phase)
              h.from)
              (subst (λ (k : ℕ). slice_index_or d.next c 0 < begin_of p (block_phases f.session) (k + 1) c) (sym phase)
              h.to)
        ];
      }

  abbrev pub own_of : (v : PortValue) (d : DeskState) (place : ℕ) (call : JobCall) → (h : IsNextOf f roles d place call)
      → begun_at v h.role.number ≡ false
      → IsTrue (is_own d.jobs v.terminal (slice_index_or d.callers h.role.number 0) call)
      → IsOwnCall f roles v d place call
  own_of v d place call h rest its = record {
    role = h.role;
    at_place = h.at_place;
    known = h.known;
    few = h.few;
    rests = rest;
    caller = h.caller;
    proc = h.proc;
    has = h.has;
    from = h.from;
    to = h.to;
    its = subst (λ (q : ℕ). IsTrue (is_own d.jobs v.terminal q call)) h.proc its;
  }

  -- a call that is stopped
  pub stopped_call : (v : PortValue) (d : DeskState) (place : ℕ) (call : PlainCall)
      → (h : IsNextOf f roles d place (plain call))
      → GoesToPort false (begun_at v h.role.number)
      (judged_call d.jobs v.terminal (slice_index_or d.callers h.role.number 0) call)
      → IsOwnCall f roles v d place (plain call)
  stopped_call v d place call h stops = own_of v d place (plain call) h stops.0 stops.1

  -- a call of job control
  abbrev pub own_call_of : (v : PortValue) (d : DeskState) (stand : Stand) (place : ℕ) (own_call : OwnCall)
      → IsAtTurn f roles v d stand
      → (h : IsNextOf f roles d place (further own_call))
      → IsOwnCall f roles v d place (further own_call)
  own_call_of v d stand place own_call at h =
      own_of v d place (further own_call) h (rests_own v d stand h.role.number own_call at h.has) refl

  -- ---- the role at the place

  at_next : (d : DeskState) (place : ℕ) (call : JobCall) (r : Role) → (h : IsNextOf f roles d place call)
      → get_or roles place r ≡ h.role
  at_next d place call r h = get_or_from_slice_get roles place h.role r h.at_place

  pub known_next : (d : DeskState) (place : ℕ) (call : JobCall) (r : Role)
      → IsNextOf f roles d place call
      → (get_or roles place r).number < length d.next
  known_next d place call r h = subst (λ (x : Role). x.number < length d.next) (sym (at_next d place call r h)) h.known

  pub few_next : (d : DeskState) (place : ℕ) (call : JobCall) (r : Role)
      → IsNextOf f roles d place call
      → slice_index_or d.next (get_or roles place r).number 0 < 2 ^ 32 - 1
  few_next d place call r h =
      subst (λ (x : Role). slice_index_or d.next x.number 0 < 2 ^ 32 - 1) (sym (at_next d place call r h)) h.few

  pub caller_next : (d : DeskState) (place : ℕ) (call : JobCall) (r : Role)
      → IsNextOf f roles d place call
      → (get_or roles place r).number < length d.callers
  caller_next d place call r h =
      subst (λ (x : Role). x.number < length d.callers) (sym (at_next d place call r h)) h.caller

  pub exists_next : (d : DeskState) (place : ℕ) (call : JobCall) (r : Role)
      → IsNextOf f roles d place call
      → slice_index_or d.callers (get_or roles place r).number 0 < length d.jobs.procs
  exists_next d place call r h = subst (λ (x : Role). slice_index_or d.callers x.number 0 < length d.jobs.procs)
      (sym (at_next d place call r h)) h.exists

  pub port_knows : (v : PortValue) (d : DeskState) (stand : Stand) (place : ℕ) (call : JobCall) (r : Role)
      → IsAtTurn f roles v d stand
      → IsNextOf f roles d place call
      → (get_or roles place r).number < sum v.counts
  port_knows v d stand place call r at h =
      subst (λ (x : Role). x.number < sum v.counts) (sym (at_next d place call r h))
      (role_known (scene_on p at.playing.playing.has.session) (f.scripts (scene_on p at.playing.playing.has.session))
      roles v stand place h.role (plays_it v d stand [] at) h.at_place)

  pub goes_at : (goes : Bool) (v : PortValue) (d : DeskState) (place : ℕ) (call : PlainCall) (r : Role) → (b : Bool)
      → b ≡ goes
      → (h : IsNextOf f roles d place (plain call))
      → GoesToPort b (begun_at v (get_or roles place r).number)
      (judged_call d.jobs v.terminal (slice_index_or d.callers (get_or roles place r).number 0) call)
      → GoesToPort goes (begun_at v h.role.number)
      (judged_call d.jobs v.terminal (slice_index_or d.callers h.role.number 0) call)
  goes_at goes v d place call r b is h goes_b =
      subst (λ (x : Role).
      GoesToPort goes (begun_at v x.number) (judged_call d.jobs v.terminal (slice_index_or d.callers x.number 0) call))
      (at_next d place (plain call) r h)
      (subst (λ (x : Bool). GoesToPort x (begun_at v (get_or roles place r).number)
      (judged_call d.jobs v.terminal (slice_index_or d.callers (get_or roles place r).number 0) call)) is goes_b)

-- whether a call goes to the port
pub goes_begun : (begun : Bool) (judged : Judged) → begun ≡ true → GoesToPort true begun judged
goes_begun begun judged is rest = absurd (false≢true (sym rest ∙ is))

pub goes_judged : (goes begun : Bool) (judged : Judged)
    → begun ≡ false
    → MatchBool goes (judged ≡ Pass) (IsTrue (not (is_none (judged_answer judged))))
    → GoesToPort goes begun judged
goes_judged true begun judged rest h = λ e. h
goes_judged false begun judged rest h = (rest, h)
