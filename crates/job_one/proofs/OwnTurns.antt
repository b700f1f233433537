-- A call of a caller's turn that is answered without the port.
use Rattle.std.proofs.Common.{◌≡◌, ◌<◌, ℕ, Bool, true, false, List, [], ◌∷◌, ◌++◌, Option, None, Some}
use Rattle.std.proofs.Common.{length, get_or, if◌then◌else◌, refl, sym, ap, ◌∙◌, subst, arith, append-nil}
use Rattle.std.specs.Prelude.{◌-◌, ◌^◌, slice_get, slice_index_or, unwrap_or}
use Rattle.std.proofs.lemmas.Option.{get_or_from_slice_get, same_Some}
use Rattle.tty_calls.specs.Plain.{PlainCall}
use Rattle.handle_table.specs.declared.HandleState.{HandleState}
use Rattle.tty_terminal.specs.Terminals.{Terminal, opening}
use Rattle.passed_calls.specs.Journals.{Journal}
use Rattle.port_core.specs.Ports.{PortValue, IsPort}
use Rattle.play_base.specs.declared.roles.Role.{Role}
use Rattle.one_thread.specs.declared.after_line.Stand.{Stand}
use Rattle.one_thread.specs.declared.after_line.Turn.TheVariants as turn
use Rattle.job_control.specs.Control.{JobState, controls, leads_holder}
use Rattle.job_control.specs.declared.answers.JobAnswer.{JobAnswer}
use Rattle.job_control.specs.declared.answers.JobAnswer.TheVariants as told
use Rattle.job_control.specs.declared.processes.Judged.{Judged}
use Rattle.job_control.specs.declared.processes.Judged.TheVariants.{Pass, Eio, Stop}
use Rattle.passed_calls.specs.Scripts.{plain, further}
use Rattle.job_text.specs.declared.calls.OwnCall.{OwnCall}
use Rattle.job_text.specs.declared.calls.OwnCall.TheVariants as call
use Rattle.job_text.specs.Events.{JobEvent, own, passed, passed_down, sent, JobLog}
use Rattle.job_text.specs.Sessions.{JobCall}
use Rattle.job_steps.specs.Derived.{IsStepIn}
use Rattle.job_steps.specs.Steps.{ControlOutcome, judged_call, judged_answer, sent_by_stop, spgrp_judged, through}
use Rattle.job_steps.specs.Steps.{outcome_of}
use Rattle.job_one.specs.Desk.{proc_in}
use Rattle.job_one.specs.Events.{DeskState, noted, all_noted, AreSignals, answered_own, stopped}
use Rattle.job_one.specs.Between.{value_at}
use Rattle.job_one.specs.Playing.{DeskValue, IsPlayingJobs}
use Rattle.job_one.specs.Frames.{Frame, IsOwing, IsAtTurn, IsNextTurn, IsOwnCall}
use Rattle.job_one.specs.Taken.{Advances, TakesCall}
use Rattle.job_one.proofs.Begins.{step_in_phase}
use Rattle.job_one.proofs.NextCalls.{phase_is}
use Rattle.job_one.proofs.Turning.{due_goes_on, own_goes_on}

-- any journal names the session's calls
nothing : Journal
nothing = record { entries = []; calls = λ c step. None; opening = opening 0 0 }

-- ---- what is noted changes the log alone

pub all_as : (x : DeskState) (at : ℕ) (es : List JobEvent)
    → all_noted x at es ≡ record x { log = (all_noted x at es).log }
all_as x at [] = refl
all_as x at (e ∷ es) = all_as (noted x at e) at es

-- ---- the processes stay

if_same : (b : Bool) (x y jobs : JobState)
    → x.procs ≡ jobs.procs
    → y.procs ≡ jobs.procs
    → (if b then x else y).procs ≡ jobs.procs
if_same true x y jobs h k = h
if_same false x y jobs h k = k

if_left : (b : Bool) (x y : ControlOutcome) (jobs : JobState)
    → x.left.procs ≡ jobs.procs
    → y.left.procs ≡ jobs.procs
    → (if b then x else y).left.procs ≡ jobs.procs
if_left true x y jobs h k = h
if_left false x y jobs h k = k

through_same : (jobs : JobState) (o : Option HandleState) (dead : JobAnswer) (outcome : ControlOutcome)
    → outcome.left.procs ≡ jobs.procs
    → (through jobs o dead outcome).left.procs ≡ jobs.procs
through_same jobs None dead outcome h = refl
through_same jobs (Some handle) dead outcome h = if_left handle.live _ _ jobs h refl

spgrp_same : (jobs : JobState) (p group : ℕ) (judged : Judged)
    → (spgrp_judged jobs p group judged).left.procs ≡ jobs.procs
spgrp_same jobs p group Pass = if_same _ _ _ jobs refl refl
spgrp_same jobs p group Eio = refl
spgrp_same jobs p group (Stop signal) = refl

own_same : (jobs : JobState) (t : Terminal) (p c : ℕ) (own_call : OwnCall)
    → (outcome_of jobs t p c (further own_call)).left.procs ≡ jobs.procs
own_same jobs t p c (call.Sctty h) = through_same jobs _ _ _ (if_same _ _ _ jobs refl refl)
own_same jobs t p c (call.Notty h) =
    through_same jobs _ _ _ (if_same (controls jobs p) _ _ jobs (if_same (leads_holder jobs p) _ _ jobs refl refl) refl)
own_same jobs t p c (call.Gpgrp h) = through_same jobs _ _ _ refl
own_same jobs t p c (call.Spgrp h group) =
    through_same jobs _ _ _ (if_left (controls jobs p) _ _ jobs (spgrp_same jobs p group _) refl)
own_same jobs t p c call.Exit = refl

pub procs_same : (jobs : JobState) (t : Terminal) (p c : ℕ) (job_call : JobCall)
    → (outcome_of jobs t p c job_call).left.procs ≡ jobs.procs
procs_same jobs t p c (plain call) = refl
procs_same jobs t p c (further own_call) = own_same jobs t p c own_call

module _ (f : Frame) (roles : List Role) where
  -- the player with this log, and these events due
  abbrev Plays : PortValue → Stand → JobLog → DeskValue → Type 0
  Plays v now log d = IsPlayingJobs f.first f.session f.scripts roles f.start log v d f.ticks now

  abbrev due_at : DeskState → List JobEvent → DeskValue
  due_at x es = record { jobs = x.jobs; next = x.next; signals = x.sent; due = es }

  -- signals that are due are sent, one after the other
  all_go : (v : PortValue) (now : Stand) (x : DeskState) (es rest : List JobEvent)
      → AreSignals es
      → f.first.port ≡ x.number
      → Plays v now x.log (due_at x (es ++ rest))
      → Plays v now (all_noted x (length v.journal) es).log (due_at (all_noted x (length v.journal) es) rest)
  all_go v now x [] rest are number h = h
  all_go v now x (own c step answer ∷ es) rest are number h = absurd are
  all_go v now x (passed c step answer ∷ es) rest are number h = absurd are
  all_go v now x (passed_down c handle ∷ es) rest are number h = absurd are
  all_go v now x (sent signal target ∷ es) rest are number h =
      let n = length v.journal in
      let one = due_goes_on f.first f.session f.scripts roles f.start x.log v
      (due_at x (sent signal target ∷ (es ++ rest))) f.ticks now signal target (es ++ rest) h refl in
      all_go v now (noted x n (sent signal target)) es rest are number
      (subst (λ (p : ℕ).
      Plays v now (x.log ++ record { port = p; at = n; event = sent signal target } ∷ []) (due_at x (es ++ rest)))
      number one)

  -- a call is answered, and these signals are sent: the others are still due
  pub own_owing : (v : PortValue) (d x : DeskState) (stand : Stand) (place : ℕ) (job_call : JobCall)
      (es rest : List JobEvent)
      → IsAtTurn f roles v d stand
      → IsNextTurn f roles v stand (turn.Call place)
      → IsPort v
      → (h : IsOwnCall f roles v d place job_call)
      → AreSignals es
      → (outcome_of d.jobs v.terminal (proc_in f.session f.first.port h.role.number)
      h.role.number job_call).due ≡ es ++ rest
      → x
      ≡ all_noted (record (answered_own d (length v.journal) h.role.number
      (outcome_of d.jobs v.terminal (proc_in f.session f.first.port h.role.number) h.role.number
      job_call).answer) {
        jobs =
            (outcome_of d.jobs v.terminal (proc_in f.session f.first.port h.role.number) h.role.number job_call).left;
      })
      (length v.journal) es
      → IsOwing f roles v x stand rest
  own_owing v d x stand place job_call es rest at is port h are due said =
      let c = h.role.number in
      let n = length v.journal in
      let out = outcome_of d.jobs v.terminal (proc_in f.session f.first.port c) c job_call in
      let y : DeskState = record (answered_own d n c out.answer) { jobs = out.left } in
      let in_phase : IsStepIn f.first.port f.session v.terminal.phase c (slice_index_or d.next c 0) =
      subst (λ (k : ℕ). IsStepIn f.first.port f.session k c (slice_index_or d.next c 0))
      (sym (phase_is f roles v d stand [] at))
      (step_in_phase f.first.port f.session f.start.terminal.phase c (slice_index_or d.next c 0) h.from h.to) in
      let on = own_goes_on f.first f.session f.scripts roles f.start d.log v (value_at d) f.ticks stand place h.role
      job_call nothing at.playing is h.at_place port refl at.all_sent h.rests h.known h.has in_phase h.its in
      let on_desk : Plays v stand y.log (due_at y out.due) =
      subst (λ (p : ℕ). Plays v stand
      (d.log ++ record { port = p; at = n; event = own c (slice_index_or d.next c 0) out.answer } ∷ [])
      (due_at y out.due)) at.number on in
      let on_due : Plays v stand y.log (due_at y (es ++ rest)) =
      subst (λ (ds : List JobEvent). Plays v stand y.log (due_at y ds)) due on_desk in
      subst (λ (z : DeskState). IsOwing f roles v z stand rest) (sym said)
      (record {
        number = at.number ∙ sym (ap (λ (z : DeskState). z.number) (all_as y n es));
        playing = all_go v stand y es rest are at.number on_due;
        all_sent = omega (arith, at.all_sent, ap (λ (z : DeskState). z.sent) (all_as y n es));
      })

  pub own_advances : (d x : DeskState) (n c : ℕ) (answer : JobAnswer) (left : JobState) (es : List JobEvent)
      → left.procs ≡ d.jobs.procs
      → x ≡ all_noted (record (answered_own d n c answer) { jobs = left }) n es
      → Advances true c d x
  own_advances d x n c answer left es same said =
      let y : DeskState = record (answered_own d n c answer) { jobs = left } in
      let is : x ≡ record y { log = (all_noted y n es).log } = said ∙ all_as y n es in
      record {
        callers = ap (λ (z : DeskState). z.callers) is;
        procs = ap (λ (z : DeskState). z.jobs.procs) is ∙ same;
        next = ap (λ (z : DeskState). z.next) is;
      }

  -- what a stopped call makes due is a signal at most
  stop_sends : (jobs : JobState) (p : ℕ) (judged : Judged) → AreSignals (sent_by_stop jobs p judged)
  stop_sends jobs p Pass = tt
  stop_sends jobs p Eio = tt
  stop_sends jobs p (Stop signal) = tt

  at_role : (v : PortValue) (d : DeskState) (place : ℕ) (job_call : JobCall) (r : Role)
      → (h : IsOwnCall f roles v d place job_call)
      → get_or roles place r ≡ h.role
  at_role v d place job_call r h = get_or_from_slice_get roles place h.role r h.at_place

  pub known_own : (v : PortValue) (d : DeskState) (place : ℕ) (job_call : JobCall) (r : Role)
      → IsOwnCall f roles v d place job_call
      → (get_or roles place r).number < length d.next
  known_own v d place job_call r h =
      subst (λ (x : Role). x.number < length d.next) (sym (at_role v d place job_call r h)) h.known

  pub few_own : (v : PortValue) (d : DeskState) (place : ℕ) (job_call : JobCall) (r : Role)
      → IsOwnCall f roles v d place job_call
      → slice_index_or d.next (get_or roles place r).number 0 < 2 ^ 32 - 1
  few_own v d place job_call r h =
      subst (λ (x : Role). slice_index_or d.next x.number 0 < 2 ^ 32 - 1) (sym (at_role v d place job_call r h)) h.few

  pub caller_own : (v : PortValue) (d : DeskState) (place : ℕ) (job_call : JobCall) (r : Role)
      → IsOwnCall f roles v d place job_call
      → (get_or roles place r).number < length d.callers
  caller_own v d place job_call r h =
      subst (λ (x : Role). x.number < length d.callers) (sym (at_role v d place job_call r h)) h.caller

  -- at the desk alone
  pub takes_own : (v : PortValue) (d x : DeskState) (stand : Stand) (place : ℕ) (r : Role)
      → slice_get roles place ≡ Some r
      → IsAtTurn f roles v x stand
      → Advances true r.number d x
      → TakesCall f roles place v v d x (record { answered = true; stand = stand })
  takes_own v d x stand place r is at advances = record {
    at = at;
    desk = λ q q_at. subst (λ (z : Role). Advances true z.number d x) (same_Some r q (sym is ∙ q_at)) advances;
    over = λ c over. over;
    gone = omega arith;
  }

  pub stop_at : (v : PortValue) (d x : DeskState) (stand : Stand) (place : ℕ) (call : PlainCall) (r : Role)
      (judged : Judged)
      → IsAtTurn f roles v d stand
      → IsNextTurn f roles v stand (turn.Call place)
      → IsPort v
      → IsOwnCall f roles v d place (plain call)
      → judged ≡ judged_call d.jobs v.terminal (slice_index_or d.callers (get_or roles place r).number 0) call
      → x ≡ stopped d (length v.journal) (get_or roles place r).number judged
      → TakesCall f roles place v v d x (record { answered = true; stand = stand })
  stop_at v d x stand place call r judged at is port h by said =
      let c = h.role.number in
      let n = length v.journal in
      let p : ℕ = proc_in f.session f.first.port c in
      let same = at_role v d place (plain call) r h in
      let judged_is : judged ≡ judged_call d.jobs v.terminal p call =
      by
      ∙ (ap (λ (q : Role). judged_call d.jobs v.terminal (slice_index_or d.callers q.number 0) call) same
      ∙ ap (λ (m : ℕ). judged_call d.jobs v.terminal m call) h.proc) in
      let answer : JobAnswer = unwrap_or (judged_answer (judged_call d.jobs v.terminal p call)) told.Done in
      let es : List JobEvent = sent_by_stop d.jobs p (judged_call d.jobs v.terminal p call) in
      let x_is : x ≡ all_noted (answered_own d n c answer) n es =
      said ∙ (ap (λ (q : Role). stopped d n q.number judged) same
      ∙ (ap (λ (j : Judged). stopped d n c j) judged_is
      ∙ ap
      (λ (m : ℕ).
      all_noted (answered_own d n c answer) n (sent_by_stop d.jobs m (judged_call d.jobs v.terminal p call))) h.proc))
      in
      takes_own v d x stand place h.role h.at_place
      (own_owing v d x stand place (plain call) es [] at is port h
      (stop_sends d.jobs p (judged_call d.jobs v.terminal p call)) (sym (append-nil es)) x_is)
      (own_advances d x n c answer d.jobs es refl x_is)
