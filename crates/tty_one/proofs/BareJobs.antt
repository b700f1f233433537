-- Job control does not look at the room behind the names of processes: a log is one of a session as well as of the bare
-- session.
use Rattle.std.proofs.Common.{◌≡◌, ℕ, zero, suc, ◌==◌, ◌&&◌, ◌||◌, Bool, true, false, not, List, []}
use Rattle.std.proofs.Common.{◌∷◌}
use Rattle.std.proofs.Common.{Option, None, Some, Err, length, map, if◌then◌else◌, refl, sym, ap, ◌∙◌}
use Rattle.std.proofs.Common.{subst}
use Rattle.std.specs.Prelude.{is_none, nat_le, ok_or, option_map, position, replicate, slice_get}
use Rattle.std.specs.Prelude.{slice_index_or}
use Rattle.std.specs.Prelude.{slice_set, unwrap_or}
use Rattle.std.specs.List.{list_any, range_with_len}
use Rattle.std.specs.Option.{option_map_or, option_to_list}
use Rattle.std.proofs.lemmas.List.{length-map}
use Rattle.tty_base.specs.declared.counters.Errno.TheVariants.{EIO, ENOTTY}
use Rattle.tty_modes.specs.Settings.{has_flag}
use Rattle.tty_modes.specs.declared.places.TheConstants.{TOSTOP}
use Rattle.tty_calls.specs.Plain.{PlainCall, handle_of, opens, closes, reads, writes, gets_modes, sets_modes, gets_disc}
use Rattle.tty_calls.specs.Plain.{sets_disc, flushes, steers, counts_input, counts_output, excludes, admits}
use Rattle.tty_calls.specs.Plain.{drains, gets_counts, hangs_up, sends_packet, takes_packet, PlainAnswer, done}
use Rattle.tty_calls.specs.Plain.{count_is, got, number_is, modes_are, counts_are, refused, idle}
use Rattle.handle_table.specs.declared.HandleState.{HandleState}
use Rattle.handle_table.specs.Handles.{is_live}
use Rattle.tty_terminal.specs.Terminals.{Terminal, handle_at}
use Rattle.job_control.specs.declared.processes.Proc.{Proc}
use Rattle.job_control.specs.declared.processes.JobAct.{JobAct}
use Rattle.job_control.specs.declared.processes.JobAct.TheVariants.{Read, Write, Change}
use Rattle.job_control.specs.declared.processes.JobRefusal.{JobRefusal}
use Rattle.job_control.specs.declared.processes.JobRefusal.TheVariants as refusals
use Rattle.job_control.specs.declared.processes.JobSignal.TheVariants.{Ttin, Ttou, Hup, Cont}
use Rattle.job_control.specs.declared.processes.Judged.{Judged}
use Rattle.job_control.specs.declared.processes.Judged.TheVariants.{Pass, Eio, Stop}
use Rattle.job_control.specs.declared.answers.JobAnswer.{JobAnswer}
use Rattle.job_control.specs.declared.answers.JobAnswer.TheVariants as told
use Rattle.job_control.specs.declared.answers.Target.TheVariants as towards
use Rattle.job_control.specs.Roster.{session_at, group_at, parent_at, leads_at, has_exited, is_tied}
use Rattle.job_control.specs.Roster.{is_orphaned, has_living}
use Rattle.job_control.specs.Control.{JobState, first_jobs, controls, in_background, leads_holder}
use Rattle.job_control.specs.Control.{ignores_ttin, ignores_ttou, is_orphan, change_judged, background_judged, judged}
use Rattle.job_control.specs.Control.{sctty_refusal, taken_by, after_sctty, no_terminal, let_go, after_notty}
use Rattle.job_control.specs.Control.{foreground_of, gpgrp_answer, spgrp_refusal, in_front, after_spgrp, after_exit}
use Rattle.passed_calls.specs.Journals.{terminal_at}
use Rattle.passed_calls.specs.Scripts.{plain, further}
use Rattle.job_text.specs.declared.calls.OwnCall.{OwnCall}
use Rattle.job_text.specs.declared.calls.OwnCall.TheVariants as call
use Rattle.job_text.specs.Events.{JobEvent, own, passed, passed_down, sent, JobLog}
use Rattle.job_text.specs.Sessions.{JobCall}
use Rattle.job_steps.specs.Steps.{Port, Moment, JobsState, procs_of, names_of_port, first_state, jobs_among}
use Rattle.job_steps.specs.Steps.{jobs_before}
use Rattle.job_steps.specs.Steps.{proc_named, proc_of, next_call, Checked, unchecked, checks, checked}
use Rattle.job_steps.specs.Steps.{is_usable}
use Rattle.job_steps.specs.Steps.{judged_if, judged_call, judged_answer, sent_by_stop, ControlOutcome, leaves, done_or}
use Rattle.job_steps.specs.Steps.{number_or}
use Rattle.job_steps.specs.Steps.{foreground_target, notty_due, spgrp_judged, spgrp_outcome, through}
use Rattle.job_steps.specs.Steps.{outcome_of, is_own, OwnAnswer, IsOfCall, first_place, WentToPort, IsSent, IsAllowed}
use Rattle.job_steps.specs.Steps.{with_jobs, answered_for}
use Rattle.job_control.specs.declared.processes.JobSignal.{JobSignal}
use Rattle.job_control.specs.declared.answers.Target.{Target}
use Rattle.job_steps.specs.Steps.{after_own, after_passed, after_event, Leads}
use Rattle.job_steps.specs.Order.{AreEventsInTurn, IsEventInTurn}
use Rattle.tty_calls.specs.Sessions.{PlainSession}
use Rattle.tty_one.specs.Processes.{bare_proc, bare_of}
use Rattle.tty_one.proofs.Bared.{procs_at, place_bare}

-- ---- the processes of a port

at_bare : {X : Type 0} (g : Proc → X) (d : X)
    → ((x : Proc) → g (bare_proc x) ≡ g x)
    → (procs : List Proc) (p : ℕ)
    → option_map_or g (slice_get (map bare_proc procs) p) d ≡ option_map_or g (slice_get procs p) d
at_bare g d same [] p = refl
at_bare g d same (x ∷ xs) zero = same x
at_bare g d same (x ∷ xs) (suc p) = at_bare g d same xs p

session_same : (procs : List Proc) (p : ℕ) → session_at (map bare_proc procs) p ≡ session_at procs p
session_same procs p = at_bare (λ (x : Proc). x.session) 0 (λ x. refl) procs p

group_same : (procs : List Proc) (p : ℕ) → group_at (map bare_proc procs) p ≡ group_at procs p
group_same procs p = at_bare (λ (x : Proc). x.group) 0 (λ x. refl) procs p

parent_same : (procs : List Proc) (p : ℕ) → parent_at (map bare_proc procs) p ≡ parent_at procs p
parent_same procs p = at_bare (λ (x : Proc). x.parent) None (λ x. refl) procs p

leader_same : (procs : List Proc) (p : ℕ) → leads_at (map bare_proc procs) p ≡ leads_at procs p
leader_same procs p = at_bare (λ (x : Proc). x.leader) false (λ x. refl) procs p

tied_same : (procs : List Proc) (exited : List Bool) (p : ℕ)
    → is_tied (map bare_proc procs) exited p ≡ is_tied procs exited p
tied_same procs exited p = λ i.
    not (has_exited exited p)
    && option_map_or (λ parent.
    not (has_exited exited parent)
    && not (group_same procs parent i == group_same procs p i)
    && (session_same procs parent i == session_same procs p i)) (parent_same procs p i) false

orphaned_same : (procs : List Proc) (exited : List Bool) (group : ℕ)
    → is_orphaned (map bare_proc procs) exited group ≡ is_orphaned procs exited group
orphaned_same procs exited group = λ i.
    not (list_any (λ p. tied_same procs exited p i && (group_same procs p i == group))
    (range_with_len 0 (length-map procs bare_proc i)))

living_same : (procs : List Proc) (exited : List Bool) (session group : ℕ)
    → has_living (map bare_proc procs) exited session group ≡ has_living procs exited session group
living_same procs exited session group = λ i.
    list_any (λ p.
    not (has_exited exited p) && (session_same procs p i == session) && (group_same procs p i == group))
    (range_with_len 0 (length-map procs bare_proc i))

-- ---- job control

abbrev pub bare_jobs : JobState → JobState
bare_jobs jobs = record jobs { procs = map bare_proc jobs.procs }

module _ (jobs : JobState) (p : ℕ) where
  controls_same : controls (bare_jobs jobs) p ≡ controls jobs p
  controls_same = λ i.
      option_map_or (λ holder.
      (holder.session == session_same jobs.procs p i) && not (slice_index_or jobs.given_up p false)) jobs.holder false

  background_same : in_background (bare_jobs jobs) p ≡ in_background jobs p
  background_same = λ i.
      option_map_or (λ holder.
      ((holder.session == session_same jobs.procs p i) && not (slice_index_or jobs.given_up p false))
      && not (holder.foreground == group_same jobs.procs p i)) jobs.holder false

  leads_same : leads_holder (bare_jobs jobs) p ≡ leads_holder jobs p
  leads_same = λ i.
      option_map_or (λ holder.
      leader_same jobs.procs p i && (holder.session == session_same jobs.procs p i)) jobs.holder false

  orphan_same : is_orphan (bare_jobs jobs) p ≡ is_orphan jobs p
  orphan_same =
      orphaned_same jobs.procs jobs.exited (group_at (map bare_proc jobs.procs) p)
      ∙ ap (λ (g : ℕ). is_orphaned jobs.procs jobs.exited g) (group_same jobs.procs p)

  ttin_same : ignores_ttin (bare_jobs jobs) p ≡ ignores_ttin jobs p
  ttin_same = at_bare (λ (x : Proc). x.nottin) false (λ x. refl) jobs.procs p

  ttou_same : ignores_ttou (bare_jobs jobs) p ≡ ignores_ttou jobs p
  ttou_same = at_bare (λ (x : Proc). x.nottou) false (λ x. refl) jobs.procs p

  change_same : change_judged (bare_jobs jobs) p ≡ change_judged jobs p
  change_same = λ i. if ttou_same i then Pass else if orphan_same i then Eio else Stop Ttou

  from_background : (act : JobAct) (tostop : Bool)
      → background_judged (bare_jobs jobs) p act tostop ≡ background_judged jobs p act tostop
  from_background Read tostop = λ i. if ttin_same i || orphan_same i then Eio else Stop Ttin
  from_background Write tostop = λ i. if tostop then change_same i else Pass
  from_background Change tostop = change_same

  judged_same : (act : JobAct) (tostop : Bool) → judged (bare_jobs jobs) p act tostop ≡ judged jobs p act tostop
  judged_same act tostop = λ i. if background_same i then from_background act tostop i else Pass

  if_bare : (b : Bool) (x y : JobState) → (if b then bare_jobs x else bare_jobs y) ≡ bare_jobs (if b then x else y)
  if_bare true x y = refl
  if_bare false x y = refl

  sctty_same : sctty_refusal (bare_jobs jobs) p ≡ sctty_refusal jobs p
  sctty_same = λ i.
      if leads_same i || (leader_same jobs.procs p i && is_none jobs.holder) then None else Some refusals.EPERM

  taken_same : taken_by (bare_jobs jobs) p ≡ bare_jobs (taken_by jobs p)
  taken_same = λ i. record {
    procs = map bare_proc jobs.procs;
    exited = jobs.exited;
    given_up = replicate (length-map jobs.procs bare_proc i) false;
    holder = Some (record {
      leader = p;
      session = session_same jobs.procs p i;
      foreground = group_same jobs.procs p i;
    });
  }

  after_sctty_same : after_sctty (bare_jobs jobs) p ≡ bare_jobs (after_sctty jobs p)
  after_sctty_same =
      (λ i. if leader_same jobs.procs p i && is_none jobs.holder then taken_same i else bare_jobs jobs)
      ∙ if_bare (leads_at jobs.procs p && is_none jobs.holder) (taken_by jobs p) jobs

  no_terminal_same : no_terminal (bare_jobs jobs) p ≡ no_terminal jobs p
  no_terminal_same = λ i. if controls_same i then None else Some refusals.ENOTTY

  after_notty_same : after_notty (bare_jobs jobs) p ≡ bare_jobs (after_notty jobs p)
  after_notty_same =
      (λ i.
      if controls_same i
      then (if leads_same i
      then bare_jobs (let_go jobs)
      else bare_jobs (record jobs { given_up = slice_set jobs.given_up p true }))
      else bare_jobs jobs)
      ∙ (ap (λ (x : JobState). if controls jobs p then x else bare_jobs jobs)
      (if_bare (leads_holder jobs p) (let_go jobs) (record jobs { given_up = slice_set jobs.given_up p true }))
      ∙ if_bare (controls jobs p)
      (if leads_holder jobs p then let_go jobs else record jobs { given_up = slice_set jobs.given_up p true }) jobs)

  gpgrp_same : gpgrp_answer (bare_jobs jobs) p ≡ gpgrp_answer jobs p
  gpgrp_same = λ i.
      if controls_same i then ok_or (foreground_of jobs) refusals.ENOTTY else Err refusals.ENOTTY

  spgrp_same : (group : ℕ) → spgrp_refusal (bare_jobs jobs) p group ≡ spgrp_refusal jobs p group
  spgrp_same group =
      let living : has_living (map bare_proc jobs.procs) jobs.exited (session_at (map bare_proc jobs.procs) p) group
      ≡ has_living jobs.procs jobs.exited (session_at jobs.procs p) group =
      living_same jobs.procs jobs.exited (session_at (map bare_proc jobs.procs) p) group
      ∙ ap (λ (s : ℕ). has_living jobs.procs jobs.exited s group) (session_same jobs.procs p) in
      λ i.
      if controls_same i
      then (if living i then None else Some refusals.EPERM)
      else Some refusals.ENOTTY

  after_spgrp_same : (group : ℕ) → after_spgrp (bare_jobs jobs) p group ≡ bare_jobs (after_spgrp jobs p group)
  after_spgrp_same group =
      (λ i.
      if is_none (spgrp_same group i)
      then bare_jobs (record jobs { holder = option_map (in_front group) jobs.holder })
      else bare_jobs jobs)
      ∙ if_bare (is_none (spgrp_refusal jobs p group))
      (record jobs { holder = option_map (in_front group) jobs.holder }) jobs

  after_exit_same : after_exit (bare_jobs jobs) p ≡ bare_jobs (after_exit jobs p)
  after_exit_same = λ i. record {
    procs = map bare_proc jobs.procs;
    exited = slice_set jobs.exited p true;
    given_up = jobs.given_up;
    holder = if leads_same i then None else jobs.holder;
  }

  -- ---- what a call comes to

  judged_if_same : (t : Terminal) (h : ℕ) (c : Checked) → judged_if (bare_jobs jobs) t p h c ≡ judged_if jobs t p h c
  judged_if_same t h unchecked = refl
  judged_if_same t h (checks act needs) = λ i.
      if is_usable needs (handle_at t h) then judged_same act (has_flag t.modes TOSTOP) i else Pass

  pub judged_call_same : (t : Terminal) (call : PlainCall)
      → judged_call (bare_jobs jobs) t p call ≡ judged_call jobs t p call
  judged_call_same t call = judged_if_same t (handle_of call) (checked call)

  stop_same : (j : Judged) → sent_by_stop (bare_jobs jobs) p j ≡ sent_by_stop jobs p j
  stop_same Pass = refl
  stop_same Eio = refl
  stop_same (Stop signal) = ap (λ (g : ℕ). sent signal (towards.Group g) ∷ []) (group_same jobs.procs p)

  pub is_own_same : (t : Terminal) (call : JobCall) → is_own (bare_jobs jobs) t p call ≡ is_own jobs t p call
  is_own_same t (plain call) = ap (λ (j : Judged). not (is_none (judged_answer j))) (judged_call_same t call)
  is_own_same t (further call) = refl

abbrev bare_outcome : ControlOutcome → ControlOutcome
bare_outcome o = record o { left = bare_jobs o.left }

if_outcome : (b : Bool) (x y : ControlOutcome)
    → (if b then bare_outcome x else bare_outcome y) ≡ bare_outcome (if b then x else y)
if_outcome true x y = refl
if_outcome false x y = refl

through_same : (jobs : JobState) (o : Option HandleState) (dead : JobAnswer) (outcome bared : ControlOutcome)
    → bared ≡ bare_outcome outcome
    → through (bare_jobs jobs) o dead bared ≡ bare_outcome (through jobs o dead outcome)
through_same jobs None dead outcome bared same = refl
through_same jobs (Some handle) dead outcome bared same =
    ap (λ (x : ControlOutcome). if handle.live then x else leaves dead (bare_jobs jobs)) same
    ∙ if_outcome handle.live outcome (leaves dead jobs)

spgrp_judged_same : (jobs : JobState) (p group : ℕ) (j : Judged)
    → spgrp_judged (bare_jobs jobs) p group j ≡ bare_outcome (spgrp_judged jobs p group j)
spgrp_judged_same jobs p group Pass = λ i.
    leaves (done_or (spgrp_same jobs p group i)) (after_spgrp_same jobs p group i)
spgrp_judged_same jobs p group Eio = refl
spgrp_judged_same jobs p group (Stop signal) = λ i. record {
  answer = told.Stopped signal;
  left = bare_jobs jobs;
  due = stop_same jobs p (Stop signal) i;
}

outcome_same : (jobs : JobState) (t : Terminal) (p c : ℕ) (call : JobCall)
    → outcome_of (bare_jobs jobs) t p c call ≡ bare_outcome (outcome_of jobs t p c call)
outcome_same jobs t p c (plain call) = λ i. record {
  answer = unwrap_or (judged_answer (judged_call_same jobs p t call i)) told.Done;
  left = bare_jobs jobs;
  due = stop_same jobs p (judged_call_same jobs p t call i) i;
}
outcome_same jobs t p c (further (call.Sctty h)) =
    through_same jobs (handle_at t h) (told.Refused EIO)
    (leaves (done_or (sctty_refusal jobs p)) (after_sctty jobs p))
    (leaves (done_or (sctty_refusal (bare_jobs jobs) p)) (after_sctty (bare_jobs jobs) p))
    (λ i. leaves (done_or (sctty_same jobs p i)) (after_sctty_same jobs p i))
outcome_same jobs t p c (further (call.Notty h)) =
    through_same jobs (handle_at t h) (told.Refused EIO)
    (record { answer = done_or (no_terminal jobs p); left = after_notty jobs p; due = notty_due jobs p })
    (record {
      answer = done_or (no_terminal (bare_jobs jobs) p);
      left = after_notty (bare_jobs jobs) p;
      due = notty_due (bare_jobs jobs) p;
    })
    (λ i. record {
      answer = done_or (no_terminal_same jobs p i);
      left = after_notty_same jobs p i;
      due = if leads_same jobs p i && controls_same jobs p i
          then sent Hup (foreground_target jobs) ∷ sent Cont (foreground_target jobs) ∷ []
          else [];
    })
outcome_same jobs t p c (further (call.Gpgrp h)) =
    through_same jobs (handle_at t h) (told.Refused EIO) (leaves (number_or (gpgrp_answer jobs p)) jobs)
    (leaves (number_or (gpgrp_answer (bare_jobs jobs) p)) (bare_jobs jobs))
    (λ i. leaves (number_or (gpgrp_same jobs p i)) (bare_jobs jobs))
outcome_same jobs t p c (further (call.Spgrp h group)) =
    let stop = has_flag t.modes TOSTOP in
    let inner : spgrp_outcome (bare_jobs jobs) t p group ≡ bare_outcome (spgrp_outcome jobs t p group) =
    (λ i.
    if controls_same jobs p i
    then spgrp_judged (bare_jobs jobs) p group (judged_same jobs p Change stop i)
    else leaves (told.Refused ENOTTY) (bare_jobs jobs))
    ∙ (ap (λ (x : ControlOutcome). if controls jobs p then x else leaves (told.Refused ENOTTY) (bare_jobs jobs))
    (spgrp_judged_same jobs p group (judged jobs p Change stop))
    ∙ if_outcome (controls jobs p) (spgrp_judged jobs p group (judged jobs p Change stop))
    (leaves (told.Refused ENOTTY) jobs)) in
    through_same jobs (handle_at t h) (told.Refused ENOTTY) (spgrp_outcome jobs t p group)
    (spgrp_outcome (bare_jobs jobs) t p group) inner
outcome_same jobs t p c (further call.Exit) = λ i. record {
  answer = told.Done;
  left = after_exit_same jobs p i;
  due = if leads_same jobs p i
      then sent Hup (foreground_target jobs) ∷ map (passed_down c) (option_to_list (position is_live t.handles))
      else [];
}

-- ---- a port and its state

abbrev pub bare_port : Port → Port
bare_port port = record port { session = bare_of port.session }

abbrev bare_moment : Moment → Moment
bare_moment m = record m { jobs = bare_jobs m.jobs }

abbrev pub bare_state : JobsState → JobsState
bare_state s = record s { now = bare_moment s.now; past = map bare_moment s.past }

named_same : (procs : List Proc) (name : Option (List ℕ))
    → proc_named (map bare_proc procs) name ≡ proc_named procs name
named_same procs None = refl
named_same procs (Some name) = place_bare name procs

procs_same : (port : Port) → procs_of (bare_port port) ≡ map bare_proc (procs_of port)
procs_same port = procs_at port.session.procs port.number

proc_same : (port : Port) (c : ℕ) → proc_of (bare_port port) c ≡ proc_of port c
proc_same port c =
    let name = slice_get (names_of_port port) c in
    ap (λ (ps : List Proc). unwrap_or (proc_named ps name) (length ps)) (procs_same port)
    ∙ (λ i. unwrap_or (named_same (procs_of port) name i) (length-map (procs_of port) bare_proc i))

first_same : (port : Port) → first_jobs (procs_of (bare_port port)) ≡ bare_jobs (first_jobs (procs_of port))
first_same port =
    ap (λ (ps : List Proc). first_jobs ps) (procs_same port)
    ∙ (λ i. record {
      procs = map bare_proc (procs_of port);
      exited = replicate (length-map (procs_of port) bare_proc i) false;
      given_up = replicate (length-map (procs_of port) bare_proc i) false;
      holder = None;
    })

pub first_state_same : (port : Port) → first_state (bare_port port) ≡ bare_state (first_state port)
first_state_same port = λ i. record {
  now = record { at = 0; jobs = first_same port i };
  past = [];
  next = replicate (length (names_of_port port)) 0;
  signals = 0;
  due = [];
}

among_same : (ms : List Moment) (at : ℕ) (first : JobState)
    → jobs_among (map bare_moment ms) at (bare_jobs first) ≡ bare_jobs (jobs_among ms at first)
among_same [] at first = refl
among_same (m ∷ ms) at first =
    ap (λ (x : JobState). if nat_le m.at at then bare_jobs m.jobs else x) (among_same ms at first)
    ∙ if_jobs (nat_le m.at at) m.jobs (jobs_among ms at first)
  where
    if_jobs : (b : Bool) (x y : JobState)
        → (if b then bare_jobs x else bare_jobs y) ≡ bare_jobs (if b then x else y)
    if_jobs true x y = refl
    if_jobs false x y = refl

before_same : (port : Port) (s : JobsState) (at : ℕ)
    → jobs_before (bare_port port) (bare_state s) at ≡ bare_jobs (jobs_before port s at)
before_same port s at =
    ap (λ (first : JobState). jobs_among (map bare_moment (s.now ∷ s.past)) at first) (first_same port)
    ∙ among_same (s.now ∷ s.past) at (first_jobs (procs_of port))

-- ---- events

own_state : (t : Terminal) (p q c : ℕ) (s : JobsState) (at : ℕ) (o : Option JobCall)
    → q ≡ p
    → after_own t q c (bare_state s) at o ≡ bare_state (after_own t p c s at o)
own_state t p q c s at None same = refl
own_state t p q c s at (Some call) same =
    let outcome : outcome_of (bare_jobs s.now.jobs) t q c call ≡ bare_outcome (outcome_of s.now.jobs t p c call) =
    ap (λ (x : ℕ). outcome_of (bare_jobs s.now.jobs) t x c call) same ∙ outcome_same s.now.jobs t p c call in
    λ i. record (with_jobs (bare_state s) at (outcome i).left) { due = (outcome i).due }

passed_state : (s : JobsState) (at : ℕ) (o : Option JobCall) (answer : PlainAnswer)
    → after_passed (bare_state s) at o answer ≡ bare_state (after_passed s at o answer)
passed_state s at None answer = refl
passed_state s at (Some (further call)) answer = refl
passed_state s at (Some (plain (opens h access nonblock))) answer = refl
passed_state s at (Some (plain (closes h))) answer = refl
passed_state s at (Some (plain (reads h n))) answer = refl
passed_state s at (Some (plain (writes h bytes))) answer = refl
passed_state s at (Some (plain (gets_modes h))) answer = refl
passed_state s at (Some (plain (sets_modes h when words))) answer = refl
passed_state s at (Some (plain (gets_disc h))) answer = refl
passed_state s at (Some (plain (sets_disc h number))) answer = refl
passed_state s at (Some (plain (flushes h queue))) answer = refl
passed_state s at (Some (plain (steers h act))) answer = refl
passed_state s at (Some (plain (counts_input h))) answer = refl
passed_state s at (Some (plain (counts_output h))) answer = refl
passed_state s at (Some (plain (excludes h))) answer = refl
passed_state s at (Some (plain (admits h))) answer = refl
passed_state s at (Some (plain (drains h))) answer = refl
passed_state s at (Some (plain (gets_counts h))) answer = refl
passed_state s at (Some (plain (sends_packet h bytes))) answer = refl
passed_state s at (Some (plain (takes_packet h))) answer = refl
passed_state s at (Some (plain (hangs_up h))) done = refl
passed_state s at (Some (plain (hangs_up h))) (count_is taken) = refl
passed_state s at (Some (plain (hangs_up h))) (got bytes) = refl
passed_state s at (Some (plain (hangs_up h))) (number_is n) = refl
passed_state s at (Some (plain (hangs_up h))) (modes_are modes) = refl
passed_state s at (Some (plain (hangs_up h))) (counts_are counts) = refl
passed_state s at (Some (plain (hangs_up h))) (refused errno) = refl
passed_state s at (Some (plain (hangs_up h))) idle = refl

event_same : (port : Port) (s : JobsState) (at : ℕ) (event : JobEvent)
    → after_event (bare_port port) (bare_state s) at event ≡ bare_state (after_event port s at event)
event_same port s at (own c step answer) =
    ap (λ (x : JobsState). answered_for x c)
    (own_state (terminal_at port.journal at) (proc_of port c) (proc_of (bare_port port) c) c s at (next_call port s c)
    (proc_same port c))
event_same port s at (passed c step answer) =
    ap (λ (x : JobsState). answered_for x c) (passed_state s at (next_call port s c) answer)
event_same port s at (passed_down c handle) = refl
event_same port s at (sent signal target) = refl

answers_same : (jobs : JobState) (t : Terminal) (p q c : ℕ) (o : Option JobCall) (answer : JobAnswer)
    → q ≡ p
    → OwnAnswer jobs t p c o answer
    → OwnAnswer (bare_jobs jobs) t q c o answer
answers_same jobs t p q c None answer same h = h
answers_same jobs t p q c (Some call) answer same h = (
  (ap (λ (x : ℕ). is_own (bare_jobs jobs) t x call) same ∙ is_own_same jobs p t call) ∙ h.0,
  h.1
      ∙ sym (ap (λ (o : ControlOutcome). o.answer)
      (ap (λ (x : ℕ). outcome_of (bare_jobs jobs) t x c call) same ∙ outcome_same jobs t p c call)),
)

goes_same : (port : Port) (s : JobsState) (place c : ℕ) (o : Option JobCall)
    → WentToPort port s place c o
    → WentToPort (bare_port port) (bare_state s) place c o
goes_same port s place c None h = h
goes_same port s place c (Some (plain call)) h =
    (λ i. judged_call (before_same port s place i) (terminal_at port.journal place) (proc_same port c i) call)
    ∙ (judged_call_same (jobs_before port s place) (proc_of port c) (terminal_at port.journal place) call ∙ h)
goes_same port s place c (Some (further call)) h = h

sent_same : (port : Port) (s : JobsState) (at : ℕ) (signal : JobSignal) (target : Target) (due : List JobEvent)
    → IsSent port s at signal target due
    → IsSent (bare_port port) (bare_state s) at signal target due
sent_same port s at signal target [] h = record {
  nothing_due = h.nothing_due;
  some = h.some;
  raised = h.raised;
  fresh = h.fresh;
  goes_to = h.goes_to;
}
sent_same port s at signal target (e ∷ rest) h = h

allowed_same : (port : Port) (s : JobsState) (at : ℕ) (event : JobEvent)
    → IsAllowed port s at event
    → IsAllowed (bare_port port) (bare_state s) at event
allowed_same port s at (own c step answer) h = record {
  nothing_due = h.nothing_due;
  next = h.next;
  in_phase = record { from = h.in_phase.from; to = h.in_phase.to };
  between = h.between;
  answers = answers_same s.now.jobs (terminal_at port.journal at) (proc_of port c) (proc_of (bare_port port) c) c
      (next_call port s c) answer (proc_same port c) h.answers;
}
allowed_same port s at (passed c step answer) h = record {
  nothing_due = h.nothing_due;
  next = h.next;
  in_phase = record { from = h.in_phase.from; to = h.in_phase.to };
  entry = h.entry;
  at_once = h.at_once;
  of_call = of_call_same (h.entry.entry.step) (next_call port s c) h.of_call;
  goes_on = goes_same port s (first_place port.journal c h.entry.entry.step) c (next_call port s c) h.goes_on;
}
  where
    of_call_same : (n : ℕ) (o : Option JobCall) → IsOfCall port c n o → IsOfCall (bare_port port) c n o
    of_call_same n None k = k
    of_call_same n (Some (plain call)) k = k
    of_call_same n (Some (further call)) k = k
allowed_same port s at (passed_down c handle) h = record {
  rest = h.rest;
  is_due = h.is_due;
  entry = h.entry;
  at_once = h.at_once;
  of_call = h.of_call;
}
allowed_same port s at (sent signal target) h = sent_same port s at signal target s.due h

pub leads_bare : (port : Port) (s u : JobsState) (log : JobLog)
    → Leads port s log u
    → Leads (bare_port port) (bare_state s) log (bare_state u)
leads_bare port s u [] h = ap bare_state h
leads_bare port s u (l ∷ log) h = (
  h.0,
  h.1,
  allowed_same port s l.at l.event h.2,
  subst (λ (x : JobsState). Leads (bare_port port) x log (bare_state u)) (sym (event_same port s l.at l.event))
      (leads_bare port (after_event port s l.at l.event) u log h.3),
)

turn_bare : (played : PlainSession) (port : Port) (s : JobsState) (at : ℕ) (event : JobEvent)
    → IsEventInTurn played port s at event
    → IsEventInTurn played (bare_port port) (bare_state s) at event
turn_bare played port s at (own c step answer) h = h
turn_bare played port s at (passed c step answer) h = h
turn_bare played port s at (passed_down c handle) h = h
turn_bare played port s at (sent signal target) h = h

pub turns_bare : (played : PlainSession) (port : Port) (s : JobsState) (log : JobLog)
    → AreEventsInTurn played port s log
    → AreEventsInTurn played (bare_port port) (bare_state s) log
turns_bare played port s [] h = tt
turns_bare played port s (l ∷ log) h = (
  turn_bare played port s l.at l.event h.0,
  subst (λ (x : JobsState). AreEventsInTurn played (bare_port port) x log) (sym (event_same port s l.at l.event))
      (turns_bare played port (after_event port s l.at l.event) log h.1),
)
