-- What is due: signals that are none of the port's, and the hangups of callers that ended.
use Rattle.std.proofs.Common.{ℕ, Bool, true, false, List, [], ◌∷◌, Option, None, Some, map}
use Rattle.std.proofs.Common.{if◌then◌else◌}
use Rattle.std.specs.Prelude.{◌&&◌, position}
use Rattle.std.specs.Option.{option_to_list}
use Rattle.handle_table.specs.Handles.{is_live}
use Rattle.tty_calls.specs.Plain.{handle_of, opens, closes, reads, writes, gets_modes, sets_modes, gets_disc}
use Rattle.tty_calls.specs.Plain.{sets_disc, flushes, steers, counts_input, counts_output, excludes, admits}
use Rattle.tty_calls.specs.Plain.{drains, gets_counts, hangs_up, sends_packet, takes_packet, PlainAnswer, done}
use Rattle.tty_calls.specs.Plain.{count_is, got, number_is, modes_are, counts_are, refused, idle}
use Rattle.handle_table.specs.declared.HandleState.{HandleState}
use Rattle.tty_base.specs.declared.counters.Errno.TheVariants.{EIO, ENOTTY}
use Rattle.tty_modes.specs.Settings.{has_flag}
use Rattle.tty_modes.specs.declared.places.TheConstants.{TOSTOP}
use Rattle.tty_terminal.specs.Terminals.{Terminal, handle_at}
use Rattle.job_control.specs.Control.{JobState, in_background, ignores_ttou, is_orphan, change_judged}
use Rattle.job_control.specs.Control.{background_judged, judged, controls, leads_holder, leader_of}
use Rattle.job_control.specs.Control.{sctty_refusal, after_sctty, no_terminal, after_notty, gpgrp_answer}
use Rattle.job_control.specs.declared.answers.JobAnswer.{JobAnswer}
use Rattle.job_control.specs.declared.answers.JobAnswer.TheVariants as told
use Rattle.job_control.specs.declared.processes.JobAct.{JobAct}
use Rattle.job_control.specs.declared.processes.JobAct.TheVariants.{Read, Write, Change}
use Rattle.job_control.specs.declared.processes.JobSignal.TheVariants.{Ttin, Ttou, Hup, Cont}
use Rattle.job_control.specs.declared.processes.Judged.{Judged}
use Rattle.job_control.specs.declared.processes.Judged.TheVariants.{Pass, Eio, Stop}
use Rattle.passed_calls.specs.Journals.{terminal_at}
use Rattle.passed_calls.specs.Scripts.{plain, further}
use Rattle.job_text.specs.declared.calls.OwnCall.TheVariants as call
use Rattle.job_text.specs.Events.{JobEvent, own, passed, passed_down, sent}
use Rattle.job_text.specs.Sessions.{JobCall}
use Rattle.job_steps.specs.Steps.{Port, JobsState, proc_of, next_call, Checked, unchecked, checks, checked}
use Rattle.job_steps.specs.Steps.{judged_if, judged_call, sent_by_stop, ControlOutcome, spgrp_judged, through}
use Rattle.job_steps.specs.Steps.{outcome_of}
use Rattle.job_steps.specs.Steps.{leaves, done_or, number_or, notty_due, spgrp_outcome, foreground_target, after_own}
use Rattle.job_steps.specs.Steps.{told_leader, after_passed}
use Rattle.job_steps.specs.Steps.{rest_of, after_event}
use Rattle.job_laws.specs.Sending.{IsOfPort}

-- such events, with hangups of callers like these alone
abbrev pub DueOf : (ℕ → Type 0) → List JobEvent → Type 0
DueOf D [] = Unit {0}
DueOf D (own c step answer ∷ es) = ⊥
DueOf D (passed c step answer ∷ es) = ⊥
DueOf D (passed_down c handle ∷ es) = D c × DueOf D es
DueOf D (sent signal target ∷ es) = (IsOfPort signal → ⊥) × DueOf D es

-- an event makes no other hangup due
abbrev pub IsBy : (ℕ → Type 0) → JobEvent → Type 0
IsBy D (own c step answer) = D c
IsBy D (passed c step answer) = Unit {0}
IsBy D (passed_down c handle) = Unit {0}
IsBy D (sent signal target) = Unit {0}

-- a judgement that stops with no signal of the port
abbrev StopsSo : Judged → Type 0
StopsSo Pass = Unit {0}
StopsSo Eio = Unit {0}
StopsSo (Stop signal) = IsOfPort signal → ⊥

if_stops : (b : Bool) (x y : Judged) → StopsSo x → StopsSo y → StopsSo (if b then x else y)
if_stops true x y h k = h
if_stops false x y h k = k

change_stops : (jobs : JobState) (p : ℕ) → StopsSo (change_judged jobs p)
change_stops jobs p =
    if_stops (ignores_ttou jobs p) Pass _ tt (if_stops (is_orphan jobs p) Eio (Stop Ttou) tt (λ h. h))

background_stops : (jobs : JobState) (p : ℕ) (act : JobAct) (tostop : Bool)
    → StopsSo (background_judged jobs p act tostop)
background_stops jobs p Read tostop = if_stops _ Eio (Stop Ttin) tt (λ h. h)
background_stops jobs p Write tostop = if_stops tostop _ Pass (change_stops jobs p) tt
background_stops jobs p Change tostop = change_stops jobs p

judged_stops : (jobs : JobState) (p : ℕ) (act : JobAct) (tostop : Bool) → StopsSo (judged jobs p act tostop)
judged_stops jobs p act tostop = if_stops (in_background jobs p) _ Pass (background_stops jobs p act tostop) tt

checked_stops : (jobs : JobState) (t : Terminal) (p h : ℕ) (c : Checked) → StopsSo (judged_if jobs t p h c)
checked_stops jobs t p h unchecked = tt
checked_stops jobs t p h (checks act needs) = if_stops _ _ Pass (judged_stops jobs p act _) tt

module _ (D : ℕ → Type 0) where
  -- ---- what is due

  stop_sends : (jobs : JobState) (p : ℕ) (j : Judged) → StopsSo j → DueOf D (sent_by_stop jobs p j)
  stop_sends jobs p Pass h = tt
  stop_sends jobs p Eio h = tt
  stop_sends jobs p (Stop signal) h = (h, tt)

  if_sends : (b : Bool) (xs ys : List JobEvent) → DueOf D xs → DueOf D ys → DueOf D (if b then xs else ys)
  if_sends true xs ys h k = h
  if_sends false xs ys h k = k

  if_due : (b : Bool) (x y : ControlOutcome) → DueOf D x.due → DueOf D y.due → DueOf D (if b then x else y).due
  if_due true x y h k = h
  if_due false x y h k = k

  through_due : (jobs : JobState) (o : Option HandleState) (dead : JobAnswer) (outcome : ControlOutcome)
      → DueOf D outcome.due
      → DueOf D (through jobs o dead outcome).due
  through_due jobs None dead outcome h = tt
  through_due jobs (Some handle) dead outcome h = if_due handle.live outcome _ h tt

  spgrp_due : (jobs : JobState) (p group : ℕ) (j : Judged) → StopsSo j → DueOf D (spgrp_judged jobs p group j).due
  spgrp_due jobs p group Pass h = tt
  spgrp_due jobs p group Eio h = tt
  spgrp_due jobs p group (Stop signal) h = (h, tt)

  passed_down_due : (c : ℕ) (o : Option ℕ) → D c → DueOf D (map (passed_down c) (option_to_list o))
  passed_down_due c None of_it = tt
  passed_down_due c (Some handle) of_it = (of_it, tt)

  own_due : (jobs : JobState) (t : Terminal) (p c : ℕ) (call : JobCall) → D c → DueOf D (outcome_of jobs t p c call).due
  own_due jobs t p c (plain call) of_it =
      stop_sends jobs p (judged_call jobs t p call) (checked_stops jobs t p (handle_of call) (checked call))
  own_due jobs t p c (further (call.Sctty h)) of_it =
      through_due jobs (handle_at t h) (told.Refused EIO)
      (leaves (done_or (sctty_refusal jobs p)) (after_sctty jobs p)) tt
  own_due jobs t p c (further (call.Notty h)) of_it =
      through_due jobs (handle_at t h) (told.Refused EIO)
      (record { answer = done_or (no_terminal jobs p); left = after_notty jobs p; due = notty_due jobs p })
      (if_sends (leads_holder jobs p && controls jobs p)
      (sent Hup (foreground_target jobs) ∷ sent Cont (foreground_target jobs) ∷ []) [] ((λ x. x), ((λ x. x), tt)) tt)
  own_due jobs t p c (further (call.Gpgrp h)) of_it =
      through_due jobs (handle_at t h) (told.Refused EIO) (leaves (number_or (gpgrp_answer jobs p)) jobs) tt
  own_due jobs t p c (further (call.Spgrp h group)) of_it =
      let j = judged jobs p Change (has_flag t.modes TOSTOP) in
      through_due jobs (handle_at t h) (told.Refused ENOTTY) (spgrp_outcome jobs t p group)
      (if_due (controls jobs p) (spgrp_judged jobs p group j) (leaves (told.Refused ENOTTY) jobs)
      (spgrp_due jobs p group j (judged_stops jobs p Change (has_flag t.modes TOSTOP))) tt)
  own_due jobs t p c (further call.Exit) of_it =
      if_sends (leads_holder jobs p)
      (sent Hup (foreground_target jobs) ∷ map (passed_down c) (option_to_list (position is_live t.handles))) []
      ((λ x. x), passed_down_due c (position is_live t.handles) of_it) tt

  after_own_due : (t : Terminal) (p c : ℕ) (s : JobsState) (at : ℕ) (o : Option JobCall)
      → D c
      → DueOf D s.due
      → DueOf D (after_own t p c s at o).due
  after_own_due t p c s at None of_it h = h
  after_own_due t p c s at (Some call) of_it h = own_due s.now.jobs t p c call of_it

  leader_due : (o : Option ℕ) → DueOf D (told_leader o)
  leader_due None = tt
  leader_due (Some leader) = ((λ x. x), ((λ x. x), tt))

  after_passed_due : (s : JobsState) (at : ℕ) (o : Option JobCall) (answer : PlainAnswer)
      → DueOf D s.due
      → DueOf D (after_passed s at o answer).due
  after_passed_due s at None answer h = h
  after_passed_due s at (Some (further call)) answer h = h
  after_passed_due s at (Some (plain (opens h access nonblock))) answer none = none
  after_passed_due s at (Some (plain (closes h))) answer none = none
  after_passed_due s at (Some (plain (reads h n))) answer none = none
  after_passed_due s at (Some (plain (writes h bytes))) answer none = none
  after_passed_due s at (Some (plain (gets_modes h))) answer none = none
  after_passed_due s at (Some (plain (sets_modes h when words))) answer none = none
  after_passed_due s at (Some (plain (gets_disc h))) answer none = none
  after_passed_due s at (Some (plain (sets_disc h number))) answer none = none
  after_passed_due s at (Some (plain (flushes h queue))) answer none = none
  after_passed_due s at (Some (plain (steers h act))) answer none = none
  after_passed_due s at (Some (plain (counts_input h))) answer none = none
  after_passed_due s at (Some (plain (counts_output h))) answer none = none
  after_passed_due s at (Some (plain (excludes h))) answer none = none
  after_passed_due s at (Some (plain (admits h))) answer none = none
  after_passed_due s at (Some (plain (drains h))) answer none = none
  after_passed_due s at (Some (plain (gets_counts h))) answer none = none
  after_passed_due s at (Some (plain (sends_packet h bytes))) answer none = none
  after_passed_due s at (Some (plain (takes_packet h))) answer none = none
  after_passed_due s at (Some (plain (hangs_up h))) done none = leader_due (leader_of s.now.jobs)
  after_passed_due s at (Some (plain (hangs_up h))) (count_is taken) none = none
  after_passed_due s at (Some (plain (hangs_up h))) (got bytes) none = none
  after_passed_due s at (Some (plain (hangs_up h))) (number_is n) none = none
  after_passed_due s at (Some (plain (hangs_up h))) (modes_are modes) none = none
  after_passed_due s at (Some (plain (hangs_up h))) (counts_are counts) none = none
  after_passed_due s at (Some (plain (hangs_up h))) (refused errno) none = none
  after_passed_due s at (Some (plain (hangs_up h))) idle none = none

  rest_due : (es : List JobEvent) → DueOf D es → DueOf D (rest_of es)
  rest_due [] h = tt
  rest_due (own c step answer ∷ es) h = absurd h
  rest_due (passed c step answer ∷ es) h = absurd h
  rest_due (passed_down c handle ∷ es) h = h.1
  rest_due (sent signal target ∷ es) h = h.1

  pub event_due : (port : Port) (s : JobsState) (at : ℕ) (event : JobEvent)
      → IsBy D event
      → DueOf D s.due
      → DueOf D (after_event port s at event).due
  event_due port s at (own c step answer) by h =
      after_own_due (terminal_at port.journal at) (proc_of port c) c s at (next_call port s c) by h
  event_due port s at (passed c step answer) by h = after_passed_due s at (next_call port s c) answer h
  event_due port s at (passed_down c handle) by h = rest_due s.due h
  event_due port s at (sent signal target) by h = rest_due s.due h
