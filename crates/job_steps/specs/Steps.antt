-- The step of a port with job control: which event may be logged next, and what it does.
use Rattle.std.specs.Prelude.{◌≡◌, ℕ, ◌+◌, ◌-◌, ◌==◌, ◌≤◌, ◌<◌, nat_le, Bool, true, false, not, ◌&&◌, IsTrue}
use Rattle.std.specs.Prelude.{Option, None, Some, Result, Ok, Err, is_none, unwrap_or, List, [], ◌∷◌, map, filter}
use Rattle.std.specs.Prelude.{length, position, replicate, slice_get, slice_index_or, slice_set, if◌then◌else◌}
use Rattle.std.specs.Option.{option_to_list}
use Rattle.tty_base.specs.declared.counters.Errno.TheVariants.{EBADF, EIO, ENOTTY}
use Rattle.tty_base.specs.declared.counters.Signal.{Signal}
use Rattle.tty_base.specs.declared.counters.Signal.TheVariants as raised
use Rattle.tty_modes.specs.Settings.{has_flag}
use Rattle.tty_modes.specs.declared.places.TheConstants.{TOSTOP}
use Rattle.tty_calls.specs.declared.calls.Access.{Access}
use Rattle.tty_calls.specs.Plain.{PlainCall, reads, writes, sets_modes, sets_disc, flushes, steers}
use Rattle.tty_calls.specs.Plain.{drains, hangs_up, handle_of, PlainAnswer, done, PlainEntry, is_caller}
use Rattle.handle_table.specs.declared.HandleState.{HandleState}
use Rattle.handle_table.specs.Handles.{is_live}
use Rattle.tty_terminal.specs.Terminals.{Terminal, caller_at, handle_at, has_begun}
use Rattle.tty_terminal.specs.Outcomes.{may_read, may_write}
use Rattle.tty_terminal.specs.Runs.{is_of_call}
use Rattle.job_control.specs.declared.processes.Proc.{Proc}
use Rattle.job_control.specs.declared.processes.JobSignal.{JobSignal}
use Rattle.job_control.specs.declared.processes.JobSignal.TheVariants.{Int, Quit, Susp, Hup, Cont}
use Rattle.job_control.specs.declared.processes.JobAct.{JobAct}
use Rattle.job_control.specs.declared.processes.JobAct.TheVariants.{Read, Write, Change}
use Rattle.job_control.specs.declared.processes.Judged.{Judged}
use Rattle.job_control.specs.declared.processes.Judged.TheVariants.{Pass, Eio, Stop}
use Rattle.job_control.specs.declared.processes.JobRefusal.{JobRefusal}
use Rattle.job_control.specs.declared.processes.JobRefusal.TheVariants as refusals
use Rattle.job_control.specs.Roster.{group_at}
use Rattle.job_control.specs.Control.{JobState, first_jobs, leads_holder, judged, sctty_refusal, after_sctty}
use Rattle.job_control.specs.Control.{no_terminal, controls, let_go, after_notty, foreground_of}
use Rattle.job_control.specs.Control.{gpgrp_answer, spgrp_refusal, after_spgrp, after_exit, leader_of}
use Rattle.passed_calls.specs.Blocks.{names_on}
use Rattle.passed_calls.specs.Journals.{Journal, terminal_at, IsAnswerAt}
use Rattle.job_control.specs.declared.answers.JobAnswer.{JobAnswer}
use Rattle.job_control.specs.declared.answers.JobAnswer.TheVariants as told
use Rattle.job_control.specs.declared.answers.Target.{Target}
use Rattle.job_control.specs.declared.answers.Target.TheVariants as towards
use Rattle.passed_calls.specs.Scripts.{plain, further}
use Rattle.job_text.specs.declared.calls.OwnCall.TheVariants as call
use Rattle.job_text.specs.Events.{JobEvent, own, passed, passed_down, sent, JobLog}
use Rattle.job_text.specs.Sessions.{JobCall, JobsSession, blocks_in, proc_place}
use Rattle.job_steps.specs.Derived.{IsStepIn, job_call_at}

-- ---- the state of a port beside its terminal

-- job control from an event on, and after how many entries of the port's journal that was
pub record Moment : Type 0 where
  pub at : ℕ
  pub jobs : JobState

-- The moments so far, the latest first; each caller's next call; how many of the port's signals were sent on; and
-- what must be logged next, in this order.
pub record JobsState : Type 0 where
  pub now : Moment
  pub past : List Moment
  pub next : List ℕ
  pub signals : ℕ
  pub due : List JobEvent

-- a port while its log is read: its number and session, and its journal
pub record Port : Type 0 where
  pub number : ℕ
  pub session : JobsSession
  pub journal : Journal

abbrev pub procs_of : Port → List Proc
procs_of port = slice_index_or port.session.procs port.number []

abbrev pub names_of_port : Port → List (List ℕ)
names_of_port port = names_on port.number (blocks_in port.session)

abbrev pub first_state : Port → JobsState
first_state port = record {
  now = record { at = 0; jobs = first_jobs (procs_of port) };
  past = [];
  next = replicate (length (names_of_port port)) 0;
  signals = 0;
  due = [];
}

-- job control before the entry at a place: after the events that were logged after at most so many entries
abbrev pub jobs_among : List Moment → (at : ℕ) → JobState → JobState
jobs_among [] at first = first
jobs_among (m ∷ ms) at first = if nat_le m.at at then m.jobs else jobs_among ms at first

abbrev pub jobs_before : Port → JobsState → (at : ℕ) → JobState
jobs_before port s at = jobs_among (s.now ∷ s.past) at (first_jobs (procs_of port))

-- the process of a caller
abbrev pub proc_named : List Proc → Option (List ℕ) → Option ℕ
proc_named procs None = None
proc_named procs (Some name) = proc_place procs name

abbrev pub proc_of : Port → (caller : ℕ) → ℕ
proc_of port c = unwrap_or (proc_named (procs_of port) (slice_get (names_of_port port) c)) (length (procs_of port))

abbrev pub next_of : JobsState → ℕ → ℕ
next_of s c = slice_index_or s.next c 0

abbrev pub next_call : Port → JobsState → ℕ → Option JobCall
next_call port s c = job_call_at port.number port.session c (next_of s c)

-- ---- the background check

-- what a call of the port is about to do, and the access that it needs; most calls do nothing that is checked
pub data Checked : Type 0 where
  unchecked : Checked
  checks : (act : JobAct) (needs : Access → Bool) → Checked

abbrev pub any_access : Access → Bool
any_access access = true

abbrev pub checked : PlainCall → Checked
checked (reads h n) = checks Read may_read
checked (writes h bytes) = checks Write may_write
checked (sets_modes h when words) = checks Change any_access
checked (flushes h queue) = checks Change any_access
checked (steers h act) = checks Change any_access
checked (sets_disc h number) = checks Change any_access
checked (drains h) = checks Change any_access
checked other = unchecked

-- a handle is live and has the access
abbrev pub is_usable : (Access → Bool) → Option HandleState → Bool
is_usable needs None = false
is_usable needs (Some handle) = handle.live && needs handle.access

-- what a process meets with a call before the port is asked: a call through another handle goes on unchanged
abbrev pub judged_if : JobState → Terminal → (p : ℕ) → (h : ℕ) → Checked → Judged
judged_if jobs t p h unchecked = Pass
judged_if jobs t p h (checks act needs) =
    if is_usable needs (handle_at t h) then judged jobs p act (has_flag t.modes TOSTOP) else Pass

abbrev pub judged_call : JobState → Terminal → (p : ℕ) → PlainCall → Judged
judged_call jobs t p call = judged_if jobs t p (handle_of call) (checked call)

-- what it is answered, where it does not go on
abbrev pub judged_answer : Judged → Option JobAnswer
judged_answer Pass = None
judged_answer Eio = Some (told.Refused EIO)
judged_answer (Stop signal) = Some (told.Stopped signal)

-- the signal of a call that is stopped goes to the group of its process
abbrev pub sent_by_stop : JobState → (p : ℕ) → Judged → List JobEvent
sent_by_stop jobs p (Stop signal) = sent signal (towards.Group (group_at jobs.procs p)) ∷ []
sent_by_stop jobs p other = []

-- ---- the calls of job control

-- what a call of job control comes to: its answer, what it makes of job control, and what is due then
pub record ControlOutcome : Type 0 where
  pub answer : JobAnswer
  pub left : JobState
  pub due : List JobEvent

abbrev pub leaves : JobAnswer → JobState → ControlOutcome
leaves answer jobs = record { answer = answer; left = jobs; due = [] }

abbrev pub refusal_answer : JobRefusal → JobAnswer
refusal_answer refusals.EPERM = told.NotPermitted
refusal_answer refusals.ENOTTY = told.Refused ENOTTY

abbrev pub done_or : Option JobRefusal → JobAnswer
done_or None = told.Done
done_or (Some refusal) = refusal_answer refusal

abbrev pub number_or : Result ℕ JobRefusal → JobAnswer
number_or (Ok n) = told.Number n
number_or (Err refusal) = refusal_answer refusal

-- the group in the foreground, as a target
abbrev pub target_of : Option ℕ → Target
target_of None = towards.Nobody
target_of (Some group) = towards.Group group

abbrev pub foreground_target : JobState → Target
foreground_target jobs = target_of (foreground_of jobs)

-- HUP and CONT to the foreground group, where a leader lets the port go
abbrev pub notty_due : JobState → ℕ → List JobEvent
notty_due jobs p =
    if leads_holder jobs p && controls jobs p
    then sent Hup (foreground_target jobs) ∷ sent Cont (foreground_target jobs) ∷ []
    else []

-- where a leader ends: HUP to the foreground group, and a hangup through the least live handle
abbrev pub exit_due : JobState → Terminal → (p c : ℕ) → List JobEvent
exit_due jobs t p c =
    if leads_holder jobs p
    then sent Hup (foreground_target jobs) ∷ map (passed_down c) (option_to_list (position is_live t.handles))
    else []

-- the background check of spgrp, after its ENOTTY and before its EPERM
abbrev pub spgrp_judged : JobState → (p group : ℕ) → Judged → ControlOutcome
spgrp_judged jobs p group Pass = leaves (done_or (spgrp_refusal jobs p group)) (after_spgrp jobs p group)
spgrp_judged jobs p group Eio = leaves (told.Refused ENOTTY) jobs
spgrp_judged jobs p group (Stop signal) =
    record { answer = told.Stopped signal; left = jobs; due = sent_by_stop jobs p (Stop signal) }

abbrev pub spgrp_outcome : JobState → Terminal → (p group : ℕ) → ControlOutcome
spgrp_outcome jobs t p group =
    if controls jobs p
    then spgrp_judged jobs p group (judged jobs p Change (has_flag t.modes TOSTOP))
    else leaves (told.Refused ENOTTY) jobs

-- EBADF without a handle; through a dead one EIO, and of spgrp ENOTTY
abbrev pub through : JobState → Option HandleState → (dead : JobAnswer) → ControlOutcome → ControlOutcome
through jobs None dead outcome = leaves (told.Refused EBADF) jobs
through jobs (Some handle) dead outcome = if handle.live then outcome else leaves dead jobs

-- the port is asked nothing in these; a call for the port comes to what the background check says
abbrev pub outcome_of : JobState → Terminal → (p c : ℕ) → JobCall → ControlOutcome
outcome_of jobs t p c (plain call) = record {
  answer = unwrap_or (judged_answer (judged_call jobs t p call)) told.Done;
  left = jobs;
  due = sent_by_stop jobs p (judged_call jobs t p call);
}
outcome_of jobs t p c (further (call.Sctty h)) =
    through jobs (handle_at t h) (told.Refused EIO) (leaves (done_or (sctty_refusal jobs p)) (after_sctty jobs p))
outcome_of jobs t p c (further (call.Notty h)) =
    through jobs (handle_at t h) (told.Refused EIO)
    (record { answer = done_or (no_terminal jobs p); left = after_notty jobs p; due = notty_due jobs p })
outcome_of jobs t p c (further (call.Gpgrp h)) =
    through jobs (handle_at t h) (told.Refused EIO) (leaves (number_or (gpgrp_answer jobs p)) jobs)
outcome_of jobs t p c (further (call.Spgrp h group)) =
    through jobs (handle_at t h) (told.Refused ENOTTY) (spgrp_outcome jobs t p group)
outcome_of jobs t p c (further call.Exit) =
    record { answer = told.Done; left = after_exit jobs p; due = exit_due jobs t p c }

-- ---- the step

-- a call is answered without the port: a call of job control, or a call that does not go on to the port
abbrev pub is_own : JobState → Terminal → (p : ℕ) → JobCall → Bool
is_own jobs t p (plain call) = not (is_none (judged_answer (judged_call jobs t p call)))
is_own jobs t p (further call) = true

abbrev pub OwnAnswer : JobState → Terminal → (p c : ℕ) → Option JobCall → JobAnswer → Type 0
OwnAnswer jobs t p c None answer = ⊥
OwnAnswer jobs t p c (Some call) answer = IsTrue (is_own jobs t p call) × (answer ≡ (outcome_of jobs t p c call).answer)

-- in the phase that runs, by a caller that has begun no call of the port
pub record IsOwn (port : Port) (s : JobsState) (at c step : ℕ) (answer : JobAnswer) : Type 0 where
  pub nothing_due : s.due ≡ []
  pub next : step ≡ next_of s c
  pub in_phase : IsStepIn port.number port.session (terminal_at port.journal at).phase c step
  pub between : has_begun (caller_at (terminal_at port.journal at) c) ≡ false
  pub answers : OwnAnswer s.now.jobs (terminal_at port.journal at) (proc_of port c) c (next_call port s c) answer

-- an entry of a caller's call of this step
abbrev pub is_of_step : (c step : ℕ) → PlainEntry → Bool
is_of_step c step e = is_of_call e.event && is_caller e.who c && (e.step == step)

-- the place of the first entry of a call by its step in the journal
abbrev pub first_place : Journal → (c step : ℕ) → ℕ
first_place journal c step = unwrap_or (position (is_of_step c step) journal.entries) (length journal.entries)

-- the call went on to the port: by the background check as the call began
abbrev pub WentToPort : Port → JobsState → (place c : ℕ) → Option JobCall → Type 0
WentToPort port s place c (Some (plain call)) =
    judged_call (jobs_before port s place) (terminal_at port.journal place) (proc_of port c) call ≡ Pass
WentToPort port s place c other = ⊥

-- an entry of a call by its step in the journal is of this call
abbrev pub IsOfCall : Port → (c step : ℕ) → Option JobCall → Type 0
IsOfCall port c step (Some (plain call)) = port.journal.calls c step ≡ Some call
IsOfCall port c step other = ⊥

-- in the phase that runs; and each answer is logged once, right behind its entry, which is of this call
pub record IsPassed (port : Port) (s : JobsState) (at c step : ℕ) (answer : PlainAnswer) : Type 0 where
  pub nothing_due : s.due ≡ []
  pub next : step ≡ next_of s c
  pub in_phase : IsStepIn port.number port.session (terminal_at port.journal at).phase c step
  pub entry : IsAnswerAt port.journal c at answer
  pub at_once : s.now.at < at
  pub of_call : IsOfCall port c entry.entry.step (next_call port s c)
  pub goes_on : WentToPort port s (first_place port.journal c entry.entry.step) c (next_call port s c)

-- the hangup of a process that ended, which is the first that is due: the port's next entry answers it
pub record IsPassedDown (port : Port) (s : JobsState) (at c h : ℕ) : Type 0 where
  pub rest : List JobEvent
  pub is_due : s.due ≡ passed_down c h ∷ rest
  pub entry : IsAnswerAt port.journal c at done
  pub at_once : at ≡ s.now.at + 1
  pub of_call : port.journal.calls c entry.entry.step ≡ Some (hangs_up h)

-- a signal of the port by its name in job control
abbrev pub job_signal : Signal → JobSignal
job_signal raised.Int = Int
job_signal raised.Quit = Quit
job_signal raised.Susp = Susp

-- the signals that the port has raised
abbrev pub raised_at : Journal → (at : ℕ) → List JobSignal
raised_at journal at = map job_signal (terminal_at journal at).tally.signals.items

-- the port's next signal, right after the flush that raised it
pub record IsRaised (port : Port) (s : JobsState) (at : ℕ) (signal : JobSignal) (target : Target) : Type 0 where
  pub nothing_due : s.due ≡ []
  pub some : 0 < at
  pub raised : slice_get (raised_at port.journal at) s.signals ≡ Some signal
  pub fresh : length (raised_at port.journal (at - 1)) ≤ s.signals
  pub goes_to : target ≡ foreground_target s.now.jobs

-- the first that is due, at once, or a signal of the port
abbrev pub IsSent : Port → JobsState → (at : ℕ) → JobSignal → Target → List JobEvent → Type 0
IsSent port s at signal target [] = IsRaised port s at signal target
IsSent port s at signal target (e ∷ rest) = (sent signal target ≡ e) × (at ≡ s.now.at)

abbrev pub IsAllowed : Port → JobsState → (at : ℕ) → JobEvent → Type 0
IsAllowed port s at (own c step answer) = IsOwn port s at c step answer
IsAllowed port s at (passed c step answer) = IsPassed port s at c step answer
IsAllowed port s at (passed_down c h) = IsPassedDown port s at c h
IsAllowed port s at (sent signal target) = IsSent port s at signal target s.due

-- job control after an event, from which on it stands
abbrev pub with_jobs : JobsState → (at : ℕ) → JobState → JobsState
with_jobs s at jobs = record s { now = record { at = at; jobs = jobs }; past = s.now ∷ s.past }

abbrev pub answered_for : JobsState → ℕ → JobsState
answered_for s c = record s { next = slice_set s.next c (next_of s c + 1) }

abbrev pub after_own : Terminal → (p c : ℕ) → JobsState → (at : ℕ) → Option JobCall → JobsState
after_own t p c s at None = s
after_own t p c s at (Some call) =
    record (with_jobs s at (outcome_of s.now.jobs t p c call).left) { due = (outcome_of s.now.jobs t p c call).due }

-- a caller's hangup tells the leader of the session, and nobody holds the port then
abbrev pub told_leader : Option ℕ → List JobEvent
told_leader None = []
told_leader (Some leader) = sent Hup (towards.Process leader) ∷ sent Cont (towards.Process leader) ∷ []

abbrev pub after_passed : JobsState → (at : ℕ) → Option JobCall → PlainAnswer → JobsState
after_passed s at (Some (plain (hangs_up h))) done =
    record (with_jobs s at (let_go s.now.jobs)) { due = told_leader (leader_of s.now.jobs) }
after_passed s at call answer = with_jobs s at s.now.jobs

abbrev pub rest_of : List JobEvent → List JobEvent
rest_of [] = []
rest_of (e ∷ rest) = rest

abbrev pub after_event : Port → JobsState → (at : ℕ) → JobEvent → JobsState
after_event port s at (own c step answer) =
    answered_for (after_own (terminal_at port.journal at) (proc_of port c) c s at (next_call port s c)) c
after_event port s at (passed c step answer) = answered_for (after_passed s at (next_call port s c) answer) c
after_event port s at (passed_down c h) = record (with_jobs s at s.now.jobs) { due = rest_of s.due }
after_event port s at (sent signal target) =
    record (with_jobs s at s.now.jobs) {
      signals = if nat_le (length s.due) 0 then s.signals + 1 else s.signals;
      due = rest_of s.due;
    }

-- the events of a port are steps, one after the other, and lead from the one state to the other; the places never fall
abbrev pub Leads : Port → JobsState → JobLog → JobsState → Type 0
Leads port s [] u = u ≡ s
Leads port s (l ∷ log) u =
    (s.now.at ≤ l.at)
    × (l.at ≤ length port.journal.entries)
    × IsAllowed port s l.at l.event
    × Leads port (after_event port s l.at l.event) log u

-- at its end nothing is due, and each of the port's signals was sent on
pub record IsJobsRun (port : Port) (log : JobLog) : Type 0 where
  pub last : JobsState
  pub leads : Leads port (first_state port) (filter (λ l. l.port == port.number) log) last
  pub nothing_due : last.due ≡ []
  pub all_sent : last.signals ≡ length (raised_at port.journal (length port.journal.entries))
