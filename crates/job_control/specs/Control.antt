-- Job control of a port: which session holds it, which group is in the foreground, and what each call makes of that
-- (termios(3), tcsetpgrp(3), ioctl_tty(2)).
use Rattle.std.specs.Prelude.{ℕ, ◌==◌, Bool, true, false, not, ◌&&◌, Option, None, Some, Result, Ok}
use Rattle.std.specs.Prelude.{Err, List, length, slice_get, slice_index_or, slice_set, replicate}
use Rattle.std.specs.Prelude.{option_map, option_and_then, is_none, ok_or, ◌||◌, if◌then◌else◌}
use Rattle.std.specs.Option.{option_map_or}
use Rattle.job_control.specs.declared.processes.Proc.{Proc}
use Rattle.job_control.specs.declared.jobs.Holder.{Holder}
use Rattle.job_control.specs.declared.processes.JobSignal.TheVariants.{Ttin, Ttou}
use Rattle.job_control.specs.declared.processes.JobAct.{JobAct}
use Rattle.job_control.specs.declared.processes.JobAct.TheVariants.{Read, Write, Change}
use Rattle.job_control.specs.declared.processes.Judged.{Judged}
use Rattle.job_control.specs.declared.processes.Judged.TheVariants.{Pass, Eio, Stop}
use Rattle.job_control.specs.declared.processes.JobRefusal.{JobRefusal}
use Rattle.job_control.specs.declared.processes.JobRefusal.TheVariants.{EPERM, ENOTTY}
use Rattle.job_control.specs.Roster.{session_at, group_at, leads_at, has_exited, is_orphaned, has_living}

-- the processes of a port; by place, who has exited, and who has given the port up since its session took it; who
-- holds the port
pub record JobState : Type 0 where
  pub procs : List Proc
  pub exited : List Bool
  pub given_up : List Bool
  pub holder : Option Holder

-- at first nobody holds the port
abbrev pub first_jobs : List Proc → JobState
first_jobs procs = record {
  procs = procs;
  exited = replicate (length procs) false;
  given_up = replicate (length procs) false;
  holder = None;
}

-- the port is the controlling terminal of a process
abbrev pub is_controlled : JobState → ℕ → Holder → Bool
is_controlled state p holder =
    (holder.session == session_at state.procs p) && not (slice_index_or state.given_up p false)

abbrev pub controls : JobState → ℕ → Bool
controls state p = option_map_or (is_controlled state p) state.holder false

-- it is, and the group of the process is not in the foreground
abbrev pub in_background : JobState → ℕ → Bool
in_background state p =
    option_map_or (λ holder. is_controlled state p holder && not (holder.foreground == group_at state.procs p))
    state.holder false

-- the process leads the session that holds the port
abbrev pub leads_holder : JobState → ℕ → Bool
leads_holder state p =
    option_map_or (λ holder. leads_at state.procs p && (holder.session == session_at state.procs p)) state.holder false

abbrev pub ignores_ttin : JobState → ℕ → Bool
ignores_ttin state p = option_map_or (λ proc. proc.nottin) (slice_get state.procs p) false

abbrev pub ignores_ttou : JobState → ℕ → Bool
ignores_ttou state p = option_map_or (λ proc. proc.nottou) (slice_get state.procs p) false

abbrev pub is_orphan : JobState → ℕ → Bool
is_orphan state p = is_orphaned state.procs state.exited (group_at state.procs p)

-- a change from the background, or a write under TOSTOP
abbrev pub change_judged : JobState → ℕ → Judged
change_judged state p = if ignores_ttou state p then Pass else if is_orphan state p then Eio else Stop Ttou

-- what an act from the background meets: a read is an error where TTIN is ignored or blocked, or the group is orphaned
abbrev pub background_judged : JobState → ℕ → JobAct → (tostop : Bool) → Judged
background_judged state p Read tostop = if ignores_ttin state p || is_orphan state p then Eio else Stop Ttin
background_judged state p Write tostop = if tostop then change_judged state p else Pass
background_judged state p Change tostop = change_judged state p

-- what an act meets
abbrev pub judged : JobState → ℕ → JobAct → (tostop : Bool) → Judged
judged state p act tostop = if in_background state p then background_judged state p act tostop else Pass

-- done, or refused
abbrev pub done_unless : Option JobRefusal → Result (Unit {0}) JobRefusal
done_unless None = Ok tt
done_unless (Some refusal) = Err refusal

-- TIOCSCTTY: the leader of a session takes a port that nobody holds, or that its session holds already
abbrev pub sctty_refusal : JobState → ℕ → Option JobRefusal
sctty_refusal state p =
    if leads_holder state p || (leads_at state.procs p && is_none state.holder) then None else Some EPERM

-- the session of a process holds the port, its group is in the foreground, and nobody has given the port up
abbrev pub taken_by : JobState → ℕ → JobState
taken_by state p = record state {
  given_up = replicate (length state.procs) false;
  holder = Some (record { leader = p; session = session_at state.procs p; foreground = group_at state.procs p });
}

abbrev pub after_sctty : JobState → ℕ → JobState
after_sctty state p = if leads_at state.procs p && is_none state.holder then taken_by state p else state

-- the port is not the controlling terminal of the process
abbrev pub no_terminal : JobState → ℕ → Option JobRefusal
no_terminal state p = if controls state p then None else Some ENOTTY

-- nobody holds the port
abbrev pub let_go : JobState → JobState
let_go state = record state { holder = None }

-- TIOCNOTTY: the leader lets the port go, another gives it up for itself
abbrev pub after_notty : JobState → ℕ → JobState
after_notty state p =
    if controls state p
    then (if leads_holder state p then let_go state else record state { given_up = slice_set state.given_up p true })
    else state

-- TIOCGPGRP
abbrev pub foreground_of : JobState → Option ℕ
foreground_of state = option_map (λ holder. holder.foreground) state.holder

abbrev pub gpgrp_answer : JobState → ℕ → Result ℕ JobRefusal
gpgrp_answer state p = if controls state p then ok_or (foreground_of state) ENOTTY else Err ENOTTY

-- TIOCSPGRP: a group of the session in which a process has not exited
abbrev pub spgrp_refusal : JobState → ℕ → (group : ℕ) → Option JobRefusal
spgrp_refusal state p group =
    if controls state p
    then (if has_living state.procs state.exited (session_at state.procs p) group then None else Some EPERM)
    else Some ENOTTY

abbrev pub in_front : (group : ℕ) → Holder → Holder
in_front group holder = record holder { foreground = group }

abbrev pub after_spgrp : JobState → ℕ → (group : ℕ) → JobState
after_spgrp state p group =
    if is_none (spgrp_refusal state p group)
    then record state { holder = option_map (in_front group) state.holder }
    else state

-- a process ends, and where it leads the session that holds the port, nobody holds it
abbrev pub after_exit : JobState → ℕ → JobState
after_exit state p = record state {
  exited = slice_set state.exited p true;
  holder = if leads_holder state p then None else state.holder;
}

-- the leader of the session that holds the port, where it has not exited
abbrev pub leader_of : JobState → Option ℕ
leader_of state =
    option_and_then (λ holder. if has_exited state.exited holder.leader then None else Some holder.leader) state.holder
