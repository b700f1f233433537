-- Worked sessions of processes, and their reports.
use Rattle.std.specs.Prelude.{ℕ, true, Option, None, Some, List, [], ◌∷◌, ◌++◌, codes}
use Rattle.tty_base.specs.declared.characters.Flag.TheVariants.{Normal}
use Rattle.tty_base.specs.declared.counters.Errno.TheVariants.{EAGAIN, EIO}
use Rattle.tty_base.specs.declared.counters.Signal.TheVariants as raised
use Rattle.tty_base.specs.declared.lines.LineStep.{LineStep}
use Rattle.tty_base.specs.declared.lines.LineStep.TheVariants.{Rx}
use Rattle.tty_modes.specs.declared.words.Word.TheVariants.{Raw}
use Rattle.tty_calls.specs.declared.calls.Access.TheVariants.{Rw}
use Rattle.tty_calls.specs.declared.calls.When.TheVariants.{Now}
use Rattle.tty_calls.specs.declared.journals.Who.TheVariants.{Flusher}
use Rattle.tty_calls.specs.Plain.{PlainEntry, opens, reads, writes, sets_modes, done, count_is, flushed, refused}
use Rattle.job_control.specs.declared.answers.JobAnswer.TheVariants as told
use Rattle.job_control.specs.declared.answers.Target.TheVariants as towards
use Rattle.job_control.specs.declared.processes.JobSignal.TheVariants.{Int, Ttin, Hup}
use Rattle.passed_calls.specs.declared.logs.Logged.{Logged}
use Rattle.passed_calls.specs.Scripts.{plain, further}
use Rattle.job_text.specs.declared.calls.OwnCall.TheVariants as call
use Rattle.job_text.specs.Events.{JobEvent, JobLog, own, passed, passed_down, sent}
use Rattle.job_text.specs.Sessions.{JobCall, JobsPhase, JobsSession}
use Rattle.further_report.specs.Jobs.{jobs_report_text}
use Rattle.further_report.specs.Rows.{end_with, port_head, run_with}
use Rattle.job_control.specs.Rows.{shell, job_of}

abbrev pub phase_with : List LineStep → (name : List ℕ) → List JobCall → JobsPhase
phase_with line name calls =
    record { lines = line ∷ []; ticks = 0 ∷ []; callers = record { port = 0; name = name; calls = calls } ∷ [] }

abbrev pub session_with : (parent : Option ℕ) → List JobsPhase → JobsSession
session_with parent phases =
    record { version = 1; ports = 1; flips = 4096 ∷ []; procs = (shell ∷ job_of parent ∷ []) ∷ []; phases = phases }

abbrev pub logged : ℕ → JobEvent → Logged JobEvent
logged at event = record { port = 0; at = at; event = event }

-- ---- a job reads from the background, is put into the foreground, and is interrupted there

abbrev pub foreground_given : JobsSession
foreground_given = session_with (Some 0) (
    phase_with [] (codes "sh") (plain (opens 0 Rw true) ∷ further (call.Sctty 0) ∷ further (call.Gpgrp 0) ∷ [])
    ∷ phase_with [] (codes "job") (plain (reads 0 8) ∷ [])
    ∷ phase_with [] (codes "sh") (further (call.Spgrp 0 2) ∷ [])
    ∷ phase_with (Rx (record { byte = 3; flag = Normal }) ∷ []) (codes "job") (plain (reads 0 8) ∷ [])
    ∷ [])

abbrev pub foreground_log : JobLog
foreground_log =
    logged 2 (passed 0 0 done)
    ∷ logged 2 (own 0 1 told.Done)
    ∷ logged 2 (own 0 2 (told.Number 1))
    ∷ logged 6 (own 1 0 (told.Stopped Ttin))
    ∷ logged 6 (sent Ttin (towards.Group 2))
    ∷ logged 10 (own 0 3 told.Done)
    ∷ logged 14 (sent Int (towards.Group 2))
    ∷ logged 16 (passed 1 1 (refused EAGAIN))
    ∷ []

abbrev pub interrupted : PlainEntry
interrupted = record {
  who = Flusher;
  step = 0;
  part = 0;
  generation = 0;
  event = flushed (record { byte = 3; flag = Normal } ∷ []);
}

abbrev pub foreground_told : List ℕ
foreground_told = jobs_report_text foreground_given foreground_log (run_with 1 (interrupted ∷ []) ∷ [])
    (end_with (raised.Int ∷ []) 1 (94 ∷ 67 ∷ []) ∷ [])

abbrev pub foreground_report : List ℕ
foreground_report =
    codes
    "0.sh.0 open ok\n0.sh.1 sctty ok\n0.sh.2 gpgrp 1\n0.job.0 read stopped TTIN\n0.sh.3 spgrp ok\n0.job.1 read EAGAIN\n"
    ++ (port_head (codes "1")
    ++ codes "INT\nport 0 generation 1\nport 0 wire 5e43\njob 0 TTIN group 2\njob 0 INT group 2\ndone\n")

-- ---- a job without a parent is refused, and the shell ends

abbrev pub shell_ends : JobsSession
shell_ends = session_with None (
    phase_with [] (codes "sh") (plain (opens 0 Rw true) ∷ further (call.Sctty 0) ∷ [])
    ∷ phase_with [] (codes "job")
    (plain (reads 0 8) ∷ plain (writes 0 (97 ∷ [])) ∷ plain (sets_modes 0 Now (Raw ∷ [])) ∷ further (call.Sctty 0) ∷ [])
    ∷ phase_with [] (codes "sh") (further call.Exit ∷ [])
    ∷ [])

abbrev pub shell_ends_log : JobLog
shell_ends_log =
    logged 2 (passed 0 0 done)
    ∷ logged 2 (own 0 1 told.Done)
    ∷ logged 6 (own 1 0 (told.Refused EIO))
    ∷ logged 7 (passed 1 1 (count_is 1))
    ∷ logged 7 (own 1 2 (told.Refused EIO))
    ∷ logged 7 (own 1 3 told.NotPermitted)
    ∷ logged 11 (own 0 2 told.Done)
    ∷ logged 11 (sent Hup (towards.Group 1))
    ∷ logged 12 (passed_down 0 0)
    ∷ []

abbrev pub shell_ends_told : List ℕ
shell_ends_told = jobs_report_text shell_ends shell_ends_log (run_with 0 [] ∷ []) (end_with [] 2 (97 ∷ []) ∷ [])

abbrev pub shell_ends_report : List ℕ
shell_ends_report =
    codes
    "0.sh.0 open ok\n0.sh.1 sctty ok\n0.job.0 read EIO\n0.job.1 write 1\n0.job.2 modes EIO\n0.job.3 sctty EPERM\n0.sh.2 exit ok\n"
    ++ (port_head (codes "0") ++ codes "-\nport 0 generation 2\nport 0 wire 61\njob 0 HUP group 1\ndone\n")
