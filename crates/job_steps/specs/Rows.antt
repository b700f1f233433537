-- Worked sessions of job control: their logs and journals.
use Rattle.std.specs.Prelude.{ℕ, List, [], ◌∷◌, true, Option, None, Some, codes, sum}
use Rattle.tty_base.specs.declared.lines.LineStep.{LineStep}
use Rattle.tty_base.specs.declared.lines.LineStep.TheVariants.{Rx}
use Rattle.tty_base.specs.declared.counters.Errno.TheVariants.{EAGAIN, EIO}
use Rattle.tty_modes.specs.declared.words.Word.TheVariants.{Raw}
use Rattle.tty_calls.specs.declared.calls.Access.TheVariants.{Rw}
use Rattle.tty_calls.specs.declared.calls.When.TheVariants.{Now}
use Rattle.tty_calls.specs.declared.journals.Who.TheVariants.{Caller, Flusher, Line, Clock, Session}
use Rattle.tty_calls.specs.Plain.{PlainCall, opens, reads, writes, sets_modes, hangs_up, done, count_is, refused}
use Rattle.tty_calls.specs.Plain.{flushed, line_ended, clock_ended, caller_ended, phase_ended, hung_up, PlainEntry}
use Rattle.tty_calls.specs.Sessions.{PlainPhase, PlainSession, call_at, counts_on}
use Rattle.tty_terminal.specs.Terminals.{opening}
use Rattle.tty_terminal.specs.Rows.{whole, answers, normal}
use Rattle.legal_runs.specs.Legal.{flip_on}
use Rattle.job_control.specs.declared.processes.JobSignal.TheVariants.{Int, Ttin, Hup}
use Rattle.passed_calls.specs.declared.logs.Logged.{Logged}
use Rattle.job_control.specs.declared.answers.JobAnswer.TheVariants as told
use Rattle.job_control.specs.declared.answers.Target.TheVariants as towards
use Rattle.passed_calls.specs.Scripts.{plain, further}
use Rattle.job_text.specs.declared.calls.OwnCall.TheVariants as call
use Rattle.job_text.specs.Events.{JobEvent, own, passed, passed_down, sent, JobLog}
use Rattle.job_text.specs.Sessions.{JobCall, JobsPhase, JobsSession}
use Rattle.job_steps.specs.Derived.{derived}
use Rattle.job_steps.specs.Steps.{Port, JobsState, after_event}
use Rattle.job_control.specs.Rows.{shell, job_of}
use Rattle.legal_runs.specs.Rows.{played_with}

-- ---- sessions of one port, with a shell that leads session 1, and a job of it

abbrev pub phase_with : List LineStep → (name : List ℕ) → List JobCall → JobsPhase
phase_with line name calls =
    record { lines = line ∷ []; ticks = 0 ∷ []; callers = record { port = 0; name = name; calls = calls } ∷ [] }

abbrev pub session_with : (parent : Option ℕ) → List JobsPhase → JobsSession
session_with parent phases =
    record { version = 1; ports = 1; flips = 4096 ∷ []; procs = (shell ∷ job_of parent ∷ []) ∷ []; phases = phases }

abbrev pub played_phase : List LineStep → (name : List ℕ) → List PlainCall → PlainPhase
played_phase line name calls =
    record { lines = line ∷ []; ticks = 0 ∷ []; callers = record { port = 0; name = name; calls = calls } ∷ [] }

abbrev pub logged : ℕ → JobEvent → Logged JobEvent
logged at event = record { port = 0; at = at; event = event }

-- port 0 of a session, by its log and its journal
abbrev pub port_of : JobsSession → JobLog → List PlainEntry → Port
port_of session log journal = record {
  number = 0;
  session = session;
  journal = record {
    entries = journal;
    calls = call_at 0 (derived session log);
    opening = opening (sum (counts_on 0 (derived session log))) (flip_on 0 (derived session log));
  };
}

-- ---- a job reads from the background, is put into the foreground, and is interrupted there

abbrev pub foreground_given : JobsSession
foreground_given = session_with (Some 0) (
    phase_with [] (codes "sh") (plain (opens 0 Rw true) ∷ further (call.Sctty 0) ∷ further (call.Gpgrp 0) ∷ [])
    ∷ phase_with [] (codes "job") (plain (reads 0 8) ∷ [])
    ∷ phase_with [] (codes "sh") (further (call.Spgrp 0 2) ∷ [])
    ∷ phase_with (Rx (normal 3) ∷ []) (codes "job") (plain (reads 0 8) ∷ [])
    ∷ [])

abbrev pub foreground_log : JobLog
foreground_log =
    logged 2 (passed 0 0 done)
    ∷ logged 2 (own 0 1 told.Done)
    ∷ logged 2 (own 0 2 (told.Number 1))
    ∷ logged 6 (own 1 0 (told.Stopped Ttin))
    ∷ logged 6 (sent Ttin (towards.Group 2))
    ∷ logged 10 (own 0 3 told.Done)
    ∷ logged 14 (sent Int (towards.Group 2))
    ∷ logged 16 (passed 1 1 (refused EAGAIN))
    ∷ []

abbrev pub foreground_played : PlainSession
foreground_played = played_with (
    played_phase [] (codes "sh") (opens 0 Rw true ∷ [])
    ∷ played_phase [] (codes "job") []
    ∷ played_phase [] (codes "sh") []
    ∷ played_phase (Rx (normal 3) ∷ []) (codes "job") (reads 0 8 ∷ [])
    ∷ [])

abbrev pub foreground_journal : List PlainEntry
foreground_journal =
    whole Line 0 0 (line_ended 0)
    ∷ whole (Caller 0) 0 0 (answers done)
    ∷ whole (Caller 0) 1 0 caller_ended
    ∷ whole Clock 0 0 clock_ended
    ∷ whole Session 0 0 phase_ended
    ∷ whole Line 1 0 (line_ended 0)
    ∷ whole (Caller 1) 0 0 caller_ended
    ∷ whole Clock 1 0 clock_ended
    ∷ whole Session 1 0 phase_ended
    ∷ whole Line 2 0 (line_ended 0)
    ∷ whole (Caller 0) 1 0 caller_ended
    ∷ whole Clock 2 0 clock_ended
    ∷ whole Session 2 0 phase_ended
    ∷ whole Flusher 0 0 (flushed (normal 3 ∷ []))
    ∷ whole Line 3 0 (line_ended 1)
    ∷ whole (Caller 1) 0 0 (answers (refused EAGAIN))
    ∷ whole (Caller 1) 1 0 caller_ended
    ∷ whole Clock 3 0 clock_ended
    ∷ whole Session 3 0 phase_ended
    ∷ whole Session 4 0 (hung_up [])
    ∷ []

-- the read from the background goes on to the port
abbrev pub read_passed : JobLog
read_passed =
    logged 2 (passed 0 0 done)
    ∷ logged 2 (own 0 1 told.Done)
    ∷ logged 2 (own 0 2 (told.Number 1))
    ∷ logged 7 (passed 1 0 (refused EAGAIN))
    ∷ []

abbrev pub read_passed_journal : List PlainEntry
read_passed_journal =
    whole Line 0 0 (line_ended 0)
    ∷ whole (Caller 0) 0 0 (answers done)
    ∷ whole (Caller 0) 1 0 caller_ended
    ∷ whole Clock 0 0 clock_ended
    ∷ whole Session 0 0 phase_ended
    ∷ whole Line 1 0 (line_ended 0)
    ∷ whole (Caller 1) 0 0 (answers (refused EAGAIN))
    ∷ []

-- the read from the background is stopped before the line's end
abbrev pub stopped_early : JobLog
stopped_early =
    logged 2 (passed 0 0 done)
    ∷ logged 2 (own 0 1 told.Done)
    ∷ logged 2 (own 0 2 (told.Number 1))
    ∷ logged 5 (own 1 0 (told.Stopped Ttin))
    ∷ logged 5 (sent Ttin (towards.Group 2))
    ∷ []

-- the interrupt goes to the group of the shell, which is in the background
abbrev pub interrupt_to_shell : JobLog
interrupt_to_shell =
    logged 2 (passed 0 0 done)
    ∷ logged 2 (own 0 1 told.Done)
    ∷ logged 2 (own 0 2 (told.Number 1))
    ∷ logged 6 (own 1 0 (told.Stopped Ttin))
    ∷ logged 6 (sent Ttin (towards.Group 2))
    ∷ logged 10 (own 0 3 told.Done)
    ∷ logged 14 (sent Int (towards.Group 1))
    ∷ []

-- the interrupt is sent to nobody
abbrev pub interrupt_unsent : JobLog
interrupt_unsent =
    logged 2 (passed 0 0 done)
    ∷ logged 2 (own 0 1 told.Done)
    ∷ logged 2 (own 0 2 (told.Number 1))
    ∷ logged 6 (own 1 0 (told.Stopped Ttin))
    ∷ logged 6 (sent Ttin (towards.Group 2))
    ∷ logged 10 (own 0 3 told.Done)
    ∷ []

-- ---- the group of a job is orphaned, and the shell ends

abbrev pub shell_ends : JobsSession
shell_ends = session_with None (
    phase_with [] (codes "sh") (plain (opens 0 Rw true) ∷ further (call.Sctty 0) ∷ [])
    ∷ phase_with [] (codes "job")
    (plain (reads 0 8) ∷ plain (writes 0 (97 ∷ [])) ∷ plain (sets_modes 0 Now (Raw ∷ [])) ∷ further (call.Sctty 0) ∷ [])
    ∷ phase_with [] (codes "sh") (further call.Exit ∷ [])
    ∷ [])

abbrev pub shell_ends_log : JobLog
shell_ends_log =
    logged 2 (passed 0 0 done)
    ∷ logged 2 (own 0 1 told.Done)
    ∷ logged 6 (own 1 0 (told.Refused EIO))
    ∷ logged 7 (passed 1 1 (count_is 1))
    ∷ logged 7 (own 1 2 (told.Refused EIO))
    ∷ logged 7 (own 1 3 told.NotPermitted)
    ∷ logged 11 (own 0 2 told.Done)
    ∷ logged 11 (sent Hup (towards.Group 1))
    ∷ logged 12 (passed_down 0 0)
    ∷ []

abbrev pub shell_ends_played : PlainSession
shell_ends_played = played_with (
    played_phase [] (codes "sh") (opens 0 Rw true ∷ [])
    ∷ played_phase [] (codes "job") (writes 0 (97 ∷ []) ∷ [])
    ∷ played_phase [] (codes "sh") (hangs_up 0 ∷ [])
    ∷ [])

abbrev pub shell_ends_journal : List PlainEntry
shell_ends_journal =
    whole Line 0 0 (line_ended 0)
    ∷ whole (Caller 0) 0 0 (answers done)
    ∷ whole (Caller 0) 1 0 caller_ended
    ∷ whole Clock 0 0 clock_ended
    ∷ whole Session 0 0 phase_ended
    ∷ whole Line 1 0 (line_ended 0)
    ∷ whole (Caller 1) 0 0 (answers (count_is 1))
    ∷ whole (Caller 1) 1 0 caller_ended
    ∷ whole Clock 1 0 clock_ended
    ∷ whole Session 1 0 phase_ended
    ∷ whole Line 2 0 (line_ended 0)
    ∷ whole (Caller 0) 1 0 (answers done)
    ∷ whole (Caller 0) 2 1 caller_ended
    ∷ whole Clock 2 1 clock_ended
    ∷ whole Session 2 1 phase_ended
    ∷ whole Session 3 1 (hung_up [])
    ∷ []

-- the orphaned group is stopped
abbrev pub orphan_stopped : JobLog
orphan_stopped =
    logged 2 (passed 0 0 done) ∷ logged 2 (own 0 1 told.Done) ∷ logged 6 (own 1 0 (told.Stopped Ttin))
    ∷ logged 6 (sent Ttin (towards.Group 2)) ∷ []

-- the leader ends, and nothing is hung up
abbrev pub not_hung_up : JobLog
not_hung_up =
    logged 2 (passed 0 0 done)
    ∷ logged 2 (own 0 1 told.Done)
    ∷ logged 6 (own 1 0 (told.Refused EIO))
    ∷ logged 7 (passed 1 1 (count_is 1))
    ∷ logged 7 (own 1 2 (told.Refused EIO))
    ∷ logged 7 (own 1 3 told.NotPermitted)
    ∷ logged 11 (own 0 2 told.Done)
    ∷ logged 11 (sent Hup (towards.Group 1))
    ∷ []

-- the state of a port after these events
abbrev pub state_after : Port → JobsState → JobLog → JobsState
state_after port s [] = s
state_after port s (l ∷ log) = state_after port (after_event port s l.at l.event) log
