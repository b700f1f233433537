-- The report of a session whose callers are processes: what each call was answered, what became of the ports, and which
-- signals were sent.
use Rattle.std.specs.Prelude.{ℕ, ◌==◌, List, [], ◌∷◌, ◌++◌, codes, flat_map, slice_index_or, if◌then◌else◌}
use Rattle.std.specs.List.{range_with_len}
use Rattle.tty_calls.specs.declared.journals.PortRun.{PortRun}
use Rattle.session_print.specs.Ends.{PlainEnd}
use Rattle.session_print.specs.Lines.{newline}
use Rattle.session_print.specs.Report.{ports_from}
use Rattle.session_print.specs.Words.{answer_text}
use Rattle.job_control.specs.declared.processes.Proc.{Proc}
use Rattle.job_print.specs.Lines.{answer_text as own_answer_text, signal_line}
use Rattle.passed_calls.specs.Blocks.{names_on}
use Rattle.passed_calls.specs.Scripts.{CallerScript}
use Rattle.job_text.specs.declared.calls.OwnCall.{OwnCall}
use Rattle.job_text.specs.declared.calls.OwnCall.TheVariants as call
use Rattle.job_text.specs.Sessions.{JobCall, JobsSession, blocks_in}
use Rattle.job_text.specs.Events.{JobEvent, own, passed, passed_down, sent, JobLog}
use Rattle.further_report.specs.Calls.{ToldAnswer, calls_text}
use Rattle.further_report.specs.Ports.{without_phases}

-- what a call of job control is written as
abbrev pub own_verb : OwnCall → List ℕ
own_verb (call.Sctty h) = codes "sctty"
own_verb (call.Notty h) = codes "notty"
own_verb (call.Gpgrp h) = codes "gpgrp"
own_verb (call.Spgrp h group) = codes "spgrp"
own_verb call.Exit = codes "exit"

-- what an event answers
abbrev pub told_in : JobEvent → List ToldAnswer
told_in (own c step answer) = record { caller = c; text = own_answer_text answer } ∷ []
told_in (passed c step answer) = record { caller = c; text = answer_text answer } ∷ []
told_in (passed_down c h) = []
told_in (sent signal target) = []

-- what was answered on a port, in order
abbrev pub told_on : ℕ → JobLog → List ToldAnswer
told_on p log = flat_map (λ l. if l.port == p then told_in l.event else []) log

abbrev pub scripts_in : JobsSession → List (CallerScript JobCall)
scripts_in session = flat_map (λ phase. phase.callers) session.phases

abbrev pub port_calls : JobsSession → JobLog → ℕ → List ℕ
port_calls session log p = calls_text own_verb p (names_on p (blocks_in session)) (told_on p log) (scripts_in session)

-- the lines of the calls of all ports
abbrev pub all_calls : JobsSession → JobLog → List ℕ
all_calls session log = flat_map (port_calls session log) (range_with_len 0 session.ports)

-- the line of a signal
abbrev pub signal_in : (p : ℕ) → List Proc → JobEvent → List ℕ
signal_in p procs (own c step answer) = []
signal_in p procs (passed c step answer) = []
signal_in p procs (passed_down c h) = []
signal_in p procs (sent signal target) = signal_line p procs signal target

-- the lines of the signals of a port that has these processes, in the order in which they were sent
abbrev pub signals_on : (p : ℕ) → List Proc → JobLog → List ℕ
signals_on p procs log = flat_map (λ l. if l.port == p then signal_in p procs l.event else []) log

abbrev pub port_signals : JobsSession → JobLog → ℕ → List ℕ
port_signals session log p = signals_on p (slice_index_or session.procs p []) log

abbrev pub all_signals : JobsSession → JobLog → List ℕ
all_signals session log = flat_map (port_signals session log) (range_with_len 0 session.ports)

abbrev pub jobs_report_text : JobsSession → JobLog → List PortRun → List PlainEnd → List ℕ
jobs_report_text session log runs ends =
    all_calls session log
    ++ (ports_from 0 (without_phases session.version session.ports session.flips) runs ends
    ++ (all_signals session log ++ (codes "done" ++ newline)))
