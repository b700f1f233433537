-- What a report says of job control.
use Rattle.std.specs.Prelude.{ℕ, List, [], ◌++◌, codes, decimal, slice_get}
use Rattle.std.specs.Option.{option_map_or}
use Rattle.session_print.specs.Words.{errno_name}
use Rattle.job_control.specs.declared.processes.Proc.{Proc}
use Rattle.job_control.specs.declared.processes.JobSignal.{JobSignal}
use Rattle.job_control.specs.declared.processes.JobSignal.TheVariants.{Int, Quit, Susp, Ttin, Ttou, Hup, Cont}
use Rattle.job_control.specs.declared.answers.JobAnswer.{JobAnswer}
use Rattle.job_control.specs.declared.answers.JobAnswer.TheVariants.{Done, Number, Refused, NotPermitted, Stopped}
use Rattle.job_control.specs.declared.answers.Target.{Target}
use Rattle.job_control.specs.declared.answers.Target.TheVariants.{Group, Process, Nobody}
use Rattle.session_print.specs.Lines.{newline}

-- the end of a line
abbrev pub signal_text : JobSignal → List ℕ
signal_text Int = codes "INT"
signal_text Quit = codes "QUIT"
signal_text Susp = codes "SUSP"
signal_text Ttin = codes "TTIN"
signal_text Ttou = codes "TTOU"
signal_text Hup = codes "HUP"
signal_text Cont = codes "CONT"

-- what a call was answered without the port
abbrev pub answer_text : JobAnswer → List ℕ
answer_text Done = codes "ok"
answer_text (Number n) = decimal n
answer_text (Refused errno) = errno_name errno
answer_text NotPermitted = codes "EPERM"
answer_text (Stopped signal) = codes "stopped " ++ signal_text signal

-- the line of a call: its port, its caller, its place among the caller's calls, its verb and its answer
abbrev pub answer_line : (port : ℕ) → (name : List ℕ) → (step : ℕ) → (verb : List ℕ) → JobAnswer → List ℕ
answer_line port name step verb answer =
    decimal port
    ++ (codes "."
    ++ (name
    ++ (codes "." ++ (decimal step ++ (codes " " ++ (verb ++ (codes " " ++ (answer_text answer ++ newline))))))))

-- the name of a process, by its place
abbrev pub name_at : List Proc → ℕ → List ℕ
name_at procs place = option_map_or (λ proc. proc.name.bytes) (slice_get procs place) []

abbrev pub target_text : List Proc → Target → List ℕ
target_text procs (Group group) = codes " group " ++ decimal group
target_text procs (Process place) = codes " process " ++ name_at procs place
target_text procs Nobody = codes " -"

-- the line of a signal: its port, its name, and where it went
abbrev pub signal_line : (port : ℕ) → List Proc → JobSignal → Target → List ℕ
signal_line port procs signal target =
    codes "job " ++ (decimal port ++ (codes " " ++ (signal_text signal ++ (target_text procs target ++ newline))))
