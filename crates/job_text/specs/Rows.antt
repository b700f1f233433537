-- Worked texts: what is refused, and what is read.
use Rattle.std.specs.Prelude.{ℕ, true, false, List, [], ◌∷◌, ◌++◌, codes, Some}
use Rattle.tty_base.specs.declared.lines.LineStep.TheVariants.{Rx}
use Rattle.tty_base.specs.declared.characters.Flag.TheVariants.{Normal}
use Rattle.tty_calls.specs.declared.calls.Access.TheVariants.{Rw}
use Rattle.tty_calls.specs.Plain.{opens, reads}
use Rattle.session_text.specs.declared.faults.Reason.TheVariants.{Header, Word, Number, Order, Limit}
use Rattle.job_control.specs.declared.processes.Proc.{Proc}
use Rattle.job_text.specs.declared.calls.OwnCall.TheVariants as call
use Rattle.passed_calls.specs.Scripts.{CallerScript, plain, further}
use Rattle.job_text.specs.Sessions.{JobCall, JobsPhase, JobsSession}
use Rattle.session_text.specs.Rows.{RefusedRow, refused_at, two_ports_with}
use Rattle.job_control.specs.Rows.{shell}

-- .. with a shell on port 0; the next line is its fourth
abbrev pub with_shell : List ℕ → List ℕ
with_shell more = two_ports_with (codes "proc sh 0 1 1 - leader\n" ++ more)

-- .. in its block; the next line is its sixth
abbrev pub in_shell : List ℕ → List ℕ
in_shell more = with_shell (codes "phase\ncaller sh 0\n" ++ more)

abbrev pub refused_rows : List RefusedRow
refused_rows =
    refused_at 1 Order [] ∷
    refused_at 1 Header (codes "proc sh 0 1 1 -\n") ∷
    refused_at 2 Order (codes "tty-session 1\nproc sh 0 1 1 -\n") ∷
    -- processes
    refused_at 3 Word (two_ports_with (codes "proc sh 0 1 1\n")) ∷
    refused_at 3 Word (two_ports_with (codes "proc sh x 1 1 - leader nottin nottou leader\n")) ∷
    refused_at 3 Word (two_ports_with (codes "proc Sh x 1 1 -\n")) ∷
    refused_at 3 Number (two_ports_with (codes "proc sh x 1 1 -\n")) ∷
    refused_at 3 Limit (two_ports_with (codes "proc sh 2 x 1 -\n")) ∷
    refused_at 3 Limit (two_ports_with (codes "proc sh 0 0 1 -\n")) ∷
    refused_at 3 Limit (two_ports_with (codes "proc sh 0 1 65536 ?\n")) ∷
    refused_at 3 Number (two_ports_with (codes "proc sh 0 1 x -\n")) ∷
    refused_at 3 Word (two_ports_with (codes "proc sh 0 1 1 sh\n")) ∷
    refused_at 4 Word (with_shell (codes "proc job 1 1 2 sh\n")) ∷
    refused_at 3 Word (two_ports_with (codes "proc sh 0 1 1 - nottin leader\n")) ∷
    refused_at 3 Word (two_ports_with (codes "proc sh 0 1 1 - leader leader\n")) ∷
    refused_at 4 Order (with_shell (codes "proc sh 0 2 1 -\n")) ∷
    refused_at 4 Order (with_shell (codes "proc zsh 0 1 1 - leader\n")) ∷
    refused_at 5 Order (with_shell (codes "phase\nproc job 0 1 1 -\n")) ∷
    refused_at 5 Order (with_shell (codes "end\nproc job 0 1 1 -\n")) ∷
    -- callers are processes
    refused_at 5 Order (with_shell (codes "phase\ncaller job 0\n")) ∷
    refused_at 5 Order (with_shell (codes "phase\ncaller sh 1\n")) ∷
    refused_at 5 Number (with_shell (codes "phase\ncaller job x\n")) ∷
    refused_at 5 Limit (with_shell (codes "phase\ncaller job 2\n")) ∷
    refused_at 5 Word (with_shell (codes "phase\ncaller Job 0\n")) ∷
    refused_at 5 Word (with_shell (codes "phase\ncaller job\n")) ∷
    refused_at 4 Order (with_shell (codes "caller job 0\n")) ∷
    refused_at 6 Order (in_shell (codes "caller sh 0\n")) ∷
    -- calls
    refused_at 5 Order (with_shell (codes "phase\nsctty 0\n")) ∷
    refused_at 7 Order (in_shell (codes "clock 0\ngpgrp 0\n")) ∷
    refused_at 6 Word (in_shell (codes "notty\n")) ∷
    refused_at 6 Number (in_shell (codes "gpgrp x\n")) ∷
    refused_at 6 Limit (in_shell (codes "sctty 32\n")) ∷
    refused_at 6 Limit (in_shell (codes "spgrp 0 0\n")) ∷
    refused_at 6 Limit (in_shell (codes "spgrp 0 65536\n")) ∷
    refused_at 6 Word (in_shell (codes "spgrp 0\n")) ∷
    refused_at 6 Word (in_shell (codes "exit 0\n")) ∷
    -- behind an exit
    refused_at 7 Order (in_shell (codes "exit\nread\n")) ∷
    refused_at 7 Order (in_shell (codes "exit\nexit 0\n")) ∷
    refused_at 7 Word (in_shell (codes "exit\nfoo\n")) ∷
    refused_at 9 Order (in_shell (codes "exit\nphase\ncaller sh 0\nsctty\n")) ∷
    -- the items of other texts, and the end
    refused_at 5 Word (with_shell (codes "phase\nmodem 0\n")) ∷
    refused_at 6 Word (in_shell (codes "mget 0\n")) ∷
    refused_at 6 Order (in_shell []) ∷
    refused_at 4 Word (with_shell (codes "end x\n")) ∷ []

abbrev pub shell_text : List ℕ
shell_text =
    codes
    "tty-session 1\nports 1\nproc sh 0 1 1 - leader\nproc job 0 1 2 sh nottin nottou\nphase\ncaller sh 0\nopen 0 rw nonblock\nsctty 0\n# who\ngpgrp 0\n"
    ++ codes "phase\nline 0\nrx 03\ncaller job 0\nread 0 8\ncaller sh 0\nspgrp 0 2\nexit\nphase\ncaller sh 0\nend\n"

abbrev pub phase_of : List (CallerScript JobCall) → JobsPhase
phase_of callers = record { lines = [] ∷ []; ticks = 0 ∷ []; callers = callers }

abbrev pub a_job : Proc
a_job = record {
  name = record { bytes = codes "job"; spare = [] };
  session = 1;
  group = 2;
  parent = Some 0;
  leader = false;
  nottin = true;
  nottou = true;
}

abbrev pub shell_session : JobsSession
shell_session = record {
  version = 1;
  ports = 1;
  flips = 4096 ∷ [];
  procs = (shell ∷ a_job ∷ []) ∷ [];
  phases =
      phase_of (record {
        port = 0;
        name = codes "sh";
        calls = plain (opens 0 Rw true) ∷ further (call.Sctty 0) ∷ further (call.Gpgrp 0) ∷ [];
      } ∷ [])
      ∷ record {
        lines = (Rx (record { byte = 3; flag = Normal }) ∷ []) ∷ [];
        ticks = 0 ∷ [];
        callers =
            record { port = 0; name = codes "job"; calls = plain (reads 0 8) ∷ [] }
            ∷ record { port = 0; name = codes "sh"; calls = further (call.Spgrp 0 2) ∷ further call.Exit ∷ [] } ∷ [];
      }
      ∷ phase_of (record { port = 0; name = codes "sh"; calls = [] } ∷ []) ∷ [];
}
