-- The lines of a worked report.
use Rattle.std.specs.Prelude.{ℕ, List, [], ◌∷◌, ◌++◌, codes}
use Rattle.tty_base.specs.declared.counters.Errno.TheVariants.{EIO}
use Rattle.job_control.specs.declared.answers.JobAnswer.TheVariants.{Done, Number, Refused, NotPermitted, Stopped}
use Rattle.job_control.specs.declared.answers.Target.TheVariants.{Group, Process, Nobody}
use Rattle.job_control.specs.declared.processes.JobSignal.TheVariants.{Int, Ttin, Hup}
use Rattle.job_print.specs.Lines.{answer_line, signal_line}
use Rattle.job_control.specs.Rows.{shell}

abbrev pub worked_lines : List ℕ
worked_lines =
    answer_line 0 (codes "sh") 1 (codes "sctty") Done
    ++ (answer_line 0 (codes "sh") 2 (codes "gpgrp") (Number 1)
    ++ (answer_line 0 (codes "job") 0 (codes "read") (Stopped Ttin)
    ++ (answer_line 0 (codes "job") 1 (codes "modes") (Refused EIO)
    ++ (answer_line 0 (codes "job") 2 (codes "sctty") NotPermitted
    ++ (signal_line 0 (shell ∷ []) Ttin (Group 2)
    ++ (signal_line 0 (shell ∷ []) Hup (Process 0) ++ signal_line 0 (shell ∷ []) Int Nobody))))))

abbrev pub worked_text : List ℕ
worked_text =
    codes "0.sh.1 sctty ok\n0.sh.2 gpgrp 1\n0.job.0 read stopped TTIN\n0.job.1 modes EIO\n0.job.2 sctty EPERM\n"
    ++ codes "job 0 TTIN group 2\njob 0 HUP process sh\njob 0 INT -\n"
