-- Worked logs that are none: a call that is answered in another phase, and an answer that is logged twice.
use Rattle.std.specs.Prelude.{List, [], ◌∷◌, true, codes, Some}
use Rattle.tty_calls.specs.declared.calls.Access.TheVariants.{Rw}
use Rattle.tty_calls.specs.declared.journals.Who.TheVariants.{Caller, Line}
use Rattle.tty_calls.specs.Plain.{opens, writes, done, count_is, line_ended, PlainEntry}
use Rattle.tty_terminal.specs.Rows.{whole, answers}
use Rattle.job_control.specs.declared.answers.JobAnswer.TheVariants as told
use Rattle.passed_calls.specs.Scripts.{plain}
use Rattle.job_text.specs.Events.{own, passed, JobLog}
use Rattle.job_text.specs.Sessions.{JobsSession}
use Rattle.job_steps.specs.Rows.{session_with, phase_with, logged}

-- the job is put into the foreground two phases early
abbrev pub asked_early : JobLog
asked_early =
    logged 2 (passed 0 0 done)
    ∷ logged 2 (own 0 1 told.Done)
    ∷ logged 2 (own 0 2 (told.Number 1))
    ∷ logged 2 (own 0 3 told.Done)
    ∷ []

-- two writes of one byte, of which the first answer is logged for both
abbrev pub two_writes : JobsSession
two_writes = session_with (Some 0)
    (phase_with [] (codes "sh") (plain (opens 0 Rw true) ∷ plain (writes 0 (97 ∷ [])) ∷ plain (writes 0 (97 ∷ [])) ∷ [])
    ∷ [])

abbrev pub logged_twice : JobLog
logged_twice =
    logged 2 (passed 0 0 done) ∷ logged 3 (passed 0 1 (count_is 1)) ∷ logged 3 (passed 0 2 (count_is 1)) ∷ []

abbrev pub two_writes_journal : List PlainEntry
two_writes_journal =
    whole Line 0 0 (line_ended 0)
    ∷ whole (Caller 0) 0 0 (answers done)
    ∷ whole (Caller 0) 1 0 (answers (count_is 1))
    ∷ whole (Caller 0) 2 0 (answers (count_is 1))
    ∷ []
