-- The summary of a session that a number gives: what is counted over all its ports.
use Rattle.std.specs.Prelude.{ℕ, sum_by, List, ◌++◌, codes, decimal, length}
use Rattle.tty_calls.specs.declared.journals.PortRun.{PortRun}
use Rattle.tty_calls.specs.Plain.{PlainAnswer, done, count_is, got, number_is, modes_are, counts_are}
use Rattle.tty_calls.specs.Plain.{refused, idle, PlainEvent, answered, parted, waited, flushed, ticked}
use Rattle.tty_calls.specs.Plain.{line_ended, clock_ended, caller_ended, phase_ended, hung_up, PlainEntry}
use Rattle.tty_calls.specs.Limits.{call_count}
use Rattle.tty_calls.specs.Sessions.{PlainSession}
use Rattle.session_print.specs.Ends.{PlainEnd}
use Rattle.session_print.specs.Lines.{flushed_count}

-- how many bytes an answer hands over, and an event
abbrev pub got_by : PlainAnswer → ℕ
got_by done = 0
got_by (count_is taken) = 0
got_by (got bytes) = length bytes
got_by (number_is n) = 0
got_by (modes_are modes) = 0
got_by (counts_are counts) = 0
got_by (refused errno) = 0
got_by idle = 0

abbrev pub got_in : PlainEvent → ℕ
got_in (answered answer dropped) = got_by answer
got_in (parted taken) = 0
got_in waited = 0
got_in (flushed chars) = 0
got_in ticked = 0
got_in (line_ended sent) = 0
got_in clock_ended = 0
got_in caller_ended = 0
got_in phase_ended = 0
got_in (hung_up dropped) = 0

-- how many bytes the answers of a journal hand over
abbrev pub got_count : List PlainEntry → ℕ
got_count es = sum_by (λ e. got_in e.event) es

-- over all ports: the characters that arrived, those that were flushed, the bytes that answers hand over, and the
-- generations
abbrev pub all_arrived : List PortRun → ℕ
all_arrived runs = sum_by (λ run. run.line.arrived) runs

abbrev pub all_flushed : List PortRun → ℕ
all_flushed runs = sum_by (λ run. flushed_count run.journal.items) runs

abbrev pub all_got : List PortRun → ℕ
all_got runs = sum_by (λ run. got_count run.journal.items) runs

abbrev pub all_generations : List PlainEnd → ℕ
all_generations ends = sum_by (λ end. end.generation) ends

abbrev pub summary_text : ℕ → PlainSession → List PortRun → List PlainEnd → List ℕ
summary_text number session runs ends =
    codes "gen "
    ++ (decimal number
    ++ (codes "\ncalls " ++ (decimal (call_count session.phases) ++ (codes "\narrived " ++ (decimal (all_arrived runs)
    ++ (codes "\ntaken " ++ (decimal (all_flushed runs) ++ (codes "\nbytes " ++ (decimal (all_got runs)
    ++ (codes "\ngenerations " ++ (decimal (all_generations ends) ++ codes "\ndone\n")))))))))))
