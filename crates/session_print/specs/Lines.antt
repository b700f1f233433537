-- The lines of a report. Each ends with a line feed.
use Rattle.std.specs.Prelude.{ℕ, sum_by, List, [], ◌∷◌, ◌++◌, codes, decimal}
use Rattle.std.specs.Prelude.{length, flat_map, slice_index, ◌==◌, if◌then◌else◌}
use Rattle.hex.specs.Hex.{encode_lower}
use Rattle.tty_base.specs.declared.lines.LineReport.{LineReport}
use Rattle.tty_base.specs.declared.counters.Counts.{Counts}
use Rattle.tty_base.specs.declared.counters.Signal.{Signal}
use Rattle.tty_calls.specs.declared.journals.PortRun.{PortRun}
use Rattle.tty_calls.specs.Plain.{PlainCall, PlainAnswer, PlainEvent, answered, parted, waited, flushed, ticked}
use Rattle.tty_calls.specs.Plain.{line_ended, clock_ended, caller_ended, phase_ended, hung_up, PlainEntry}
use Rattle.tty_calls.specs.Sessions.{PlainSession}
use Rattle.session_print.specs.Ends.{PlainEnd}
use Rattle.session_print.specs.Words.{verb_of, answer_text, counts_text, signal_name}

-- the end of a line
abbrev pub newline : List ℕ
newline = 10 ∷ []

-- PORT.NAME.STEP VERB ANSWER
abbrev pub call_line : ℕ → List ℕ → ℕ → PlainCall → PlainAnswer → List ℕ
call_line p name step call answer =
    decimal p
    ++ (codes "."
    ++ (name
    ++ (codes "."
    ++ (decimal step ++ (codes " " ++ (verb_of call ++ (codes " " ++ (answer_text answer ++ newline))))))))

-- from version 2 on the capacity of the port's flip buffer is told
abbrev pub flip_text : PlainSession → ℕ → List ℕ
flip_text session p = if session.version == 2 then codes " flip=" ++ decimal (slice_index session.flips p) else []

abbrev pub line_line : PlainSession → ℕ → LineReport → List ℕ
line_line session p r =
    codes "port "
    ++ (decimal p ++ (codes " line arrived=" ++ (decimal r.arrived ++ (codes " lost=" ++ (decimal r.fifo_lost
    ++ (codes " sent="
    ++ (decimal r.sent
    ++ (codes " overrun=" ++ (decimal (length r.overruns.items) ++ (flip_text session p ++ newline))))))))))

-- how many characters an event flushes, and how many are dropped with it
abbrev pub flushed_in : PlainEvent → ℕ
flushed_in (answered answer dropped) = 0
flushed_in (parted taken) = 0
flushed_in waited = 0
flushed_in (flushed chars) = length chars
flushed_in ticked = 0
flushed_in (line_ended sent) = 0
flushed_in clock_ended = 0
flushed_in caller_ended = 0
flushed_in phase_ended = 0
flushed_in (hung_up dropped) = 0

abbrev pub dropped_in : PlainEvent → ℕ
dropped_in (answered answer dropped) = length dropped
dropped_in (parted taken) = 0
dropped_in waited = 0
dropped_in (flushed chars) = 0
dropped_in ticked = 0
dropped_in (line_ended sent) = 0
dropped_in clock_ended = 0
dropped_in caller_ended = 0
dropped_in phase_ended = 0
dropped_in (hung_up dropped) = length dropped

-- how many characters a journal flushes, and how many are dropped beside its answers and at its hangup
abbrev pub flushed_count : List PlainEntry → ℕ
flushed_count es = sum_by (λ e. flushed_in e.event) es

abbrev pub dropped_count : List PlainEntry → ℕ
dropped_count es = sum_by (λ e. dropped_in e.event) es

abbrev pub input_line : ℕ → List PlainEntry → List ℕ
input_line p es =
    codes "port "
    ++ (decimal p
    ++ (codes " input taken="
    ++ (decimal (flushed_count es) ++ (codes " dropped=" ++ (decimal (dropped_count es) ++ newline)))))

abbrev pub counts_line : ℕ → Counts → List ℕ
counts_line p counts = codes "port " ++ (decimal p ++ (codes " counts " ++ (counts_text counts ++ newline)))

abbrev pub signals_text : List Signal → List ℕ
signals_text signals =
    if length signals == 0 then codes " -" else flat_map (λ signal. codes " " ++ signal_name signal) signals

abbrev pub signals_line : ℕ → List Signal → List ℕ
signals_line p signals = codes "port " ++ (decimal p ++ (codes " signals" ++ (signals_text signals ++ newline)))

abbrev pub generation_line : ℕ → ℕ → List ℕ
generation_line p generation = codes "port " ++ (decimal p ++ (codes " generation " ++ (decimal generation ++ newline)))

abbrev pub wire_text : List ℕ → List ℕ
wire_text wire = if length wire == 0 then codes "-" else encode_lower wire

abbrev pub wire_line : ℕ → List ℕ → List ℕ
wire_line p wire = codes "port " ++ (decimal p ++ (codes " wire " ++ (wire_text wire ++ newline)))

-- what a report says of a port, after all calls
abbrev pub port_text : PlainSession → ℕ → PortRun → PlainEnd → List ℕ
port_text session p run end =
    line_line session p run.line ++ (input_line p run.journal.items ++ (counts_line p end.counts
    ++ (signals_line p end.signals ++ (generation_line p end.generation ++ wire_line p end.wire))))
