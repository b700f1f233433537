-- What the reader's values are as plain data.
use Rattle.std.specs.Prelude.{List, map}
use Rattle.tty_base.specs.declared.characters.Flagged.{Flagged}
use Rattle.tty_calls.specs.declared.journals.PortRun.{PortRun}
use Rattle.tty_calls.specs.declared.sessions.Session.{Session}
use Rattle.tty_calls.specs.Plain.{PlainEntry, PlainEvent, answer_of, answered, parted, waited, flushed}
use Rattle.tty_calls.specs.Plain.{ticked, line_ended, clock_ended, caller_ended, phase_ended, hung_up}
use Rattle.tty_calls.specs.Sessions.{session_of}
use Rattle.check_text.specs.declared.callers.Callers.{Callers}
use Rattle.check_text.specs.declared.journals.Journals.{Journals}
use Rattle.check_text.specs.declared.read_entries.ReadEntry.{ReadEntry}
use Rattle.check_text.specs.declared.read_entries.ReadEvent.{ReadEvent}
use Rattle.check_text.specs.declared.read_entries.ReadEvent.TheVariants as events
use Rattle.check_text.specs.Callers.{PlainCallers}
use Rattle.check_text.specs.Journals.{PlainJournals}
use Rattle.check_text.specs.Reading.{PlainCheck}
use Rattle.check_text.specs.Runs.{run_of}

abbrev pub callers_of : Callers → PlainCallers
callers_of c = record { names = c.names; kinds = map (λ row. row.items) c.kinds.items }

-- an event that was read, and its characters
abbrev pub event_with : List Flagged → ReadEvent → PlainEvent
event_with chars (events.Answer answer) = answered (answer_of answer) chars
event_with chars (events.Part taken) = parted taken
event_with chars events.Wait = waited
event_with chars events.Flush = flushed chars
event_with chars events.Tick = ticked
event_with chars (events.LineEnd sent) = line_ended sent
event_with chars events.ClockEnd = clock_ended
event_with chars events.CallerEnd = caller_ended
event_with chars events.PhaseEnd = phase_ended
event_with chars events.Hangup = hung_up chars

abbrev pub entry_with : List Flagged → ReadEntry → PlainEntry
entry_with chars e =
    record { who = e.who; step = e.step; part = e.part; generation = e.generation; event = event_with chars e.event }

abbrev pub journals_of : Journals → PlainJournals
journals_of j = record {
  callers = map callers_of j.callers.items;
  due = j.due;
  runs = map run_of j.runs.items;
  entries = j.entries.items;
  overruns = j.overruns.items;
}

abbrev pub check_of : Session → List PortRun → PlainCheck
check_of session runs = record { session = session_of session; runs = map run_of runs }
