-- Worked logs that are none: a call of modem lines that is answered while another call of its caller is under way,
-- and an answer that is logged for another call.
use Rattle.std.specs.Prelude.{List, [], ◌∷◌, true}
use Rattle.tty_calls.specs.declared.calls.Access.TheVariants.{Rw}
use Rattle.tty_calls.specs.declared.journals.Who.TheVariants.{Caller, Line}
use Rattle.tty_calls.specs.Plain.{opens, reads, writes, done, count_is, number_is, waited, line_ended, PlainEntry}
use Rattle.tty_terminal.specs.Rows.{whole, answers}
use Rattle.passed_calls.specs.Scripts.{plain, further}
use Rattle.modem_text.specs.declared.items.OwnCall.TheVariants as call
use Rattle.modem_text.specs.Events.{own, passed, ModemLog}
use Rattle.modem_text.specs.Sessions.{ModemSession}
use Rattle.modem_steps.specs.Rows.{session_with, phase_with, logged}

-- the lines are asked, and then something is read
abbrev pub asks_and_reads : ModemSession
asks_and_reads =
    session_with (phase_with [] (plain (opens 0 Rw true) ∷ further (call.Getcar 0) ∷ plain (reads 0 8) ∷ []) ∷ [])

abbrev pub asked_while_reading : ModemLog
asked_while_reading = logged 2 (passed 0 0 done) ∷ logged 3 (own 0 1 (number_is 0)) ∷ []

-- .. and the read that comes after has begun before they are
abbrev pub reading_journal : List PlainEntry
reading_journal =
    whole Line 0 0 (line_ended 0) ∷ whole (Caller 0) 0 0 (answers done) ∷ whole (Caller 0) 1 0 waited ∷ []

-- two writes of one byte, and the answer of the first is not logged
abbrev pub two_writes : ModemSession
two_writes = session_with (
    phase_with [] (plain (opens 0 Rw true) ∷ plain (writes 0 (97 ∷ [])) ∷ plain (writes 0 (97 ∷ [])) ∷ []) ∷ [])

abbrev pub one_unlogged : ModemLog
one_unlogged = logged 2 (passed 0 0 done) ∷ logged 4 (passed 0 1 (count_is 1)) ∷ []

abbrev pub two_writes_journal : List PlainEntry
two_writes_journal =
    whole Line 0 0 (line_ended 0)
    ∷ whole (Caller 0) 0 0 (answers done)
    ∷ whole (Caller 0) 1 0 (answers (count_is 1))
    ∷ whole (Caller 0) 2 0 (answers (count_is 1))
    ∷ []
