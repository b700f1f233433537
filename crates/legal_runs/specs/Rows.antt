-- Worked journals of the order of one thread.
use Rattle.std.specs.Prelude.{ℕ, List, [], ◌∷◌, ◌++◌, true, false}
use Rattle.tty_base.specs.declared.lines.LineStep.TheVariants.{Rx}
use Rattle.tty_modes.specs.declared.words.Word.TheVariants.{Raw}
use Rattle.tty_calls.specs.declared.calls.Access.TheVariants.{Rw}
use Rattle.tty_calls.specs.declared.calls.When.TheVariants.{Now}
use Rattle.tty_calls.specs.declared.journals.Who.TheVariants.{Caller, Line, Clock, Session}
use Rattle.tty_calls.specs.Plain.{PlainCall, opens, closes, reads, sets_modes, done, got, idle, answered, waited}
use Rattle.tty_calls.specs.Plain.{ticked, line_ended, clock_ended, caller_ended, phase_ended, hung_up, PlainEntry}
use Rattle.tty_calls.specs.Sessions.{PlainScript, PlainPhase, PlainSession}
use Rattle.tty_terminal.specs.Rows.{whole, normal, opening_part, flush_part, answers}

-- a caller of port 0, by a letter
abbrev pub caller_named : ℕ → List PlainCall → PlainScript
caller_named letter calls = record { port = 0; name = letter ∷ []; calls = calls }

-- one port: its caller opens it, and in a second phase reads the three bytes that come and closes it
abbrev pub three_bytes_session : PlainSession
three_bytes_session = record {
  version = 1;
  ports = 1;
  flips = 4096 ∷ [];
  phases =
      record {
        lines = [] ∷ [];
        ticks = 0 ∷ [];
        callers = caller_named 97 (opens 0 Rw true ∷ sets_modes 0 Now (Raw ∷ []) ∷ []) ∷ [];
      }
      ∷ record {
        lines = (Rx (normal 104) ∷ Rx (normal 105) ∷ Rx (normal 10) ∷ []) ∷ [];
        ticks = 0 ∷ [];
        callers = caller_named 97 (reads 0 64 ∷ closes 0 ∷ []) ∷ [];
      }
      ∷ [];
}

-- the flush of what came stands after the line's end
abbrev pub late_flush : List PlainEntry
late_flush =
    opening_part
    ++ (whole Line 1 0 (line_ended 3)
    ∷ (flush_part ++ whole (Caller 0) 2 0 (answered (got (104 ∷ 105 ∷ 10 ∷ [])) []) ∷ []))

-- the clock ends before the caller has made its calls
abbrev pub early_clock : List PlainEntry
early_clock =
    whole Line 0 0 (line_ended 0)
    ∷ whole Clock 0 0 clock_ended
    ∷ whole (Caller 0) 0 0 (answers done)
    ∷ whole (Caller 0) 1 0 (answers done)
    ∷ whole (Caller 0) 2 0 caller_ended
    ∷ whole Session 0 0 phase_ended
    ∷ []

-- the same where the ports are consoles
abbrev pub three_bytes_consoles : PlainSession
three_bytes_consoles = record three_bytes_session { version = 0 }

-- ---- two callers read where nothing comes, and the clock has a tick

abbrev pub waiters_session : PlainSession
waiters_session = record {
  version = 1;
  ports = 1;
  flips = 4096 ∷ [];
  phases =
      record {
        lines = [] ∷ [];
        ticks = 1 ∷ [];
        callers =
            caller_named 97 (opens 0 Rw false ∷ reads 0 1 ∷ []) ∷ caller_named 98 (opens 1 Rw false ∷ reads 1 1 ∷ [])
            ∷ [];
      }
      ∷ [];
}

-- until both wait
abbrev pub waiting_part : List PlainEntry
waiting_part =
    whole Line 0 0 (line_ended 0)
    ∷ whole (Caller 0) 0 0 (answers done)
    ∷ whole (Caller 0) 1 0 waited
    ∷ whole (Caller 1) 0 0 (answers done)
    ∷ whole (Caller 1) 1 0 waited
    ∷ []

abbrev pub clock_part : List PlainEntry
clock_part = whole Clock 0 0 ticked ∷ whole Clock 0 0 clock_ended ∷ []

-- a caller is told that it waits in vain, and is over
abbrev pub vain_part : ℕ → List PlainEntry
vain_part c = whole (Caller c) 1 0 (answers idle) ∷ whole (Caller c) 2 0 caller_ended ∷ []

abbrev pub last_part : List PlainEntry
last_part = whole Session 0 0 phase_ended ∷ whole Session 1 0 (hung_up []) ∷ []

abbrev pub waiters : List PlainEntry
waiters = waiting_part ++ (clock_part ++ (vain_part 0 ++ (vain_part 1 ++ last_part)))

-- the last one is told first
abbrev pub last_waiter_first : List PlainEntry
last_waiter_first = waiting_part ++ (clock_part ++ (vain_part 1 ++ (vain_part 0 ++ last_part)))

-- both are told before one is over
abbrev pub both_told : List PlainEntry
both_told =
    waiting_part
    ++ (clock_part
    ++ (whole (Caller 0) 1 0 (answers idle) ∷ whole (Caller 1) 1 0 (answers idle) ∷ whole (Caller 0) 2 0 caller_ended
    ∷ whole (Caller 1) 2 0 caller_ended ∷ last_part))

-- the tick comes before the second caller has begun
abbrev pub early_tick : List PlainEntry
early_tick =
    whole Line 0 0 (line_ended 0)
    ∷ whole (Caller 0) 0 0 (answers done)
    ∷ whole (Caller 0) 1 0 waited
    ∷ whole Clock 0 0 ticked
    ∷ whole (Caller 1) 0 0 (answers done)
    ∷ whole (Caller 1) 1 0 waited
    ∷ whole Clock 0 0 clock_ended
    ∷ (vain_part 0 ++ (vain_part 1 ++ last_part))

-- a session of one port with these phases
abbrev pub played_with : List PlainPhase → PlainSession
played_with phases = record { version = 1; ports = 1; flips = 4096 ∷ []; phases = phases }
