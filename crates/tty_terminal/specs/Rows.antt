-- Worked journals, and how they may be changed.
use Rattle.std.specs.Prelude.{ℕ, List, [], ◌∷◌, ◌++◌, true, false, Option, None, ◌==◌}
use Rattle.std.specs.Prelude.{if◌then◌else◌, map, replicate, slice_get, slice_index_or}
use Rattle.tty_base.specs.declared.characters.Flag.TheVariants.{Normal}
use Rattle.tty_base.specs.declared.characters.Flagged.{Flagged}
use Rattle.tty_modes.specs.declared.words.Word.TheVariants.{On, Cc, Raw}
use Rattle.tty_modes.specs.declared.places.TheConstants.{IXOFF, VMIN, VTIME}
use Rattle.tty_modes.specs.Settings.{sane_modes}
use Rattle.tty_modes.specs.Word.{after_words}
use Rattle.flow_control.specs.Output.{idle_output}
use Rattle.line_store.specs.Unread.{Byte}
use Rattle.n_tty.specs.States.{fresh_tty}
use Rattle.handle_table.specs.Handles.{no_handles, with_handle}
use Rattle.ldisc_switch.specs.declared.discipline.Disc.TheVariants as disc
use Rattle.tty_calls.specs.declared.calls.Access.TheVariants.{Rw}
use Rattle.tty_calls.specs.declared.calls.When.TheVariants.{Now}
use Rattle.tty_calls.specs.declared.journals.Who.{Who}
use Rattle.tty_calls.specs.declared.journals.Who.TheVariants.{Caller, Flusher, Line, Clock, Session}
use Rattle.tty_calls.specs.Plain.{PlainCall, opens, closes, reads, writes, sets_modes, sets_disc, excludes, admits}
use Rattle.tty_calls.specs.Plain.{hangs_up, PlainAnswer, done, count_is, got, idle, PlainEvent, answered, parted}
use Rattle.tty_calls.specs.Plain.{waited, flushed, ticked, line_ended, clock_ended, caller_ended, phase_ended}
use Rattle.tty_calls.specs.Plain.{hung_up, PlainEntry}
use Rattle.tty_terminal.specs.Terminals.{Terminal, opening}
use Rattle.tty_terminal.specs.Runs.{Leads}

-- ---- three bytes: one caller opens the port, and in a second phase reads three bytes and closes it

-- the calls of the first caller, and of no other
abbrev pub three_bytes_calls : ℕ → ℕ → Option PlainCall
three_bytes_calls c step =
    if c == 0 then slice_get (opens 0 Rw true ∷ sets_modes 0 Now (Raw ∷ []) ∷ reads 0 64 ∷ closes 0 ∷ []) step else None

-- one caller in each of two phases
abbrev pub three_bytes_counts : List ℕ
three_bytes_counts = 1 ∷ 1 ∷ []

-- an entry that is no part of another
abbrev pub whole : Who → ℕ → ℕ → PlainEvent → PlainEntry
whole who step generation event = record { who = who; step = step; part = 0; generation = generation; event = event }

abbrev pub normal : ℕ → Flagged
normal byte = record { byte = byte; flag = Normal }

-- the first phase
abbrev pub opening_part : List PlainEntry
opening_part =
    whole Line 0 0 (line_ended 0)
    ∷ whole (Caller 0) 0 0 (answered done [])
    ∷ whole (Caller 0) 1 0 (answered done [])
    ∷ whole (Caller 0) 2 0 caller_ended
    ∷ whole Clock 0 0 clock_ended
    ∷ whole Session 0 0 phase_ended
    ∷ []

-- what was sent is flushed
abbrev pub flush_part : List PlainEntry
flush_part = whole Flusher 0 0 (flushed (normal 104 ∷ normal 105 ∷ normal 10 ∷ [])) ∷ []

-- three characters were sent, these bytes are read, and the port is closed
abbrev pub reading_part : List ℕ → List PlainEntry
reading_part bytes =
    whole Line 1 0 (line_ended 3)
    ∷ whole (Caller 0) 2 0 (answered (got bytes) [])
    ∷ whole (Caller 0) 3 0 (answered done [])
    ∷ []

-- the end of the caller, with the generation after the close, and what follows, with its own
abbrev pub closed_part : ℕ → ℕ → List PlainEntry
closed_part callers others =
    whole (Caller 0) 4 callers caller_ended
    ∷ whole Clock 1 others clock_ended
    ∷ whole Session 1 others phase_ended
    ∷ whole Session 2 others (hung_up [])
    ∷ []

abbrev pub three_bytes : List PlainEntry
three_bytes = opening_part ++ (flush_part ++ (reading_part (104 ∷ 105 ∷ 10 ∷ []) ++ closed_part 1 1))

abbrev pub with_other_bytes : List PlainEntry
with_other_bytes = opening_part ++ (flush_part ++ (reading_part (104 ∷ 105 ∷ 11 ∷ []) ++ closed_part 1 1))

abbrev pub with_old_generation : List PlainEntry
with_old_generation = opening_part ++ (flush_part ++ (reading_part (104 ∷ 105 ∷ 10 ∷ []) ++ closed_part 0 1))

abbrev pub without_flush : List PlainEntry
without_flush = opening_part ++ (reading_part (104 ∷ 105 ∷ 10 ∷ []) ++ closed_part 1 1)

abbrev pub without_new_generation : List PlainEntry
without_new_generation = opening_part ++ (flush_part ++ (reading_part (104 ∷ 105 ∷ 10 ∷ []) ++ closed_part 0 0))

-- ---- further rows

-- the calls of each caller
abbrev pub calls_from : List (List PlainCall) → ℕ → ℕ → Option PlainCall
calls_from callers c step = slice_get (slice_index_or callers c []) step

-- a journal of these calls, from the opening terminal
abbrev pub LeadsFrom : List (List PlainCall) → List ℕ → Terminal → List PlainEntry → Terminal → Type 0
LeadsFrom callers counts start journal t = Leads (calls_from callers) counts start journal t

-- an entry of a call of which so many parts were taken
abbrev pub after_parts : ℕ → Who → ℕ → ℕ → PlainEvent → PlainEntry
after_parts parts who step generation event =
    record { who = who; step = step; part = parts; generation = generation; event = event }

abbrev pub answers : PlainAnswer → PlainEvent
answers answer = answered answer []

-- a change to N_SLIP and back drops a line that is half typed
abbrev pub half_line_calls : List (List PlainCall)
half_line_calls = (opens 0 Rw true ∷ sets_disc 0 1 ∷ sets_disc 0 0 ∷ reads 0 10 ∷ []) ∷ []

abbrev pub half_line : PlainAnswer → List PlainEntry
half_line read =
    whole Line 0 0 (line_ended 3)
    ∷ whole (Caller 0) 0 0 (answers done)
    ∷ whole Flusher 0 0 (flushed (normal 97 ∷ normal 98 ∷ []))
    ∷ whole (Caller 0) 1 0 (answers done)
    ∷ whole (Caller 0) 2 1 (answers done)
    ∷ whole Flusher 1 2 (flushed (normal 10 ∷ []))
    ∷ whole (Caller 0) 3 2 (answers read)
    ∷ []

-- a hangup under a read that waits and under a write with parts: through the old handle a read gives the end of the
-- file, a write is refused, and a close is not the last
abbrev pub hangup_calls : List (List PlainCall)
hangup_calls =
    (opens 0 Rw false ∷ reads 0 5 ∷ writes 0 (120 ∷ []) ∷ closes 0 ∷ [])
    ∷ (opens 1 Rw false ∷ writes 1 (replicate 65 120) ∷ [])
    ∷ (opens 2 Rw false ∷ hangs_up 2 ∷ opens 3 Rw false ∷ [])
    ∷ []

abbrev pub hangup : (read write : PlainAnswer) (generation : ℕ) → List PlainEntry
hangup read write generation =
    whole Line 0 0 (line_ended 0)
    ∷ whole (Caller 0) 0 0 (answers done)
    ∷ whole (Caller 1) 0 0 (answers done)
    ∷ whole (Caller 2) 0 0 (answers done)
    ∷ whole (Caller 0) 1 0 waited
    ∷ whole (Caller 1) 1 0 (parted 64)
    ∷ whole (Caller 2) 1 0 (answers done)
    ∷ whole (Caller 0) 1 1 (answers read)
    ∷ after_parts 1 (Caller 1) 1 1 (answers (count_is 64))
    ∷ whole (Caller 0) 2 1 (answers write)
    ∷ whole (Caller 2) 2 1 (answers done)
    ∷ whole (Caller 0) 3 1 (answers done)
    ∷ whole (Caller 0) 4 generation caller_ended
    ∷ []

-- a write that STOP halts, with room for six bytes: it takes a part, waits, and after START is answered
abbrev pub stopped_terminal : Terminal
stopped_terminal =
    record (opening 1 4096) {
      handles = with_handle no_handles 0 Rw false;
      output = record idle_output { held = replicate 4090 120; stopped = true };
    }

abbrev pub stopped_calls : List (List PlainCall)
stopped_calls = (writes 0 (replicate 10 121) ∷ []) ∷ []

abbrev pub stopped_write : (part : ℕ) (answer : PlainAnswer) → List PlainEntry
stopped_write part answer =
    whole (Caller 0) 0 0 (parted part)
    ∷ after_parts 1 (Caller 0) 0 0 waited
    ∷ whole Flusher 0 0 (flushed (normal 17 ∷ []))
    ∷ after_parts 1 (Caller 0) 0 0 (answers answer)
    ∷ []

-- with MIN 2 and TIME 1 a read of one byte is ready a tick after it waits
abbrev pub timed_calls : List (List PlainCall)
timed_calls = (opens 0 Rw false ∷ sets_modes 0 Now (Raw ∷ Cc VMIN 2 ∷ Cc VTIME 1 ∷ []) ∷ reads 0 10 ∷ []) ∷ []

abbrev pub timed_read : List PlainEntry → List PlainEntry
timed_read ticks =
    whole Line 0 0 (line_ended 1)
    ∷ whole (Caller 0) 0 0 (answers done)
    ∷ whole (Caller 0) 1 0 (answers done)
    ∷ whole Flusher 0 0 (flushed (normal 97 ∷ []))
    ∷ whole (Caller 0) 2 0 waited
    ∷ (ticks ++ whole (Caller 0) 2 0 (answers (got (97 ∷ []))) ∷ [])

abbrev pub one_tick : List PlainEntry
one_tick = whole Clock 0 0 ticked ∷ []

-- exclusive use keeps others out
abbrev pub exclusive_calls : List (List PlainCall)
exclusive_calls = (opens 0 Rw true ∷ excludes 0 ∷ admits 0 ∷ []) ∷ (opens 1 Rw true ∷ opens 1 Rw true ∷ []) ∷ []

abbrev pub exclusive_use : PlainAnswer → List PlainEntry
exclusive_use answer =
    whole Line 0 0 (line_ended 0)
    ∷ whole (Caller 0) 0 0 (answers done)
    ∷ whole (Caller 0) 1 0 (answers done)
    ∷ whole (Caller 1) 0 0 (answers answer)
    ∷ whole (Caller 0) 2 0 (answers done)
    ∷ whole (Caller 1) 1 0 (answers done)
    ∷ []

-- with ixoff one byte more than 3,968 sends STOP, and the read that takes them sends START
abbrev pub filling : Terminal
filling =
    record (opening 1 4096) {
      disc = disc.Tty (record fresh_tty { items = map Byte (replicate 3968 120) });
      modes = after_words sane_modes (Raw ∷ On IXOFF ∷ []);
      handles = with_handle no_handles 0 Rw true;
    }

abbrev pub filling_calls : List (List PlainCall)
filling_calls = (reads 0 4000 ∷ []) ∷ []

abbrev pub filled_read : List ℕ → List PlainEntry
filled_read last =
    whole Flusher 0 0 (flushed (normal 121 ∷ []))
    ∷ whole (Caller 0) 0 0 (answers (got (replicate 3968 120 ++ last)))
    ∷ []

-- two callers: one waits until nothing can come any more
abbrev pub idle_calls : List (List PlainCall)
idle_calls = (opens 0 Rw false ∷ reads 0 1 ∷ []) ∷ (opens 1 Rw true ∷ closes 1 ∷ []) ∷ []

abbrev pub before_idle : List PlainEntry
before_idle =
    whole Line 0 0 (line_ended 0)
    ∷ whole (Caller 0) 0 0 (answers done)
    ∷ whole (Caller 0) 1 0 waited
    ∷ whole (Caller 1) 0 0 (answers done)
    ∷ whole (Caller 1) 1 0 (answers done)
    ∷ whole Clock 0 0 clock_ended
    ∷ []

abbrev pub idle_answer : List PlainEntry
idle_answer =
    before_idle
    ++ (
    whole (Caller 1) 2 0 caller_ended
    ∷ whole (Caller 0) 1 0 (answers idle)
    ∷ whole (Caller 0) 2 0 caller_ended
    ∷ whole Session 0 0 phase_ended
    ∷ whole Session 1 0 (hung_up [])
    ∷ []
    )

-- idle while another caller could go on, and the end of a phase in which one waits
abbrev pub idle_too_early : List PlainEntry
idle_too_early = before_idle ++ (whole (Caller 0) 1 0 (answers idle) ∷ [])

abbrev pub end_too_early : List PlainEntry
end_too_early = before_idle ++ (whole (Caller 1) 2 0 caller_ended ∷ whole Session 0 0 phase_ended ∷ [])
