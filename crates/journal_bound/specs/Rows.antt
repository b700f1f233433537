-- A worked session: two phases on two ports.
use Rattle.std.specs.Prelude.{List, [], ◌∷◌}
use Rattle.tty_calls.specs.Plain.{reads, writes, drains, sends_packet}
use Rattle.tty_calls.specs.Sessions.{PlainScript, PlainPhase}

-- on port 0 the caller "a" writes three bytes and waits until they are out
abbrev a_writes : PlainScript
a_writes = record { port = 0; name = 97 ∷ []; calls = writes 0 (120 ∷ 121 ∷ 122 ∷ []) ∷ drains 0 ∷ [] }

-- and "b" sends a packet, and reads
abbrev b_sends : PlainScript
b_sends = record { port = 0; name = 98 ∷ []; calls = sends_packet 1 (1 ∷ 2 ∷ 3 ∷ 4 ∷ []) ∷ reads 1 10 ∷ [] }

-- on port 1 another "a" writes a byte
abbrev other_writes : PlainScript
other_writes = record { port = 1; name = 97 ∷ []; calls = writes 0 (120 ∷ []) ∷ [] }

-- then the first "a" writes two bytes more
abbrev a_writes_more : PlainScript
a_writes_more = record { port = 0; name = 97 ∷ []; calls = writes 0 (10 ∷ 10 ∷ []) ∷ [] }

abbrev pub worked_phases : List PlainPhase
worked_phases =
    record { lines = [] ∷ [] ∷ []; ticks = 0 ∷ 0 ∷ []; callers = a_writes ∷ b_sends ∷ other_writes ∷ [] }
    ∷ record { lines = [] ∷ [] ∷ []; ticks = 0 ∷ 0 ∷ []; callers = a_writes_more ∷ [] }
    ∷ []
