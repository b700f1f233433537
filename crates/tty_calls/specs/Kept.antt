-- Calls in a list, as contracts see them, and as they are kept: bytes and mode words of all stand in a list
-- each, and a call names a part of it.
use Rattle.std.specs.Prelude.{ℕ, List}
use Rattle.tty_modes.specs.declared.words.Word.{Word}
use Rattle.tty_calls.specs.Parts.{IsListPart, part_of}
use Rattle.tty_calls.specs.declared.kept_calls.KeptCall.{KeptCall}
use Rattle.tty_calls.specs.declared.kept_calls.KeptCall.TheVariants as kept
use Rattle.tty_calls.specs.Plain.{PlainCall, opens, closes, reads, writes, gets_modes, sets_modes, gets_disc}
use Rattle.tty_calls.specs.Plain.{sets_disc, flushes, steers, counts_input, counts_output, excludes, admits}
use Rattle.tty_calls.specs.Plain.{drains, gets_counts, hangs_up, sends_packet, takes_packet}

-- the calls, in order
pub record CallList : Type 0 where
  pub items : List PlainCall

-- the call that a kept one is, beside the lists
abbrev pub kept_in : List ℕ → List Word → KeptCall → PlainCall
kept_in bytes words (kept.Open h access nonblock) = opens h access nonblock
kept_in bytes words (kept.Close h) = closes h
kept_in bytes words (kept.Read h n) = reads h n
kept_in bytes words (kept.Write h part) = writes h (part_of bytes part)
kept_in bytes words (kept.GetModes h) = gets_modes h
kept_in bytes words (kept.SetModes h when part) = sets_modes h when (part_of words part)
kept_in bytes words (kept.GetDisc h) = gets_disc h
kept_in bytes words (kept.SetDisc h number) = sets_disc h number
kept_in bytes words (kept.Flush h queue) = flushes h queue
kept_in bytes words (kept.Xonc h act) = steers h act
kept_in bytes words (kept.Inq h) = counts_input h
kept_in bytes words (kept.Outq h) = counts_output h
kept_in bytes words (kept.Excl h) = excludes h
kept_in bytes words (kept.Nxcl h) = admits h
kept_in bytes words (kept.Drain h) = drains h
kept_in bytes words (kept.Counts h) = gets_counts h
kept_in bytes words (kept.Vhangup h) = hangs_up h
kept_in bytes words (kept.SendPacket h part) = sends_packet h (part_of bytes part)
kept_in bytes words (kept.TakePacket h) = takes_packet h

-- whether the parts that a call names lie within lists of these lengths
abbrev pub IsWithinLists : ℕ → ℕ → KeptCall → Type 0
IsWithinLists bytes words (kept.Write h part) = IsListPart bytes part
IsWithinLists bytes words (kept.SetModes h when part) = IsListPart words part
IsWithinLists bytes words (kept.SendPacket h part) = IsListPart bytes part
IsWithinLists bytes words other = Unit {0}
