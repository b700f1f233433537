-- What a cell tells of a port: its name, and an entry of its journal with the call that the port keeps for it.
use Rattle.std.specs.Prelude.{ℕ, List, Option, None, Some}
use Rattle.atomic_table.specs.Seated.{TableId}
use Rattle.tty_calls.specs.declared.calls.Call.{Call}
use Rattle.tty_calls.specs.Plain.{PlainCall, PlainEntry, call_of, entry_of}
use Rattle.tty_port.specs.declared.names.PortName.TheInside as name
use Rattle.tty_port.specs.declared.names.HistoryEntry.TheInside as entry

-- the numbers of callers of each phase, the most entries, how many callers have seats, and the flip buffer
pub record Name : Type 0 where
  pub counts : List ℕ
  pub limit : ℕ
  pub callers : ℕ
  pub ring : TableId
  pub capacity : ℕ

pub record EntryWithCall : Type 0 where
  pub entry : PlainEntry
  -- the call that it is of, where it is of one
  pub call : Option PlainCall

abbrev pub plain_name : name.Inside → Name
plain_name n =
    record { counts = n.counts; limit = n.limit; callers = n.callers; ring = n.flip.ring; capacity = n.flip.capacity }

abbrev pub plain_call : Option Call → Option PlainCall
plain_call None = None
plain_call (Some call) = Some (call_of call)

abbrev pub plain_entry : entry.Inside → EntryWithCall
plain_entry e = record { entry = entry_of e.entry; call = plain_call e.call }
