-- What the calls of line, clock and callers that make one entry come to, as their seats know it.
use Rattle.std.specs.Prelude.{◌≡◌, ℕ, ◌+◌, ◌≤◌, List, [], ◌∷◌, ◌++◌, length, All}
use Rattle.std.specs.List.Sorted.{IsNonDecreasing}
use mathlib.Core.List.{IsPrefix}
use Rattle.tty_base.specs.declared.characters.Flagged.{Flagged}
use Rattle.tty_calls.specs.declared.journals.Who.TheVariants.{Line}
use Rattle.tty_calls.specs.Plain.{line_ended}
use Rattle.word_ring.specs.Ends.{PutterState, with_loaded}
use Rattle.port_cell.specs.declared.kept.Stamped.{Stamped}
use Rattle.port_cell.specs.Entries.{generation_of, Keeps}
use Rattle.port_cell.specs.Knowledge.{number_of, list_seen, own_entries}
use Rattle.tty_port.specs.Inside.{EntryWithCall}
use Rattle.tty_port.specs.Seen.{marks_at, chars_at}
use Rattle.tty_port.specs.Adding.{IsEntry}
use Rattle.tty_port.specs.Calls.{PortSeat}

-- the seat made one entry, which has this relation to the history that its turn found
pub record MakesOne (P : List (Stamped EntryWithCall) → Stamped EntryWithCall → Type 0)
    (old new : PortSeat) : Type 0 where
  pub before : List (Stamped EntryWithCall)
  pub entry : Stamped EntryWithCall
  pub found : Keeps (number_of old) (list_seen old) before
  pub added : list_seen new ≡ before ++ entry ∷ []
  pub own : own_entries new ≡ own_entries old ++ entry ∷ []
  pub generation : entry.what.entry.generation ≡ generation_of before
  pub is : P before entry

-- the seat made none
pub record MakesNone (old new : PortSeat) : Type 0 where
  pub found : Keeps (number_of old) (list_seen old) (list_seen new)
  pub own : own_entries new ≡ own_entries old

-- The putter met the end that takes out, of which these characters were taken: all that it put is pushed, and it loaded
-- one head, which is their number. They begin what it put, and each head that it loaded is at most their number.
pub record MeetsFlip (taken : List Flagged) (old new : PutterState Flagged) : Type 0 where
  pub putter : new ≡ with_loaded (record old { pushed = old.sent }) (length taken)
  pub begins : IsPrefix taken old.sent
  pub heads : All (λ h. h ≤ length taken) new.heads
  pub rise : IsNonDecreasing new.heads
  pub rises : old.floor ≤ length taken

-- the line is over, with the number of all that its putter put
pub record EndsLine (n : ℕ) (old new : PutterState Flagged) (before : List (Stamped EntryWithCall))
    (x : Stamped EntryWithCall) : Type 0 where
  pub entry : IsEntry n Line (marks_at before).phase (line_ended (length old.sent)) x
  pub meets : MeetsFlip (chars_at before) old new
