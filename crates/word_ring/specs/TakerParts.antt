-- What a taker and its note have, and how contracts see them.
use Rattle.std.specs.Prelude.{◌≡◌, ℕ, ◌+◌, ◌-◌, ◌*◌, ◌/◌, ◌%◌, ◌^◌, ◌<◌, ◌≤◌, true}
use Rattle.std.specs.Prelude.{false, List, [], ◌∷◌, length, take, drop, min, slice_index}
use Rattle.std.specs.Arc.{arc_value}
use Rattle.tty_base.specs.Sizes.{MOST_FLIP}
use mathlib.Core.List.{IsPrefix}
use Rattle.word_ring.specs.declared.table.View.{View}
use Rattle.word_ring.specs.declared.taker.HeadNote.TheInside.{Inside as HeadNoteInside}
use Rattle.word_ring.specs.declared.taker.Taker.TheInside.{Inside}
use Rattle.word_ring.specs.Ends.{TakerState, HeadNoteState}
use Rattle.word_ring.specs.Lanes.{lane}
use Rattle.word_ring.specs.Rule.{Slot, place}

-- what was peeked: the numbers read after those that were taken, as far as the next one
abbrev pub peeked_of : ℕ → ℕ → View → List ℕ
peeked_of taken next v = drop taken (take next v.read)

abbrev pub taker_state : Inside → TakerState ℕ
taker_state t = record {
  ring = t.seat.table_id;
  capacity = t.capacity;
  taken = t.seat.me.0.taken;
  peeked = peeked_of t.taken t.next t.seat.me.0;
  released = t.seat.me.0.released;
  tails = t.seat.me.0.tails;
  floor = t.seat.me.0.tail;
  ended = t.seat.me.0.puts;
  sent = t.seat.me.0.pushed;
}

-- the word has the numbers that were read from this place on, each in its lane
abbrev pub HasLanes : ℕ → ℕ → List ℕ → Type 0
HasLanes word next read = (i : ℕ) → next ≤ i → i < length read → slice_index read i ≡ lane word (i % 4)

-- what a taker's seat knows fits its numbers
pub record IsTaking (capacity taken next word start at : ℕ) (v : View) : Type 0 where
  pub takes : v.takes ≡ true
  pub still : v.passing ≡ false
  pub room : v.takes_within ≡ capacity
  pub count : taken ≡ length v.taken
  pub goes_on : IsPrefix v.taken v.read
  pub order : taken ≤ next
  pub peeked : next ≤ length v.read
  -- where none is peeked none was read
  pub none : next ≡ taken → length v.read ≡ taken
  -- else all was read that the latest word has below the tail
  pub some : taken < next → length v.read ≡ min v.tail ((next + 3) / 4 * 4)
  pub lanes : HasLanes word next v.read
  pub start_is : start ≡ place capacity (taken / 4)
  pub at_is : taken < next → at ≡ place capacity ((next - 1) / 4)
  pub fits : v.tail < 2 ^ 64
  -- with the putter taken over, all that was put is known
  pub ended : v.puts ≡ true → v.tail ≡ length v.pushed
  pub begins : v.puts ≡ true → IsPrefix v.read v.pushed
  -- and else nothing of it
  pub alone : v.puts ≡ false → v.pushed ≡ []

pub record IsTaker (t : Inside) : Type 0 where
  pub table : t.seat.table_id ≡ (arc_value t.board).shared.table_id
  pub key : (arc_value t.board).shared.key ≡ t.capacity
  pub words : t.seat.table_id.words ≡ t.capacity / 4 + 4
  pub small : t.capacity ≤ MOST_FLIP
  pub slot : Slot
  pub holds : t.seat.me.1 ≡ (0, slot) ∷ []
  pub tail : t.tail ≡ t.seat.me.0.tail
  pub ended : t.ended ≡ t.seat.me.0.puts
  pub taking : IsTaking t.capacity t.taken t.next t.word t.start t.at t.seat.me.0

abbrev pub head_note_state : HeadNoteInside → HeadNoteState
head_note_state n = record { ring = n.seat.table_id; taken = n.seat.me.0.head }

pub record IsHeadNote (n : HeadNoteInside) : Type 0 where
  pub bare : n.seat.me.1 ≡ []
  pub taken : n.taken ≡ n.seat.me.0.head
