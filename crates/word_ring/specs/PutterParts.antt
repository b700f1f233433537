-- What a putter and its note have, and how contracts see them.
use Rattle.std.specs.Prelude.{◌≡◌, ℕ, ◌+◌, ◌/◌, ◌%◌, ◌^◌, ◌<◌, ◌≤◌, true, false, List, [], ◌++◌, length, All}
use Rattle.std.specs.List.Sorted.{IsNonDecreasing}
use Rattle.std.specs.Arc.{arc_value}
use Rattle.tty_base.specs.Sizes.{MOST_FLIP}
use mathlib.Core.List.{IsPrefix}
use Rattle.word_ring.specs.declared.putter.Note.TheInside.{Inside as NoteInside}
use Rattle.word_ring.specs.declared.putter.Putter.TheInside.{Inside}
use Rattle.word_ring.specs.declared.table.View.{View}
use Rattle.word_ring.specs.Ends.{PutterState, NoteState}
use Rattle.word_ring.specs.Rule.{place}
use Rattle.word_ring.specs.Lanes.{top_lanes, whole_words}

-- the numbers of the words before the last, and those in its last lanes
abbrev pub sent_of : ℕ → ℕ → View → List ℕ
sent_of sent word v = whole_words v.written ++ top_lanes word (sent % 4)

abbrev pub putter_state : Inside → PutterState ℕ
putter_state p = record {
  ring = p.seat.table_id;
  capacity = p.capacity;
  sent = sent_of p.sent p.word p.seat.me.0;
  pushed = p.seat.me.0.pushed;
  heads = p.seat.me.0.heads;
  floor = p.seat.me.0.head;
}

-- what a putter's seat knows fits its numbers
pub record IsPutting (capacity sent word : ℕ) (v : View) : Type 0 where
  pub puts : v.puts ≡ true
  pub alone : v.takes ≡ false
  pub still : v.passing ≡ false
  pub room : v.puts_within ≡ capacity
  -- the last word has the numbers that are stored of it
  pub begins : IsPrefix v.written (sent_of sent word v)
  -- what was pushed begins them
  pub pushed : IsPrefix v.pushed (sent_of sent word v)
  pub count : sent ≡ length (sent_of sent word v)
  pub fits : sent ≤ v.head + capacity
  pub rise : IsNonDecreasing v.heads
  pub most : All (λ h. h ≤ v.head) v.heads

pub record IsPutter (p : Inside) : Type 0 where
  pub table : p.seat.table_id ≡ (arc_value p.board).shared.table_id
  pub key : (arc_value p.board).shared.key ≡ p.capacity
  pub words : p.seat.table_id.words ≡ p.capacity / 4 + 4
  pub small : p.capacity ≤ MOST_FLIP
  pub at : p.at ≡ place p.capacity (p.sent / 4)
  pub bare : p.seat.me.1 ≡ []
  pub shown : p.shown ≡ length p.seat.me.0.pushed
  pub head : p.head ≡ p.seat.me.0.head
  pub putting : IsPutting p.capacity p.sent p.word p.seat.me.0

abbrev pub note_state : NoteInside → NoteState ℕ
note_state n = record { ring = n.seat.table_id; pushed = n.seat.me.0.noted; heads = n.seat.me.0.noted_heads }

pub record IsNote (n : NoteInside) : Type 0 where
  pub bare : n.seat.me.1 ≡ []
  pub tail : n.seat.me.0.tail ≡ length n.seat.me.0.noted
  pub shown : n.shown ≡ n.seat.me.0.tail
  pub fits : n.seat.me.0.tail < 2 ^ 64
