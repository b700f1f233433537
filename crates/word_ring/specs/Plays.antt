-- What each step on a ring's table tells its seat.
use Rattle.std.specs.Prelude.{◌≡◌, ℕ, ◌+◌, ◌%◌, ◌≤◌, true, false, List, [], ◌∷◌, ◌++◌, length, take, drop, max, All}
use mathlib.Core.List.{IsPrefix}
use Rattle.atomic_table.specs.Table.{Me, Step}
use Rattle.word_ring.specs.declared.table.View.{View}
use Rattle.word_ring.specs.Ends.{IsOneWithin, AreReleased}
use Rattle.word_ring.specs.Lanes.{lanes, whole_words}
use Rattle.word_ring.specs.Rule.{Slot}

abbrev Mine : Type 0
Mine = Me Slot View

-- a seat that knows nothing
abbrev pub blank_view : View
blank_view = record {
  puts = false;
  takes = false;
  puts_within = 0;
  takes_within = 0;
  written = [];
  pushed = [];
  heads = [];
  taken = [];
  read = [];
  released = [];
  tails = [];
  noted = [];
  noted_heads = [];
  head = 0;
  tail = 0;
  holds = false;
  passing = false;
}

-- the seat of both ends of a new ring
abbrev pub both_ends : ℕ → View
both_ends n = record blank_view { puts = true; takes = true; puts_within = n; takes_within = n }

abbrev pub with_head : View → ℕ → View
with_head v n = record v { heads = v.heads ++ n ∷ []; head = n }

abbrev pub with_written : View → List ℕ → View
with_written v xs = record v { written = xs }

abbrev pub with_all_pushed : View → View
with_all_pushed v = record v { pushed = v.written }

-- what was read beyond what was taken is forgotten
abbrev pub with_tail : View → ℕ → View
with_tail v n = record v { read = v.taken; tails = v.tails ++ n ∷ []; tail = n }

abbrev pub with_read : View → List ℕ → View
with_read v xs = record v { read = xs }

-- the numbers that were read and stand below the new head are taken, and what was read beyond it is forgotten
abbrev pub with_taken_to : View → ℕ → View
with_taken_to v n = record v { taken = take n v.read; read = take n v.read; released = v.released ++ n ∷ []; head = n }

-- some more are put and pushed past the words, where none was left
abbrev pub with_put_past : View → List ℕ → View
with_put_past v xs = record v { written = v.pushed ++ xs; pushed = v.pushed ++ xs; passing = true }

-- all that was pushed is taken, and what was stored counts as loaded
abbrev pub with_taken_past : View → View
with_taken_past v = record v {
  heads = v.heads ++ length v.pushed ∷ [];
  taken = v.pushed;
  read = v.pushed;
  released = v.released ++ length v.pushed ∷ [];
  tails = v.tails ++ length v.pushed ∷ [];
  head = length v.pushed;
  tail = length v.pushed;
  passing = false;
}

-- both, one after the other
abbrev pub with_passed : View → List ℕ → View
with_passed v xs = with_taken_past (with_put_past v xs)

-- the numbers in the slot that was taken last
abbrev pub held : List (ℕ × Slot) → List ℕ
held [] = []
held (x ∷ xs) = x.1.items

abbrev pub TakesSlot : Step Slot → Mine → ℕ → Mine → Type 0
TakesSlot s m n m' = (m'.0 ≡ record m.0 { holds = true }) × ((xs : Slot) × (m'.1 ≡ (0, xs) ∷ m.1))

abbrev pub LoadsHead : Step Slot → Mine → ℕ → Mine → Type 0
LoadsHead s m n m' =
    (m'.0 ≡ with_head m.0 n)
    × (m'.1 ≡ m.1)
    × (m.0.head ≤ n)
    × (n ≤ length m.0.pushed)
    × (length m.0.pushed ≤ length m.0.written)

-- the word is stored with so many lanes
abbrev pub StoresLanes : ℕ → Step Slot → Mine → ℕ → Mine → Type 0
StoresLanes k s m n m' = (m'.0 ≡ with_written m.0 (whole_words m.0.written ++ lanes n k)) × (m'.1 ≡ m.1)

abbrev pub StoresTail : Step Slot → Mine → ℕ → Mine → Type 0
StoresTail s m n m' = (m'.0 ≡ with_all_pushed m.0) × (m'.1 ≡ m.1)

abbrev pub LoadsTail : Step Slot → Mine → ℕ → Mine → Type 0
LoadsTail s m n m' =
    (m'.0 ≡ with_tail m.0 n)
    × (m'.1 ≡ m.1)
    × (m.0.tail ≤ n)
    × (length m.0.taken ≤ n)
    × (n ≤ length m.0.taken + m.0.takes_within)
    × (m.0.puts ≡ true → n ≡ length m.0.pushed)

-- of the word the next lanes below the known tail are read, and these were pushed
abbrev pub LoadsLanes : Step Slot → Mine → ℕ → Mine → Type 0
LoadsLanes s m n m' =
    (m'.0 ≡ with_read m.0 (take m.0.tail (m.0.read ++ drop (length m.0.read % 4) (lanes n 4))))
    × (m'.1 ≡ m.1)
    × IsPrefix m.0.read m'.0.read
    × (m.0.puts ≡ true → IsPrefix m'.0.read m.0.pushed)

abbrev pub StoresHead : Step Slot → Mine → ℕ → Mine → Type 0
StoresHead s m n m' = (m'.0 ≡ with_taken_to m.0 n) × (m'.1 ≡ m.1)

-- what was noted is compared with what was taken
abbrev pub Compares : Step Slot → Mine → ℕ → Mine → Type 0
Compares s m n m' = (m' ≡ m)
    × IsOneWithin m.0.taken m.0.noted
    × AreReleased m.0.released m.0.noted_heads
    × All (λ h. h ≤ length m.0.taken) m.0.noted_heads
    × (m.0.puts ≡ true
    → IsPrefix m.0.taken m.0.pushed × AreReleased m.0.released m.0.heads × (m.0.tail ≤ length m.0.pushed))

-- the numbers in the slot are put and pushed past the words, where both ends are at hand and nothing waited
abbrev pub PutsPast : Step Slot → Mine → ℕ → Mine → Type 0
PutsPast s m n m' =
    (m'.0 ≡ with_put_past m.0 (held m.1))
    × (m'.1 ≡ m.1)
    × (m.0.taken ≡ m.0.pushed)
    × (m.0.tail ≤ length m.0.pushed)
    × (m.0.puts_within ≡ m.0.takes_within)

-- they are taken
abbrev pub TakesPast : Step Slot → Mine → ℕ → Mine → Type 0
TakesPast s m n m' = (m'.0 ≡ with_taken_past m.0) × (m'.1 ≡ m.1)

-- the two ends of a ring
abbrev pub putter_of : View → View
putter_of v = record v { takes = false }

abbrev pub taker_of : View → View
taker_of v = record v { puts = false; pushed = [] }

-- a note of what the putter knows
abbrev pub note_of : View → View
note_of v = record blank_view { noted = v.pushed; noted_heads = v.heads; tail = length v.pushed }

-- a note of how much the taker took
abbrev pub head_note_of : View → View
head_note_of v = record blank_view { head = length v.taken }

-- what was read beyond what was taken is forgotten
abbrev pub with_note : View → View → View
with_note v w = record v { read = v.taken; noted = w.noted; noted_heads = w.noted_heads; tail = max v.tail w.tail }

abbrev pub with_head_note : View → View → View
with_head_note v w = record v { head = max v.head w.head }

-- the taker takes over the putter's seat, and what was read beyond what was taken is forgotten
abbrev pub with_putter : View → View → View
with_putter v w = record v {
  puts = true;
  puts_within = w.puts_within;
  written = w.written;
  pushed = w.pushed;
  heads = w.heads;
  read = v.taken;
  tail = max v.tail (length w.pushed);
}
