-- Unread input as its bytes and the lengths of its complete pieces.
use Rattle.std.specs.Prelude.{◌≡◌, ℕ, ◌+◌, ◌-◌, ◌*◌, ◌≤◌, ◌==◌, List, [], ◌∷◌, ◌++◌}
use Rattle.std.specs.Prelude.{length, map, take, drop, if◌then◌else◌}
use Rattle.tty_base.specs.Sizes.{MOST_UNREAD, MOST_ENDS}
use Rattle.line_store.specs.Unread.{Item, Byte, End}

-- the most items of a queue: it serves the bytes and the ends alike
abbrev pub MOST_QUEUED : ℕ
MOST_QUEUED = 4096

-- so many items at most, behind as many at most that were taken
pub record IsQueue (len capacity start : ℕ) : Type 0 where
  pub taken : start ≤ MOST_QUEUED
  pub within : start ≤ len
  pub few : len ≤ start + MOST_QUEUED
  pub reserved : 2 * MOST_QUEUED ≤ capacity

-- the bytes with an end after each complete piece
abbrev pub items_of : (lengths : List ℕ) → (bytes : List ℕ) → List Item
items_of [] bytes = map Byte bytes
items_of (n ∷ lengths) bytes = map Byte (take n bytes) ++ End ∷ items_of lengths (drop n bytes)

-- the bytes of several pieces together
abbrev pub total : (lengths : List ℕ) → ℕ
total [] = 0
total (n ∷ lengths) = n + total lengths

-- the lengths after so many bytes of the first piece went; with all of them goes its end
abbrev pub after_front : (count : ℕ) → List ℕ → List ℕ
after_front count [] = []
after_front count (n ∷ lengths) = if count == n then lengths else (n - count) ∷ lengths

-- a store counts the bytes after the last end
pub record IsStore (lengths bytes : List ℕ) (unended : ℕ) : Type 0 where
  pub counted : total lengths + unended ≡ length bytes
  pub few_bytes : length bytes ≤ MOST_UNREAD
  pub few_pieces : length lengths ≤ MOST_ENDS
