-- The end of a flip buffer that puts characters in.
use Rattle.std.specs.Prelude.{◌≡◌, ℕ, ◌+◌, ◌-◌, ◌<◌, ◌≤◌, min, max, List, [], ◌++◌, length, take}
use Rattle.std.proofs.Common.{◌⊎◌}
use Rattle.tty_base.specs.Sizes.{LEAST_FLIP, MOST_FLIP, MOST_SENT}
use Rattle.atomic_table.specs.Seated.{TableId}
use Rattle.tty_base.specs.declared.characters.Flag.{Flag}
use Rattle.tty_base.specs.declared.characters.Flagged.{Flagged}
use Rattle.flow_control.specs.Counting.{count_after}
use Rattle.word_ring.specs.Ends.{PutterState}
use Rattle.flip_buffer.specs.Packed.{with_flag}

pub record PutEnd : Type 0 where
  -- its flip buffer, and how many characters it holds
  pub ring : TableId
  pub capacity : ℕ
  -- all that was put, the oldest first, and those of them that were pushed
  pub sent : List Flagged
  pub pushed : List Flagged
  -- how many were refused; the count stands still at the last value of 64 bits
  pub overruns : ℕ
  -- how many of those that were put it knows to be taken
  pub known : ℕ

-- how many characters a flip buffer holds that is to hold so many
abbrev pub buffer_size : ℕ → ℕ
buffer_size n = max (min n MOST_FLIP) LEAST_FLIP

-- at first
abbrev pub fresh_line : TableId → (capacity : ℕ) → PutEnd
fresh_line ring capacity = record { ring = ring; capacity = capacity; sent = []; pushed = []; overruns = 0; known = 0 }

-- why no more is put: as many stand in the buffer, as far as it is known, as it holds; or 2^63 were put
abbrev pub HasNoRoom : (sent : List Flagged) → (known capacity : ℕ) → Type 0
HasNoRoom sent known capacity = (length sent ≡ known + capacity) ⊎ (MOST_SENT ≤ length sent)

-- so many of these bytes are put, each with this flag, and the others are refused
abbrev pub after_put : Flag → (bytes : List ℕ) → (count : ℕ) → PutEnd → PutEnd
after_put flag bytes count l =
    record l {
      sent = l.sent ++ with_flag flag (take count bytes);
      overruns = count_after l.overruns (length bytes - count);
    }

-- Bytes are put, each with this flag, up to the first that there is no room for, and pushed.
pub record PutsAndPushes (old new : PutEnd) (flag : Flag) (bytes : List ℕ) (count : ℕ) : Type 0 where
  pub within : count ≤ length bytes
  pub after : new ≡ record (after_put flag bytes count old) { pushed = new.sent; known = new.known }
  pub known : old.known ≤ new.known
  pub full : count < length bytes → HasNoRoom new.sent new.known old.capacity

-- the end before and after these were put: for private functions alone
pub record Puts (old new : PutterState Flagged) (chars : List Flagged) : Type 0 where
  pub ring : new.ring ≡ old.ring
  pub capacity : new.capacity ≡ old.capacity
  pub pushed : new.pushed ≡ old.pushed
  pub sent : new.sent ≡ old.sent ++ chars
  pub known : old.floor ≤ new.floor
