-- What a key does to the putting ends of the consoles.
use Rattle.std.specs.Prelude.{◌≡◌, ℕ, ◌+◌, ◌<◌, ◌≤◌, List, [], ◌∷◌, ◌++◌, Option}
use Rattle.std.specs.Prelude.{None, Some, MatchOption, length, slice_index_or, slice_set}
use Rattle.std.specs.List.{All}
use Rattle.std.specs.List.Sorted.{IsNonDecreasing}
use Rattle.tty_base.specs.Sizes.{MOST_SENT}
use Rattle.tty_base.specs.declared.characters.Flag.TheVariants.{Normal}
use Rattle.tty_base.specs.declared.characters.Flagged.{Flagged}
use Rattle.tty_base.specs.declared.lines.Full.{Full}
use Rattle.word_ring.specs.Ends.{PutterState, with_loaded}

-- the good character that a key puts
abbrev pub key_character : (byte : ℕ) → Flagged
key_character byte = record { byte = byte; flag = Normal }

-- what the buffer appends of one character
abbrev pub appended : Flagged → (lost : Option Full) → List Flagged
appended c None = c ∷ []
appended c (Some full) = []

-- One character was put, and all that was put is pushed. It is lost exactly where the buffer was full, at the head
-- that the put loaded.
pub record PutsAndPushes (c : Flagged) (lost : Option Full) (old new : PutterState Flagged) : Type 0 where
  pub puts : new
      ≡ record (with_loaded old new.floor) { sent = old.sent ++ appended c lost; pushed = old.sent ++ appended c lost }
  pub exact : MatchOption lost
      (length old.sent < new.floor + old.capacity)
      (λ f. (f ≡ record { sent = length old.sent; seen = new.floor }) × (length old.sent ≡ new.floor + old.capacity))
  pub rises : (old.floor ≤ new.floor) × (new.floor ≤ length old.pushed)
  pub ordered : IsNonDecreasing new.heads

-- the key goes to the end of one console, and the other ends stay
pub record GoesTo (byte console : ℕ) (lost : Option Full) (old new : List (PutterState Flagged)) : Type 0 where
  pub was : PutterState Flagged
  pub is : PutterState Flagged
  pub within : console < length old
  pub found : was ≡ slice_index_or old console was
  pub others : new ≡ slice_set old console is
  pub puts : PutsAndPushes (key_character byte) lost was is

-- each end has put fewer characters than it can count
abbrev pub CanPut : List (PutterState Flagged) → Type 0
CanPut ends = All (λ (p : PutterState Flagged). length p.sent < MOST_SENT) ends
