-- What holds of a ring between any two steps. Word 0 is the head, word 1 the tail, and the words from 2 on have four
-- numbers each.
use Rattle.std.specs.Prelude.{◌≡◌, ℕ, ◌+◌, ◌/◌, ◌%◌, ◌<◌, ◌≤◌, Bool, true, false, List, length, slice_index, All}
use mathlib.Core.List.{IsPrefix}
use mathlib.Core.Option.{some}
use lib.ListN.{get_elem?}
use Rattle.atomic_table.specs.Table.{State}
use Rattle.word_ring.specs.declared.past.Past.{Past}
use Rattle.word_ring.specs.declared.table.View.{View}
use Rattle.word_ring.specs.Ends.{AreReleased, IsReleased}
use Rattle.word_ring.specs.Lanes.{lane}

-- What was done so far: the numbers whose word was stored or that went past the words, those of them that were
-- pushed, those of them that were taken, the heads that were stored, the seats of the two ends, whether the slot was
-- taken, and whether what was pushed last goes past the words and is not yet taken.
pub record Story : Type 0 where
  pub written : List ℕ
  pub pushed : List ℕ
  pub taken : List ℕ
  pub released : List ℕ
  pub putter : ℕ
  pub taker : ℕ
  pub out : Bool
  pub passing : Bool

-- what the seat of the putter knows
pub record KnowsPuts (n : ℕ) (g : Story) (seat : ℕ) (v : View) : Type 0 where
  pub at : seat ≡ g.putter
  pub capacity : v.puts_within ≡ n
  pub written : v.written ≡ g.written
  pub pushed : v.pushed ≡ g.pushed
  pub heads : AreReleased g.released v.heads
  pub passing : v.passing ≡ g.passing

-- what the seat of the taker knows
pub record KnowsTakes (n : ℕ) (g : Story) (seat : ℕ) (v : View) : Type 0 where
  pub at : seat ≡ g.taker
  pub capacity : v.takes_within ≡ n
  pub taken : v.taken ≡ g.taken
  pub released : v.released ≡ g.released
  pub begins : IsPrefix v.taken v.read
  pub read : IsPrefix v.read g.pushed
  pub known : length v.read ≤ v.tail
  pub out : v.holds ≡ g.out
  pub passing : v.passing ≡ g.passing

-- what each seat knows
pub record Knows (n : ℕ) (g : Story) (seat : ℕ) (v : View) : Type 0 where
  pub noted : IsPrefix v.noted g.pushed
  pub noted_heads : AreReleased g.released v.noted_heads
  pub head : v.head ≤ length g.taken
  pub tail : v.tail ≤ length g.pushed
  pub puts : v.puts ≡ true → KnowsPuts n g seat v
  pub takes : v.takes ≡ true → KnowsTakes n g seat v

-- the word that has a group of four numbers, in a ring of capacity n
abbrev pub place : ℕ → ℕ → ℕ
place n group = 2 + group % (n / 4 + 2)

-- each written number that is not taken stands in its lane
abbrev pub StandsInLane : ℕ → List ℕ → ℕ → List ℕ → Type 0
StandsInLane n words head written =
    (i : ℕ) → head ≤ i → i < length written → lane (slice_index words (place n (i / 4))) (i % 4) ≡ slice_index written i

-- what a table's slot has
abbrev pub Slot : Type 0
Slot = Past

pub record Ring (n : ℕ) (s : State Slot View) : Type 0 where
  pub story : Story
  pub wide : length s.words ≡ n / 4 + 4
  pub head : slice_index s.words 0 ≡ length story.taken
  pub tail : slice_index s.words 1 ≡ length story.pushed
  pub taken : IsPrefix story.taken story.pushed
  pub pushed : IsPrefix story.pushed story.written
  pub fits : length story.written ≤ length story.taken + n
  pub stands : story.passing ≡ false → StandsInLane n s.words (length story.taken) story.written
  -- what goes past the words no other seat can look for, since one seat has both ends
  pub one : story.passing ≡ true → story.putter ≡ story.taker
  pub released : All (λ h. h ≤ length story.taken) story.released
  pub last : IsReleased story.released (length story.taken)
  pub home : story.out ≡ false → (xs : Slot) × (get_elem? s.homes 0 ≡ some (some xs))
  pub each : (seat : ℕ) (v : View) → get_elem? s.views seat ≡ some v → Knows n story seat v
