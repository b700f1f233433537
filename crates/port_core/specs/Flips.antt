-- The flip buffer of a port: what a look shows, what is taken out, and what its two ends tell each other.
use Rattle.std.specs.Prelude.{◌≡◌, ℕ, List, [], ◌++◌, ◌-◌, ◌≤◌, if◌then◌else◌, length, min, max}
use Rattle.std.specs.List.{All}
use Rattle.std.specs.List.Sorted.{IsNonDecreasing}
use mathlib.Core.List.{IsPrefix}
use Rattle.tty_base.specs.declared.characters.Flagged.{Flagged}
use Rattle.word_ring.specs.Ends.{PutterState, TakerState, with_loaded}
use Rattle.flip_buffer.specs.Drops.{LooksAt, Releases}
use Rattle.tty_terminal.specs.Terminals.{Terminal}

-- how many characters a look that loads this tail shows: once the line is over, none past those that it sent
abbrev pub shown_count : Terminal → (tail : ℕ) → ℕ
shown_count t tail = if t.line_over then min (tail - t.taken) (t.sent - t.taken) else tail - t.taken

-- these characters were taken out, and the heads that were released for it count some of them; else only what was
-- loaded grew
pub record TakesOut (old new : TakerState Flagged) (chars : List Flagged) : Type 0 where
  pub ring : new.ring ≡ old.ring
  pub capacity : new.capacity ≡ old.capacity
  pub taken : new.taken ≡ old.taken ++ chars
  pub floor : old.floor ≤ new.floor
  pub tails : IsPrefix old.tails new.tails
  pub released : Releases old new
  pub ended : new.ended ≡ old.ended
  pub sent : new.sent ≡ old.sent

-- one look was made, and all that it shows was taken out
pub record DropsShown (t : Terminal) (old new : TakerState Flagged) (dropped : List Flagged) : Type 0 where
  pub takes_out : TakesOut old new dropped
  pub tail : ℕ
  pub looks : LooksAt old new tail
  pub all : length dropped ≡ shown_count t tail

-- the end that takes out, once it was told of all that this putter has put: a later look counts at least that, and what
-- was peeked is forgotten
abbrev pub after_meeting : TakerState Flagged → PutterState Flagged → TakerState Flagged
after_meeting flip putter = record flip { peeked = []; floor = max flip.floor (length putter.sent) }

-- The putter, before and after it met the end that takes out: all that it put is pushed, and it loaded one head, which
-- is the number taken. What was taken begins what it put, and each head that it loaded is at most the number taken.
pub record MeetsTaker (flip : TakerState Flagged) (old new : PutterState Flagged) : Type 0 where
  pub putter : new ≡ with_loaded (record old { pushed = old.sent }) (length flip.taken)
  pub begins : IsPrefix flip.taken old.sent
  pub heads : All (λ h. h ≤ length flip.taken) new.heads
  pub rise : IsNonDecreasing new.heads
  pub rises : old.floor ≤ length flip.taken
