-- Characters that are given to a port at once: put, and flushed as far as the discipline accepts them.
use Rattle.std.specs.Prelude.{◌≡◌, ℕ, List, ◌++◌, length, take}
use Rattle.tty_base.specs.declared.characters.Flagged.{Flagged}
use Rattle.tty_calls.specs.declared.answers.Denied.{Denied}
use Rattle.word_ring.specs.Ends.{PutterState, TakerState, with_shown}
use Rattle.flip_buffer.specs.Drops.{LooksAt}
use Rattle.port_core.specs.declared.ports.flushing.Flushed.{Flushed}
use Rattle.port_core.specs.Flips.{TakesOut, MeetsTaker, after_meeting}
use Rattle.port_core.specs.Flushes.{Flushes}
use Rattle.port_core.specs.Ports.{PortValue, Denies}

-- these were put
abbrev pub with_put : PutterState Flagged → List Flagged → PutterState Flagged
with_put putter chars = record putter { sent = putter.sent ++ chars }

-- they were put, and all that was put is pushed
abbrev pub with_pushed : PutterState Flagged → List Flagged → PutterState Flagged
with_pushed putter chars = record putter { sent = putter.sent ++ chars; pushed = putter.sent ++ chars }

-- These were put and pushed, the end that takes out was told of it and looked, the first of them were taken, and both
-- ends met.
pub record TakesGiven (old new : TakerState Flagged) (putter now : PutterState Flagged) (chars : List Flagged)
    (n : ℕ) : Type 0 where
  pub tail : ℕ
  pub left : TakerState Flagged
  pub looks : LooksAt (after_meeting old (with_put putter chars))
      (with_shown (after_meeting old (with_put putter chars)) tail) tail
  pub takes_out : TakesOut (with_shown (after_meeting old (with_put putter chars)) tail) left (take n chars)
  pub new_is : new ≡ after_meeting left (with_pushed putter chars)
  pub meets : MeetsTaker left (with_pushed putter chars) now

-- These were put and pushed, a piece of as many was asked for, and both ends met.
pub record FlushesGiven (old new : PortValue) (putter now : PutterState Flagged) (run : ℕ) (chars : List Flagged)
    (flushed : Flushed) : Type 0 where
  pub left : PortValue
  pub flushes : Flushes (record old { flip = after_meeting old.flip (with_put putter chars) }) left run 0 (length chars)
      flushed
  pub new_is : new ≡ record left { flip = after_meeting left.flip (with_pushed putter chars) }
  pub meets : MeetsTaker left.flip (with_pushed putter chars) now

-- These were put and pushed, the end that takes out was told of it, and the piece was denied.
pub record DeniesGiven (d : Denied) (old new : PortValue) (putter now : PutterState Flagged)
    (chars : List Flagged) : Type 0 where
  pub hears : now ≡ with_pushed putter chars
  pub denies : Denies d (record old { flip = after_meeting old.flip (with_put putter chars) }) new
