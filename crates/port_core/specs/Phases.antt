-- What the ends of a line, of a phase and of the session come to.
use Rattle.std.specs.Prelude.{◌≡◌, List, ◌++◌, true, ◌≤◌, length}
use Rattle.tty_base.specs.declared.characters.Flagged.{Flagged}
use Rattle.word_ring.specs.Ends.{PutterState, AreReleased, with_shown}
use Rattle.flip_buffer.specs.Drops.{Releases}
use Rattle.tty_calls.specs.declared.journals.Who.TheVariants.{Line, Session}
use Rattle.tty_calls.specs.Plain.{line_ended, phase_ended}
use Rattle.port_core.specs.Flips.{MeetsTaker, after_meeting}
use Rattle.port_core.specs.Ports.{PortValue, Appends, phase_entry, hangup_entry}

-- The line is over, with the number that its putter has put. Both ends met, and one look was made.
pub record EndsLine (old new : PortValue) (putter now : PutterState Flagged) : Type 0 where
  pub appends : Appends old new new.flip (phase_entry old Line (line_ended (length putter.sent)))
  pub flip : new.flip ≡ with_shown old.flip new.flip.floor
  pub rises : old.flip.floor ≤ new.flip.floor
  pub counts : length putter.sent ≤ new.flip.floor
  pub meets : MeetsTaker old.flip putter now

-- The phase is over, and both ends met.
pub record EndsPhase (old new : PortValue) (putter now : PutterState Flagged) : Type 0 where
  pub appends : Appends old new (after_meeting old.flip putter) (phase_entry old Session phase_ended)
  pub meets : MeetsTaker old.flip putter now

-- The session hangs the port up: all that was put and not taken is dropped, so that all that was put is taken. Each
-- head that the putter loaded is one that was released before, or 0.
pub record HangsUp (old new : PortValue) (putter : PutterState Flagged) : Type 0 where
  pub dropped : List Flagged
  pub appends : Appends old new new.flip (hangup_entry old dropped)
  pub taken : new.flip.taken ≡ old.flip.taken ++ dropped
  pub all : new.flip.taken ≡ putter.sent
  pub heads : AreReleased old.flip.released putter.heads
  pub released : Releases old.flip new.flip
  pub ring : new.flip.ring ≡ old.flip.ring
  pub capacity : new.flip.capacity ≡ old.flip.capacity
  pub ended : new.flip.ended ≡ true
