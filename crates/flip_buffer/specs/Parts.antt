-- What the two ends of a flip buffer have, and how contracts see them.
use Rattle.std.specs.Prelude.{◌≤◌}
use Rattle.tty_base.specs.Sizes.{LEAST_FLIP}
use Rattle.tty_base.specs.declared.characters.Flagged.{Flagged}
use Rattle.word_ring.specs.Ends.{PutterState, TakerState, NoteState}
use Rattle.flip_buffer.specs.declared.input.FlipIn.TheInside.{Inside as InInside}
use Rattle.flip_buffer.specs.declared.input.FlipNote.TheInside.{Inside as NoteInside}
use Rattle.flip_buffer.specs.declared.output.FlipOut.TheInside.{Inside as OutInside}
use Rattle.flip_buffer.specs.Packed.{in_state, out_state, note_state}

abbrev pub flip_in : InInside → PutterState Flagged
flip_in f = in_state f.putter

abbrev pub flip_note : NoteInside → NoteState Flagged
flip_note n = note_state n.note

abbrev pub flip_out : OutInside → TakerState Flagged
flip_out f = out_state f.taker

-- each end has room for a whole window of the line, and for a piece of a flush
abbrev pub HasRoomIn : InInside → Type 0
HasRoomIn f = LEAST_FLIP ≤ f.putter.capacity

abbrev pub HasRoomOut : OutInside → Type 0
HasRoomOut f = LEAST_FLIP ≤ f.taker.capacity
