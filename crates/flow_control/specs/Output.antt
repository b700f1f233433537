-- The output side of a port: the wire, held output, and what halts it.
use Rattle.std.specs.Prelude.{◌≡◌, ℕ, ◌+◌, ◌-◌, Bool, false, ◌||◌, not, nat_le}
use Rattle.std.specs.Prelude.{List, [], ◌++◌, length, drop, if◌then◌else◌}
use Rattle.tty_base.specs.Sizes.{MOST_HELD}

-- the bytes on the wire, and the room that is reserved for more; the bytes that are held, in order; whether output is
-- halted by STOP and by TCOOFF; and whether it is noted that STOP was sent for ixoff
pub record Output : Type 0 where
  pub wire : List ℕ
  pub spare : ℕ
  pub held : List ℕ
  pub stopped : Bool
  pub off : Bool
  pub noted : Bool

-- at first
abbrev pub idle_output : Output
idle_output = record { wire = []; spare = 0; held = []; stopped = false; off = false; noted = false }

-- output is halted by STOP or by TCOOFF
abbrev pub is_halted : Output → Bool
is_halted output = output.stopped || output.off

-- how many more bytes can be held
abbrev pub room_of : Output → ℕ
room_of output = MOST_HELD - length output.held

-- without a halt bytes always go out; with one they must fit in what can be held
abbrev pub has_room : Output → List ℕ → Bool
has_room output bytes = not (is_halted output) || nat_le (length bytes) (room_of output)

-- bytes on the wire, past a halt
abbrev pub on_wire : Output → List ℕ → Output
on_wire output bytes = record output { wire = output.wire ++ bytes; spare = output.spare - length bytes }

-- output that is sent: without a halt it goes to the wire at once, and with one it is held
abbrev pub after_send : Output → List ℕ → Output
after_send output bytes =
    if is_halted output then record output { held = output.held ++ bytes } else on_wire output bytes

-- output that is sent where there is room, and else stays whole with the caller
abbrev pub after_try : Output → List ℕ → Output
after_try output bytes = if has_room output bytes then after_send output bytes else output

-- the held bytes go to the wire, in order
abbrev pub with_held_sent : Output → Output
with_held_sent output = record (on_wire output output.held) { held = [] }

-- where no halt is left, the held bytes go to the wire
abbrev pub with_held_sent_unless_halted : Output → Output
with_held_sent_unless_halted output = if is_halted output then output else with_held_sent output

abbrev pub after_start : Output → Output
after_start output = with_held_sent_unless_halted (record output { stopped = false })

-- both halts go, and the held bytes are sent
abbrev pub after_release : Output → Output
after_release output = with_held_sent (record output { stopped = false; off = false })

-- TCOON undoes TCOOFF, and then STOP too
abbrev pub after_tco_on : Output → Output
after_tco_on output = if output.off then after_release output else output

-- both halts, the held bytes and the note go
abbrev pub after_reset : Output → Output
after_reset output = record output { held = []; stopped = false; off = false; noted = false }

-- the wire without its first bytes; their room is free again
abbrev pub without_front : (n : ℕ) → Output → Output
without_front n output = record output { wire = drop n output.wire; spare = output.spare + n }

-- an output as others see it: room on the wire is no part of it
abbrev pub without_room : Output → Output
without_room output = record output { spare = 0 }

-- room makes no difference to a change of output
abbrev pub IgnoresRoom : (Output → Output) → Type 0
IgnoresRoom change = (output : Output) → without_room (change output) ≡ change (without_room output)
