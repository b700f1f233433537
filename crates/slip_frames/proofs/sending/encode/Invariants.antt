use Rattle.std.proofs.Common.{◌≡◌, ◌+◌, ◌*◌, ◌≤◌, ◌∷◌, length, take}
use Rattle.std.specs.List.{flat_map}
use Rattle.slip_frames.specs.Slip.{end}
use Rattle.slip_frames.specs.Slip.{spelling_of_byte}
use Rattle.slip_frames.proofs.sending.encode.Given as goal

-- the front of the packet is written, and the rest has room
abbrev pub invariant-loop-b : goal.invariant-loop-b
invariant-loop-b l =
    (l.out.items ≡ end ∷ flat_map spelling_of_byte (take l.b-index l.packet))
    × (2 * length l.packet + 1 ≤ l.out.spare + 2 * l.b-index)
