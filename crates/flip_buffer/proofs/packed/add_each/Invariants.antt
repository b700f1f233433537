use Rattle.std.proofs.Common.{◌≡◌, ◌+◌, ◌++◌, map, take}
use Rattle.arrayvec.specs.ArrayVec.{array_vec_len}
use Rattle.flip_buffer.specs.Packed.{char_of}
use Rattle.flip_buffer.proofs.packed.add_each.Given as goal

abbrev pub invariant-loop-x : goal.invariant-loop-x
invariant-loop-x l =
    (l.out.items ≡ l.initial.out.items ++ map char_of (take l.x-index l.numbers))
    × (array_vec_len l.out ≡ array_vec_len l.initial.out + l.x-index)
