use Rattle.std.proofs.Common.{◌≡◌, replicate}
use Rattle.arrayvec.specs.ArrayVec.{array_vec_len}
use Rattle.opost_out.proofs.pieces.PostedBytes.of_blanks.Given as goal

abbrev pub invariant-loop : goal.invariant-loop
invariant-loop l = record { blanks : l.bytes.items ≡ replicate l.counter 32; count : array_vec_len l.bytes ≡ l.counter }
