use Rattle.std.proofs.Common.{arith}
use Rattle.text_lines.proofs.HexPairs.{pair_digit, pair_written, all_written, set_more}
use Rattle.text_lines.specs.Values.{bytes_of}
use Rattle.text_lines.proofs.hexadecimal.write_bytes.Goals as goal

pub byte_in-requires-clause-high : goal.byte_in-requires-clause-high
byte_in-requires-clause-high c =
    pair_digit c.args.digits.now _ _ c.requires.digits c.requires.room c.as_chunks.ensures.front c.loop-place.place 0
    (omega arith) (omega arith)

pub byte_in-requires-clause-low : goal.byte_in-requires-clause-low
byte_in-requires-clause-low c =
    pair_digit c.args.digits.now _ _ c.requires.digits c.requires.room c.as_chunks.ensures.front c.loop-place.place 1
    (omega arith) (omega arith)

pub loop-place-preserved : goal.loop-place-preserved
loop-place-preserved c =
    set_more c.loop-place.bytes (bytes_of c.args.digits.now) c.loop-place.place _ (omega arith)
    (pair_written c.args.digits.now _ _ c.requires.digits c.requires.room c.as_chunks.ensures.front c.loop-place.place _
    (omega arith) c.byte_in.ensures)
    c.loop-place.invariant

pub returns : goal.returns
returns c =
    all_written c.args.digits.now _ _ c.requires.digits c.requires.room c.as_chunks.ensures.front c.loop-place.bytes
    (omega arith)
    (λ k within. c.loop-place.invariant k (omega arith))
