use Rattle.std.proofs.Common.{◌∙◌, ◌++◌, ◌≡◌, ◌%◌, ◌*◌, ap, sym, arith, append_assoc, length}
use Rattle.text_lines.specs.Sizes.{ROW}
use Rattle.text_lines.specs.Values.{bytes_of}
use Rattle.text_lines.proofs.HexPairs.{parted_at}
use Rattle.text_lines.proofs.hexadecimal.bytes_by_rows.Goals as goal

pub loop-rest-preserved : goal.loop-rest-preserved
loop-rest-preserved c =
    let before = c.loop-rest.invariant in
    let front = c.split_at.result.0.now in
    let back = c.split_at.result.1.now in
    let even : length front % 2 ≡ 0 = omega (arith, c.split_at.ensures.front_len) in
    let more : length back % 2 ≡ 0 = omega (arith, c.split_at.ensures.back_len, c.loop-rest-test.true, before.even) in
    let parts = parted_at c.loop-rest.rest.now front back (2 * ROW) c.split_at.ensures.front
    c.split_at.ensures.back even more before.digits before.even in
    record {
      digits = parts.back_digits;
      even = more;
      left =
          ap (λ xs. xs ++ bytes_of back) c.in_ok-add_row.ensures
          ∙ append_assoc c.loop-rest.bytes.items (bytes_of front) (bytes_of back)
          ∙ ap (λ xs. c.loop-rest.bytes.items ++ xs) (sym parts.written)
          ∙ before.left;
    }
