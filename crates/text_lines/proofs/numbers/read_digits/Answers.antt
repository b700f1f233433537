use Rattle.std.proofs.Common.{arith}
use Rattle.std.proofs.Math.Nat.{pow-le-pow_right}
use Rattle.text_lines.proofs.numbers.read_digits.Goals as goal

pub overflow_mul-value : goal.overflow_mul-value
overflow_mul-value c =
    let top = pow-le-pow_right {n = 10} (omega arith) {i = c.loop-digit.digit-index} {j = 9} (omega arith) in
    omega (arith, top, c.loop-digit.invariant.within)
