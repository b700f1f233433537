use Rattle.std.proofs.Common.{◌≤◌, ◌+◌, ◌*◌, ◌/◌, ◌%◌, ap, ◌∙◌, arith}
use Rattle.text_lines.proofs.Both.{values_of, values_small, values_byte}
use Rattle.text_lines.proofs.hexadecimal.byte_in.Goals as goal

pub overflow_mul-result : goal.overflow_mul-result
overflow_mul-result c =
    let small : values_of c.from.result c.from-2.result ≤ 3855 =
    rw (c.from.ensures, c.from-2.ensures) (values_small c.args.high c.args.low c.requires.high c.requires.low) in
    omega (arith, small)

pub overflow_add-result : goal.overflow_add-result
overflow_add-result c =
    let small : values_of c.from.result c.from-2.result ≤ 3855 =
    rw (c.from.ensures, c.from-2.ensures) (values_small c.args.high c.args.low c.requires.high c.requires.low) in
    omega (arith, small)

pub returns : goal.returns
returns c = λ v w first second.
    ap (λ x. (values_of x c.from-2.result * 16 + values_of x c.from-2.result / 256) % 256) c.from.ensures
    ∙ ap (λ x. (values_of c.args.high x * 16 + values_of c.args.high x / 256) % 256) c.from-2.ensures
    ∙ values_byte c.args.high c.args.low v w c.requires.high c.requires.low first second
