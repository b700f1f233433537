use Rattle.std.proofs.Common.{◌++◌, ◌/◌, ◌<◌, ◌≤◌, ◌^◌, ◌∙◌, ap, arith, decimal, string_bytes}
use Rattle.session_print.proofs.Pieces.{two_pushed}
use Rattle.session_print.proofs.Tens.{by_last_digit}
use Rattle.session_print.proofs.digits.put_number.Goals as goal

pub returns-in_ok-push_str : goal.returns-in_ok-push_str
returns-in_ok-push_str c =
    let number = c.args.number in
    let first = c.digit_text-then-number-lt100.result.now in
    let last = c.digit_text-then-number-lt100-2.result.now in
    let more : 10 ≤ number = omega (arith, c.if-number-lt10.false) in
    let small : number < 2 ^ 64 = omega (arith, c.ranges.number) in
    two_pushed c.push_str-then-number-lt100-2.result _ _ (string_bytes c.args.text.now) first last (decimal number)
    c.in_ok-push_str.ensures.bytes
    (ap (λ xs. xs ++ last) c.digit_text-then-number-lt100.ensures
    ∙ ap (λ xs. decimal (number / 10) ++ xs) c.digit_text-then-number-lt100-2.ensures
    ∙ by_last_digit number more small)
    c.push_str-then-number-lt100-2.ensures.bytes
