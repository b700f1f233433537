use Rattle.std.proofs.Common.{◌++◌, ◌/◌, ◌<◌, ◌≤◌, ◌^◌, ◌∙◌, ap, arith, codes, cond, decimal, is_ok, string_bytes}
use Rattle.session_print.proofs.Pieces.{pushed, two_pushed}
use Rattle.session_print.proofs.Tens.{spaced, spaced_last}
use Rattle.session_print.proofs.parts.put_spaced.Goals as goal

pub returns-then-number-lt10 : goal.returns-then-number-lt10
returns-then-number-lt10 c =
    let r = c.push_str.result in
    let old = string_bytes c.args.text.now in
    pushed r (string_bytes c.push_str.new.self) old (decimal c.args.number ++ codes " ")
    (c.push_str.ensures.bytes
    ∙ ap (λ xs. cond (is_ok r) (old ++ xs) old)
    (c.spaced_digit.ensures ∙ spaced c.args.number (omega (arith, c.if-number-lt10.true))))

pub returns-in_ok-push_str : goal.returns-in_ok-push_str
returns-in_ok-push_str c =
    let number = c.args.number in
    let first = c.digit_text.result.now in
    let last = c.spaced_digit-then-number-lt100.result.now in
    let more : 10 ≤ number = omega (arith, c.if-number-lt10.false) in
    let small : number < 2 ^ 64 = omega (arith, c.ranges.number) in
    two_pushed c.push_str-then-number-lt100-2.result _ _ (string_bytes c.args.text.now) first last
    (decimal number ++ codes " ") c.in_ok-push_str.ensures.bytes
    (ap (λ xs. xs ++ last) c.digit_text.ensures
    ∙ ap (λ xs. decimal (number / 10) ++ xs) c.spaced_digit-then-number-lt100.ensures
    ∙ spaced_last number more small)
    c.push_str-then-number-lt100-2.ensures.bytes
