use Rattle.std.proofs.Common.{◌++◌, ◌∙◌, ap, codes, decimal, string_bytes}
use Rattle.std.proofs.lemmas.Result.{on_ok_weaker}
use Rattle.session_print.proofs.Entries.{three_spaced}
use Rattle.session_print.proofs.parts.put_numbers.Goals as goal

pub returns : goal.returns
returns c =
    let once = string_bytes c.push_str.new.self in
    let twice = string_bytes c.put_spaced.new.text in
    on_ok_weaker c.put_spaced-2.result
    (λ last.
    three_spaced (string_bytes c.args.text.now) once twice (string_bytes c.put_spaced-2.new.text)
    c.spaced_digit.result.now c.args.digit c.args.part c.args.generation c.requires
    c.spaced_digit.ensures c.in_ok-push_str.ensures.bytes
    (c.in_ok-put_spaced.ensures ∙ ap (λ n. once ++ (decimal n ++ codes " ")) c.from.ensures)
    (last ∙ ap (λ n. twice ++ (decimal n ++ codes " ")) c.from-2.ensures))
    c.put_spaced-2.ensures
