use Rattle.std.proofs.Common.{◌∙◌, ◌++◌, ap, string_bytes}
use Rattle.tty_calls.specs.Sessions.{session_of}
use Rattle.session_print.specs.Report.{answer_in, told_on}
use Rattle.session_print.proofs.Numbering.{same_lines}
use Rattle.session_print.proofs.calls.put_walked_calls.Goals as goal

pub returns-clause-text : goal.returns-clause-text
returns-clause-text c =
    let p = c.args.port in
    let text = string_bytes c.args.text.now in
    c.in_ok-put_answered_calls.ensures
    ∙ ap (λ xs. text ++ xs)
    (same_lines p _ (answer_in c.args.run.now.journal.items) c.in_ok-sums.ensures.answers
    (told_on p (session_of c.args.session.now)))
