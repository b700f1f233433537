use Rattle.std.proofs.Common.{◌≡◌, ◌-◌, length, take, ap, arith, ◌∙◌}
use Rattle.tty_calls.specs.Sessions.{session_of}
use Rattle.vt_report.proofs.Counting.{callers_front}
use Rattle.vt_report.proofs.report.callers_text.Goals as goal

pub returns : goal.returns
returns c =
    let text = c.into_vec-text.result.items in
    let count : c.saturating_sub-calls.result ≡ length text - 5 =
    omega (arith, c.saturating_sub-calls.ensures, c.len.ensures) in
    c.truncate.ensures.items
    ∙ ap (λ n. take n text) count
    ∙ callers_front (session_of c.args.session.now) c.args.runs.now text
    (c.into_vec-text.ensures ∙ c.in_ok-report.ensures)
