use Rattle.std.proofs.Common.{◌≡◌, ◌-◌, List, ℕ, ap, arith, length, map, take, ◌∙◌}
use Rattle.tty_base.specs.Contents.{Contents}
use Rattle.tty_calls.specs.declared.sessions.Phase.{Phase}
use Rattle.tty_calls.specs.Sessions.{phase_of}
use Rattle.session_print.specs.Ends.{end_of}
use Rattle.session_print.specs.Report.{report_text}
use Rattle.further_report.specs.Ports.{without_phases}
use Rattle.further_report.proofs.Without.{ports_front}
use Rattle.further_report.proofs.ports.ports_lines.Goals as goal

pub returns : goal.returns
returns c =
    let session = c.args.session.now in
    let runs = c.args.runs.now in
    let ends = map end_of c.args.ends.now in
    let text = c.into_vec-text.result.items in
    let count : c.saturating_sub-lines.result ≡ length text - 5 =
    omega (arith, c.saturating_sub-lines.ensures, c.len.ensures) in
    let whole : text ≡ report_text (without_phases session.version session.ports session.flips.items) runs ends =
    c.into_vec-text.ensures
    ∙ (c.in_ok-report.ensures
    ∙ (ap (λ (phases : Contents Phase). report_text (record {
      version = session.version;
      ports = session.ports;
      flips = c.in_ok-copy.field-0.items;
      phases = map phase_of phases.items;
    }) runs ends) c.new.ensures
    ∙ ap (λ (fs : List ℕ). report_text (without_phases session.version session.ports fs) runs ends)
    c.in_ok-copy.ensures)) in
    c.truncate.ensures.items
    ∙ ap (λ (n : ℕ). take n text) count
    ∙ ports_front session.version session.ports session.flips.items runs ends text whole
