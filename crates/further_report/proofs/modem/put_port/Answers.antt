use Rattle.std.proofs.Common.{◌≡◌, ◌==◌, ◌++◌, if◌then◌else◌, flat_map, List, [], ℕ, length, map, replicate, ap, ◌∙◌}
use Rattle.std.proofs.lemmas.Result.{on_ok_weaker}
use Rattle.tty_calls.specs.declared.sessions.Phase.{Phase}
use Rattle.tty_calls.specs.Sessions.{phase_of, session_of}
use Rattle.modem_text.specs.declared.sessions.ModemPart.{ModemPart}
use Rattle.modem_text.specs.Events.{event_of}
use Rattle.further_report.specs.Modem.{own_verb, told_in}
use Rattle.further_report.specs.Printing.{bytes_of, learned_with_carrier, own_in, scripts_beside, scripts_text}
use Rattle.further_report.proofs.Ported.{has_answers, modem_port}
use Rattle.further_report.proofs.modem.put_port.Goals as goal

pub put_phases-requires : goal.put_phases-requires
put_phases-requires c = has_answers c.in_ok-answers.answers.items c.len.result _
    (flat_map (λ l. if l.port == c.args.port then told_in (event_of l.event) else []) c.args.log.now)
    c.len.ensures c.in_ok-answers.ensures

pub returns : goal.returns
returns c =
    let session = c.args.session.now in
    let port = c.args.port in
    let names = c.in_ok-names.names in
    let answers = map (λ texts. bytes_of texts.items) c.in_ok-answers.answers.items in
    let text = c.args.text.now.items in
    let phases = c.as_slice-phases.result.now in
    let parts = c.as_slice.result.now in
    on_ok_weaker c.put_phases.result
    (λ (d : c.put_phases.new.text.items
    ≡ text
    ++ scripts_text own_verb port names answers (replicate (length names) 0)
    (scripts_beside (map own_in parts) 0 (map phase_of phases))).
    d ∙ ap (λ (l : List ℕ). text ++ l)
    (ap (λ (ps : List Phase). scripts_text own_verb port names answers (replicate (length names) 0)
    (scripts_beside (map own_in parts) 0 (map phase_of ps))) c.as_slice-phases.ensures
    ∙ ap
    (λ (os : List ModemPart). scripts_text own_verb port names answers (replicate (length names) 0)
    (scripts_beside (map own_in os) 0 (map phase_of session.session.phases.items))) c.as_slice.ensures
    ∙ modem_port (session_of session.session) session.parts.items
    c.args.log.now port c.len.result names answers c.requires
    (c.in_ok-names.ensures
    ∙ ap (λ (ps : List Phase). learned_with_carrier [] port (map phase_of ps)) c.as_slice-phases.ensures)
    c.len.ensures c.in_ok-answers.ensures))
    c.put_phases.ensures
