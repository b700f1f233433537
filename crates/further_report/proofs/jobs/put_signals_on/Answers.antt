use Rattle.std.proofs.Common.{◌≡◌, ◌++◌, List, ℕ, map, string_bytes, ap, ◌∙◌}
use Rattle.std.proofs.lemmas.Result.{on_ok_weaker}
use Rattle.job_control.specs.declared.processes.Proc.{Proc}
use Rattle.job_text.specs.Events.{logged_of}
use Rattle.job_text.specs.declared.sessions.PortProc.{PortProc}
use Rattle.job_text.specs.Sessions.{procs_on}
use Rattle.further_report.specs.Jobs.{signals_on}
use Rattle.further_report.proofs.Sent.{signals_told}
use Rattle.further_report.proofs.jobs.put_signals_on.Goals as goal

pub returns : goal.returns
returns c =
    let session = c.args.session.now in
    let port = c.args.port in
    let text = string_bytes c.args.text.now in
    let log = map logged_of c.args.log.now in
    on_ok_weaker c.put_port_signals.result
    (λ (d : string_bytes c.put_port_signals.new.text ≡ text ++ signals_on port c.as_slice-2.result.now log).
    d ∙ ap (λ (l : List ℕ). text ++ l)
    (ap (λ (ps : List Proc). signals_on port ps log) (c.as_slice-2.ensures.value
    ∙ c.in_ok-procs.ensures
    ∙ ap (λ (qs : List PortProc). procs_on port qs) c.as_slice.ensures)
    ∙ signals_told session.session.ports port session.procs.items log c.requires))
    c.put_port_signals.ensures
