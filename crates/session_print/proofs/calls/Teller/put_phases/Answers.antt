use Rattle.std.proofs.Common.{◌∙◌, ◌++◌, ap, string_bytes, flat_map, map, replicate}
use Rattle.tty_calls.specs.Sessions.{phase_of, scripts_over}
use Rattle.session_print.specs.Report.{told_line}
use Rattle.session_print.specs.Printing.{noted_answer, told_scripts}
use Rattle.session_print.proofs.Telling.{phasing_more, phasing_all}
use Rattle.session_print.proofs.calls.Teller.put_phases.Goals as goal

pub loop-phase-preserved : goal.loop-phase-preserved
loop-phase-preserved c =
    phasing_more c.args.self.now.port (noted_answer c.args.self.now.answers) c.args.self.now.names.now
    (string_bytes c.args.text.now) c.in_ok-steps.steps.items c.args.phases.now (string_bytes c.loop-phase.text)
    (string_bytes c.put_scripts.new.text) c.loop-phase.steps.items c.put_scripts.new.steps.items
    c.loop-phase.phase-index c.phase-item.result c.as_slice.result.now c.loop-phase.invariant c.loop-phase-test.true
    c.phase-item.is c.as_slice.ensures c.in_ok-put_scripts.ensures.text c.in_ok-put_scripts.ensures.steps
    c.in_ok-put_scripts.ensures.each

pub returns : goal.returns
returns c =
    let p = c.args.self.now.port in
    let names = c.args.self.now.names.now in
    let steps = c.in_ok-steps.steps.items in
    let answers = noted_answer c.args.self.now.answers in
    let text = string_bytes c.args.text.now in
    phasing_all p answers names text steps c.args.phases.now (string_bytes c.loop-phase.text) c.loop-phase.steps.items
    c.loop-phase.phase-index c.loop-phase.invariant c.loop-phase-test.false
    ∙ ap (λ xs.
    text ++ flat_map (told_line p answers) (told_scripts names xs (scripts_over p (map phase_of c.args.phases.now))))
    (c.in_ok-steps.ensures.items_if_clones_equal (λ y e. e) ∙ ap (λ n. replicate n 0) c.len.ensures)
