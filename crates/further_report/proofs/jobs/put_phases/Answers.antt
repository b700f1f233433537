use Rattle.std.proofs.Common.{length, map, replicate, ap, ◌∙◌}
use Rattle.std.proofs.lemmas.List.{length-replicate}
use Rattle.tty_calls.specs.Sessions.{phase_of}
use Rattle.job_text.specs.Sessions.{own_of}
use Rattle.further_report.specs.Printing.{bytes_of, scripts_beside}
use Rattle.further_report.specs.Jobs.{own_verb}
use Rattle.further_report.proofs.Pieces.{phase_more, phases_done, scripts_first}
use Rattle.further_report.proofs.jobs.put_phases.Goals as goal

pub loop-place-preserved : goal.loop-place-preserved
loop-place-preserved c =
    let t = c.args.teller.now in
    let answers = map (λ texts. bytes_of texts.items) t.answers.items in
    let parts = map own_of c.args.parts.now in
    let phases = c.args.phases.now in
    phase_more own_verb t.port t.names answers c.args.text.now.items (replicate (length t.names) 0)
    (scripts_beside parts 0 (map phase_of phases))
    c.loop-place.text.items c.put_scripts.new.text.items c.loop-place.steps.items c.put_scripts.new.steps.items parts
    phases c.loop-place.place c.index-phases-place.result c.as_slice.result.now c.own_in-placed.result.now
    c.loop-place-test.true c.index-phases-place.is c.as_slice.ensures c.own_in-placed.ensures
    c.in_ok-put_scripts.ensures.text c.in_ok-put_scripts.ensures.steps
    c.in_ok-put_scripts.ensures.each c.loop-place.invariant

pub loop-place-init : goal.loop-place-init
loop-place-init c =
    let t = c.args.teller.now in
    scripts_first own_verb t.port t.names (map (λ texts. bytes_of texts.items) t.answers.items) c.args.text.now.items
    (replicate (length t.names) 0) c.in_ok-steps.steps.items
    (scripts_beside (map own_of c.args.parts.now) 0 (map phase_of c.args.phases.now))
    (c.in_ok-steps.ensures ∙ ap (λ n. replicate n 0) c.len.ensures)

pub put_scripts-requires-clause-steps : goal.put_scripts-requires-clause-steps
put_scripts-requires-clause-steps c = c.loop-place.invariant.each ∙ length-replicate (length c.args.teller.now.names) 0

pub returns : goal.returns
returns c =
    let t = c.args.teller.now in
    let answers = map (λ texts. bytes_of texts.items) t.answers.items in
    let parts = map own_of c.args.parts.now in
    let phases = c.args.phases.now in
    phases_done own_verb t.port t.names answers c.args.text.now.items (replicate (length t.names) 0)
    (scripts_beside parts 0 (map phase_of phases))
    c.loop-place.text.items c.loop-place.steps.items parts phases c.loop-place.place
    c.loop-place-test.false c.loop-place.invariant
