use Rattle.std.proofs.Common.{ap, sym, ◌∙◌, ◌++◌}
use Rattle.std.proofs.lemmas.List.{take_all}
use Rattle.line_steps.specs.Steps.{StepList, steps_in, steps_of}
use Rattle.line_steps.proofs.Parts.{one_part_more}
use Rattle.line_steps.proofs.LineSteps.written_out.Goals as goal

pub loop-part-preserved : goal.loop-part-preserved
loop-part-preserved c =
    c.in_ok-write_out.ensures
    ∙ ap (λ steps. steps ++ steps_of c.part-item.result) c.loop-part.invariant
    ∙ sym (one_part_more c.as_slice-part-items.result.now c.loop-part.part-index c.part-item.result
    c.loop-part-test.true (sym c.part-item.is))

pub returns : goal.returns
returns c =
    c.loop-part.invariant
    ∙ ap steps_in
    (take_all c.loop-part.part-index c.as_slice-part-items.result.now c.loop-part-test.false
    ∙ c.as_slice-part-items.ensures.value)
    ∙ ap (λ (s : StepList). s.items) c.self.view_is
