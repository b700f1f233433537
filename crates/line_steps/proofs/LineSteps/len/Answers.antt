use Rattle.std.proofs.Common.{ap, sym, ◌∙◌, arith, length, length-append, take}
use Rattle.std.proofs.lemmas.List.{take_all}
use Rattle.line_steps.specs.Steps.{StepList, steps_in, steps_of}
use Rattle.line_steps.proofs.Parts.{one_part_more}
use Rattle.line_steps.proofs.LineSteps.len.Goals as goal

pub loop-part-preserved : goal.loop-part-preserved
loop-part-preserved c =
    let more = ap length (one_part_more c.as_slice-part-items.result.now c.loop-part.part-index c.part-item.result
    c.loop-part-test.true (sym c.part-item.is))
    ∙ length-append (steps_in (take c.loop-part.part-index c.as_slice-part-items.result.now))
    (steps_of c.part-item.result) in
    omega (arith, c.loop-part.invariant, c.saturating_add-count.ensures, c.len.ensures, more)

pub returns : goal.returns
returns c =
    let items = c.as_slice-part-items.result.now in
    let all = ap (λ parts. length (steps_in parts))
    (take_all c.loop-part.part-index items c.loop-part-test.false ∙ c.as_slice-part-items.ensures.value) in
    let same = ap (λ (s : StepList). length s.items) c.self.view_is in
    omega (arith, c.loop-part.invariant, all, same)
