use Rattle.std.proofs.Common.{ap}
use Rattle.line_steps.specs.Steps.{StepList}
use Rattle.session_text.proofs.Lists.{one_more_empty}
use Rattle.session_text.proofs.drafts.empty_lines.Goals as goal

pub loop-preserved : goal.loop-preserved
loop-preserved c = one_more_empty (λ steps. steps.items) c.loop.counter c.loop.lines.items c.push.new.self.items
    c.new.result c.in_ok-push.ensures.items (ap (λ (s : StepList). s.items) c.new.ensures) c.loop.invariant
