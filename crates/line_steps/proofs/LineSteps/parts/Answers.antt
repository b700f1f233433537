use Rattle.std.proofs.Common.{rules}
use Rattle.line_steps.proofs.LineSteps.parts.Goals as goal

pub returns : goal.returns
returns c = search rules steps 300000
