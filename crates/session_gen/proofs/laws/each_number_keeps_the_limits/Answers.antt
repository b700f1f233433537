use Rattle.session_gen.proofs.Within.{generated_within}
use Rattle.session_gen.proofs.laws.each_number_keeps_the_limits.Goals as goal

pub returns : goal.returns
returns c = generated_within
