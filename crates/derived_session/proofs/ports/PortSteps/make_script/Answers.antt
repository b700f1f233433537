use Rattle.std.proofs.Common.{arith}
use Rattle.std.proofs.lemmas.Grind.{common_steps}
use Rattle.derived_session.proofs.ports.PortSteps.make_script.Goals as goal

pub returns-clause-made : goal.returns-clause-made
returns-clause-made g c = grind (arith, common_steps) steps 2000000

pub returns-clause-after : goal.returns-clause-after
returns-clause-after g c = grind (arith, common_steps) steps 2000000
