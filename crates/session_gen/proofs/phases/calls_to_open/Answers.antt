use Rattle.std.proofs.Common.{rules}
use Rattle.session_gen.proofs.phases.calls_to_open.Goals as goal

pub returns : goal.returns
returns c = search rules steps 300000
