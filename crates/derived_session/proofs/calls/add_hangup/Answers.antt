use Rattle.std.proofs.Common.{rules}
use Rattle.derived_session.proofs.calls.add_hangup.Goals as goal

pub returns-in-Some : goal.returns-in-Some
returns-in-Some c = search rules steps 300000
