use Rattle.std.proofs.Common.{rules}
use Rattle.live_handles.proofs.is_live.Goals as goal

pub returns-in-Some : goal.returns-in-Some
returns-in-Some c = search rules steps 100000
