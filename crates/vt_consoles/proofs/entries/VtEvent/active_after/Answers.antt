use Rattle.std.proofs.Common.{rules}
use Rattle.vt_consoles.proofs.entries.VtEvent.active_after.Goals as goal

pub returns-in-Activate : goal.returns-in-Activate
returns-in-Activate c = search rules steps 100000
