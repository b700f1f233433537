use Rattle.std.proofs.Common.{rules}
use Rattle.modem_one.proofs.controls.settle_done.Goals as goal

pub returns-then-not-has_live : goal.returns-then-not-has_live
returns-then-not-has_live c = search rules steps 300000
