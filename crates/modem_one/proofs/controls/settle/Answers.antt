use Rattle.std.proofs.Common.{rules}
use Rattle.modem_one.proofs.controls.settle.Goals as goal

pub returns-then-is_done : goal.returns-then-is_done
returns-then-is_done c = search rules steps 300000
