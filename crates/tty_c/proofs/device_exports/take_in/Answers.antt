use Rattle.std.proofs.Common.{rules}
use Rattle.tty_c.proofs.device_exports.take_in.Goals as goal

pub returns-in-Ok-Some : goal.returns-in-Ok-Some
returns-in-Ok-Some c = search rules steps 1000000

pub returns-in-Ok-None : goal.returns-in-Ok-None
returns-in-Ok-None c = search rules steps 1000000
