use Rattle.std.proofs.Common.{rules}
use Rattle.tty_c.proofs.device_exports.made.Goals as goal

pub returns : goal.returns
returns c = search rules steps 1000000
