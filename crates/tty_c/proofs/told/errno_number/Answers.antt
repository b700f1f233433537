use Rattle.std.proofs.Common.{rules}
use Rattle.tty_c.proofs.told.errno_number.Goals as goal

pub returns-in-EIO-clause-number : goal.returns-in-EIO-clause-number
returns-in-EIO-clause-number c = search rules steps 300000
