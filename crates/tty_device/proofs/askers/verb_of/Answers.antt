use Rattle.std.proofs.Common.{rules}
use Rattle.tty_device.proofs.askers.verb_of.Goals as goal

pub returns-in-Write : goal.returns-in-Write
returns-in-Write c = search rules steps 100000
