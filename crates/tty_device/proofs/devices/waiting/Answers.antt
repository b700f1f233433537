use Rattle.std.proofs.Common.{rules}
use Rattle.tty_device.proofs.devices.waiting.Goals as goal

pub returns-then-is_some : goal.returns-then-is_some
returns-then-is_some c = search rules steps 100000
