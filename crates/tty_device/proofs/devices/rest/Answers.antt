use Rattle.std.proofs.Common.{rules}
use Rattle.tty_device.proofs.devices.rest.Goals as goal

pub returns-then-ne : goal.returns-then-ne
returns-then-ne c = search rules steps 300000
