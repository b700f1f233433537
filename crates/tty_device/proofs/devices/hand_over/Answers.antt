use Rattle.std.proofs.Common.{rules}
use Rattle.tty_device.proofs.devices.hand_over.Goals as goal

pub returns : goal.returns
returns c = search rules steps 1000000
