use Rattle.std.proofs.Common.{rules}
use Rattle.tty_device.proofs.devices.Device.is_stuck.Goals as goal

pub returns-then-live-eq0 : goal.returns-then-live-eq0
returns-then-live-eq0 c = search rules steps 1000000

pub returns-else-live-eq0 : goal.returns-else-live-eq0
returns-else-live-eq0 c = search rules steps 1000000
