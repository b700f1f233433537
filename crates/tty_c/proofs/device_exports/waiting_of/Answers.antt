use Rattle.std.proofs.Common.{length, ap, arith}
use Rattle.tty_device.specs.Devices.{DeviceState}
use Rattle.tty_device.proofs.Noting.{each_is_one}
use Rattle.tty_c.proofs.device_exports.waiting_of.Goals as goal

pub returns-clause-waiting : goal.returns-clause-waiting
returns-clause-waiting c =
    let each = each_is_one c.args.device.now.taken in
    let same = ap (λ (x : DeviceState). length x.taken) c.account.ensures.after in
    omega (arith, each, same, c.account.ensures.flushed, c.account.ensures.dropped, c.account.ensures.waiting)
