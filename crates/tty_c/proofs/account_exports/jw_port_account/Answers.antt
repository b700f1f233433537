use Rattle.std.proofs.Common.{rules, ap, sym, ◌∙◌}
use Rattle.tty_device.specs.Devices.{DeviceState}
use Rattle.tty_device.specs.Lines.{PutEnd}
use Rattle.tty_c.proofs.account_exports.jw_port_account.Goals as goal

pub meet-both-requires : goal.meet-both-requires
meet-both-requires c =
    let one = c.requires c.in-Some.device.value c.in-Some-taken.end.value (search rules) (search rules) in
    ap (λ (l : PutEnd). l.ring) c.deref_mut-2.ensures.value
    ∙ (one ∙ sym (ap (λ (d : DeviceState). d.ring) c.deref_mut.ensures.value))
