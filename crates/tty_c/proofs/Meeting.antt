-- A port and its line meet.
use Rattle.std.proofs.Common.{◌≡◌, ℤ, pos, Option, None, Some, subst}
use Rattle.tty_device.specs.Devices.{DeviceState}
use Rattle.tty_device.specs.Lines.{PutEnd}
use Rattle.tty_c.specs.declared.account_exports.Account.{Account}
use Rattle.tty_c.specs.Answers.{no_terminal}
use Rattle.tty_c.specs.Calls.{MeetsBoth, MeetsWhere}

module _ (port port' : Option DeviceState) (end end' : Option PutEnd) (told told' : Account) (result : ℤ) where
  pub met_both : (d d' : DeviceState) (l l' : PutEnd)
      → Some d ≡ port
      → Some l ≡ end
      → port' ≡ Some d'
      → end' ≡ Some l'
      → result ≡ pos 0
      → MeetsBoth d d' l l' told'
      → MeetsWhere port port' end end' told told' result
  met_both d d' l l' was had is has answer h =
      subst (λ (o : Option DeviceState). MeetsWhere o port' end end' told told' result) was
      (subst (λ (e : Option PutEnd). MeetsWhere (Some d) port' e end' told told' result) had
      (answer, (d', l', is, has, h)))

  pub met_no_port : None ≡ port
      → port' ≡ None
      → end' ≡ end
      → told' ≡ told
      → result ≡ no_terminal
      → MeetsWhere port port' end end' told told' result
  met_no_port was is had same answer =
      subst (λ (o : Option DeviceState). MeetsWhere o port' end end' told told' result) was (answer, is, had, same)

  pub met_no_end : (d : DeviceState)
      → Some d ≡ port
      → None ≡ end
      → port' ≡ Some d
      → end' ≡ None
      → told' ≡ told
      → result ≡ no_terminal
      → MeetsWhere port port' end end' told told' result
  met_no_end d was had is has same answer =
      subst (λ (o : Option DeviceState). MeetsWhere o port' end end' told told' result) was
      (subst (λ (e : Option PutEnd). MeetsWhere (Some d) port' e end' told told' result) had (answer, is, has, same))
