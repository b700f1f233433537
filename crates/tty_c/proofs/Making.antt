-- A port and its line that were just made.
use Rattle.std.proofs.Common.{◌≡◌, ℕ, Option, Some, ◌∙◌, ap}
use Rattle.atomic_table.specs.Seated.{TableId}
use Rattle.tty_device.specs.Devices.{DeviceState, fresh_device, fresh_whole}
use Rattle.tty_device.specs.Lines.{PutEnd, fresh_line}

pub new_pair : (port : Option DeviceState) (line : Option PutEnd) (d : DeviceState) (e : PutEnd)
    (callers capacity : ℕ)
    → port ≡ Some d
    → line ≡ Some e
    → d ≡ fresh_device d.ring callers capacity
    → e ≡ fresh_line d.ring capacity
    → (ring : TableId) × (port ≡ Some (fresh_device ring callers capacity)) × (line ≡ Some (fresh_line ring capacity))
new_pair port line d e callers capacity p l device end = (d.ring, p ∙ ap Some device, l ∙ ap Some end)

-- and a port that has its line
pub new_whole : (port : Option DeviceState) (d : DeviceState) (callers capacity : ℕ)
    → port ≡ Some d
    → d ≡ fresh_whole d.ring callers capacity
    → (ring : TableId) × (port ≡ Some (fresh_whole ring callers capacity))
new_whole port d callers capacity p device = (d.ring, p ∙ ap Some device)
