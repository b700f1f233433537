-- What a slot owns beside its pointer.
use Rattle.std.specs.Prelude.{Option, Some, None}
use Rattle.std.specs.declared.alloc.Global.{Global}
use Rattle.std.specs.contracts.impls.GlobalAllocator.TheImpl.{ghosts}
use Rattle.std.specs.Box.Ownership.{box_owns}
use base.Fml.{Fml, ftrue, fex}
use denote.RawPtr.{Ptr}
use Rattle.tty_embed.specs.Embedded.{Embedded}
use Rattle.tty_embed.specs.contracts.terminal.Tty.{the_row}
use Rattle.tty_device.specs.Devices.{DeviceState}
use Rattle.tty_device.specs.Lines.{PutEnd}
use Rattle.tty_device.specs.contracts.devices.Device as device_row
use Rattle.tty_device.specs.contracts.lines.Line as line_row
use Rattle.uart_regs.specs.Registers.{Registers}
use Rattle.uart_regs.specs.contracts.Uart as uart_row

-- the terminal at the pointer, with the right to free its memory; an empty slot owns nothing
abbrev pub slot_owns : Option Embedded → Ptr → Fml
slot_owns None at = ftrue
slot_owns (Some t) at = fex Global (λ heap. box_owns (ghosts.dealloc_token heap) the_row at t)

-- the port, the end that puts characters in, or the 16550 at the pointer, with the right to free its memory; an
-- empty slot owns nothing
abbrev pub device_owns : Option DeviceState → Ptr → Fml
device_owns None at = ftrue
device_owns (Some d) at = fex Global (λ heap. box_owns (ghosts.dealloc_token heap) device_row.the_row at d)

abbrev pub end_owns : Option PutEnd → Ptr → Fml
end_owns None at = ftrue
end_owns (Some l) at = fex Global (λ heap. box_owns (ghosts.dealloc_token heap) line_row.the_row at l)

abbrev pub uart_owns : Option Registers → Ptr → Fml
uart_owns None at = ftrue
uart_owns (Some r) at = fex Global (λ heap. box_owns (ghosts.dealloc_token heap) uart_row.the_row at r)
