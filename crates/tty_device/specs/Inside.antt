-- What the fields of a device stand for, and what they keep.
use Rattle.std.specs.Prelude.{◌≡◌, ◌<◌, ◌^◌, length, IfSome}
use Rattle.ldisc_switch.specs.Disciplines.{column_in}
use Rattle.tty_device.specs.declared.devices.Device.TheInside.{Inside as DeviceInside}
use Rattle.tty_device.specs.declared.lines.Line.TheInside.{Inside as LineInside}
use Rattle.tty_device.specs.Kept.{chars_of, dropped_of}
use Rattle.tty_device.specs.Devices.{DeviceState}
use Rattle.tty_device.specs.Lines.{PutEnd}

abbrev pub device_of : DeviceInside → DeviceState
device_of d =
    record {
      terminal = d.terminal.terminal;
      verbs = d.verbs;
      ring = d.flip.ring;
      taken = d.taken.items;
      shown = d.flip.floor;
      line = d.line;
    }

-- nothing is counted that is not kept, each caller has a verb, what was taken from the flip buffer is what is noted,
-- and an end that puts in is that of the same buffer
pub record IsSound (d : DeviceInside) : Type 0 where
  pub generation : d.terminal.terminal.generation ≡ 0
  pub uncounted : d.terminal.terminal.taken ≡ 0
  pub column : column_in d.terminal.terminal.disc < 2 ^ 32
  pub verbs : length d.verbs ≡ length d.terminal.terminal.callers
  pub taken : chars_of d.taken.items ≡ d.flip.taken
  pub dropped : d.dropped ≡ length (dropped_of d.taken.items)
  pub line : IfSome d.line (λ l. l.ring ≡ d.flip.ring)

abbrev pub line_of : LineInside → PutEnd
line_of l =
    record {
      ring = l.input.ring;
      capacity = l.input.capacity;
      sent = l.input.sent;
      pushed = l.input.pushed;
      overruns = l.overruns;
      known = l.input.floor;
    }
