use Rattle.std.proofs.Common.{◌≤◌, ◌-◌, take, length}
use Rattle.flip_buffer.specs.Packed.{with_flag}
use Rattle.tty_device.specs.Lines.{Puts}
use Rattle.tty_device.proofs.lines.put_some.Given as goal

abbrev pub invariant-loop-done : goal.invariant-loop-done
invariant-loop-done l = record {
  within : l.done ≤ length l.bytes;
  puts : Puts l.initial.input l.input (with_flag l.flag (take l.done l.bytes));
}

abbrev pub decreases-loop-done : goal.decreases-loop-done
decreases-loop-done l = length l.bytes - l.done
