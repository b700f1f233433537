-- What the fields of a terminal stand for, and what they keep.
use Rattle.flow_control.specs.Output.{without_room}
use Rattle.flow_control.specs.Counting.{without_signal_room}
use Rattle.ldisc_switch.specs.Disciplines.{Fits}
use Rattle.tty_terminal.specs.declared.terminals.Terminal.TheInside.{Inside}
use Rattle.tty_terminal.specs.Terminals.{Terminal}
use Rattle.tty_terminal.specs.Meeting.{InRoom}

abbrev pub terminal_of : Inside → Terminal
terminal_of a =
    record {
      disc = a.disc;
      modes = a.modes;
      output = without_room a.wire;
      tally = without_signal_room a.tally;
      handles = a.handles;
      exclusive = a.exclusive;
      tick = a.tick;
      generation = a.generation;
      capacity = a.capacity;
      taken = a.taken;
      sent = a.sent;
      phase = a.phase;
      line_over = a.line_over;
      clock_over = a.clock_over;
      callers = a.callers;
      flushed = a.flushed;
    }

abbrev pub value_of : Inside → InRoom
value_of a = record { terminal = terminal_of a; wire_room = a.wire.spare; signal_room = a.tally.signals.spare }

-- the discipline fits the modes
abbrev pub IsSound : Inside → Type 0
IsSound a = Fits a.modes a.disc
