-- N_TTY on a port as others see it: reserved room is no part of it.
use Rattle.std.specs.Prelude.{◌≡◌}
use Rattle.flow_control.specs.Output.{without_room}
use Rattle.flow_control.specs.Counting.{without_signal_room}
use Rattle.n_tty.specs.States.{OnPort, on_port}

abbrev pub port_without_room : OnPort → OnPort
port_without_room port = on_port port.tty (without_room port.output) (without_signal_room port.tally)

-- room makes no difference to what becomes of a port
abbrev pub PortIgnoresRoom : (OnPort → OnPort) → Type 0
PortIgnoresRoom change = (port : OnPort) → port_without_room (change port) ≡ change (port_without_room port)
