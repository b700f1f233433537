-- What the fields of a `Tty` stand for, and what they keep.
use Rattle.std.specs.Prelude.{◌^◌, ◌<◌}
use Rattle.n_tty.specs.States.{on_port, FitsModes}
use Rattle.n_tty.specs.Room.{port_without_room}
use Rattle.tty_embed.specs.declared.terminal.Tty.TheInside.{Inside}
use Rattle.tty_embed.specs.Embedded.{Embedded}

abbrev pub embedded_of : Inside → Embedded
embedded_of a = record { port = port_without_room (on_port a.disc a.wire a.tally); modes = a.modes; tick = a.tick }

-- the discipline fits the modes, and its column 32 bits
pub record IsSound (a : Inside) : Type 0 where
  pub fits : FitsModes a.modes a.disc
  pub column : a.disc.column < 2 ^ 32
