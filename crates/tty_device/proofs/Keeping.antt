-- What is kept of a terminal.
use Rattle.std.proofs.Common.{◌^◌, ◌<◌, arith}
use Rattle.ldisc_switch.specs.declared.discipline.Disc.{Disc}
use Rattle.ldisc_switch.specs.declared.discipline.Disc.TheVariants as disc
use Rattle.ldisc_switch.specs.Disciplines.{column_in}
use Rattle.tty_terminal.specs.Kept.{with_column_in_32_bits}

pub column_fits : (d : Disc) → column_in (with_column_in_32_bits d) < 2 ^ 32
column_fits (disc.Tty tty) = omega arith
column_fits (disc.Slip slip) = omega arith
