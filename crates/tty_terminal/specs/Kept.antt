-- What a port that runs for ever keeps of a terminal.
use Rattle.std.specs.Prelude.{◌%◌, ◌^◌}
use Rattle.ldisc_switch.specs.declared.discipline.Disc.{Disc}
use Rattle.ldisc_switch.specs.declared.discipline.Disc.TheVariants as disc
use Rattle.tty_terminal.specs.Terminals.{Terminal}

-- the column is kept in 32 bits, as Linux keeps it
abbrev pub with_column_in_32_bits : Disc → Disc
with_column_in_32_bits (disc.Tty tty) = disc.Tty (record tty { column = tty.column % 2 ^ 32 })
with_column_in_32_bits (disc.Slip slip) = disc.Slip slip

-- generations and characters are not counted, so that no number of them ends it
abbrev pub kept : Terminal → Terminal
kept t = record t { disc = with_column_in_32_bits t.disc; generation = 0; taken = 0 }
