-- Counting: a count stands still at the last value of 64 bits.
use Rattle.std.specs.Prelude.{ℕ, ◌+◌, min, drop}
use Rattle.tty_base.specs.declared.counters.Counts.{Counts}
use Rattle.flow_control.specs.declared.tally.Counter.{Counter}
use Rattle.flow_control.specs.declared.tally.Counter.TheVariants.{Mark, Parity, Frame, Break, Cut, Echo}
use Rattle.flow_control.specs.declared.tally.Counter.TheVariants.{PacketIn, PacketOut, PacketBad, PacketFull}
use Rattle.flow_control.specs.declared.tally.Tally.{Tally}

abbrev pub no_counts : Counts
no_counts =
    record { mark = 0; parity = 0; frame = 0; breaks = 0; cut = 0; echo = 0; pin = 0; pout = 0; pbad = 0; pfull = 0 }

abbrev pub count_after : ℕ → ℕ → ℕ
count_after count more = min (count + more) 18446744073709551615

-- the counts after more of one kind
abbrev pub with_count : Counts → Counter → ℕ → Counts
with_count counts Mark more = record counts { mark = count_after counts.mark more }
with_count counts Parity more = record counts { parity = count_after counts.parity more }
with_count counts Frame more = record counts { frame = count_after counts.frame more }
with_count counts Break more = record counts { breaks = count_after counts.breaks more }
with_count counts Cut more = record counts { cut = count_after counts.cut more }
with_count counts Echo more = record counts { echo = count_after counts.echo more }
with_count counts PacketIn more = record counts { pin = count_after counts.pin more }
with_count counts PacketOut more = record counts { pout = count_after counts.pout more }
with_count counts PacketBad more = record counts { pbad = count_after counts.pbad more }
with_count counts PacketFull more = record counts { pfull = count_after counts.pfull more }

-- the signals without the first of them; their room is free again
abbrev pub without_signals : (n : ℕ) → Tally → Tally
without_signals n tally =
    record tally { signals = record { items = drop n tally.signals.items; spare = tally.signals.spare + n } }

-- a tally as others see it: room for signals is no part of it
abbrev pub without_signal_room : Tally → Tally
without_signal_room tally = record tally { signals = record { items = tally.signals.items; spare = 0 } }
