-- What N_SLIP counts over its life, and how many pieces there are of a kind.
use Rattle.std.specs.Prelude.{ℕ, suc, List, [], ◌∷◌, drop}
use Rattle.tty_base.specs.declared.counters.Counts.{Counts}
use Rattle.slip_frames.specs.Slip.{Outcome, bad, silent, packet_of}
use Rattle.n_slip.specs.Discipline.{Slip, after_character, counts_after_character}
use Rattle.n_slip.specs.History.{Happening, character, packet_take, flush}

-- how many of these pieces are bad
abbrev pub bad_count : List Outcome → ℕ
bad_count [] = 0
bad_count (bad ∷ pieces) = suc (bad_count pieces)
bad_count (silent ∷ pieces) = bad_count pieces
bad_count (packet_of packet ∷ pieces) = bad_count pieces

-- how many of them are packets
abbrev pub packet_count : List Outcome → ℕ
packet_count [] = 0
packet_count (bad ∷ pieces) = packet_count pieces
packet_count (silent ∷ pieces) = packet_count pieces
packet_count (packet_of packet ∷ pieces) = suc (packet_count pieces)

-- the counts after all this has happened; a packet that is taken and a flush count nothing
abbrev pub counts_of_all : Slip → List Happening → Counts → Counts
counts_of_all slip [] counts = counts
counts_of_all slip (character c ∷ events) counts =
    counts_of_all (after_character slip c) events (counts_after_character slip c counts)
counts_of_all slip (packet_take ∷ events) counts =
    counts_of_all (record slip { packets = drop 1 slip.packets }) events counts
counts_of_all slip (flush ∷ events) counts = counts_of_all (record slip { packets = [] }) events counts
