-- What N_SLIP knows, and what one more character does to it and to the counts.
use Rattle.std.specs.Prelude.{ℕ, nat_lt, if◌then◌else◌, List, [], ◌∷◌, ◌++◌, length, false, slice_index_or}
use Rattle.tty_base.specs.declared.characters.Flag.{Flag}
use Rattle.tty_base.specs.declared.characters.Flag.TheVariants as flags
use Rattle.tty_base.specs.declared.characters.Flagged.{Flagged}
use Rattle.tty_base.specs.declared.counters.Counts.{Counts}
use Rattle.slip_frames.specs.declared.receiving.Fed.{Fed}
use Rattle.slip_frames.specs.declared.receiving.Fed.TheVariants.{Going, Empty, Packet, Bad}
use Rattle.slip_frames.specs.Decoding.{BegunPiece, spelling, piece_after_character, answer_to, packet_in}
use Rattle.flow_control.specs.declared.tally.Counter.TheVariants as counter
use Rattle.flow_control.specs.Counting.{with_count}

-- the piece that has begun, and the packets that wait, the oldest first
pub record Slip : Type 0 where
  pub piece : BegunPiece
  pub packets : List (List ℕ)

-- at first
abbrev pub fresh_slip : Slip
fresh_slip = record { piece = spelling [] false; packets = [] }

-- how many packets can wait
abbrev pub most_waiting : ℕ
most_waiting = 64

abbrev pub first_packet : Slip → List ℕ
first_packet slip = slice_index_or slip.packets 0 []

-- a packet waits where fewer do than can, and else is dropped
abbrev pub with_packet : List (List ℕ) → List ℕ → List (List ℕ)
with_packet waiting packet = if nat_lt (length waiting) most_waiting then waiting ++ packet ∷ [] else waiting

abbrev pub packets_after_answer : Fed → List (List ℕ) → List ℕ → List (List ℕ)
packets_after_answer Going waiting packet = waiting
packets_after_answer Empty waiting packet = waiting
packets_after_answer Packet waiting packet = with_packet waiting packet
packets_after_answer Bad waiting packet = waiting

-- after one character more
abbrev pub after_character : Slip → Flagged → Slip
after_character slip c = record {
  piece = piece_after_character slip.piece c;
  packets = packets_after_answer (answer_to slip.piece c) slip.packets (packet_in slip.piece);
}

-- a flagged character is counted by its flag
abbrev pub counts_with_flag : Counts → Flag → Counts
counts_with_flag counts flags.Normal = counts
counts_with_flag counts flags.Break = with_count counts counter.Break 1
counts_with_flag counts flags.Parity = with_count counts counter.Parity 1
counts_with_flag counts flags.Frame = with_count counts counter.Frame 1
counts_with_flag counts flags.Overrun = with_count counts counter.Mark 1

-- a piece that ended is counted, but for a silent one
abbrev pub counts_with_piece : Counts → List (List ℕ) → Fed → Counts
counts_with_piece counts waiting Going = counts
counts_with_piece counts waiting Empty = counts
counts_with_piece counts waiting Packet =
    if nat_lt (length waiting) most_waiting
    then with_count counts counter.PacketIn 1
    else with_count counts counter.PacketFull 1
counts_with_piece counts waiting Bad = with_count counts counter.PacketBad 1

-- the counts after one character more
abbrev pub counts_after_character : Slip → Flagged → Counts → Counts
counts_after_character slip c counts =
    counts_with_piece (counts_with_flag counts c.flag) slip.packets (answer_to slip.piece c)

-- after these characters, one after the other, and the counts after them
abbrev pub after_characters : Slip → List Flagged → Slip
after_characters slip [] = slip
after_characters slip (c ∷ cs) = after_characters (after_character slip c) cs

abbrev pub counts_after_characters : Slip → List Flagged → Counts → Counts
counts_after_characters slip [] counts = counts
counts_after_characters slip (c ∷ cs) counts =
    counts_after_characters (after_character slip c) cs (counts_after_character slip c counts)
