-- What N_SLIP keeps of characters that are bytes: packets of bytes, none too long, and counts of 64 bits.
use Rattle.std.proofs.Common.{ℕ, ◌<◌, ◌≤◌, true, false, ◌==◌, nat_lt, List}
use Rattle.std.proofs.Common.{[], ◌∷◌, length, arith, length-append, ltb-true}
use Rattle.std.specs.List.{AllByRecursion}
use Rattle.std.proofs.lemmas.Bool.{cond_both}
use Rattle.tty_base.specs.declared.characters.Flag.{Flag}
use Rattle.tty_base.specs.declared.characters.Flag.TheVariants as flag
use Rattle.tty_base.specs.declared.characters.Flagged.{Flagged}
use Rattle.tty_base.specs.declared.counters.Counts.{Counts}
use Rattle.flow_control.specs.declared.tally.Counter.TheVariants as counter
use Rattle.slip_frames.specs.declared.receiving.Fed.{Fed}
use Rattle.slip_frames.specs.declared.receiving.Fed.TheVariants.{Going, Empty, Packet, Bad}
use Rattle.slip_frames.specs.Slip.{esc, esc_end, esc_esc, max_packet, byte_after_escape, is_normal, is_end}
use Rattle.slip_frames.specs.Decoding.{BegunPiece, bad_piece, spelling, with_text_byte}
use Rattle.slip_frames.specs.Decoding.{with_byte, piece_after_character, answer_to, packet_in}
use Rattle.n_slip.specs.Discipline.{Slip, most_waiting, packets_after_answer, after_character}
use Rattle.n_slip.specs.Discipline.{counts_with_flag, counts_with_piece, counts_after_character}
use Rattle.check_text.specs.Printed.{AreCounts}
use Rattle.read_back.proofs.Lists.{AllBytes, each_of_both}
use Rattle.read_back.proofs.Characters.{counts_kept}

pub record IsPacket (packet : List ℕ) : Type 0 where
  pub are : AllBytes packet
  pub few : length packet ≤ 1006

abbrev pub IsBytePiece : BegunPiece → Type 0
IsBytePiece bad_piece = Unit {0}
IsBytePiece (spelling text escaped) = IsPacket text

pub record IsByteSlip (slip : Slip) : Type 0 where
  pub piece : IsBytePiece slip.piece
  pub packets : AllByRecursion IsPacket slip.packets

pub no_packet : IsPacket []
no_packet = record { are = tt; few = omega arith }

-- ---- a piece

escaped_small : (b : ℕ) → b < 256 → byte_after_escape b < 256
escaped_small b small = cond_both (b == esc_end) _ _ (λ (x : ℕ). x < 256) (λ _. omega arith)
    (λ _. cond_both (b == esc_esc) _ _ (λ (x : ℕ). x < 256) (λ _. omega arith) (λ _. small))

longer : (text : List ℕ) (b : ℕ) → b < 256 → IsPacket text → IsBytePiece (with_text_byte text b)
longer text b small h =
    cond_both (nat_lt (length text) max_packet) _ _ IsBytePiece
    (λ room. record {
      are = each_of_both (λ x. x < 256) text (b ∷ []) h.are (small, tt);
      few = omega (arith, ltb-true (length text) max_packet room, length-append text (b ∷ []));
    })
    (λ _. tt)

piece_with_byte : (piece : BegunPiece) (b : ℕ) → b < 256 → IsBytePiece piece → IsBytePiece (with_byte piece b)
piece_with_byte bad_piece b small h = tt
piece_with_byte (spelling text true) b small h = longer text (byte_after_escape b) (escaped_small b small) h
piece_with_byte (spelling text false) b small h =
    cond_both (b == esc) _ _ IsBytePiece (λ _. h) (λ _. longer text b small h)

piece_more : (piece : BegunPiece) (c : Flagged)
    → c.byte < 256
    → IsBytePiece piece
    → IsBytePiece (piece_after_character piece c)
piece_more piece c small h =
    cond_both (is_end c) _ _ IsBytePiece (λ _. no_packet)
    (λ _. cond_both (is_normal c.flag) _ _ IsBytePiece (λ _. piece_with_byte piece c.byte small h) (λ _. tt))

-- ---- the packets that wait

packet_of_piece : (piece : BegunPiece) → IsBytePiece piece → IsPacket (packet_in piece)
packet_of_piece bad_piece h = no_packet
packet_of_piece (spelling text escaped) h = h

packets_more : (answer : Fed) (waiting : List (List ℕ)) (packet : List ℕ)
    → IsPacket packet
    → AllByRecursion IsPacket waiting
    → AllByRecursion IsPacket (packets_after_answer answer waiting packet)
packets_more Going waiting packet h k = k
packets_more Empty waiting packet h k = k
packets_more Packet waiting packet h k = cond_both (nat_lt (length waiting) most_waiting) _ _ (AllByRecursion IsPacket)
    (λ _. each_of_both IsPacket waiting (packet ∷ []) k (h, tt)) (λ _. k)
packets_more Bad waiting packet h k = k

pub slip_more : (slip : Slip) (c : Flagged) → c.byte < 256 → IsByteSlip slip → IsByteSlip (after_character slip c)
slip_more slip c small h = record {
  piece = piece_more slip.piece c small h.piece;
  packets = packets_more (answer_to slip.piece c) slip.packets (packet_in slip.piece)
      (packet_of_piece slip.piece h.piece) h.packets;
}

-- ---- counts

by_flag : (counts : Counts) (f : Flag) → AreCounts counts → AreCounts (counts_with_flag counts f)
by_flag counts flag.Normal h = h
by_flag counts flag.Break h = counts_kept counts counter.Break 1 h
by_flag counts flag.Parity h = counts_kept counts counter.Parity 1 h
by_flag counts flag.Frame h = counts_kept counts counter.Frame 1 h
by_flag counts flag.Overrun h = counts_kept counts counter.Mark 1 h

by_answer : (counts : Counts) (waiting : List (List ℕ)) (answer : Fed)
    → AreCounts counts
    → AreCounts (counts_with_piece counts waiting answer)
by_answer counts waiting Going h = h
by_answer counts waiting Empty h = h
by_answer counts waiting Packet h = cond_both (nat_lt (length waiting) most_waiting) _ _ AreCounts
    (λ _. counts_kept counts counter.PacketIn 1 h) (λ _. counts_kept counts counter.PacketFull 1 h)
by_answer counts waiting Bad h = counts_kept counts counter.PacketBad 1 h

pub slip_counts : (slip : Slip) (c : Flagged) (counts : Counts)
    → AreCounts counts
    → AreCounts (counts_after_character slip c counts)
slip_counts slip c counts h =
    by_answer (counts_with_flag counts c.flag) slip.packets (answer_to slip.piece c) (by_flag counts c.flag h)
