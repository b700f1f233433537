-- What a decoder knows of the characters that it was fed, and what one more does to it.
use Rattle.std.specs.Prelude.{◌≡◌, ◌≢◌, ℕ, ◌==◌, nat_lt, Bool, true, false, if◌then◌else◌, List, [], ◌∷◌, ◌++◌, length}
use Rattle.tty_base.specs.declared.characters.Flagged.{Flagged}
use Rattle.tty_base.specs.declared.characters.Flag.TheVariants.{Normal}
use Rattle.slip_frames.specs.Slip.{end, esc, max_packet}
use Rattle.slip_frames.specs.declared.receiving.Fed.{Fed}
use Rattle.slip_frames.specs.declared.receiving.Fed.TheVariants.{Going, Empty, Packet, Bad}
use Rattle.slip_frames.specs.Slip.{byte_after_escape, text_of, is_normal, bytes_of, is_end}
use Rattle.slip_frames.specs.Slip.{is_bad, pieces, Outcome, bad, silent, packet_of}

-- what follows the last good END of a list
abbrev pub rest_with : Flagged → List (List Flagged) → List Flagged → List Flagged
rest_with c [] rest = c ∷ rest
rest_with c (piece ∷ more) rest = rest

abbrev pub rest_of : List Flagged → List Flagged
rest_of [] = []
rest_of (c ∷ list) = if is_end c then rest_of list else rest_with c (pieces list) (rest_of list)

-- what is known of a piece that has begun: that it is bad already, or what it spells so far and whether it
-- ends in an ESC that the next byte belongs to
pub data BegunPiece : Type 0 where
  bad_piece : BegunPiece
  spelling : (text : List ℕ) (escaped : Bool) → BegunPiece

abbrev pub ends_in_escape : List ℕ → Bool
ends_in_escape [] = false
ends_in_escape (b ∷ []) = b == esc
ends_in_escape (b ∷ c ∷ piece) = if b == esc then ends_in_escape piece else ends_in_escape (c ∷ piece)

abbrev pub piece_of : List Flagged → BegunPiece
piece_of piece =
    if is_bad piece then bad_piece else spelling (text_of (bytes_of piece)) (ends_in_escape (bytes_of piece))

-- a decoder: the piece that has begun, and the packet, where the last character ended one
pub record Decoding : Type 0 where
  pub piece : BegunPiece
  pub packet : List ℕ

-- a decoder that was fed nothing
abbrev pub new_decoding : Decoding
new_decoding = record { piece = spelling [] false; packet = [] }

-- the decoder was fed these characters, in this order
abbrev pub WasFed : Decoding → List Flagged → Type 0
WasFed d list = d.piece ≡ piece_of (rest_of list)

-- what an answer, with the packet that is there after it, tells of the piece that ended
abbrev pub outcomes_by_answer : Fed → List ℕ → List Outcome
outcomes_by_answer Going packet = []
outcomes_by_answer Empty packet = silent ∷ []
outcomes_by_answer Packet packet = packet_of packet ∷ []
outcomes_by_answer Bad packet = bad ∷ []

-- the answer to a character, by what is known of the piece
abbrev pub answer_to_end : BegunPiece → Fed
answer_to_end bad_piece = Bad
answer_to_end (spelling [] escaped) = Empty
answer_to_end (spelling (b ∷ text) escaped) = Packet

abbrev pub answer_to : BegunPiece → Flagged → Fed
answer_to piece c = if is_end c then answer_to_end piece else Going

-- one byte of text more, where a packet has room for it
abbrev pub with_text_byte : List ℕ → ℕ → BegunPiece
with_text_byte text b = if nat_lt (length text) max_packet then spelling (text ++ b ∷ []) false else bad_piece

-- a piece after one good byte more
abbrev pub with_byte : BegunPiece → ℕ → BegunPiece
with_byte bad_piece b = bad_piece
with_byte (spelling text true) b = with_text_byte text (byte_after_escape b)
with_byte (spelling text false) b = if b == esc then spelling text true else with_text_byte text b

-- the piece that has begun after one character more
abbrev pub piece_after_character : BegunPiece → Flagged → BegunPiece
piece_after_character piece c =
    if is_end c then spelling [] false else if is_normal c.flag then with_byte piece c.byte else bad_piece

-- the packet in a piece that is one
abbrev pub packet_in : BegunPiece → List ℕ
packet_in bad_piece = []
packet_in (spelling text escaped) = text

-- a decoder after one character more
abbrev pub decoding_after_character : Decoding → Flagged → Decoding
decoding_after_character d c =
    record { piece = piece_after_character d.piece c; packet = if is_end c then packet_in d.piece else [] }

-- a decoder after these characters, one after the other
abbrev pub decoding_after_characters : Decoding → List Flagged → Decoding
decoding_after_characters d [] = d
decoding_after_characters d (c ∷ cs) = decoding_after_characters (decoding_after_character d c) cs

-- a good character that stands for itself within a piece
pub record IsText (c : Flagged) : Type 0 where
  pub good : c.flag ≡ Normal
  pub inside : c.byte ≢ end
  pub itself : c.byte ≢ esc
