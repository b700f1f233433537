-- SLIP after RFC 1055: what a piece of the line spells, how a line is cut into pieces, and how a packet is sent.
use Rattle.std.specs.Prelude.{◌≢◌, ℕ, ◌==◌, nat_lt, Bool, true, false, ◌&&◌, ◌||◌}
use Rattle.std.specs.Prelude.{if◌then◌else◌, not, List, [], ◌∷◌, ◌++◌, length, map}
use Rattle.std.specs.List.{list_any, flat_map}
use Rattle.tty_base.specs.declared.characters.Flag.{Flag}
use Rattle.tty_base.specs.declared.characters.Flag.TheVariants.{Normal, Break, Parity, Frame, Overrun}
use Rattle.tty_base.specs.declared.characters.Flagged.{Flagged}

-- the bytes that RFC 1055 calls END, ESC, ESC_END and ESC_ESC
abbrev pub end : ℕ
end = 0xc0

abbrev pub esc : ℕ
esc = 0xdb

abbrev pub esc_end : ℕ
esc_end = 0xdc

abbrev pub esc_esc : ℕ
esc_esc = 0xdd

-- the most bytes of a packet
abbrev pub max_packet : ℕ
max_packet = 1006

-- The bytes of a piece, and the bytes that they spell. An ESC with nothing after it spells nothing, and one
-- before a byte that RFC 1055 doesn't name is left out.
pub data Spells : List ℕ → List ℕ → Type 0 where
  nothing : Spells [] []
  escape_alone : Spells (esc ∷ []) []
  escaped_end : (piece bytes : List ℕ) → Spells piece bytes → Spells (esc ∷ esc_end ∷ piece) (end ∷ bytes)
  escaped_escape : (piece bytes : List ℕ) → Spells piece bytes → Spells (esc ∷ esc_esc ∷ piece) (esc ∷ bytes)
  escaped_other : (b : ℕ) (piece bytes : List ℕ)
      → b ≢ esc_end
      → b ≢ esc_esc
      → Spells piece bytes
      → Spells (esc ∷ b ∷ piece) (b ∷ bytes)
  itself : (b : ℕ) (piece bytes : List ℕ) → b ≢ esc → Spells piece bytes → Spells (b ∷ piece) (b ∷ bytes)

-- what a byte after ESC stands for
abbrev pub byte_after_escape : ℕ → ℕ
byte_after_escape b = if b == esc_end then end else if b == esc_esc then esc else b

-- the one list of bytes that a piece spells
abbrev pub text_of : List ℕ → List ℕ
text_of [] = []
text_of (b ∷ []) = if b == esc then [] else b ∷ []
text_of (b ∷ c ∷ piece) = if b == esc then byte_after_escape c ∷ text_of piece else b ∷ text_of (c ∷ piece)

-- whether a flag is that of a good character
abbrev pub is_normal : Flag → Bool
is_normal Normal = true
is_normal Break = false
is_normal Parity = false
is_normal Frame = false
is_normal Overrun = false

abbrev pub is_flagged : Flagged → Bool
is_flagged c = not (is_normal c.flag)

-- a good END; a flagged one cuts nothing
abbrev pub is_end : Flagged → Bool
is_end c = is_normal c.flag && (c.byte == end)

-- the pieces with c put before the first; where there is none, no END has come yet
abbrev pub with_first_character : Flagged → List (List Flagged) → List (List Flagged)
with_first_character c [] = []
with_first_character c (piece ∷ more) = (c ∷ piece) ∷ more

-- the pieces that the good ENDs of a list cut off; what follows the last one is no piece yet
abbrev pub pieces : List Flagged → List (List Flagged)
pieces [] = []
pieces (c ∷ list) = if is_end c then [] ∷ pieces list else with_first_character c (pieces list)

abbrev pub bytes_of : List Flagged → List ℕ
bytes_of piece = map (λ c. c.byte) piece

-- a piece with a flagged character in it, or that spells more than a packet has
abbrev pub is_bad : List Flagged → Bool
is_bad piece = list_any is_flagged piece || nat_lt max_packet (length (text_of (bytes_of piece)))

-- what a piece is
pub data Outcome : Type 0 where
  bad : Outcome
  silent : Outcome
  packet_of : List ℕ → Outcome

abbrev pub outcome_by_text : List ℕ → Outcome
outcome_by_text [] = silent
outcome_by_text (b ∷ text) = packet_of (b ∷ text)

abbrev pub outcome_of : List Flagged → Outcome
outcome_of piece = if is_bad piece then bad else outcome_by_text (text_of (bytes_of piece))

-- what the pieces of a list are, in order
abbrev pub outcomes : List Flagged → List Outcome
outcomes list = map outcome_of (pieces list)

-- a byte as it is sent
abbrev pub spelling_of_byte : ℕ → List ℕ
spelling_of_byte b = if b == end then esc ∷ esc_end ∷ [] else if b == esc then esc ∷ esc_esc ∷ [] else b ∷ []

-- a packet as it is sent
abbrev pub spelling_of : List ℕ → List ℕ
spelling_of packet = end ∷ flat_map spelling_of_byte packet ++ end ∷ []
