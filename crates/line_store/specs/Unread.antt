-- Unread input: bytes, and the ends of its pieces.
use Rattle.std.specs.Prelude.{ℕ, suc, min, List, [], ◌∷◌, length, take, drop, if◌then◌else◌, nat_le}
use Rattle.tty_base.specs.Sizes.{MOST_READ}

-- a byte, or the end of the piece before it
pub data Item : Type 0 where
  Byte : ℕ → Item
  End : Item

-- the bytes without the ends
abbrev pub bytes_of : List Item → List ℕ
bytes_of [] = []
bytes_of (Byte b ∷ items) = b ∷ bytes_of items
bytes_of (End ∷ items) = bytes_of items

-- how many pieces are complete
abbrev pub end_count : List Item → ℕ
end_count [] = 0
end_count (Byte b ∷ items) = end_count items
end_count (End ∷ items) = suc (end_count items)

-- the bytes up to the first end
abbrev pub first_piece : List Item → List ℕ
first_piece [] = []
first_piece (Byte b ∷ items) = b ∷ first_piece items
first_piece (End ∷ items) = []

-- how many bytes a read that asks for n gets at most
abbrev pub read_size : ℕ → ℕ
read_size n = min n MOST_READ

-- what a read of at most so many bytes gives of the first piece
abbrev pub line_of : (most : ℕ) → List Item → List ℕ
line_of most items = take most (first_piece items)

-- what it leaves: where it gave all the bytes of the piece, the end goes too
abbrev pub after_line : (most : ℕ) → List Item → List Item
after_line most items =
    if nat_le (length (first_piece items)) most
    then drop (suc (length (first_piece items))) items
    else drop most items
