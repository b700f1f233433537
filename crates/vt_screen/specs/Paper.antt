-- Text on the paper of a printing terminal, and the screen that shows its end.
use Rattle.std.specs.Prelude.{ℕ, ◌+◌, ◌-◌, ◌*◌, ◌/◌, min, Bool, ◌&&◌, ◌||◌, ◌==◌, nat_le, List}
use Rattle.std.specs.Prelude.{[], ◌∷◌, ◌++◌, length, drop, replicate, slice_set, if◌then◌else◌}
use Rattle.std.specs.List.{fold}

-- The rows of 80 cells above the cursor's, the highest first, the row in which the cursor stands, and its column.
-- Nothing moves the cursor up, so its row is the last.
pub record Paper : Type 0 where
  pub above : List (List ℕ)
  pub line : List ℕ
  pub column : ℕ

abbrev pub blank_row : List ℕ
blank_row = replicate 80 32

abbrev pub blank_paper : Paper
blank_paper = record { above = []; line = blank_row; column = 0 }

-- what stands in a cell: the printed bytes of ASCII, and all bytes above ASCII
abbrev pub is_shown : ℕ → Bool
is_shown b = (nat_le 32 b && nat_le b 126) || nat_le 128 b

-- the cursor one row down, in this column
abbrev pub one_down : Paper → (column : ℕ) → Paper
one_down p column = record { above = p.above ++ p.line ∷ []; line = blank_row; column = column }

-- the cursor one cell on: to the right, and from the last column to the start of the next row
abbrev pub one_on : Paper → Paper
one_on p = if p.column == 79 then one_down p 0 else record p { column = p.column + 1 }

-- the next tab stop: they stand at every eighth column, and at the last one
abbrev pub next_stop : ℕ → ℕ
next_stop column = min (8 * (column / 8 + 1)) 79

-- one byte more: a shown one stands in the cursor's cell, CR goes to the row's start, NL one row down, BS one column
-- left, TAB to the next tab stop, and no other byte does anything
abbrev pub after_byte : Paper → ℕ → Paper
after_byte p b =
    if is_shown b then one_on (record p { line = slice_set p.line p.column b })
    else if b == 13 then record p { column = 0 }
    else if b == 10 then one_down p p.column
    else if b == 8 then record p { column = p.column - 1 }
    else if b == 9 then record p { column = next_stop p.column }
    else p

-- the paper of a text
abbrev pub paper_of : List ℕ → Paper
paper_of text = fold after_byte blank_paper text

abbrev pub rows_of : Paper → List (List ℕ)
rows_of p = p.above ++ p.line ∷ []

-- 25 rows: the last of the paper's, up to the cursor's, or all of them and blank rows below
abbrev pub shown_rows : List (List ℕ) → List (List ℕ)
shown_rows rows = drop (length rows - 25) rows ++ replicate (25 - length rows) blank_row

-- the rows that a screen shows, and where among them the cursor stands
pub record Shown : Type 0 where
  pub rows : List (List ℕ)
  pub row : ℕ
  pub column : ℕ

abbrev pub shown : Paper → Shown
shown p = record { rows = shown_rows (rows_of p); row = min (length p.above) 24; column = p.column }

-- the screen of a text
abbrev pub screen_of : List ℕ → Shown
screen_of text = shown (paper_of text)
