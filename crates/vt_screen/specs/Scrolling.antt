-- What a byte does to a screen that knows nothing of the rows above it: for private functions alone.
use Rattle.std.specs.Prelude.{ℕ, ◌+◌, ◌-◌, ◌==◌, [], ◌∷◌, ◌++◌, drop, slice_set, slice_index_or, nat_lt, if◌then◌else◌}
use Rattle.vt_screen.specs.Paper.{Shown, blank_row, is_shown, next_stop}

-- the cursor one row down; from the lowest row the rows go one up
abbrev pub scrolled : Shown → Shown
scrolled s = record s {
  rows = if nat_lt s.row 24 then s.rows else drop 1 s.rows ++ blank_row ∷ [];
  row = if nat_lt s.row 24 then s.row + 1 else s.row;
}

abbrev pub moved_on : Shown → Shown
moved_on s = if s.column == 79 then record (scrolled s) { column = 0 } else record s { column = s.column + 1 }

abbrev pub written : Shown → ℕ → Shown
written s b = record s { rows = slice_set s.rows s.row (slice_set (slice_index_or s.rows s.row []) s.column b) }

abbrev pub after_shown_byte : Shown → ℕ → Shown
after_shown_byte s b =
    if is_shown b then moved_on (written s b)
    else if b == 13 then record s { column = 0 }
    else if b == 10 then scrolled s
    else if b == 8 then record s { column = s.column - 1 }
    else if b == 9 then record s { column = next_stop s.column }
    else s
