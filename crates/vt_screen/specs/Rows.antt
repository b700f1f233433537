-- Worked texts and rows of their screens.
use Rattle.std.specs.Prelude.{ℕ, zero, suc, ◌-◌, List, [], ◌∷◌, ◌++◌, length, replicate, slice_index_or}
use Rattle.vt_screen.specs.Paper.{screen_of}

-- a row of the screen of a text
abbrev pub row_of : List ℕ → ℕ → List ℕ
row_of text r = slice_index_or (screen_of text).rows r []

-- a row that begins with these bytes and is blank behind them
abbrev pub row_with : List ℕ → List ℕ
row_with front = front ++ replicate (80 - length front) 32

-- so many times CR and NL
abbrev pub newlines : ℕ → List ℕ
newlines zero = []
newlines (suc n) = 13 ∷ 10 ∷ newlines n
