-- How many bytes of a long word are written at a time.
use Rattle.std.specs.Prelude.{ℕ}

-- the bytes of a row
abbrev pub ROW : ℕ
ROW = 256
