-- How many bytes and steps the printer takes together. The constants of the code have the same names.
use Rattle.std.specs.Prelude.{ℕ}

-- the most bytes whose digits are written at a time
abbrev pub MOST_AT_ONCE : ℕ
MOST_AT_ONCE = 64

-- the steps of a caller whose places a stretch has
abbrev pub STEPS : ℕ
STEPS = 64
