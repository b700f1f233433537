-- What is drawn from a number: a linear congruence of 32 bits, of which the high byte is given.
use Rattle.std.specs.Prelude.{ℕ, zero, suc, ◌+◌, ◌*◌, ◌/◌, ◌%◌, List, map}
use Rattle.std.specs.List.{range_with_len}
use Rattle.tty_base.specs.declared.characters.Flag.TheVariants.{Normal}
use Rattle.tty_base.specs.declared.lines.LineStep.{LineStep}
use Rattle.tty_base.specs.declared.lines.LineStep.TheVariants.{Rx}

-- a number after one draw
abbrev pub next_number : ℕ → ℕ
next_number x = (x * 1664525 + 1013904223) % 4294967296

-- and after several
unfoldable pub number_after : ℕ → ℕ → ℕ
number_after number zero = number
number_after number (suc draws) = next_number (number_after number draws)

-- the byte that a draw gives, from the number that it left
abbrev pub high_byte : ℕ → ℕ
high_byte x = x / 16777216

-- draw k from a number, counted from 0
abbrev pub draw : ℕ → ℕ → ℕ
draw number k = high_byte (number_after number (k + 1))

-- a good character
abbrev pub rx : ℕ → LineStep
rx byte = Rx (record { byte = byte; flag = Normal })

-- a line of good characters, so many of the bytes that are drawn from a number
unfoldable pub drawn_line : (number first count : ℕ) → List LineStep
drawn_line number first count = map (λ k. rx (draw number k)) (range_with_len first count)
