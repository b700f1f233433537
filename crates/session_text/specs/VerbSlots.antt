-- Where a verb may stand in the list of verbs.
use Rattle.std.specs.Prelude.{ℕ, ◌+◌, ◌-◌, ◌*◌, ◌%◌, List, length, slice_index}

-- a number that three bytes of a word give, below 128; past the word's end a byte is 0
abbrev pub slot_of : List ℕ → ℕ
slot_of word = (slice_index word 0 * 4 + slice_index word 2 * 12 + slice_index word (length word - 1)) % 128
