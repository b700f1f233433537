-- Classes of bytes.
use Rattle.std.specs.Prelude.{ℕ, Bool, ◌&&◌, ◌||◌, ◌==◌, not, nat_le}
use Rattle.tty_modes.specs.Utf8.{is_continuation}
use Rattle.n_tty_edit.specs.declared.bytes.Class.{Class}
use Rattle.n_tty_edit.specs.declared.bytes.Class.TheVariants.{Continuation, Word, Other}

-- a byte within two bounds
abbrev pub is_within : (low high byte : ℕ) → Bool
is_within low high byte = nat_le low byte && nat_le byte high

-- an ASCII digit or letter, or `_`
abbrev pub is_word : ℕ → Bool
is_word byte = is_within 48 57 byte || is_within 65 90 byte || is_within 97 122 byte || byte == 95

abbrev pub is_of : Class → ℕ → Bool
is_of Continuation = is_continuation
is_of Word = is_word
is_of Other = λ byte. not (is_word byte)
