-- UTF-8, as far as a terminal with iutf8 looks at it.
use Rattle.std.specs.Prelude.{ℕ, Bool, ◌&&◌, nat_le}

-- a byte that continues a character
abbrev pub is_continuation : ℕ → Bool
is_continuation byte = nat_le 0x80 byte && nat_le byte 0xbf
