-- When a read is ready that is not in canonical mode: MIN and TIME of termios(3).
use Rattle.std.specs.Prelude.{ℕ, zero, suc, ◌-◌, min, max, Bool, true, ◌||◌, ◌&&◌, nat_le, nat_lt}

-- MIN bytes are unread, or the n that the read asks for where that is less
abbrev pub is_enough : (n least unread : ℕ) → Bool
is_enough n least unread = nat_le (min least n) unread

-- that many ticks have passed from one tick to another
abbrev pub has_passed : (ticks from now : ℕ) → Bool
has_passed ticks from now = nat_le ticks (now - from)

-- A read of at most n bytes, with MIN, TIME and the number of unread bytes. It has waited since one tick, the last
-- byte was stored at another, and now is a third. With MIN alone only bytes count, with TIME alone the wait too; with
-- both TIME runs between bytes, and begins at the wait or at the last byte, whichever is later.
unfoldable pub is_ready : (n least time unread since last now : ℕ) → Bool
is_ready n zero zero unread since last now = true
is_ready n (suc least) zero unread since last now = is_enough n (suc least) unread
is_ready n zero (suc time) unread since last now = nat_lt 0 unread || has_passed (suc time) since now
is_ready n (suc least) (suc time) unread since last now =
    is_enough n (suc least) unread || (nat_lt 0 unread && has_passed (suc time) (max since last) now)
