-- Which calls have begun, and whose calls are over.
use Rattle.std.specs.Prelude.{◌≡◌, ◌==◌, ◌||◌, ℕ, Bool, true}
use Rattle.tty_terminal.specs.Terminals.{caller_at, has_begun}
use Rattle.port_core.specs.Ports.{PortValue}

-- a caller has begun a call; or is the one that makes one now
abbrev pub begun_at : PortValue → ℕ → Bool
begun_at v c = has_begun (caller_at v.terminal c)

abbrev pub begun_with : PortValue → (c : ℕ) → ℕ → Bool
begun_with v c x = (x == c) || begun_at v x

-- a caller that has begun a call has begun it before already
abbrev pub HadBegun : (old v : PortValue) → (c : ℕ) → Type 0
HadBegun old v c =
    has_begun (caller_at v.terminal c) ≡ true
    → (has_begun (caller_at old.terminal c) ≡ true) × ((caller_at v.terminal c).next ≡ (caller_at old.terminal c).next)

-- whose calls of the phase are over has ended them before already
abbrev pub WereOver : (old new : PortValue) → (c : ℕ) → Type 0
WereOver old new c = (caller_at new.terminal c).over ≡ true → (caller_at old.terminal c).over ≡ true
