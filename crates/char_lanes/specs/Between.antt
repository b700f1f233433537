-- Bytes within two bounds.
use Rattle.std.specs.Prelude.{◌≤◌, ◌<◌, ◌+◌, ◌-◌, ◌%◌, ℕ, Bool, List, nat_lt, slice_index}

-- the bytes at the places from one up to another are from the first to the last
abbrev pub AreBetween : (first last : ℕ) → List ℕ → (from to : ℕ) → Type 0
AreBetween first last bytes from to =
    (k : ℕ) → from ≤ k → k < to → (first ≤ slice_index bytes k) × (slice_index bytes k ≤ last)

-- a byte that is not, by one comparison: those below the first wrap
abbrev pub is_outside : (first last : ℕ) → ℕ → Bool
is_outside first last byte = nat_lt (last - first) ((byte + (256 - first)) % 256)
