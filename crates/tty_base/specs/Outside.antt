-- What a source and a sink in the world outside are known to have done.
use Rattle.std.specs.Prelude.{◌≡◌, ◌⊎◌, ℕ, List, Option, Some, ◌++◌, ◌+◌, ◌≤◌, ◌<◌, take, drop, length, IfSome}

-- A count of faults has risen, or stands at the last value that it can have.
abbrev pub Rose : ℕ → ℕ → Type 0
Rose before now = (before < now) ⊎ (18446744073709551615 ≤ now)

-- Of these bytes the first k were given into the buffer, and the others are left.
abbrev pub Gives : ℕ → List ℕ → List ℕ → Option (List ℕ) → Type 0
Gives k bytes buffer left = (k ≤ length bytes) × (take k buffer ≡ take k bytes) × (left ≡ Some (drop k bytes))

-- What is left is the end of these bytes.
abbrev pub LeavesRest : List ℕ → Option (List ℕ) → Type 0
LeavesRest bytes left = (k : ℕ) × (k ≤ length bytes) × (left ≡ Some (drop k bytes))

-- So many of these bytes were read: the others are left.
abbrev pub TookCount : ℕ → List ℕ → Option (List ℕ) → Type 0
TookCount k bytes left = IfSome left (λ rest. length bytes ≡ length rest + k)

-- What was given before, and after it the first bytes of these.
abbrev pub GivesFront : List ℕ → List ℕ → Option (List ℕ) → Type 0
GivesFront before bytes given = (k : ℕ) × (k ≤ length bytes) × (given ≡ Some (before ++ take k bytes))

-- a stream: the bytes that it has left, or that it was given, where it tells them; and its count of faults
pub record Stream : Type 0 where
  pub bytes : Option (List ℕ)
  pub faults : ℕ
