-- The source and the sink in memory.
use Rattle.std.specs.Prelude.{ℕ, List, ◌+◌, min}

-- the number of the call after this one, as far as 32 bits count
abbrev pub call_after : ℕ → ℕ
call_after calls = min (calls + 1) 4294967295

-- the count of faults after one more: it stands still at the last value of 64 bits
abbrev pub faults_after : ℕ → ℕ
faults_after faults = min (faults + 1) 18446744073709551615

-- a source in memory: the bytes left, the most that one call gives, the calls that fail, the number of the next call,
-- and the faults so far
pub record MemoryIn : Type 0 where
  pub left : List ℕ
  pub piece : ℕ
  pub fails : List ℕ
  pub calls : ℕ
  pub faults : ℕ

-- a sink in memory: the bytes given, the room left, the most that one call takes, the calls that fail, the number of
-- the next call, and the faults so far
pub record MemoryOut : Type 0 where
  pub given : List ℕ
  pub room : ℕ
  pub piece : ℕ
  pub fails : List ℕ
  pub calls : ℕ
  pub faults : ℕ
