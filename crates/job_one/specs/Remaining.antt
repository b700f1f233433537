-- What the callers of a phase have still to call.
use Rattle.std.specs.Prelude.{◌≡◌, ◌+◌, ℕ, List, Some, length, slice_get, slice_index_or}
use Rattle.one_thread.specs.Turns.{IsAbsent}
use Rattle.play_base.specs.declared.roles.Role.{Role}
use Rattle.job_text.specs.Sessions.{JobCall, JobsSession}
use Rattle.job_steps.specs.Derived.{block_phases, job_call_at}
use Rattle.order_laws.specs.Passed.{begin_of}
use Rattle.calls_left.specs.Remaining.{left_at, IsLeftTo}

-- what is left to the callers of phase k by their roles; who is absent has none
pub record AreLeft (p k : ℕ) (session : JobsSession) (roles : List Role) (next : List ℕ)
    (left : List (List JobCall)) : Type 0 where
  pub many : length left ≡ length roles
  pub each : (i : ℕ) (r : Role) → slice_get roles i ≡ Some r → IsLeftTo p k (block_phases session)
      (job_call_at p session) next r.number (left_at left i)
  pub others : (c : ℕ) → IsAbsent roles c → slice_index_or next c 0 ≡ begin_of p (block_phases session) (k + 1) c
