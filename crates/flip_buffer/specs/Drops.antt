-- What a call that takes more than one piece did with the end that takes out.
use Rattle.std.specs.Prelude.{◌≡◌, ℕ, ◌+◌, ◌<◌, ◌≤◌, true, List, [], ◌∷◌, ◌++◌, length}
use Rattle.std.specs.List.{All}
use mathlib.Core.List.{IsPrefix}
use Rattle.word_ring.specs.Ends.{TakerState}

-- The first look of the call loaded this tail, which is no lower than any before, and counts at least
-- what was taken and at most the capacity more.
pub record LooksAt {A : Type 0} (old new : TakerState A) (tail : ℕ) : Type 0 where
  pub looked : IsPrefix (old.tails ++ tail ∷ []) new.tails
  pub rises : old.floor ≤ tail
  pub floor : tail ≤ new.floor
  pub least : length old.taken ≤ tail
  pub most : tail ≤ length old.taken + old.capacity
  pub ended : old.ended ≡ true → tail ≡ length old.sent

-- The new heads lie above the old count taken, up to the new one.
pub record Releases {A : Type 0} (old new : TakerState A) : Type 0 where
  pub heads : List ℕ
  pub adds : new.released ≡ old.released ++ heads
  pub above : All (λ h. length old.taken < h) heads
  pub below : All (λ h. h ≤ length new.taken) heads
