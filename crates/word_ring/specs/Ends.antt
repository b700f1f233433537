-- The two ends of a ring and their notes, as contracts see them: here with numbers, in a layer above with what the
-- numbers stand for.
use Rattle.std.specs.Prelude.{◌≡◌, ℕ, ◌≤◌, Bool, false, List, [], ◌∷◌, ◌++◌, length, All, Contains}
use Rattle.std.specs.List.Sorted.{IsNonDecreasing}
use Rattle.std.proofs.Common.{◌⊎◌}
use mathlib.Core.List.{IsPrefix}
use Rattle.atomic_table.specs.Seated.{TableId}

-- The end that puts in.
pub record PutterState (A : Type 0) : Type 0 where
  -- which ring it is
  pub ring : TableId
  pub capacity : ℕ
  -- all that was put, the oldest first, and the beginning of them that the other end may find
  pub sent : List A
  pub pushed : List A
  -- the heads that were loaded: how many the other end had taken at each
  pub heads : List ℕ
  -- no later head is lower
  pub floor : ℕ

-- The end that takes out.
pub record TakerState (A : Type 0) : Type 0 where
  pub ring : TableId
  pub capacity : ℕ
  -- all that was taken, the oldest first, and what was peeked after it and is not yet released
  pub taken : List A
  pub peeked : List A
  -- the heads that were stored
  pub released : List ℕ
  -- the tails that were loaded: how many were pushed at each
  pub tails : List ℕ
  -- no later tail is lower
  pub floor : ℕ
  -- the other end was taken over
  pub ended : Bool
  -- then all that was put, the oldest first
  pub sent : List A

-- What a putter's note tells the taker.
pub record NoteState (A : Type 0) : Type 0 where
  pub ring : TableId
  pub pushed : List A
  pub heads : List ℕ

-- What a taker's note tells the putter.
pub record HeadNoteState : Type 0 where
  pub ring : TableId
  pub taken : ℕ

-- one of the lists begins the other
abbrev pub IsOneWithin : {A : Type 0} → List A → List A → Type 0
IsOneWithin xs ys = IsPrefix xs ys ⊎ IsPrefix ys xs

-- the head is one that was released, or 0
abbrev pub IsReleased : List ℕ → ℕ → Type 0
IsReleased released h = (h ≡ 0) ⊎ Contains released h

-- each of the heads is one that was released, or 0
abbrev pub AreReleased : List ℕ → List ℕ → Type 0
AreReleased released heads = All (λ h. IsReleased released h) heads

-- one more head was loaded
abbrev pub with_loaded : {A : Type 0} → PutterState A → ℕ → PutterState A
with_loaded p head = record p { heads = p.heads ++ head ∷ []; floor = head }

-- one more tail was loaded, and what was peeked is forgotten
abbrev pub with_shown : {A : Type 0} → TakerState A → ℕ → TakerState A
with_shown t tail = record t { peeked = []; tails = t.tails ++ tail ∷ []; floor = tail }

-- some were taken; where there were any, the head was stored
abbrev pub with_taken : {A : Type 0} → TakerState A → List A → TakerState A
with_taken t [] = t
with_taken t (x ∷ xs) =
    record t { taken = t.taken ++ x ∷ xs; peeked = []; released = t.released ++ length (t.taken ++ x ∷ xs) ∷ [] }

-- Nothing that was put waits to be taken, and both ends know it; neither has taken over the other.
pub record NothingWaits {A : Type 0} (p : PutterState A) (t : TakerState A) : Type 0 where
  pub pushed : length p.pushed ≡ length p.sent
  pub known : p.floor ≡ length p.sent
  pub taken : length t.taken ≡ length p.sent
  pub apart : t.ended ≡ false

-- all of these are taken, by one more tail and one more head
abbrev pub with_all_taken : {A : Type 0} → TakerState A → List A → TakerState A
with_all_taken t xs = record t {
  taken = xs;
  peeked = [];
  released = t.released ++ length xs ∷ [];
  tails = t.tails ++ length xs ∷ [];
  floor = length xs;
}

-- As if these were put, pushed, looked at and taken, and the head was loaded after it, where nothing waited before.
pub record Passes {A : Type 0} (p p' : PutterState A) (t t' : TakerState A) (xs : List A) : Type 0 where
  pub met : t.taken ≡ p.sent
  pub putter : p' ≡ with_loaded (record p { sent = p.sent ++ xs; pushed = p.sent ++ xs }) (length (p.sent ++ xs))
  pub taker : t' ≡ with_all_taken t (p.sent ++ xs)
  pub floor : t.floor ≤ length p.sent
  pub heads : All (λ h. h ≤ length (p.sent ++ xs)) p'.heads
  pub rise : IsNonDecreasing p'.heads
