-- Heads that the taker stored.
use Rattle.std.proofs.Common.{◌≡◌, ℕ, ◌-◌, ◌≤◌, ◌⊎◌, List, [], ◌∷◌, ◌++◌}
use Rattle.std.proofs.Common.{length, All, Contains, inl, inr, ⊎_elim, arith}
use Rattle.std.proofs.lemmas.List.Elements.{All-push, All-contains, Contains-append_left}
use Rattle.std.specs.List.Sorted.{IsNonDecreasing}
use Rattle.std.proofs.lemmas.List.Sorted.{IsNonDecreasingBy-push}
use Rattle.word_ring.specs.Ends.{AreReleased}

pub released_more : (rs more hs : List ℕ) → AreReleased rs hs → AreReleased (rs ++ more) hs
released_more rs more hs a = λ k d lt. ⊎_elim (λ z. inl z) (λ c. inr (Contains-append_left rs more _ c)) (a k d lt)

pub released_push : (rs hs : List ℕ) (h : ℕ)
    → AreReleased rs hs
    → (h ≡ 0) ⊎ Contains rs h
    → AreReleased rs (hs ++ h ∷ [])
released_push rs hs h a p = All-push (λ (k : ℕ). (k ≡ 0) ⊎ Contains rs k) hs h a p

pub below_more : (xs : List ℕ) (a b : ℕ) → a ≤ b → All (λ h. h ≤ a) xs → All (λ h. h ≤ b) xs
below_more xs a b le all = λ k d lt. let h = all k d lt in omega arith

pub released_below : (rs hs : List ℕ) (n : ℕ) → All (λ h. h ≤ n) rs → AreReleased rs hs → All (λ h. h ≤ n) hs
released_below rs hs n all a = λ k d lt.
    ⊎_elim (λ z. omega arith) (λ c. All-contains (λ (h : ℕ). h ≤ n) rs _ all c) (a k d lt)

-- one more head is loaded, which is no lower than the others
pub rises_push : (hs : List ℕ) (most h : ℕ)
    → IsNonDecreasing hs
    → All (λ k. k ≤ most) hs
    → most ≤ h
    → IsNonDecreasing (hs ++ h ∷ [])
rises_push hs most h rise all le =
    IsNonDecreasingBy-push (λ x. x) hs h rise (λ d lt. let a = all (length hs - 1) d (omega arith) in omega arith)

pub below_push : (hs : List ℕ) (most h : ℕ) → All (λ k. k ≤ most) hs → most ≤ h → All (λ k. k ≤ h) (hs ++ h ∷ [])
below_push hs most h all le = All-push (λ (k : ℕ). k ≤ h) hs h (below_more hs most h le all) (omega arith)
