-- Ports, one after the other.
use Rattle.std.proofs.Common.{◌≡◌, ℕ, suc, ◌+◌, ◌-◌, ◌<◌, ◌≤◌, List, ◌++◌, flat_map}
use Rattle.std.proofs.Common.{sym, ◌∙◌, ap, arith, append_assoc, append-nil}
use Rattle.std.specs.List.{range_with_len}

pub range_more : (f : ℕ → List ℕ) (n p : ℕ) (text new first : List ℕ)
    → p < n
    → new ≡ text ++ f p
    → text ++ flat_map f (range_with_len p (n - p)) ≡ first
    → new ++ flat_map f (range_with_len (p + 1) (n - (p + 1))) ≡ first
range_more f n p text new first lt put left =
    let rest : List ℕ = flat_map f (range_with_len (p + 1) (n - (p + 1))) in
    let count : n - p ≡ suc (n - (p + 1)) = omega arith in
    ap (λ (l : List ℕ). l ++ rest) put
    ∙ append_assoc text (f p) rest
    ∙ ap (λ (k : ℕ). text ++ flat_map f (range_with_len p k)) (sym count)
    ∙ left

pub range_over : (f : ℕ → List ℕ) (n p : ℕ) (text first : List ℕ)
    → n ≤ p
    → text ++ flat_map f (range_with_len p (n - p)) ≡ first
    → text ≡ first
range_over f n p text first over left =
    let none : n - p ≡ 0 = omega arith in
    sym (append-nil text) ∙ ap (λ (k : ℕ). text ++ flat_map f (range_with_len p k)) (sym none) ∙ left
