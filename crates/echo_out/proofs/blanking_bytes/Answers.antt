use Rattle.std.proofs.Common.{◌≡◌, ℕ, zero, suc, ◌+◌, List, [], ◌∷◌, ◌++◌, ap, ◌∙◌, refl, arith, append_assoc}
use Rattle.echo_out.specs.Echo.{blanking_bytes}
use Rattle.echo_out.proofs.blanking_bytes.Goals as goal

-- one more column at the end
blanking_bytes-suc : (n : ℕ) → blanking_bytes n ++ 8 ∷ 32 ∷ 8 ∷ [] ≡ blanking_bytes (suc n)
blanking_bytes-suc zero = refl
blanking_bytes-suc (suc n) = ap (λ bytes. 8 ∷ 32 ∷ 8 ∷ bytes) (blanking_bytes-suc n)

pushed : (xs : List ℕ) → ((xs ++ 8 ∷ []) ++ 32 ∷ []) ++ 8 ∷ [] ≡ xs ++ 8 ∷ 32 ∷ 8 ∷ []
pushed xs = append_assoc (xs ++ 8 ∷ []) (32 ∷ []) (8 ∷ []) ∙ append_assoc xs (8 ∷ []) (32 ∷ 8 ∷ [])

pub loop-preserved : goal.loop-preserved
loop-preserved c = (
  c.push-in-loop-2.ensures.items
      ∙ ap (λ (xs : List ℕ). xs ++ 8 ∷ [])
      (c.push-in-loop.ensures.items
      ∙ ap (λ (xs : List ℕ). xs ++ 32 ∷ [])
      (c.push.ensures.items ∙ ap (λ (xs : List ℕ). xs ++ 8 ∷ []) c.loop.invariant.0))
      ∙ pushed (blanking_bytes c.loop.counter)
      ∙ blanking_bytes-suc c.loop.counter
      ∙ ap blanking_bytes (let n : suc c.loop.counter ≡ c.loop.counter + 1 = omega arith in n),
  omega arith,
)
