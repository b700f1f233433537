-- Words, compared one by one.
use Rattle.std.proofs.Common.{◌≡◌, ◌↔◌, ℕ, List, [], ◌∷◌, Bool, Bor, refl, sym, ◌∙◌}
use Rattle.std.specs.Prelude.{IsTrue}
use Rattle.std.specs.Bool.{Decides}
use Rattle.std.specs.Cmp.Lexicographic.{pointwise}
use Rattle.std.proofs.lemmas.Bool.{false≢true, and_parts, and_from}
use Rattle.tty_one.specs.Endings.{texts_of}

heads : (a b : List ℕ) (as' bs : List (List ℕ)) → a ∷ as' ≡ b ∷ bs → (a ≡ b) × (as' ≡ bs)
heads a b as' bs h = (cc, cc)

no_words : (a : List ℕ) (as' : List (List ℕ)) → [] ≡ a ∷ as' → ⊥
no_words a as' h = cc

module _ {E : Bor (List ℕ) → Bor (List ℕ) → Bool} (same : (a b : Bor (List ℕ)) → Decides (E a b) (a.now ≡ b.now)) where
  texts_decide : (xs ys : List (Bor (List ℕ))) → Decides (pointwise E xs ys) (texts_of xs ≡ texts_of ys)
  texts_decide [] [] = (λ h. refl, λ h. refl)
  texts_decide [] (y ∷ ys) = (λ h. absurd (false≢true h), λ h. absurd (no_words y.now (texts_of ys) h))
  texts_decide (x ∷ xs) [] = (λ h. absurd (false≢true h), λ h. absurd (no_words x.now (texts_of xs) (sym h)))
  texts_decide (x ∷ xs) (y ∷ ys) =
      let later = texts_decide xs ys in (
        λ h.
            let parts = and_parts (E x y) (pointwise E xs ys) h in
            cons_same (x.now) (y.now) (texts_of xs) (texts_of ys) ((same x y).0 parts.0) (later.0 parts.1),
        λ h.
            let parts = heads x.now y.now (texts_of xs) (texts_of ys) h in
            and_from (E x y) (pointwise E xs ys) ((same x y).1 parts.0) (later.1 parts.1),
      )
    where
      cons_same : (a b : List ℕ) (as' bs : List (List ℕ)) → a ≡ b → as' ≡ bs → a ∷ as' ≡ b ∷ bs
      cons_same a b as' bs one two = cc

  pub texts_same : (r : Bool) (xs ys : List (Bor (List ℕ)))
      → r ≡ pointwise E xs ys
      → IsTrue r ↔ (texts_of xs ≡ texts_of ys)
  texts_same r xs ys is = (λ h. (texts_decide xs ys).0 (sym is ∙ h), λ h. is ∙ (texts_decide xs ys).1 h)
