-- Words that are compared four bytes at a time.
use Rattle.std.proofs.Common.{◌≡◌, ◌≤◌, ◌+◌, ◌-◌, ℕ, Bool, true, false, List, ◌++◌}
use Rattle.std.proofs.Common.{length, take, drop, refl, sym, ap, ◌∙◌, arith, bytes_eq}
use Rattle.std.proofs.lemmas.List.{take-append-drop, take-take, take_all, drop-take}
use Rattle.std.proofs.lemmas.Slice.Eq.{bytes_eq-Decides}

-- lists that are not the same compare as false
differs : (a b : List ℕ) (r : Bool) → bytes_eq a b ≡ r → (a ≡ b → ⊥) → r ≡ false
differs a b true compared differ = absurd (differ ((bytes_eq-Decides a b).0 compared))
differs a b false compared differ = refl

differs_at : (place : ℕ) (word text : List ℕ)
    → bytes_eq (take 4 (drop place word)) (take 4 (drop place text)) ≡ false
    → false ≡ bytes_eq word text
differs_at place word text four =
    sym (differs word text (bytes_eq word text) refl (λ same.
    let equal = (bytes_eq-Decides (take 4 (drop place word)) (take 4 (drop place text))).1
    (ap (λ xs. take 4 (drop place xs)) same) in
    absurd (cc)))

take_four : (place : ℕ) (xs : List ℕ) → take (place + 4) xs ≡ take place xs ++ take 4 (drop place xs)
take_four place xs =
    sym (take-append-drop place (take (place + 4) xs))
    ∙ ap (λ front. front ++ drop place (take (place + 4) xs)) (take-take place (place + 4) xs (omega arith))
    ∙ ap (λ back. take place xs ++ back) (drop-take place 4 xs)

-- four bytes more are the same
pub four_more : (place : ℕ) (word text : List ℕ)
    → take place word ≡ take place text
    → bytes_eq (take 4 (drop place word)) (take 4 (drop place text)) ≡ true
    → take (place + 4) word ≡ take (place + 4) text
four_more place word text front four =
    take_four place word
    ∙ ap (λ xs. xs ++ take 4 (drop place word)) front
    ∙ ap (λ xs. take place text ++ xs) ((bytes_eq-Decides (take 4 (drop place word)) (take 4 (drop place text))).0 four)
    ∙ sym (take_four place text)

take_fewer : (last place : ℕ) (word text : List ℕ)
    → last ≤ place
    → take place word ≡ take place text
    → take last word ≡ take last text
take_fewer last place word text within front =
    sym (take-take last place word within) ∙ ap (take last) front ∙ take-take last place text within

whole : (last : ℕ) (xs : List ℕ) → length xs ≡ last + 4 → take (last + 4) xs ≡ xs
whole last xs long = take_all (last + 4) xs (omega arith)

same_to_end : (last place : ℕ) (word text : List ℕ) (r : Bool)
    → length word ≡ last + 4
    → length text ≡ last + 4
    → last ≤ place
    → take place word ≡ take place text
    → bytes_eq (take 4 (drop last word)) (take 4 (drop last text)) ≡ r
    → r ≡ bytes_eq word text
same_to_end last place word text false long_word long_text within front four = differs_at last word text four
same_to_end last place word text true long_word long_text within front four =
    let same : word ≡ text =
    sym (whole last word long_word)
    ∙ four_more last word text (take_fewer last place word text within front) four
    ∙ whole last text long_text in
    sym ((bytes_eq-Decides word text).1 same)

-- the last four decide where the others are the same
pub last_four : (last place : ℕ) (word text : List ℕ) (r : Bool)
    → length word ≡ length text
    → last ≡ length text - 4
    → 4 ≤ length text
    → last ≤ place
    → take place word ≡ take place text
    → r ≡ bytes_eq (take 4 (drop last word)) (take 4 (drop last text))
    → r ≡ bytes_eq word text
last_four last place word text r long is_last some within front told =
    same_to_end last place word text r (omega arith) (omega arith) within front (sym told)
