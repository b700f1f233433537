-- The word of the last numbers put.
use Rattle.std.proofs.Common.{◌≡◌, ℕ, ◌+◌, ◌-◌, ◌*◌, ◌/◌, ◌%◌, ◌^◌, ◌<◌, ◌≤◌, List, [], ◌∷◌, ◌++◌}
use Rattle.std.proofs.Common.{length, take, refl, sym, ap, ◌∙◌, arith, append_assoc, length-append}
use Rattle.std.proofs.lemmas.List.{append-nil}
use Rattle.std.proofs.Math.Seq.{take-length}
use Rattle.word_ring.specs.Lanes.{LANE, lanes, top_lanes, whole_words}
use Rattle.word_ring.proofs.Packing.{lanes_length, whole_length}

pub long_is : (xs : List ℕ) (word k : ℕ) → length (whole_words xs ++ lanes word k) ≡ length xs / 4 * 4 + k
long_is xs word k =
    let front : length (whole_words xs) ≡ length xs / 4 * 4 = whole_length xs in
    length-append (whole_words xs) (lanes word k) ∙ omega (arith, lanes_length word k)

-- the numbers of whole words are a list's beginning of that length
pub whole_of : (xs ys : List ℕ) → length xs ≡ length (xs ++ ys) / 4 * 4 → whole_words (xs ++ ys) ≡ xs
whole_of xs ys is = ap (λ k. take k (xs ++ ys)) (sym is) ∙ take_front xs ys
  where
    take_front : (xs ys : List ℕ) → take (length xs) (xs ++ ys) ≡ xs
    take_front [] ys = refl
    take_front (x ∷ xs) ys = ap (λ zs. x ∷ zs) (take_front xs ys)

-- a word that is not full leaves the numbers of whole words
pub whole_again : (xs : List ℕ) (word k : ℕ) → k < 4 → whole_words (whole_words xs ++ lanes word k) ≡ whole_words xs
whole_again xs word k lt =
    let front : length (whole_words xs) ≡ length xs / 4 * 4 = whole_length xs in
    let long = long_is xs word k in whole_of (whole_words xs) (lanes word k) (omega arith)

-- a full word is among them
pub whole_full : (xs : List ℕ) (word : ℕ)
    → whole_words (whole_words xs ++ lanes word 4) ≡ whole_words xs ++ lanes word 4
whole_full xs word =
    let all : List ℕ = whole_words xs ++ lanes word 4 in
    let long : length all ≡ length xs / 4 * 4 + 4 = long_is xs word 4 in
    let is : length all / 4 * 4 ≡ length all = omega arith in
    ap (λ (k : ℕ). take k all) is ∙ take-length all

-- which word it is
pub group_is : (xs : List ℕ) (word sent : ℕ)
    → sent ≡ length (whole_words xs ++ lanes word (sent % 4))
    → sent / 4 ≡ length xs / 4
group_is xs word sent is = let long = long_is xs word (sent % 4) in omega arith

module _ (xs : List ℕ) (word word' sent x : ℕ)
    (laid : top_lanes word' (sent % 4 + 1) ≡ top_lanes word (sent % 4) ++ x ∷ []) where
  -- the number takes the next lane
  pub put_next : whole_words xs ++ top_lanes word' (sent % 4 + 1)
      ≡ whole_words xs ++ top_lanes word (sent % 4) ++ x ∷ []
  put_next =
      ap (λ ys. whole_words xs ++ ys) laid ∙ sym (append_assoc (whole_words xs) (top_lanes word (sent % 4)) (x ∷ []))

  pub put_short : sent % 4 < 3
      → whole_words xs ++ top_lanes word' ((sent + 1) % 4) ≡ whole_words xs ++ top_lanes word (sent % 4) ++ x ∷ []
  put_short lt =
      let is : (sent + 1) % 4 ≡ sent % 4 + 1 = omega arith in
      ap (λ (k : ℕ). whole_words xs ++ top_lanes word' k) is ∙ put_next

  pub put_full : 3 ≤ sent % 4
      → whole_words xs ++ top_lanes word' 4 ≡ whole_words xs ++ top_lanes word (sent % 4) ++ x ∷ []
  put_full ge =
      let is : 4 ≡ sent % 4 + 1 = omega arith in ap (λ (k : ℕ). whole_words xs ++ top_lanes word' k) is ∙ put_next

  -- what stands after a full word was stored
  pub put_stored : 3 ≤ sent % 4
      → whole_words (whole_words xs ++ top_lanes word' 4) ++ top_lanes word' ((sent + 1) % 4)
      ≡ whole_words xs ++ top_lanes word (sent % 4) ++ x ∷ []
  put_stored ge = let is : (sent + 1) % 4 ≡ 0 = omega arith in
      ap (λ (k : ℕ). whole_words (whole_words xs ++ top_lanes word' 4) ++ top_lanes word' k) is
      ∙ (append-nil (whole_words (whole_words xs ++ top_lanes word' 4))
      ∙ (whole_full xs (word' / LANE ^ (4 - 4)) ∙ put_full ge))
