-- Numbers in the lanes of a word.
use Rattle.std.proofs.Common.{◌≡◌, ℕ, zero, suc, ◌+◌, ◌-◌, ◌*◌, ◌/◌, ◌%◌, ◌^◌, ◌<◌, List, [], ◌∷◌, ◌++◌, length}
use Rattle.std.proofs.Common.{get_or, refl, sym, ap, ◌∙◌, subst, ⊎_elim, arith, length-append, length-take}
use Rattle.std.proofs.lemmas.Bool.{cases_lt}
use Rattle.std.proofs.lemmas.Nat.{pow-add}
use Rattle.std.proofs.Math.ListN.{get_or-append}
use Rattle.std.proofs.Math.Nat.{div-div-eq-div-mul}
use Rattle.std.proofs.Math.Seq.{get_or-append_seam}
use Rattle.word_ring.specs.Lanes.{LANE, THREE_LANES, TWO_LANES, lane, lanes, top_lanes, whole_words}

-- one more number in the last lane
pub lay_next : (w x k : ℕ)
    → w < 2 ^ 64
    → x < LANE
    → k < 4
    → top_lanes (w / LANE + x * THREE_LANES) (k + 1) ≡ top_lanes w k ++ x ∷ []
unfolding lane
lay_next w x zero small h lt =
    let a : (w / LANE + x * THREE_LANES) / THREE_LANES / 1 % LANE ≡ x = omega arith in
    λ i. a i ∷ []
lay_next w x (suc zero) small h lt =
    let a : (w / LANE + x * THREE_LANES) / TWO_LANES / 1 % LANE ≡ w / THREE_LANES / 1 % LANE =
    omega arith in
    let b : (w / LANE + x * THREE_LANES) / TWO_LANES / LANE % LANE ≡ x = omega arith in
    λ i. a i ∷ b i ∷ []
lay_next w x (suc (suc zero)) small h lt =
    let a : (w / LANE + x * THREE_LANES) / LANE / 1 % LANE ≡ w / TWO_LANES / 1 % LANE = omega arith in
    let b : (w / LANE + x * THREE_LANES) / LANE / LANE % LANE ≡ w / TWO_LANES / LANE % LANE = omega arith in
    let d : (w / LANE + x * THREE_LANES) / LANE / TWO_LANES % LANE ≡ x = omega arith in
    λ i. a i ∷ b i ∷ d i ∷ []
lay_next w x (suc (suc (suc zero))) small h lt =
    let a : (w / LANE + x * THREE_LANES) / 1 / 1 % LANE ≡ w / LANE / 1 % LANE = omega arith in
    let b : (w / LANE + x * THREE_LANES) / 1 / LANE % LANE ≡ w / LANE / LANE % LANE = omega arith in
    let d : (w / LANE + x * THREE_LANES) / 1 / TWO_LANES % LANE ≡ w / LANE / TWO_LANES % LANE = omega arith in
    let e : (w / LANE + x * THREE_LANES) / 1 / THREE_LANES % LANE ≡ x = omega arith in
    λ i. a i ∷ b i ∷ d i ∷ e i ∷ []
lay_next w x (suc (suc (suc (suc k)))) small h lt = absurd (omega arith)

pub four_items : (xs : List ℕ) → length xs ≡ 4 → get_or xs 0 0 ∷ get_or xs 1 0 ∷ get_or xs 2 0 ∷ get_or xs 3 0 ∷ [] ≡ xs
four_items [] e = absurd (omega (arith, e))
four_items (a ∷ []) e = absurd (omega (arith, e))
four_items (a ∷ b ∷ []) e = absurd (omega (arith, e))
four_items (a ∷ b ∷ c ∷ []) e = absurd (omega (arith, e))
four_items (a ∷ b ∷ c ∷ d ∷ []) e = refl
four_items (a ∷ b ∷ c ∷ d ∷ x ∷ xs) e = absurd (omega (arith, e))

-- four numbers in one word
pub lay_four : (a b c d : ℕ) → a < LANE → b < LANE → c < LANE → d < LANE
    → lanes (a + b * LANE + c * TWO_LANES + d * THREE_LANES) 4 ≡ a ∷ b ∷ c ∷ d ∷ []
unfolding lane
lay_four a b c d ha hb hc hd =
    let w : ℕ = a + b * LANE + c * TWO_LANES + d * THREE_LANES in
    let p : w / 1 % LANE ≡ a = omega arith in
    let q : w / LANE % LANE ≡ b = omega arith in
    let r : w / TWO_LANES % LANE ≡ c = omega arith in
    let s : w / THREE_LANES % LANE ≡ d = omega arith in
    λ i. p i ∷ q i ∷ r i ∷ s i ∷ []

-- all lanes
pub top_all : (w : ℕ) → top_lanes w 4 ≡ lanes w 4
top_all w = let is : w / LANE ^ (4 - 4) ≡ w = omega arith in ap (λ (z : ℕ). lanes z 4) is

-- the last lanes of a word and then the first of the next
module _ (w n : ℕ) (w_fits : w < 2 ^ 64) (n_fits : n < 2 ^ 64) where
  abbrev joins : ℕ → ℕ
  joins k = w / 2 ^ (64 - k * 16) + (n * 2 ^ (k * 16)) % 18446744073709551616

  pub joined_fits : (k : ℕ) → 0 < k → k < 4 → joins k < 2 ^ 64
  joined_fits zero some few = absurd (omega arith)
  joined_fits (suc zero) some few = omega arith
  joined_fits (suc (suc zero)) some few = omega arith
  joined_fits (suc (suc (suc zero))) some few = omega arith
  joined_fits (suc (suc (suc (suc k)))) some few = absurd (omega arith)

  pub lay_joined : (k : ℕ) → 0 < k → k < 4 → lanes (joins k) 4 ≡ top_lanes w k ++ lanes n (4 - k)
  unfolding lane
  lay_joined zero some few = absurd (omega arith)
  lay_joined (suc zero) some few =
      let a : (w / THREE_LANES + (n * LANE) % 18446744073709551616) / 1 % LANE ≡ w / THREE_LANES / 1 % LANE =
      omega arith in
      let b : (w / THREE_LANES + (n * LANE) % 18446744073709551616) / LANE % LANE ≡ n / 1 % LANE =
      omega arith in
      let d : (w / THREE_LANES + (n * LANE) % 18446744073709551616) / TWO_LANES % LANE ≡ n / LANE % LANE =
      omega arith in
      let e : (w / THREE_LANES + (n * LANE) % 18446744073709551616) / THREE_LANES
      % LANE ≡ n / TWO_LANES % LANE = omega arith in
      λ i. a i ∷ b i ∷ d i ∷ e i ∷ []
  lay_joined (suc (suc zero)) some few =
      let a : (w / TWO_LANES + (n * TWO_LANES) % 18446744073709551616) / 1 % LANE ≡ w / TWO_LANES / 1 % LANE =
      omega arith in
      let b : (w / TWO_LANES + (n * TWO_LANES) % 18446744073709551616) / LANE % LANE
      ≡ w / TWO_LANES / LANE % LANE = omega arith in
      let d : (w / TWO_LANES + (n * TWO_LANES) % 18446744073709551616) / TWO_LANES % LANE ≡ n / 1 % LANE =
      omega arith in
      let e : (w / TWO_LANES + (n * TWO_LANES) % 18446744073709551616) / THREE_LANES % LANE ≡ n / LANE % LANE =
      omega arith in
      λ i. a i ∷ b i ∷ d i ∷ e i ∷ []
  lay_joined (suc (suc (suc zero))) some few =
      let a : (w / LANE + (n * THREE_LANES) % 18446744073709551616) / 1 % LANE ≡ w / LANE / 1 % LANE =
      omega arith in
      let b : (w / LANE + (n * THREE_LANES) % 18446744073709551616) / LANE % LANE ≡ w / LANE / LANE % LANE =
      omega arith in
      let d : (w / LANE + (n * THREE_LANES) % 18446744073709551616) / TWO_LANES % LANE
      ≡ w / LANE / TWO_LANES % LANE = omega arith in
      let e : (w / LANE + (n * THREE_LANES) % 18446744073709551616) / THREE_LANES % LANE ≡ n / 1 % LANE =
      omega arith in
      λ i. a i ∷ b i ∷ d i ∷ e i ∷ []
  lay_joined (suc (suc (suc (suc k)))) some few = absurd (omega arith)

-- the first lanes and the last ones are all
pub lanes_split : (w k : ℕ) → k < 4 → lanes w (4 - k) ++ top_lanes w k ≡ lanes w 4
unfolding lane
lanes_split w zero few = refl
lanes_split w (suc zero) few =
    let d : w / THREE_LANES / 1 % LANE ≡ w / THREE_LANES % LANE = omega arith in
    λ i. w / 1 % LANE ∷ w / LANE % LANE ∷ w / TWO_LANES % LANE ∷ d i ∷ []
lanes_split w (suc (suc zero)) few =
    let c : w / TWO_LANES / 1 % LANE ≡ w / TWO_LANES % LANE = omega arith in
    let d : w / TWO_LANES / LANE % LANE ≡ w / THREE_LANES % LANE = omega arith in
    λ i. w / 1 % LANE ∷ w / LANE % LANE ∷ c i ∷ d i ∷ []
lanes_split w (suc (suc (suc zero))) few =
    let b : w / LANE / 1 % LANE ≡ w / LANE % LANE = omega arith in
    let c : w / LANE / LANE % LANE ≡ w / TWO_LANES % LANE = omega arith in
    let d : w / LANE / TWO_LANES % LANE ≡ w / THREE_LANES % LANE = omega arith in
    λ i. w / 1 % LANE ∷ b i ∷ c i ∷ d i ∷ []
lanes_split w (suc (suc (suc (suc k)))) few = absurd (omega arith)

-- a lane from another one on
pub lane_on : (w l j : ℕ) → lane (w / LANE ^ l) j ≡ lane w (l + j)
unfolding lane
lane_on w l j = ap (λ (z : ℕ). z % LANE)
    (div-div-eq-div-mul w (LANE ^ l) (LANE ^ j) ∙ ap (λ (z : ℕ). w / z) (sym (pow-add LANE l j)))

-- a lane by the number that shifts it down
pub lane_shift : (w l : ℕ) → l < 4 → w / 2 ^ (l * 16) % LANE ≡ lane w l
unfolding lane
lane_shift w zero lt = refl
lane_shift w (suc zero) lt = refl
lane_shift w (suc (suc zero)) lt = refl
lane_shift w (suc (suc (suc zero))) lt = refl
lane_shift w (suc (suc (suc (suc l)))) lt = absurd (omega arith)

-- the lanes of a word, one for each number
pub lanes_length : (w k : ℕ) → length (lanes w k) ≡ k
lanes_length w zero = refl
lanes_length w (suc k) = length-append (lanes w k) (lane w k ∷ []) ∙ (omega (arith, lanes_length w k))

pub lanes_at : (w k j : ℕ) → j < k → get_or (lanes w k) j 0 ≡ lane w j
lanes_at w zero j h = absurd (omega arith)
lanes_at w (suc k) j h = ⊎_elim
    (λ lt. get_or-append (lanes w k) (lane w k ∷ []) 0 j (rw lanes_length lt) ∙ lanes_at w k j lt)
    (λ ge. let is : j ≡ k = omega arith in subst (λ i. get_or (lanes w k ++ lane w k ∷ []) i 0 ≡ lane w i) (sym is)
    (ap (λ i. get_or (lanes w k ++ lane w k ∷ []) i 0) (sym (lanes_length w k))
    ∙ get_or-append_seam (lanes w k) (lane w k) [] 0))
    (cases_lt j k)

-- how much of a list fills whole words
pub whole_length : (xs : List ℕ) → length (whole_words xs) ≡ length xs / 4 * 4
whole_length xs = length-take (length xs / 4 * 4) xs ∙ omega arith
