-- Numbers that stand in their lanes, over a store.
use Rattle.std.proofs.Common.{◌≡◌, ◌≢◌, ℕ, ◌+◌, ◌-◌, ◌*◌, ◌/◌, ◌%◌, ◌<◌, ◌≤◌, List, ◌++◌, length, get_or, set}
use Rattle.std.proofs.Common.{sym, ap, ◌∙◌, ⊎_elim, arith, length-append, get_or-set_same, get_or-set_other}
use mathlib.Core.List.{IsPrefix}
use Rattle.atomic_table.proofs.Lists.{one_turn}
use native.Mathlib.Nat.{add-mul, add-mul-mod_self_right, div-add-mod', mod-eq_of_lt, zero-mod}
use Rattle.std.proofs.lemmas.Bool.{cases_lt}
use Rattle.std.proofs.Math.Seq.{get_or-append_right}
use Rattle.word_ring.specs.Lanes.{lane, lanes, whole_words}
use Rattle.word_ring.specs.Rule.{StandsInLane, place}
use Rattle.word_ring.proofs.Beginnings.{begins_at}
use Rattle.word_ring.proofs.Packing.{lanes_length, lanes_at, whole_length}

pub place_below : (n group : ℕ) → place n group < n / 4 + 4
place_below n group = omega arith

-- the first group stands in the first word
pub place_first : (n : ℕ) → place n 0 ≡ 2
place_first n = ap (λ (k : ℕ). 2 + k) (zero-mod (n / 4 + 2))

-- the next group stands in the next word, or after the last word in the first
pub place_next : (n group : ℕ) → place n group < n / 4 + 3 → place n (group + 1) ≡ place n group + 1
place_next n group lt =
    let m = n / 4 + 2 in
    let parts = div-add-mod' group m in
    let on : group % m + 1 + group / m * m ≡ group + 1 = omega arith in
    let turn = add-mul-mod_self_right (group % m + 1) (group / m) m in
    let last : (group % m + 1) % m ≡ group % m + 1 = mod-eq_of_lt (omega arith) in
    let is : (group + 1) % m ≡ group % m + 1 = ap (λ (k : ℕ). k % m) (sym on) ∙ (turn ∙ last) in
    omega arith

-- a group so much further stands so much further, or round
pub place_on : (n group d : ℕ) → place n group + d < n / 4 + 4 → place n (group + d) ≡ place n group + d
place_on n group d lt =
    let m = n / 4 + 2 in
    let parts = div-add-mod' group m in
    let on : group % m + d + group / m * m ≡ group + d = omega arith in
    let turn = add-mul-mod_self_right (group % m + d) (group / m) m in
    let last : (group % m + d) % m ≡ group % m + d = mod-eq_of_lt (omega arith) in
    let is : (group + d) % m ≡ group % m + d = ap (λ (k : ℕ). k % m) (sym on) ∙ (turn ∙ last) in
    omega arith

pub place_on_round : (n group d : ℕ)
    → d ≤ n / 4 + 2
    → n / 4 + 4 ≤ place n group + d
    → place n (group + d) ≡ place n group + d - (n / 4 + 2)
place_on_round n group d few ge =
    let m = n / 4 + 2 in
    let r = group % m + d - m in
    let parts = div-add-mod' group m in
    let below = place_below n group in
    let on : r + (group / m + 1) * m ≡ group + d = omega (arith, add-mul (group / m) 1 m) in
    let turn = add-mul-mod_self_right r (group / m + 1) m in
    let last : r % m ≡ r = mod-eq_of_lt (omega arith) in
    let is : (group + d) % m ≡ r = ap (λ (k : ℕ). k % m) (sym on) ∙ (turn ∙ last) in
    omega arith

pub place_round : (n group : ℕ) → n / 4 + 3 ≤ place n group → place n (group + 1) ≡ 2
place_round n group ge =
    let m = n / 4 + 2 in
    let parts = div-add-mod' group m in
    let below = place_below n group in
    let whole : group % m + 1 ≡ m = omega arith in
    let on : 0 + (group / m + 1) * m ≡ group + 1 = omega (arith, add-mul (group / m) 1 m) in
    let turn = add-mul-mod_self_right 0 (group / m + 1) m in
    let is : (group + 1) % m ≡ 0 = ap (λ (k : ℕ). k % m) (sym on) ∙ (turn ∙ zero-mod m) in
    omega arith

-- two groups less than a round apart stand in different words
apart : (n a b : ℕ) → a < b → b < a + (n / 4 + 2) → place n a ≢ place n b
apart n a b lt near e =
    let same : a % (n / 4 + 2) ≡ b % (n / 4 + 2) = omega arith in
    let is = one_turn a b (n / 4 + 2) (omega arith) near same in omega arith

-- a store to the head or the tail
pub stands_index : (n : ℕ) (words : List ℕ) (head : ℕ) (written : List ℕ) (at x : ℕ)
    → at < 2
    → StandsInLane n words head written
    → StandsInLane n (set words at x) head written
stands_index n words head written at x lt stands i low high =
    ap (λ z. lane z (i % 4)) (get_or-set_other words at (place n (i / 4)) x 0 (λ e. omega arith)) ∙ stands i low high

-- the head rises
pub stands_above : (n : ℕ) (words : List ℕ) (head head' : ℕ) (written : List ℕ)
    → head ≤ head'
    → StandsInLane n words head written
    → StandsInLane n words head' written
stands_above n words head head' written le stands i low high = stands i (omega arith) high

-- the last word is stored, with its first lanes
pub stands_lanes : (n : ℕ) (words : List ℕ) (head : ℕ) (written : List ℕ) (at word k : ℕ)
    → at ≡ place n (length written / 4)
    → at < length words
    → k ≤ 4
    → IsPrefix written (whole_words written ++ lanes word k)
    → length (whole_words written ++ lanes word k) ≤ head + n
    → StandsInLane n words head written
    → StandsInLane n (set words at word) head (whole_words written ++ lanes word k)
stands_lanes n words head written at word k at_is inside few goes_on fits stands i low high =
    let front : length (whole_words written) ≡ length written / 4 * 4 = whole_length written in
    let long : length (whole_words written ++ lanes word k) ≡ length written / 4 * 4 + k =
    length-append (whole_words written) (lanes word k) ∙ omega (arith, lanes_length word k) in
    ⊎_elim
    (λ lt.
    let other : place n (i / 4) ≢ at = λ e.
    apart n (i / 4) (length written / 4) (omega arith) (omega arith) (e ∙ at_is) in
    ap (λ z. lane z (i % 4)) (get_or-set_other words at (place n (i / 4)) word 0 other)
    ∙ (stands i low (omega arith) ∙ begins_at written (whole_words written ++ lanes word k) goes_on i (omega arith)))
    (λ ge.
    let group : i / 4 ≡ length written / 4 = omega arith in
    let here : place n (i / 4) ≡ at = ap (place n) group ∙ sym at_is in
    let found : get_or (set words at word) (place n (i / 4)) 0 ≡ word =
    ap (λ z. get_or (set words at word) z 0) here ∙ get_or-set_same words at word 0 inside in
    let j : i % 4 ≡ i - length (whole_words written) = omega arith in
    let laid =
    get_or-append_right (whole_words written) (lanes word k) i 0 (omega arith)
    ∙ lanes_at word k (i - length (whole_words written)) (omega arith) in
    ap (λ z. lane z (i % 4)) found ∙ (ap (lane word) j ∙ sym laid))
    (cases_lt i (length written / 4 * 4))
