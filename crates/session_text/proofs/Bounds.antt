-- What the tests of a line say, each way.
use Rattle.std.proofs.Common.{◌≡◌, ◌≢◌, ◌⊎◌, inl, inr, ℕ, ◌+◌, ◌-◌, ◌<◌, ◌≤◌, ◌==◌, ◌||◌, nat_lt, Bool}
use Rattle.std.proofs.Common.{true, false, cond, List, [], ◌∷◌, length, Option, Some, None, refl, ap}
use Rattle.std.proofs.Common.{sym, subst, ◌∙◌, arith, zero, suc, ltb-true, ltb-false, set, eq-eqb}
use Rattle.std.specs.Prelude.{slice_index}
use Rattle.std.specs.Option.{option_or}
use Rattle.std.proofs.lemmas.Bool.{eqb-true}
use Rattle.std.proofs.lemmas.List.{get_or-set_same, get_or-set_other, set-get_or}
use Rattle.session_text.specs.Stands.{left_after}

pub or_parts : (a b : Bool) → (a || b) ≡ false → (a ≡ false) × (b ≡ false)
or_parts true b h = cc
or_parts false b h = (refl, h)

pub or_neither : (a b : Bool) → a ≡ false → b ≡ false → (a || b) ≡ false
or_neither true b p q = cc
or_neither false b p q = q

pub above_zero : (n : ℕ) → (n == 0) ≡ false → 0 < n
above_zero zero h = cc
above_zero (suc n) h = omega arith

above_by : (n : ℕ) (b : Bool) → (n == 0) ≡ b → 0 < n → b ≡ false
above_by n true e h = absurd (let zero_is = eqb-true n 0 e in omega (arith, zero_is, h))
above_by n false e h = refl

pub is_above_zero : (n : ℕ) → 0 < n → (n == 0) ≡ false
is_above_zero n h = above_by n (n == 0) refl h

within_by : (a b : ℕ) (t : Bool) → nat_lt a b ≡ t → b ≤ a → t ≡ false
within_by a b true e h = absurd (let lt = ltb-true a b e in omega (arith, lt, h))
within_by a b false e h = refl

pub le-ltb-false : (a b : ℕ) → b ≤ a → nat_lt a b ≡ false
le-ltb-false a b h = within_by a b (nat_lt a b) refl h

-- ---- the tests of an item, one after the other

pub record Passes (stands has : Bool) (stood over : Bool) : Type 0 where
  pub at : stands ≡ true
  pub count : has ≡ true
  pub once : stood ≡ false
  pub fits : over ≡ false

abbrev pub verdict_of : {R : Type 0} → Bool → Bool → Option R → Bool → Bool → R → R → R → Option R
verdict_of stands has fault stood over word order limit =
    cond stands (cond has (option_or fault (cond stood (Some order) (cond over (Some limit) None))) (Some word))
    (Some order)

pub passes_from : {R : Type 0} (stands has : Bool) (fault : Option R) (stood over : Bool) (word order limit : R)
    → verdict_of stands has fault stood over word order limit ≡ None
    → Passes stands has stood over × (fault ≡ None)
passes_from true true None false false word order limit h =
    (record { at = refl; count = refl; once = refl; fits = refl }, refl)
passes_from true true None true over word order limit h = cc
passes_from true true None false true word order limit h = cc
passes_from true true (Some r) stood over word order limit h = cc
passes_from true false fault stood over word order limit h = cc
passes_from false has fault stood over word order limit h = cc

pub verdict_passes : {R : Type 0} (stands has : Bool) (fault : Option R) (stood over : Bool) (word order limit : R)
    → Passes stands has stood over
    → fault ≡ None
    → verdict_of stands has fault stood over word order limit ≡ None
verdict_passes true true None false false word order limit p f = refl
verdict_passes true true None true over word order limit p f = absurd (let h = p.once in cc)
verdict_passes true true None false true word order limit p f = absurd (let h = p.fits in cc)
verdict_passes true true (Some r) stood over word order limit p f = cc
verdict_passes true false fault stood over word order limit p f = absurd (let h = p.count in cc)
verdict_passes false has fault stood over word order limit p f = absurd (let h = p.at in cc)

-- ---- what is left for a port

abbrev pub on_port : ℕ → ℕ → ℕ → ℕ
on_port port p n = cond (port == p) n 0

pub none_on : (b : Bool) (n : ℕ) → n ≡ 0 → cond b n 0 ≡ 0
none_on true n e = e
none_on false n e = refl

beyond : (left : List ℕ) (port : ℕ) → length left ≤ port → slice_index left port ≡ 0
beyond [] port h = refl
beyond (x ∷ left) zero h = absurd (omega (arith, h))
beyond (x ∷ left) (suc port) h = beyond left port (omega (arith, h))

inside : (n port : ℕ) → (port < n) ⊎ (n ≤ port)
inside n port = elim (nat_lt port n) as (λ b. nat_lt port n ≡ b → (port < n) ⊎ (n ≤ port)) [
  | true ↦ λ e. inl (ltb-true port n e)
  | false ↦ λ e. inr (ltb-false port n e)
] refl

spent_here : (left : List ℕ) (port n : ℕ) → slice_index (left_after left port n) port ≡ slice_index left port - n
spent_here left port n =
    elim (inside (length left) port) [
      | inl lt ↦ get_or-set_same left port (slice_index left port - n) 0 lt
      | inr ge ↦
          let none = beyond left port ge in
          let same : left_after left port n ≡ left =
          ap (set left port) (let e : slice_index left port - n ≡ slice_index left port = omega (arith, none) in e)
          ∙ set-get_or left port 0 in
          let out : slice_index left port ≡ slice_index left port - n = omega (arith, none) in
          ap (λ (xs : List ℕ). slice_index xs port) same ∙ out
    ]

spent_there : (left : List ℕ) (port p n : ℕ) → p ≢ port → slice_index (left_after left port n) p ≡ slice_index left p
spent_there left port p n ne = get_or-set_other left port p (slice_index left port - n) 0 ne

same_port : (port p : ℕ) (b : Bool) → (port == p) ≡ b → ((b ≡ true) × (port ≡ p)) ⊎ ((b ≡ false) × (p ≢ port))
same_port port p true e = inl (refl, eqb-true port p e)
same_port port p false e = inr (refl, λ same. let yes = eq-eqb port p (sym same) in cc)

-- so much was left before n were spent
pub spent_more : (left : List ℕ) (port n x : ℕ) (rest : ℕ → ℕ)
    → n ≤ slice_index left port
    → ((p : ℕ) → on_port port p x + rest p ≤ slice_index (left_after left port n) p)
    → (p : ℕ)
    → on_port port p (n + x) + rest p ≤ slice_index left p
spent_more left port n x rest fits h p =
    elim (same_port port p (port == p) refl) [
      | inl same ↦
          let here : slice_index (left_after left port n) p ≡ slice_index left p - n =
          subst (λ (q : ℕ). slice_index (left_after left port n) q ≡ slice_index left q - n) same.1
          (spent_here left port n) in
          let fits' : n ≤ slice_index left p = subst (λ (q : ℕ). n ≤ slice_index left q) same.1 fits in
          let least : on_port port p x ≡ x = ap (λ b. cond b x 0) same.0 in
          let most : on_port port p (n + x) ≡ n + x = ap (λ b. cond b (n + x) 0) same.0 in
          omega (arith, h p, here, fits', least, most)
      | inr other ↦
          let there = spent_there left port p n other.1 in
          let least : on_port port p x ≡ 0 = ap (λ b. cond b x 0) other.0 in
          let most : on_port port p (n + x) ≡ 0 = ap (λ b. cond b (n + x) 0) other.0 in
          omega (arith, h p, there, least, most)
    ]

-- .. and so much is left after it
pub spent_less : (left : List ℕ) (port n x : ℕ) (rest : ℕ → ℕ)
    → ((p : ℕ) → on_port port p (n + x) + rest p ≤ slice_index left p)
    → (p : ℕ)
    → on_port port p x + rest p ≤ slice_index (left_after left port n) p
spent_less left port n x rest h p =
    elim (same_port port p (port == p) refl) [
      | inl same ↦
          let here : slice_index (left_after left port n) p ≡ slice_index left p - n =
          subst (λ (q : ℕ). slice_index (left_after left port n) q ≡ slice_index left q - n) same.1
          (spent_here left port n) in
          let least : on_port port p x ≡ x = ap (λ b. cond b x 0) same.0 in
          let most : on_port port p (n + x) ≡ n + x = ap (λ b. cond b (n + x) 0) same.0 in
          omega (arith, h p, here, least, most)
      | inr other ↦
          let there = spent_there left port p n other.1 in
          let least : on_port port p x ≡ 0 = ap (λ b. cond b x 0) other.0 in
          let most : on_port port p (n + x) ≡ 0 = ap (λ b. cond b (n + x) 0) other.0 in
          omega (arith, h p, there, least, most)
    ]

pub spent_fits : (left : List ℕ) (port n x : ℕ) (rest : ℕ → ℕ)
    → ((p : ℕ) → on_port port p (n + x) + rest p ≤ slice_index left p)
    → n ≤ slice_index left port
spent_fits left port n x rest h =
    let most : on_port port port (n + x) ≡ n + x = ap (λ b. cond b (n + x) 0) (eq-eqb port port refl) in
    omega (arith, h port, most)
