-- How many calls of each caller were answered.
use Rattle.std.proofs.Common.{◌≡◌, ◌<◌, ℕ, zero, suc, ◌+◌, ◌==◌, Bool, true, false, inl, inr, List, [], ◌∷◌, ◌++◌}
use Rattle.std.proofs.Common.{length, if◌then◌else◌, refl, sym, ap, ◌∙◌, subst, arith}
use Rattle.std.specs.Prelude.{flat_map, slice_set, slice_index_or, sum}
use Rattle.std.proofs.lemmas.Bool.{cases_eq, eq-eqb, ne_eqb}
use Rattle.std.proofs.lemmas.List.Sums.{sum_by-cons}
use Rattle.order_laws.specs.Sessions.{answer_count}
use Rattle.order_laws.proofs.Steps.{step_own, step_other}

abbrev pub one_or_none : Bool → ℕ
one_or_none b = if b then 1 else 0

-- a caller's next step once one caller's call was answered
pub stepped : (next : List ℕ) (d c : ℕ)
    → c < length next
    → slice_index_or (slice_set next d (slice_index_or next d 0 + 1)) c 0
    ≡ slice_index_or next c 0 + one_or_none (d == c)
stepped next d c known =
    elim (cases_eq c d) [
      | inl same ↦
          subst (λ (x : ℕ).
          slice_index_or (slice_set next x (slice_index_or next x 0 + 1)) c 0
          ≡ slice_index_or next c 0 + one_or_none (x == c)) same
          (step_own next c (slice_index_or next c 0 + 1) known
          ∙ ap (λ (b : Bool). slice_index_or next c 0 + one_or_none b) (sym (eq-eqb c c refl)))
      | inr other ↦
          step_other next d c (slice_index_or next d 0 + 1) other
          ∙ (let none : one_or_none (d == c) ≡ 0 = ap one_or_none (ne_eqb d c (λ e. other (sym e))) in
          omega (arith, none))
    ]

pub set_length : (next : List ℕ) (c n : ℕ) → length (slice_set next c n) ≡ length next
set_length [] c n = refl
set_length (m ∷ next) zero n = refl
set_length (m ∷ next) (suc c) n = ap suc (set_length next c n)

sum_more : (b : Bool) (ns : List ℕ) → sum ((if b then 1 ∷ [] else []) ++ ns) ≡ one_or_none b + sum ns
sum_more true ns = sum_by-cons (λ (x : ℕ). x) 1 ns
sum_more false ns = omega arith

-- one event more
pub answers_more : {E : Type 0} (is_answer_to : ℕ → E → Bool) (c : ℕ) (e : E) (es : List E)
    → answer_count is_answer_to c (e ∷ es) ≡ one_or_none (is_answer_to c e) + answer_count is_answer_to c es
answers_more is_answer_to c e es =
    sum_more (is_answer_to c e) (flat_map (λ x. if is_answer_to c x then 1 ∷ [] else []) es)
