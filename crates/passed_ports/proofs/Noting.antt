-- The next steps of callers, noted one after the other.
use Rattle.std.proofs.Common.{◌≡◌, ◌≤◌, ◌<◌, inl, inr, ℕ, ◌+◌, List, length, sym, ap, ◌∙◌, subst, arith}
use Rattle.std.specs.Prelude.{slice_index_or, slice_set}
use Rattle.std.proofs.lemmas.Bool.{cases_eq}
use Rattle.tty_terminal.specs.Terminals.{Terminal, caller_at}
use Rattle.order_laws.specs.Filled.{AreNextSteps}
use Rattle.order_laws.proofs.Steps.{step_own, step_other}

-- noted one after the other
pub record HasNoted (t : Terminal) (count : ℕ) (steps : List ℕ) : Type 0 where
  pub each : (c : ℕ) → c < count → slice_index_or steps c 0 ≡ (caller_at t c).next

set_same : (xs : List ℕ) (i x : ℕ) → i < length xs → slice_index_or (slice_set xs i x) i 0 ≡ x
set_same xs i x lt = step_own xs i x lt

pub noted_more : (t : Terminal) (count : ℕ) (steps more : List ℕ) (step : ℕ)
    → HasNoted t count steps
    → count < length steps
    → step ≡ (caller_at t count).next
    → more ≡ slice_set steps count step
    → HasNoted t (count + 1) more
noted_more t count steps more step h lt is set_it =
    subst (HasNoted t (count + 1)) (sym set_it)
    (record {
      each = λ c below. elim (cases_eq c count) [
        | inl same ↦
            ap (λ (n : ℕ). slice_index_or (slice_set steps count step) n 0) same
            ∙ (set_same steps count step lt ∙ (is ∙ ap (λ (n : ℕ). (caller_at t n).next) (sym same)))
        | inr other ↦ step_other steps count c step other ∙ h.each c (omega (arith, below, other))
      ];
    })

pub all_noted : (t : Terminal) (count many : ℕ) (steps : List ℕ)
    → HasNoted t count steps
    → length steps ≡ many
    → many ≤ count
    → AreNextSteps t many steps
all_noted t count many steps h same past = record { many = same; each = λ c lt. h.each c (omega (arith, lt, past)) }
