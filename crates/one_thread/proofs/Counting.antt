-- Callers that rest: at distinct numbers there are no more of them than the terminal counts.
use Rattle.std.proofs.Common.{◌≡◌, ◌≢◌, ◌≤◌, ◌<◌, ℕ, ◌+◌, suc, List, [], ◌∷◌, Bool, true, false, cond}
use Rattle.std.proofs.Common.{length, get_or, set, get_or-set_other, refl, sym, ◌∙◌, ap, inl, inr, arith}
use Rattle.std.specs.Prelude.{slice_index, AllPairs, count_by}
use Rattle.std.proofs.lemmas.List.{get_or_past}
use Rattle.std.proofs.lemmas.List.Sums.{sum_by-set}
use Rattle.std.proofs.lemmas.Bool.{false≢true, cases_lt}
use Rattle.tty_terminal.specs.declared.callers.CallerState.{CallerState}
use Rattle.tty_terminal.specs.Terminals.{idle_caller}

one_of : (b : Bool) → b ≡ true → ◌≡◌ {A = ℕ} (cond b 1 0) 1
one_of true e = refl
one_of false e = absurd (false≢true e)

none_of : (b : Bool) → b ≡ false → ◌≡◌ {A = ℕ} (cond b 1 0) 0
none_of false e = refl
none_of true e = absurd (false≢true (sym e))

within : (p : CallerState → Bool) (cs : List CallerState) (n : ℕ)
    → p idle_caller ≡ false
    → p (get_or cs n idle_caller) ≡ true
    → n < length cs
within p cs n idle is =
    elim (cases_lt n (length cs)) [
      | inl lt ↦ lt
      | inr ge ↦ absurd (false≢true (sym idle ∙ (ap p (sym (get_or_past cs n idle_caller ge)) ∙ is)))
    ]

without : (p : CallerState → Bool) (cs : List CallerState) (n : ℕ)
    → p idle_caller ≡ false
    → p (get_or cs n idle_caller) ≡ true
    → count_by p (set cs n idle_caller) + 1 ≡ count_by p cs
without p cs n idle is =
    let f : CallerState → ℕ = λ s. cond (p s) 1 0 in
    let sums = sum_by-set f cs n idle_caller idle_caller (within p cs n idle is) in
    let here : f (get_or cs n idle_caller) ≡ 1 = one_of (p (get_or cs n idle_caller)) is in
    let gone : f idle_caller ≡ 0 = none_of (p idle_caller) idle in
    let goal : count_by p (set cs n idle_caller) + 1 ≡ count_by p cs = omega (arith, sums, here, gone) in
    goal

pub at_least : (p : CallerState → Bool) (cs : List CallerState) (ns : List ℕ)
    → p idle_caller ≡ false
    → AllPairs (λ c d. c ≢ d) ns
    → ((i : ℕ) → i < length ns → p (get_or cs (slice_index ns i) idle_caller) ≡ true)
    → length ns ≤ count_by p cs
at_least p cs [] idle apart all = omega arith
at_least p cs (n ∷ ns) idle apart all =
    let here : p (get_or cs n idle_caller) ≡ true = all 0 (omega arith) in
    let fewer = without p cs n idle here in
    let rest =
    at_least p (set cs n idle_caller) ns idle (λ i j d lt len. apart (suc i) (suc j) d (omega arith) (omega arith))
    (λ i lt.
    let differ : n ≢ slice_index ns i = apart 0 (suc i) 0 (omega arith) (omega arith) in
    ap p (get_or-set_other cs n (slice_index ns i) idle_caller idle_caller (λ e. differ (sym e)))
    ∙ all (suc i) (omega arith)) in
    let goal : length (n ∷ ns) ≤ count_by p cs = omega arith in
    goal
