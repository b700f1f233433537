-- A walk over the entries of a journal that goes well.
use Rattle.std.proofs.Common.{◌≡◌, ℕ, zero, suc, ◌+◌, ◌<◌, ◌≤◌, nat_eq, Bool, true, false, ◌&&◌, List}
use Rattle.std.proofs.Common.{[], ◌∷◌, Some, length, drop, slice_get, refl, sym, ◌∙◌, ap, arith}
use Rattle.std.proofs.lemmas.Bool.Decides.{nat_tests}
use Rattle.std.proofs.lemmas.Option.{slice_get_within}
use Rattle.tty_calls.specs.Plain.{PlainEntry}
use Rattle.tty_terminal.specs.Runs.{phase_after}
use Rattle.journal_check.specs.Finishing.{may_go, ticks_after, is_hangup, is_none, goes_well}
use Rattle.journal_check.proofs.AccountLemmas.{next_at}
use Rattle.journal_check.proofs.FinishLemmas.{within, beyond}

no_more : (es : List PlainEntry) (i : ℕ) → i < length es → nat_eq (i + 1) (length es) ≡ is_none (drop (i + 1) es)
no_more [] i lt = absurd (omega arith)
no_more (e ∷ []) zero lt = refl
no_more (e ∷ (f ∷ es)) zero lt = (let far : nat_eq 1 (suc (suc (length es))) ≡ false = grind (arith, nat_tests) in far)
no_more (e ∷ es) (suc i) lt =
    let one : nat_eq (suc i + 1) (suc (length es)) ≡ nat_eq (i + 1) (length es) =
    same_either (nat_eq (suc i + 1) (suc (length es))) (nat_eq (i + 1) (length es)) (λ h. grind (arith, nat_tests))
    (λ h. grind (arith, nat_tests)) in
    one
    ∙ no_more es i (omega arith)
    ∙ ap (λ (n : ℕ). is_none (drop n (e ∷ es))) (let far : suc (i + 1) ≡ suc i + 1 = omega arith in far)
  where
    same_either : (a b : Bool) → (a ≡ true → b ≡ true) → (b ≡ true → a ≡ true) → a ≡ b
    same_either true b h k = sym (h refl)
    same_either false true h k = k refl
    same_either false false h k = refl

pub last_hangup : (sents asked : ℕ → ℕ) (n k passed : ℕ) (es : List PlainEntry) (i : ℕ) (e : PlainEntry)
    → slice_get es i ≡ Some e
    → n ≤ k
    → is_hangup e.event ≡ true
    → nat_eq (i + 1) (length es) ≡ goes_well sents asked n k passed (drop i es)
last_hangup sents asked n k passed es i e at past hangs =
    no_more es i (slice_get_within es i e at)
    ∙ sym (ap (goes_well sents asked n k passed) (next_at es i e at)
    ∙ beyond sents asked n k passed e (drop (i + 1) es) past
    ∙ ap (λ b. b && is_none (drop (i + 1) es)) hangs)

pub well_more : (sents asked : ℕ → ℕ) (n k passed k' passed' : ℕ) (es : List PlainEntry) (i : ℕ) (e : PlainEntry)
    → slice_get es i ≡ Some e
    → k < n
    → may_go e.event (sents k) (asked k) passed ≡ true
    → k' ≡ phase_after e.event k
    → passed' ≡ ticks_after e.event passed
    → goes_well sents asked n k' passed' (drop (i + 1) es) ≡ goes_well sents asked n k passed (drop i es)
well_more sents asked n k passed k' passed' es i e at less may phase ticks_are =
    (λ j. goes_well sents asked n (phase j) (ticks_are j) (drop (i + 1) es))
    ∙ sym
    (ap (goes_well sents asked n k passed) (next_at es i e at) ∙ within sents asked n k passed e (drop (i + 1) es) less
    ∙ ap (λ b. b && goes_well sents asked n (phase_after e.event k) (ticks_after e.event passed) (drop (i + 1) es)) may)

-- the walk ends at an entry that is wrong where it stands
pub not_last : (sents asked : ℕ → ℕ) (n k passed : ℕ) (es : List PlainEntry) (i : ℕ) (e : PlainEntry)
    → slice_get es i ≡ Some e
    → n ≤ k
    → is_hangup e.event ≡ false
    → false ≡ goes_well sents asked n k passed (drop i es)
not_last sents asked n k passed es i e at past other =
    sym (ap (goes_well sents asked n k passed) (next_at es i e at)
    ∙ beyond sents asked n k passed e (drop (i + 1) es) past
    ∙ ap (λ b. b && is_none (drop (i + 1) es)) other)

pub not_well : (sents asked : ℕ → ℕ) (n k passed : ℕ) (es : List PlainEntry) (i : ℕ) (e : PlainEntry)
    → slice_get es i ≡ Some e
    → k < n
    → may_go e.event (sents k) (asked k) passed ≡ false
    → false ≡ goes_well sents asked n k passed (drop i es)
not_well sents asked n k passed es i e at less other =
    sym
    (ap (goes_well sents asked n k passed) (next_at es i e at) ∙ within sents asked n k passed e (drop (i + 1) es) less
    ∙ ap (λ b. b && goes_well sents asked n (phase_after e.event k) (ticks_after e.event passed) (drop (i + 1) es))
    other)
