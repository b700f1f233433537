-- One passing more.
use Rattle.std.proofs.Common.{◌≡◌, inl, inr, ℕ, Bool, true, cond, ◌==◌, List, [], ◌∷◌}
use Rattle.std.proofs.Common.{◌++◌, if◌then◌else◌, refl, sym, ap, ◌∙◌, append-nil}
use Rattle.std.proofs.lemmas.Bool.{cases_eq, eq-eqb, ne_eqb}
use Rattle.std.proofs.lemmas.List.Elements.{filter-append}
use Rattle.tty_calls.specs.Sessions.{PlainSession}
use Rattle.passed_calls.specs.Derived.{Passing, BlockPhase, by_caller}
use Rattle.passed_calls.specs.Within.{ArePassedWithin}
use Rattle.order_laws.specs.Passed.{IsPassedBy, PassesMore, passed_more, with_passing}

own_more : (b : Bool) (c d : ℕ) (m : Passing) → m.caller ≡ c → (d ≡ c → ⊥) → cond (m.caller == d) (m ∷ []) [] ≡ []
own_more b c d m is other = ap (λ (t : Bool). cond t (m ∷ []) []) (ne_eqb m.caller d (λ e. other (sym e ∙ is)))

pub passes_then : (p : ℕ) (phases : List BlockPhase) (mine more : ℕ → List Passing) (m : Passing)
    (session : PlainSession) (h : IsPassedBy p phases mine session)
    → PassesMore m.caller m mine more
    → IsPassedBy p phases more (with_passing p phases m h.passed session)
passes_then p phases mine more m session h passes =
    record {
      passed = passed_more p m h.passed;
      are = refl;
      by = λ d.
          ap (λ (b : Bool). by_caller d (if b then h.passed p ++ m ∷ [] else h.passed p)) (eq-eqb p p refl)
          ∙ (filter-append (λ (x : Passing). x.caller == d) (h.passed p) (m ∷ [])
          ∙ elim (cases_eq d m.caller) [
            | inl same ↦
                ap (λ (b : Bool). by_caller d (h.passed p) ++ cond b (m ∷ []) []) (eq-eqb m.caller d (sym same))
                ∙ (ap (λ (ms : List Passing). ms ++ m ∷ []) (h.by d)
                ∙ (ap (λ (x : ℕ). mine x ++ m ∷ []) same ∙ (sym passes.own ∙ ap more (sym same))))
            | inr other ↦
                ap (λ (ms : List Passing). by_caller d (h.passed p) ++ ms) (own_more true m.caller d m refl other)
                ∙ (append-nil (by_caller d (h.passed p)) ∙ (h.by d ∙ sym (passes.others d other)))
          ]);
    }

pub within_by : (p : ℕ) (phases : List BlockPhase) (mine more : ℕ → List Passing) (m : Passing) (session : PlainSession)
    (h : IsPassedBy p phases mine session) (passes : PassesMore m.caller m mine more)
    → ArePassedWithin (passed_more p m h.passed)
    → ArePassedWithin (passes_then p phases mine more m session h passes).passed
unfolding passes_then
within_by p phases mine more m session h passes w = w
