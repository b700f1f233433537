-- A log whose events are of one port.
use Rattle.std.proofs.Common.{◌≡◌, ℕ, List, [], ◌∷◌, ◌++◌, map, sym, ap, ◌∙◌, subst}
use Rattle.std.specs.Prelude.{All}
use Rattle.std.proofs.lemmas.List.{map-append}
use Rattle.std.proofs.lemmas.List.Elements.{All-push}
use Rattle.passed_calls.specs.declared.logs.Logged.{Logged}

abbrev AreOn : {E : Type 0} → ℕ → List (Logged E) → Type 0
AreOn {E} p log = All (λ (l : Logged E). l.port ≡ p) log

pub one_more_on : {K E : Type 0} (logged_of : Logged K → Logged E) (p : ℕ) (old new : List (Logged K)) (l : Logged K)
    → new ≡ old ++ l ∷ []
    → (logged_of l).port ≡ p
    → AreOn p (map logged_of old)
    → AreOn p (map logged_of new)
one_more_on {K} {E} logged_of p old new l added is h =
    subst (AreOn p) (sym (ap (map logged_of) added ∙ map-append logged_of old (l ∷ [])))
    (All-push (λ (x : Logged E). x.port ≡ p) (map logged_of old) (logged_of l) h is)

pub same_on : {K E : Type 0} (logged_of : Logged K → Logged E) (p : ℕ) (old new : List (Logged K))
    → new ≡ old
    → AreOn p (map logged_of old)
    → AreOn p (map logged_of new)
same_on {K} logged_of p old new same h = subst (λ (ls : List (Logged K)). AreOn p (map logged_of ls)) (sym same) h
