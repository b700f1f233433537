-- What is done with the thing that a handle owns.
use Rattle.std.proofs.Common.{◌≡◌, ℤ, Option, None, Some, sym, subst}
use Rattle.tty_c.specs.Answers.{no_terminal}
use Rattle.tty_c.specs.Calls.{OnHandle}

pub on_made : {A : Type 0} (does : A → A → ℤ → Type 0) (old new : Option A) (x y : A) (result : ℤ)
    → Some x ≡ old
    → new ≡ Some y
    → does x y result
    → OnHandle does old new result
on_made {A = A} does old new x y result was is h =
    subst (λ (o : Option A). OnHandle does o new result) was
    (subst (λ (o : Option A). OnHandle does (Some x) o result) (sym is) h)

pub on_none : {A : Type 0} (does : A → A → ℤ → Type 0) (old new : Option A) (result : ℤ)
    → None ≡ old
    → new ≡ None
    → result ≡ no_terminal
    → OnHandle does old new result
on_none {A = A} does old new result was is answer =
    subst (λ (o : Option A). OnHandle does o new result) was (answer, is)
