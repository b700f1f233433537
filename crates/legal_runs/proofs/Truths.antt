-- Tests, and choices by them.
use Rattle.std.proofs.Common.{◌≡◌, Bool, true, false, ◌&&◌, if◌then◌else◌, List, [], ◌∷◌, ◌++◌, MatchBool, refl, sym}
use Rattle.std.proofs.lemmas.Bool.{false≢true}

pub nothing_first : {X : Type 0} (xs ys : List X) → xs ++ ys ≡ [] → xs ≡ []
nothing_first [] ys e = refl
nothing_first (x ∷ xs) ys e = cc

pub nothing_rest : {X : Type 0} (xs ys : List X) → xs ++ ys ≡ [] → ys ≡ []
nothing_rest [] ys e = e
nothing_rest (x ∷ xs) ys e = cc

pub on_true : (b : Bool) (P Q : Type 0) → b ≡ true → MatchBool b P Q → P
on_true true P Q is m = m
on_true false P Q is m = absurd (false≢true is)

pub on_false : (b : Bool) (P Q : Type 0) → b ≡ false → MatchBool b P Q → Q
on_false true P Q is m = absurd (false≢true (sym is))
on_false false P Q is m = m

pub all_four : (a b c d : Bool) → a ≡ true → b ≡ true → c ≡ true → d ≡ true → (a && (b && (c && d))) ≡ true
all_four true true true d p q r s = s
all_four true true false d p q r s = absurd (false≢true r)
all_four true false c d p q r s = absurd (false≢true q)
all_four false b c d p q r s = absurd (false≢true p)

pub when_true : (b : Bool) (P Q : Type 0) → b ≡ true → P → MatchBool b P Q
when_true true P Q is h = h
when_true false P Q is h = absurd (false≢true is)

pub if_true : {A : Type 0} (b : Bool) (x y : A) → b ≡ true → (if b then x else y) ≡ x
if_true true x y e = refl
if_true false x y e = absurd (cc)

pub if_false : {A : Type 0} (b : Bool) (x y : A) → b ≡ false → (if b then x else y) ≡ y
if_false true x y h = absurd (cc)
if_false false x y h = refl
