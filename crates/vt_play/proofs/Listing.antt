-- Lists by their places, and their last elements.
use Rattle.std.proofs.Common.{◌≡◌, ℕ, zero, suc, ◌<◌, List, [], ◌∷◌, ◌++◌}
use Rattle.std.proofs.Common.{Some, length, map, refl, sym, ap, ◌∙◌, arith}
use Rattle.std.specs.Prelude.{slice_get, option_map}
use Rattle.std.proofs.lemmas.List.{length-map}
use Rattle.std.proofs.lemmas.Option.{slice_get-map}

pub some_is : {X : Type 0} (x y : X) → Some x ≡ Some y → x ≡ y
some_is x y h = cc

-- what stands at a place below the length
pub there : {X : Type 0} (xs : List X) (p : ℕ) → p < length xs → (x : X) × (slice_get xs p ≡ Some x)
there [] p h = absurd (omega (arith, h))
there (x ∷ xs) zero h = (x, refl)
there (x ∷ xs) (suc p) h = there xs p (omega (arith, h))

pub same_there : {X : Type 0} (xs : List X) (p : ℕ) (x y : X)
    → slice_get xs p ≡ Some x
    → slice_get xs p ≡ Some y
    → x ≡ y
same_there xs p x y at also = some_is x y (sym at ∙ also)

-- ---- the last of a list

pub split_last : {X : Type 0} (xs : List X) → 0 < length xs → (ys : List X) × (y : X) × (xs ≡ ys ++ y ∷ [])
split_last [] h = absurd (omega (arith, h))
split_last (x ∷ []) h = ([], x, refl)
split_last (x ∷ y ∷ xs) h =
    let r = split_last (y ∷ xs) (omega arith) in
    (x ∷ r.0, r.1, ap (λ l. x ∷ l) r.2)

tail_is : {X : Type 0} (x y : X) (xs ys : List X) → x ∷ xs ≡ y ∷ ys → (x ≡ y) × (xs ≡ ys)
tail_is x y xs ys h = (cc, cc)

none_more : {X : Type 0} (ys : List X) (y : X) → [] ≡ ys ++ y ∷ [] → ⊥
none_more [] y h = cc
none_more (z ∷ ys) y h = cc

pub snoc_is : {X : Type 0} (xs ys : List X) (x y : X) → xs ++ x ∷ [] ≡ ys ++ y ∷ [] → (xs ≡ ys) × (x ≡ y)
snoc_is [] [] x y h = (refl, (tail_is x y [] [] h).0)
snoc_is [] (z ∷ ys) x y h = absurd (none_more ys y (tail_is x z [] (ys ++ y ∷ []) h).1)
snoc_is (z ∷ xs) [] x y h = absurd (none_more xs x (sym (tail_is z y (xs ++ x ∷ []) [] h).1))
snoc_is (z ∷ xs) (w ∷ ys) x y h =
    let t = tail_is z w (xs ++ x ∷ []) (ys ++ y ∷ []) h in
    let r = snoc_is xs ys x y t.1 in
    (ap (λ a. a ∷ xs) t.0 ∙ ap (λ l. w ∷ l) r.0, r.1)

-- ---- lists that a function was mapped over

pub mapped_there : {X Y : Type 0} (f : X → Y) (xs : List X) (p : ℕ) (x : X)
    → slice_get xs p ≡ Some x
    → slice_get (map f xs) p ≡ Some (f x)
mapped_there f xs p x h = slice_get-map f xs p ∙ ap (option_map f) h

pub column_there : {X Y : Type 0} (f : X → Y) (ys : List Y) (xs : List X) (p : ℕ) (x : X)
    → ys ≡ map f xs
    → slice_get xs p ≡ Some x
    → slice_get ys p ≡ Some (f x)
column_there f ys xs p x is h = ap (λ l. slice_get l p) is ∙ mapped_there f xs p x h

pub column_is : {X Y : Type 0} (f : X → Y) (ys : List Y) (xs : List X) (p : ℕ) (x : X) (y : Y)
    → ys ≡ map f xs
    → slice_get xs p ≡ Some x
    → slice_get ys p ≡ Some y
    → y ≡ f x
column_is f ys xs p x y is h at = same_there ys p y (f x) at (column_there f ys xs p x is h)

pub column_length : {X Y : Type 0} (f : X → Y) (ys : List Y) (xs : List X) → ys ≡ map f xs → length ys ≡ length xs
column_length f ys xs is = ap (λ l. length l) is ∙ length-map xs f

-- ---- lists of a given length

pub none_left : {X : Type 0} (xs : List X) → length xs ≡ 0 → xs ≡ []
none_left [] h = refl
none_left (x ∷ xs) h = absurd (omega (arith, h))

pub one_left : {X : Type 0} (xs : List X) (n : ℕ)
    → length xs ≡ suc n
    → (x : X) × (ys : List X) × (xs ≡ x ∷ ys) × (length ys ≡ n)
one_left [] n h = absurd (omega (arith, h))
one_left (x ∷ xs) n h = (x, xs, refl, omega (arith, h))
