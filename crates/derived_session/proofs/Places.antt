-- Names, and the place of each among those that are known.
use Rattle.std.proofs.Common.{◌≡◌, ◌≤◌, ◌<◌, ◌⊎◌, inl, inr, ℕ, zero, suc, ◌+◌, Bool, true, false, cond, not, ◌||◌}
use Rattle.std.proofs.Common.{List, [], ◌∷◌, ◌++◌, None, Some, length, nat_lt, fold, if◌then◌else◌}
use Rattle.std.proofs.Common.{refl, sym, ap, ◌∙◌, subst, arith, length-append}
use Rattle.std.specs.Prelude.{slice_get, slice_index_or, slice_set}
use Rattle.std.specs.List.{list_any, position_or_len}
use Rattle.std.specs.Str.{bytes_eq}
use Rattle.std.proofs.lemmas.Bool.{cases_lt, false≢true}
use Rattle.std.proofs.lemmas.Bool.Decides.{nat_tests}
use Rattle.std.proofs.lemmas.List.{get_or-set_same, get_or-set_other, get_or_past, length-set}
use Rattle.std.proofs.lemmas.Slice.Eq.{bytes_eq-Decides}
use Rattle.tty_calls.specs.Sessions.{number_in, with_name}
use Rattle.derived_session.specs.Making.{reached}

-- the place of a name; one that is not there stands past the last
abbrev pub place_of : List ℕ → List (List ℕ) → ℕ
place_of name names = position_or_len (bytes_eq name) names

same_name : (name : List ℕ) → bytes_eq name name ≡ true
same_name name = (bytes_eq-Decides name name).1 refl

pub eq_name : (x y : List ℕ) → bytes_eq x y ≡ true → x ≡ y
eq_name x y e = (bytes_eq-Decides x y).0 e

-- ---- a place in a list

first_is : (b : Bool) (n : ℕ) → b ≡ true → cond (not b) (1 + n) 0 ≡ 0
first_is true n e = refl
first_is false n e = absurd (false≢true e)

later_is : (b : Bool) (n : ℕ) → b ≡ false → cond (not b) (1 + n) 0 ≡ suc n
later_is false n e = omega arith
later_is true n e = absurd (false≢true (sym e))

either : (b : Bool) → (b ≡ true) ⊎ (b ≡ false)
either true = inl refl
either false = inr refl

place_first : (name x : List ℕ) (xs : List (List ℕ)) → bytes_eq name x ≡ true → place_of name (x ∷ xs) ≡ 0
place_first name x xs e = first_is (bytes_eq name x) (place_of name xs) e

place_later : (name x : List ℕ) (xs : List (List ℕ))
    → bytes_eq name x ≡ false
    → place_of name (x ∷ xs) ≡ suc (place_of name xs)
place_later name x xs e = later_is (bytes_eq name x) (place_of name xs) e

pub place_within : (name : List ℕ) (xs : List (List ℕ)) → place_of name xs ≤ length xs
place_within name [] = omega arith
place_within name (x ∷ xs) = elim (either (bytes_eq name x)) [
  | inl is ↦ omega (arith, place_first name x xs is)
  | inr other ↦ omega (arith, place_later name x xs other, place_within name xs)
]

pub name_at : (name : List ℕ) (xs : List (List ℕ))
    → place_of name xs < length xs
    → slice_get xs (place_of name xs) ≡ Some name
name_at name [] lt = absurd (omega (arith, lt))
name_at name (x ∷ xs) lt = elim (either (bytes_eq name x)) [
  | inl is ↦
      ap (λ (n : ℕ). slice_get (x ∷ xs) n) (place_first name x xs is)
      ∙ ap (λ (y : List ℕ). Some y) (sym (eq_name name x is))
  | inr other ↦
      ap (λ (n : ℕ). slice_get (x ∷ xs) n) (place_later name x xs other)
      ∙ name_at name xs (omega (arith, lt, place_later name x xs other))
]

-- behind more names it stands where it stood
pub place_stays : (name : List ℕ) (xs ys : List (List ℕ))
    → place_of name xs < length xs
    → place_of name (xs ++ ys) ≡ place_of name xs
place_stays name [] ys lt = absurd (omega (arith, lt))
place_stays name (x ∷ xs) ys lt = elim (either (bytes_eq name x)) [
  | inl is ↦ place_first name x (xs ++ ys) is ∙ sym (place_first name x xs is)
  | inr other ↦
      place_later name x (xs ++ ys) other
      ∙ (ap suc (place_stays name xs ys (omega (arith, lt, place_later name x xs other)))
      ∙ sym (place_later name x xs other))
]

-- one that is not there, before another name
place_last : (name y : List ℕ) (xs : List (List ℕ))
    → length xs ≤ place_of name xs
    → place_of name (xs ++ y ∷ []) ≡ length xs + place_of name (y ∷ [])
place_last name y [] le = omega arith
place_last name y (x ∷ xs) le = elim (either (bytes_eq name x)) [
  | inl is ↦ absurd (omega (arith, le, place_first name x xs is))
  | inr other ↦
      omega (
        arith,
        place_later name x (xs ++ y ∷ []) other,
        place_last name y xs (omega (arith, le, place_later name x xs other)),
      )
]

-- whether it is there
there : (name : List ℕ) (xs : List (List ℕ)) → list_any (bytes_eq name) xs ≡ true → place_of name xs < length xs
there name [] e = absurd (false≢true e)
there name (x ∷ xs) e = elim (either (bytes_eq name x)) [
  | inl is ↦ omega (arith, place_first name x xs is)
  | inr other ↦
      omega (
        arith,
        place_later name x xs other,
        there name xs (ap (λ (b : Bool). b || list_any (bytes_eq name) xs) (sym other) ∙ e),
      )
]

nowhere : (name : List ℕ) (xs : List (List ℕ)) → list_any (bytes_eq name) xs ≡ false → length xs ≤ place_of name xs
nowhere name [] e = omega arith
nowhere name (x ∷ xs) e = elim (either (bytes_eq name x)) [
  | inl is ↦
      absurd (false≢true (sym e ∙ ap (λ (b : Bool). b || list_any (bytes_eq name) xs) is))
  | inr other ↦
      omega (
        arith,
        place_later name x xs other,
        nowhere name xs (ap (λ (b : Bool). b || list_any (bytes_eq name) xs) (sym other) ∙ e),
      )
]

-- ---- a name is learned

-- it was there, or it is added
data Learning (names : List (List ℕ)) (name : List ℕ) : Type 0 where
  known : with_name names name ≡ names → place_of name names < length names → Learning names name
  added : with_name names name ≡ names ++ name ∷ [] → length names ≤ place_of name names → Learning names name

learning : (names : List (List ℕ)) (name : List ℕ) → Learning names name
learning names name = elim (either (list_any (bytes_eq name) names)) [
  | inl is ↦
      known (ap (λ (b : Bool). if b then names else names ++ name ∷ []) is) (there name names is)
  | inr none ↦
      added (ap (λ (b : Bool). if b then names else names ++ name ∷ []) none) (nowhere name names none)
]

-- it stands where it stood, or comes last
pub place_learned : (names : List (List ℕ)) (name : List ℕ)
    → (place_of name (with_name names name) ≡ place_of name names)
    × (place_of name names < length (with_name names name))
place_learned names name = by_cases (learning names name)
  where
    by_cases : Learning names name
        → (place_of name (with_name names name) ≡ place_of name names)
        × (place_of name names < length (with_name names name))
    by_cases (known same lt) =
        (ap (place_of name) same, subst (λ (ns : List (List ℕ)). place_of name names < length ns) (sym same) lt)
    by_cases (added more le) =
        let last = place_first name name [] (same_name name) in
        let at = place_last name name names le in
        let within = place_within name names in (
          ap (place_of name) more ∙ omega (arith, at, last, le, within),
          omega (arith, ap (λ (ns : List (List ℕ)). length ns) more, length-append names (name ∷ []), within),
        )

-- the others stand where they stood
pub place_kept : (names : List (List ℕ)) (name other : List ℕ)
    → place_of other names < length names
    → place_of other (with_name names name) ≡ place_of other names
place_kept names name other lt = by_cases (learning names name)
  where
    by_cases : Learning names name → place_of other (with_name names name) ≡ place_of other names
    by_cases (known same within) = ap (place_of other) same
    by_cases (added more le) = ap (place_of other) more ∙ place_stays other names (name ∷ []) lt

-- or are not there
place_missing : (names : List (List ℕ)) (name other : List ℕ)
    → bytes_eq other name ≡ false
    → length names ≤ place_of other names
    → length (with_name names name) ≤ place_of other (with_name names name)
place_missing names name other ne le = by_cases (learning names name)
  where
    by_cases : Learning names name → length (with_name names name) ≤ place_of other (with_name names name)
    by_cases (known same within) = omega (
      arith,
      ap (λ (ns : List (List ℕ)). length ns) same,
      ap (place_of other) same,
      le,
    )
    by_cases (added more past) = omega (
      arith,
      ap (λ (ns : List (List ℕ)). length ns) more,
      ap (place_of other) more,
      length-append names (name ∷ []),
      place_last other name names le,
      place_later other name [] ne,
    )

pub longer : (names : List (List ℕ)) (name : List ℕ)
    → (length (with_name names name) ≡ length names) ⊎ (length (with_name names name) ≡ length names + 1)
longer names name = by_cases (learning names name)
  where
    by_cases : Learning names name
        → (length (with_name names name) ≡ length names) ⊎ (length (with_name names name) ≡ length names + 1)
    by_cases (known same within) = inl (ap (λ (ns : List (List ℕ)). length ns) same)
    by_cases (added more past) =
        inr (ap (λ (ns : List (List ℕ)). length ns) more ∙ length-append names (name ∷ []))

-- ---- numbers

is_lt : (a b : ℕ) → a < b → nat_lt a b ≡ true
is_lt a b lt = grind (arith, nat_tests)

not_lt : (a b : ℕ) → b ≤ a → nat_lt a b ≡ false
not_lt a b le = grind (arith, nat_tests)

pub number_is : (names : List (List ℕ)) (name : List ℕ)
    → place_of name names < length names
    → number_in names name ≡ Some (place_of name names)
number_is names name lt =
    ap (λ (b : Bool). cond b (Some (place_of name names)) None) (is_lt (place_of name names) (length names) lt)

-- ---- the next steps

at_end : (next : List ℕ) (c : ℕ) → slice_index_or (next ++ 0 ∷ []) c 0 ≡ slice_index_or next c 0
at_end [] zero = refl
at_end [] (suc c) = refl
at_end (n ∷ ns) zero = refl
at_end (n ∷ ns) (suc c) = at_end ns c

pub reached_same : (names : List (List ℕ)) (next : List ℕ) (c : ℕ)
    → slice_index_or (reached names next) c 0 ≡ slice_index_or next c 0
reached_same names next c = by_room (nat_lt (length next) (length names))
  where
    by_room : (b : Bool) → slice_index_or (if b then next ++ 0 ∷ [] else next) c 0 ≡ slice_index_or next c 0
    by_room true = at_end next c
    by_room false = refl

pub reached_long : (names : List (List ℕ)) (next : List ℕ) (name : List ℕ)
    → length next ≡ length names
    → length (reached (with_name names name) next) ≡ length (with_name names name)
reached_long names next name same = elim (longer names name) [
  | inl none ↦
      ap (λ (b : Bool). length (if b then next ++ 0 ∷ [] else next))
      (not_lt (length next) (length (with_name names name)) (omega (arith, same, none)))
      ∙ omega (arith, same, none)
  | inr one ↦
      ap (λ (b : Bool). length (if b then next ++ 0 ∷ [] else next))
      (is_lt (length next) (length (with_name names name)) (omega (arith, same, one)))
      ∙ omega (arith, same, one, length-append next (0 ∷ []))
]

-- the next step of a name, and of the others, where that of one was set
module _ (names : List (List ℕ)) (next : List ℕ) (name : List ℕ) (same : length next ≡ length names) (n : ℕ) where
  abbrev later : List ℕ
  later = slice_set (reached (with_name names name) next) (place_of name names) n

  pub later_long : length later ≡ length (with_name names name)
  later_long =
      length-set (reached (with_name names name) next) (place_of name names) n ∙ reached_long names next name same

  pub own_next : slice_index_or later (place_of name (with_name names name)) 0 ≡ n
  own_next =
      let at = place_learned names name in
      ap (λ (c : ℕ). slice_index_or later c 0) at.0
      ∙ get_or-set_same (reached (with_name names name) next) (place_of name names) n 0
      (omega (arith, at.1, reached_long names next name same))

  pub other_next : (other : List ℕ)
      → bytes_eq other name ≡ false
      → slice_index_or later (place_of other (with_name names name)) 0 ≡ slice_index_or next (place_of other names) 0
  other_next other ne = elim (cases_lt (place_of other names) (length names)) [
    | inl lt ↦
        ap (λ (c : ℕ). slice_index_or later c 0) (place_kept names name other lt)
        ∙ (get_or-set_other (reached (with_name names name) next) (place_of name names) (place_of other names) n 0
        (apart lt)
        ∙ reached_same (with_name names name) next (place_of other names))
    | inr le ↦
        get_or_past later (place_of other (with_name names name)) 0
        (omega (arith, later_long, place_missing names name other ne le))
        ∙ sym (get_or_past next (place_of other names) 0 (omega (arith, le, same)))
  ]
    where
      some_is : (x y : List ℕ) → Some x ≡ Some y → x ≡ y
      some_is x y e = cc

      apart : place_of other names < length names → place_of other names ≡ place_of name names → ⊥
      apart lt e =
          let here : Some other ≡ Some name =
          sym (name_at other names lt)
          ∙ (ap (λ (c : ℕ). slice_get names c) e
          ∙ name_at name names (subst (λ (c : ℕ). c < length names) e lt)) in
          absurd (false≢true
          (sym ne ∙ (ap (λ (x : List ℕ). bytes_eq x name) (some_is other name here) ∙ same_name name)))

-- ---- more names

abbrev pub all_names : List (List ℕ) → List (List ℕ) → List (List ℕ)
all_names names more = fold with_name names more

pub names_both : (names xs ys : List (List ℕ)) → all_names names (xs ++ ys) ≡ all_names (all_names names xs) ys
names_both names [] ys = refl
names_both names (x ∷ xs) ys = names_both (with_name names x) xs ys

pub place_then : (names more : List (List ℕ)) (name : List ℕ)
    → place_of name names < length names
    → (place_of name (all_names names more) ≡ place_of name names)
    × (place_of name names < length (all_names names more))
place_then names [] name lt = (refl, lt)
place_then names (x ∷ xs) name lt =
    let kept = place_kept names x name lt in
    let rest = place_then (with_name names x) xs name (elim (longer names x) [
      | inl none ↦ omega (arith, kept, lt, none)
      | inr one ↦ omega (arith, kept, lt, one)
    ]) in
    (rest.0 ∙ kept, subst (λ (c : ℕ). c < length (all_names names (x ∷ xs))) kept rest.1)
