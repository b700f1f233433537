-- Callers by their names: the number of a name, and scripts whose names differ.
use Rattle.std.proofs.Common.{◌≡◌, ◌⊎◌, inl, inr, ℕ, zero, suc, ◌+◌, ◌<◌, ◌≤◌, Bool, true, false}
use Rattle.std.proofs.Common.{◌||◌, cond, if◌then◌else◌, List, [], ◌∷◌, ◌++◌, Option, Some, length}
use Rattle.std.proofs.Common.{map, refl, sym, ◌∙◌, ap, subst, arith, append-nil, length-append}
use Rattle.std.specs.Prelude.{slice_get, slice_index_or, fold}
use Rattle.std.specs.List.{list_any, position_from}
use Rattle.std.specs.Str.{bytes_eq}
use Rattle.std.proofs.lemmas.Bool.{false≢true, or_cases, or_left, or_parts, or_right}
use Rattle.std.proofs.lemmas.List.{length-map}
use Rattle.std.proofs.lemmas.List.Folds.{list_any-append}
use Rattle.std.proofs.lemmas.Iterator.Adapters.{position_from-zero}
use Rattle.std.proofs.lemmas.Slice.Eq.{bytes_eq-Decides}
use Rattle.tty_calls.specs.Plain.{PlainCall}
use Rattle.tty_calls.specs.Sessions.{PlainScript, with_name, names_of, number_in, calls_under}
use Rattle.legal_runs.proofs.NameLemmas.{any_at, last_cases, names_few, not_there, same_name}
use Rattle.legal_runs.proofs.ScriptLemmas.{at_number}

-- ---- names

pub eq_name : (a b : List ℕ) → bytes_eq a b ≡ true → a ≡ b
eq_name a b h = (bytes_eq-Decides a b).0 h

-- ---- places

pub get_within : {X : Type 0} (xs : List X) (i : ℕ) (x : X) → slice_get xs i ≡ Some x → i < length xs
get_within [] i x h = absurd (cc)
get_within (y ∷ xs) zero x h = omega arith
get_within (y ∷ xs) (suc i) x h = let below : i < length xs = get_within xs i x h in omega arith

pub get_at : {X : Type 0} (xs : List X) (i : ℕ) (d : X) → i < length xs → slice_get xs i ≡ Some (slice_index_or xs i d)
get_at [] i d h = absurd (omega (arith, h))
get_at (x ∷ xs) zero d h = refl
get_at (x ∷ xs) (suc i) d h = get_at xs i d (omega (arith, h))

-- ---- the number of a name

some_place : (p : List ℕ → Bool) (i : ℕ) (ns : List (List ℕ))
    → list_any p ns ≡ true
    → (n : ℕ) × (position_from p i ns ≡ Some n)
some_place p i [] h = absurd (false≢true h)
some_place p i (x ∷ ns) h = elim (or_cases (p x) (list_any p ns) h) [
  | inl yes_ ↦ (i, ap (λ b. cond b (Some i) (position_from p (i + 1) ns)) yes_)
  | inr later ↦ first_or (p x) i (position_from p (i + 1) ns) (some_place p (i + 1) ns later)
]
  where
    first_or : (b : Bool) (i : ℕ) (o : Option ℕ) → (n : ℕ) × (o ≡ Some n) → (n : ℕ) × (cond b (Some i) o ≡ Some n)
    first_or true i o later = (i, refl)
    first_or false i o later = later

-- a name that is there has a number
pub has_number : (ns : List (List ℕ)) (name : List ℕ)
    → list_any (bytes_eq name) ns ≡ true
    → (n : ℕ) × (number_in ns name ≡ Some n)
has_number ns name h =
    let found = some_place (bytes_eq name) 0 ns h in
    (found.0, position_from-zero (bytes_eq name) ns ∙ found.1)

-- no name has two places
pub record HasOwnPlaces (ns : List (List ℕ)) : Type 0 where
  pub one_place : (c d : ℕ) (x : List ℕ) → slice_get ns c ≡ Some x → slice_get ns d ≡ Some x → c ≡ d

two_places : (ns : List (List ℕ)) (name : List ℕ) (c d : ℕ) (x : List ℕ)
    → HasOwnPlaces ns
    → list_any (bytes_eq name) ns ≡ false
    → (slice_get ns c ≡ Some x) ⊎ ((c ≡ length ns) × (name ≡ x))
    → (slice_get ns d ≡ Some x) ⊎ ((d ≡ length ns) × (name ≡ x))
    → c ≡ d
two_places ns name c d x h none (inl p) (inl q) = h.one_place c d x p q
two_places ns name c d x h none (inl p) (inr q) =
    absurd (not_there ns name c none (p ∙ ap (λ (y : List ℕ). Some y) (sym q.1)))
two_places ns name c d x h none (inr p) (inl q) =
    absurd (not_there ns name d none (q ∙ ap (λ (y : List ℕ). Some y) (sym p.1)))
two_places ns name c d x h none (inr p) (inr q) = p.0 ∙ sym q.0

named_own : (b : Bool) (ns : List (List ℕ)) (name : List ℕ)
    → list_any (bytes_eq name) ns ≡ b
    → HasOwnPlaces ns
    → HasOwnPlaces (if b then ns else ns ++ name ∷ [])
named_own true ns name is h = h
named_own false ns name is h = record {
  one_place = λ c d x p q. two_places ns name c d x h is (last_cases ns name c x p) (last_cases ns name d x q);
}

names_own : (scripts : List PlainScript) (ns : List (List ℕ))
    → HasOwnPlaces ns
    → HasOwnPlaces (fold (λ names s. with_name names s.name) ns scripts)
names_own [] ns h = h
names_own (s ∷ ss) ns h =
    names_own ss (with_name ns s.name) (named_own (list_any (bytes_eq s.name) ns) ns s.name refl h)

pub own_places : (scripts : List PlainScript) → HasOwnPlaces (names_of scripts)
own_places scripts = names_own scripts [] (record { one_place = λ c d x p q. absurd (cc) })

-- the number of the name at a place is that place
pub number_at : (scripts : List PlainScript) (name : List ℕ) (c : ℕ)
    → slice_get (names_of scripts) c ≡ Some name
    → number_in (names_of scripts) name ≡ Some c
number_at scripts name c h =
    let found = has_number (names_of scripts) name (any_at (names_of scripts) name c h) in
    found.1
    ∙ ap (λ (n : ℕ). Some n)
    ((own_places scripts).one_place found.0 c name (at_number (names_of scripts) name found.0 found.1) h)

-- ---- scripts by name

abbrev pub has_name : List PlainScript → List ℕ → Bool
has_name scripts name = list_any (λ s. bytes_eq s.name name) scripts

named_keeps : (b : Bool) (ns : List (List ℕ)) (name x : List ℕ)
    → list_any (bytes_eq x) ns ≡ true
    → list_any (bytes_eq x) (if b then ns else ns ++ name ∷ []) ≡ true
named_keeps true ns name x h = h
named_keeps false ns name x h =
    list_any-append (bytes_eq x) ns (name ∷ [])
    ∙ or_left (list_any (bytes_eq x) ns) (list_any (bytes_eq x) (name ∷ [])) h

names_keep : (scripts : List PlainScript) (ns : List (List ℕ)) (x : List ℕ)
    → list_any (bytes_eq x) ns ≡ true
    → list_any (bytes_eq x) (fold (λ names s. with_name names s.name) ns scripts) ≡ true
names_keep [] ns x h = h
names_keep (s ∷ ss) ns x h =
    names_keep ss (with_name ns s.name) x (named_keeps (list_any (bytes_eq s.name) ns) ns s.name x h)

named_there : (b : Bool) (ns : List (List ℕ)) (name : List ℕ)
    → list_any (bytes_eq name) ns ≡ b
    → list_any (bytes_eq name) (if b then ns else ns ++ name ∷ []) ≡ true
named_there true ns name is = is
named_there false ns name is =
    list_any-append (bytes_eq name) ns (name ∷ [])
    ∙ or_right (list_any (bytes_eq name) ns) (bytes_eq name name || false)
    (or_left (bytes_eq name name) false (same_name name))

names_have : (scripts : List PlainScript) (ns : List (List ℕ)) (x : List ℕ)
    → has_name scripts x ≡ true
    → list_any (bytes_eq x) (fold (λ names s. with_name names s.name) ns scripts) ≡ true
names_have [] ns x h = absurd (false≢true h)
names_have (s ∷ ss) ns x h = elim (or_cases (bytes_eq s.name x) (has_name ss x) h) [
  | inl here ↦ subst
      (λ (y : List ℕ). list_any (bytes_eq y) (fold (λ names s. with_name names s.name) (with_name ns s.name) ss) ≡ true)
      (eq_name s.name x here)
      (names_keep ss (with_name ns s.name) s.name (named_there (list_any (bytes_eq s.name) ns) ns s.name refl))
  | inr later ↦ names_have ss (with_name ns s.name) x later
]

-- the name of a script has a number
pub script_has_number : (scripts : List PlainScript) (name : List ℕ)
    → has_name scripts name ≡ true
    → (n : ℕ) × (number_in (names_of scripts) name ≡ Some n)
script_has_number scripts name h = has_number (names_of scripts) name (names_have scripts [] name h)

pub few_names : (scripts : List PlainScript) → length (names_of scripts) ≤ length scripts
few_names scripts = let few : length (names_of scripts) ≤ 0 + length scripts = names_few scripts [] in omega arith

-- ---- scripts whose names differ

abbrev pub HaveOwnNames : List PlainScript → Type 0
HaveOwnNames [] = Unit {0}
HaveOwnNames (s ∷ ss) = (has_name ss s.name ≡ false) × HaveOwnNames ss

-- none of them has a name of this list, and their names differ
record AreNew (ns : List (List ℕ)) (scripts : List PlainScript) : Type 0 where
  none : (name : List ℕ) → list_any (bytes_eq name) ns ≡ true → has_name scripts name ≡ false
  own : HaveOwnNames scripts

was_new : (b : Bool) (ns : List (List ℕ)) (name : List ℕ) (ss : List PlainScript)
    → length (fold (λ names s. with_name names s.name) (if b then ns else ns ++ name ∷ []) ss)
    ≡ length ns + (length ss + 1)
    → b ≡ false
was_new true ns name ss h = absurd (omega (arith, h, names_few ss ns))
was_new false ns name ss h = refl

not_first : (a b : List ℕ) (ns : List (List ℕ)) (c : Bool)
    → bytes_eq a b ≡ c
    → list_any (bytes_eq b) ns ≡ true
    → list_any (bytes_eq a) ns ≡ false
    → c ≡ false
not_first a b ns true is there none =
    absurd (false≢true (sym none ∙ ap (λ (x : List ℕ). list_any (bytes_eq x) ns) (eq_name a b is) ∙ there))
not_first a b ns false is there none = refl

or_none : (a b : Bool) → a ≡ false → b ≡ false → (a || b) ≡ false
or_none true b h k = absurd (false≢true (sym h))
or_none false b h k = k

new_first : (ns : List (List ℕ)) (s : PlainScript) (ss : List PlainScript)
    → list_any (bytes_eq s.name) ns ≡ false
    → AreNew (ns ++ s.name ∷ []) ss
    → AreNew ns (s ∷ ss)
new_first ns s ss new later = record {
  none = λ name there.
      or_none (bytes_eq s.name name) (has_name ss name) (not_first s.name name ns (bytes_eq s.name name) refl there new)
      (later.none name (list_any-append (bytes_eq name) ns (s.name ∷ [])
      ∙ or_left (list_any (bytes_eq name) ns) (list_any (bytes_eq name) (s.name ∷ [])) there));
  own = (
    later.none s.name (list_any-append (bytes_eq s.name) ns (s.name ∷ [])
        ∙ or_right (list_any (bytes_eq s.name) ns) (bytes_eq s.name s.name || false)
        (or_left (bytes_eq s.name s.name) false (same_name s.name))),
    later.own,
  );
}

are_new : (ss : List PlainScript) (ns : List (List ℕ))
    → length (fold (λ names s. with_name names s.name) ns ss) ≡ length ns + length ss
    → AreNew ns ss
are_new [] ns h = record { none = λ name there. refl; own = tt }
are_new (s ∷ ss) ns h =
    let total : length (fold (λ names s. with_name names s.name) (with_name ns s.name) ss)
    ≡ length ns + (length ss + 1) = h ∙ omega arith in
    let new : list_any (bytes_eq s.name) ns ≡ false = was_new (list_any (bytes_eq s.name) ns) ns s.name ss total in
    let grown : with_name ns s.name ≡ ns ++ s.name ∷ [] = ap (λ b. if b then ns else ns ++ s.name ∷ []) new in
    let same : length (fold (λ names s. with_name names s.name) (ns ++ s.name ∷ []) ss) ≡ length ns + (length ss + 1) =
    subst
    (λ (xs : List (List ℕ)). length (fold (λ names s. with_name names s.name) xs ss) ≡ length ns + (length ss + 1))
    grown total in
    new_first ns s ss new (are_new ss (ns ++ s.name ∷ []) (same ∙ omega (arith, length-append ns (s.name ∷ []))))

pub own_names : (scripts : List PlainScript) → names_of scripts ≡ map (λ s. s.name) scripts → HaveOwnNames scripts
own_names scripts h =
    let count : length (names_of scripts) ≡ length scripts =
    ap (λ (x : List (List ℕ)). length x) h ∙ length-map scripts (λ (s : PlainScript). s.name) in
    (are_new scripts [] (count ∙ omega arith)).own

-- then the calls under the name of one of them are its own
pub no_calls : (scripts : List PlainScript) (name : List ℕ)
    → has_name scripts name ≡ false
    → calls_under name scripts ≡ []
no_calls [] name h = refl
no_calls (s ∷ ss) name h =
    let none = or_parts (bytes_eq s.name name) (has_name ss name) h in
    ap (λ b. (if b then s.calls else []) ++ calls_under name ss) none.0 ∙ no_calls ss name none.1

pub has_at : (scripts : List PlainScript) (k : ℕ) (x : PlainScript)
    → k < length scripts
    → slice_index_or scripts k x ≡ x
    → has_name scripts x.name ≡ true
has_at [] k x within is = absurd (omega (arith, within))
has_at (s ∷ ss) zero x within is = or_left (bytes_eq s.name x.name) (has_name ss x.name)
    (ap (λ (y : PlainScript). bytes_eq y.name x.name) is ∙ same_name x.name)
has_at (s ∷ ss) (suc k) x within is =
    or_right (bytes_eq s.name x.name) (has_name ss x.name) (has_at ss k x (omega (arith, within)) is)

other_false : (a b : List ℕ) (ss : List PlainScript) (c : Bool)
    → bytes_eq a b ≡ c
    → has_name ss a ≡ false
    → has_name ss b ≡ true
    → c ≡ false
other_false a b ss true is none there = absurd (false≢true (sym none ∙ ap (has_name ss) (eq_name a b is) ∙ there))
other_false a b ss false is none there = refl

pub own_calls : (scripts : List PlainScript) (k : ℕ) (x : PlainScript)
    → HaveOwnNames scripts
    → k < length scripts
    → slice_index_or scripts k x ≡ x
    → calls_under x.name scripts ≡ x.calls
own_calls [] k x own within is = absurd (omega (arith, within))
own_calls (s ∷ ss) zero x own within is =
    subst (λ (y : PlainScript). calls_under y.name (s ∷ ss) ≡ y.calls) is
    (ap (λ b. (if b then s.calls else []) ++ calls_under s.name ss) (same_name s.name)
    ∙ ap (λ (cs : List PlainCall). s.calls ++ cs) (no_calls ss s.name own.0) ∙ append-nil s.calls)
own_calls (s ∷ ss) (suc k) x own within is =
    let there : has_name ss x.name ≡ true = has_at ss k x (omega (arith, within)) is in
    ap (λ b. (if b then s.calls else []) ++ calls_under x.name ss)
    (other_false s.name x.name ss (bytes_eq s.name x.name) refl own.0 there)
    ∙ own_calls ss k x own.1 (omega (arith, within)) is
