-- The callers of a phase: how many a port has, and that their names are its own.
use Rattle.std.proofs.Common.{◌≡◌, ℕ, ◌+◌, ◌<◌, ◌≤◌, ◌==◌, ◌||◌, ◌&&◌}
use Rattle.std.proofs.Common.{Bool, true, false, cond, List, [], ◌∷◌, ◌++◌, length, map}
use Rattle.std.proofs.Common.{refl, ap, sym, subst, ◌∙◌, append_assoc, append-nil, arith}
use Rattle.std.specs.Prelude.{filter, fold}
use Rattle.std.specs.List.{list_any}
use Rattle.std.specs.Str.{bytes_eq}
use Rattle.std.proofs.lemmas.Bool.{eqb-true}
use Rattle.std.proofs.lemmas.Slice.Eq.{bytes_eq-Decides}
use Rattle.std.proofs.lemmas.List.{map-append}
use Rattle.std.proofs.lemmas.List.Sums.{sum_by-cons, sum_by-append}
use Rattle.tty_base.specs.Sizes.{MOST_CALLERS}
use Rattle.tty_calls.specs.Sessions.{PlainScript, with_name}
use Rattle.session_text.specs.Stands.{PlainKey, same_key, callers_on}
use Rattle.session_text.specs.Grammar.{CallersFit}

abbrev pub key_of_script : PlainScript → PlainKey
key_of_script s = record { name = s.name; port = s.port }

on_one : (key : PlainKey) (p : ℕ) (b : Bool)
    → (key.port == p) ≡ b
    → (n : ℕ)
    → n ≤ MOST_CALLERS
    → (key.port ≡ p → n < MOST_CALLERS)
    → n + cond b 1 0 ≤ MOST_CALLERS
on_one key p true e n few less = let lt = less (eqb-true key.port p e) in omega (arith, lt)
on_one key p false e n few less = omega (arith, few)

-- at most 16 callers of a port fit
pub callers_few : (keys before : List PlainKey) (p : ℕ)
    → CallersFit before keys
    → callers_on p before ≤ MOST_CALLERS
    → callers_on p (before ++ keys) ≤ MOST_CALLERS
callers_few [] before p fit few =
    subst (λ (ks : List PlainKey). callers_on p ks ≤ MOST_CALLERS) (sym (append-nil before)) few
callers_few (key ∷ keys) before p fit few =
    let both = sum_by-append (λ (k : PlainKey). cond (k.port == p) 1 0) before (key ∷ []) in
    let lt : key.port ≡ p → callers_on p before < MOST_CALLERS =
    λ same. subst (λ (q : ℕ). callers_on q before < MOST_CALLERS) same fit.1 in
    let here = on_one key p (key.port == p) refl (callers_on p before) few lt in
    let next : callers_on p (before ++ key ∷ []) ≤ MOST_CALLERS = omega (arith, both, here) in
    subst (λ (ks : List PlainKey). callers_on p ks ≤ MOST_CALLERS) (append_assoc before (key ∷ []) keys)
    (callers_few keys (before ++ key ∷ []) p fit.2 next)

pub count_by_keys : (scripts : List PlainScript) (p : ℕ)
    → length (filter (λ (s : PlainScript). s.port == p) scripts) ≡ callers_on p (map key_of_script scripts)
count_by_keys [] p = refl
count_by_keys (script ∷ scripts) p =
    let rest = count_by_keys scripts p in
    let cons =
    sum_by-cons (λ (k : PlainKey). cond (k.port == p) 1 0) (key_of_script script) (map key_of_script scripts) in
    let here : length (filter (λ (s : PlainScript). s.port == p) (script ∷ scripts))
    ≡ cond (script.port == p) 1 0 + length (filter (λ (s : PlainScript). s.port == p) scripts) =
    elim (script.port == p)
    as (λ b.
    length (cond b (script ∷ filter (λ (s : PlainScript). s.port == p) scripts)
    (filter (λ (s : PlainScript). s.port == p) scripts))
    ≡ cond b 1 0 + length (filter (λ (s : PlainScript). s.port == p) scripts)) [
      | true ↦ omega arith
      | false ↦ omega arith
    ] in
    omega (arith, rest, cons, here)

abbrev pub on_this : ℕ → List PlainScript → List PlainScript
on_this p scripts = filter (λ s. s.port == p) scripts

abbrev pub name_of : PlainScript → List ℕ
name_of s = s.name

other_by : (one other : List ℕ) (b : Bool) → bytes_eq other one ≡ b → bytes_eq one other ≡ false → b ≡ false
other_by one other true e h =
    absurd (let same = (bytes_eq-Decides other one).0 e in let yes = (bytes_eq-Decides one other).1 (sym same) in cc)
other_by one other false e h = refl

either_false : (a b : Bool) → (a || b) ≡ false → (a ≡ false) × (b ≡ false)
either_false true b h = cc
either_false false b h = (refl, h)

other_name : (one other : List ℕ) → bytes_eq one other ≡ false → bytes_eq other one ≡ false
other_name one other h = other_by one other (bytes_eq other one) refl h

named_by : (script : PlainScript) (scripts : List PlainScript) (name : List ℕ) (p : ℕ) (b : Bool)
    → (script.port == p) ≡ b
    → (b && bytes_eq script.name name) ≡ false
    → list_any (bytes_eq name) (map name_of (on_this p scripts)) ≡ false
    → list_any (bytes_eq name) (map name_of (cond b (script ∷ on_this p scripts) (on_this p scripts))) ≡ false
named_by script scripts name p true e h rest =
    let none = other_name script.name name h in
    ap (λ t. t || list_any (bytes_eq name) (map name_of (on_this p scripts))) none ∙ rest
named_by script scripts name p false e h rest = rest

-- a name that no key of the port has
not_named : (scripts : List PlainScript) (name : List ℕ) (p : ℕ)
    → list_any (same_key name p) (map key_of_script scripts) ≡ false
    → list_any (bytes_eq name) (map name_of (on_this p scripts)) ≡ false
not_named [] name p h = refl
not_named (script ∷ scripts) name p h =
    let parts =
    either_false (same_key name p (key_of_script script)) (list_any (same_key name p) (map key_of_script scripts)) h in
    let rest = not_named scripts name p parts.1 in
    named_by script scripts name p (script.port == p) refl parts.0 rest

on_by : (p : ℕ) (first : PlainScript) (before : List PlainScript) (script : PlainScript) (b : Bool)
    → on_this p (before ++ script ∷ []) ≡ on_this p before ++ on_this p (script ∷ [])
    → cond b (first ∷ on_this p (before ++ script ∷ [])) (on_this p (before ++ script ∷ []))
    ≡ cond b (first ∷ on_this p before) (on_this p before) ++ on_this p (script ∷ [])
on_by p first before script true e = ap (λ (xs : List PlainScript). first ∷ xs) e
on_by p first before script false e = e

abbrev pub names_from : List (List ℕ) → List PlainScript → List (List ℕ)
names_from names scripts = fold (λ names s. with_name names s.name) names scripts

on-append : (p : ℕ) (before : List PlainScript) (script : PlainScript)
    → on_this p (before ++ script ∷ []) ≡ on_this p before ++ on_this p (script ∷ [])
on-append p [] script = refl
on-append p (first ∷ before) script = on_by p first before script (first.port == p) (on-append p before script)

own_by : (script : PlainScript) (scripts before : List PlainScript) (p : ℕ) (b : Bool)
    → (script.port == p) ≡ b
    → list_any (same_key script.name script.port) (map key_of_script before) ≡ false
    → on_this p (before ++ script ∷ []) ≡ on_this p before ++ cond b (script ∷ []) []
    → names_from (map name_of (on_this p (before ++ script ∷ []))) (on_this p scripts)
    ≡ map name_of (on_this p (before ++ script ∷ [])) ++ map name_of (on_this p scripts)
    → names_from (map name_of (on_this p before)) (cond b (script ∷ on_this p scripts) (on_this p scripts))
    ≡ map name_of (on_this p before) ++ map name_of (cond b (script ∷ on_this p scripts) (on_this p scripts))
own_by script scripts before p true e free here rest =
    let port = eqb-true script.port p e in
    let none : list_any (bytes_eq script.name) (map name_of (on_this p before)) ≡ false =
    not_named before script.name p
    (subst (λ (q : ℕ). list_any (same_key script.name q) (map key_of_script before) ≡ false) port free) in
    let named : map name_of (on_this p (before ++ script ∷ [])) ≡ map name_of (on_this p before) ++ script.name ∷ [] =
    ap (map name_of) here ∙ map-append name_of (on_this p before) (script ∷ []) in
    ap (λ (t : Bool). names_from
    (cond t (map name_of (on_this p before)) (map name_of (on_this p before) ++ script.name ∷ [])) (on_this p scripts))
    none
    ∙ ap (λ (ns : List (List ℕ)). names_from ns (on_this p scripts)) (sym named) ∙ rest
    ∙ ap (λ (ns : List (List ℕ)). ns ++ map name_of (on_this p scripts)) named
    ∙ append_assoc (map name_of (on_this p before)) (script.name ∷ []) (map name_of (on_this p scripts))
own_by script scripts before p false e free here rest =
    let same : on_this p (before ++ script ∷ []) ≡ on_this p before = here ∙ append-nil (on_this p before) in
    subst (λ (xs : List PlainScript).
    names_from (map name_of xs) (on_this p scripts) ≡ map name_of xs ++ map name_of (on_this p scripts)) same rest

-- the names of a port's callers are their names, one by one
pub own_names : (scripts before : List PlainScript) (p : ℕ)
    → CallersFit (map key_of_script before) (map key_of_script scripts)
    → names_from (map name_of (on_this p before)) (on_this p scripts)
    ≡ map name_of (on_this p before) ++ map name_of (on_this p scripts)
own_names [] before p fit = sym (append-nil (map name_of (on_this p before)))
own_names (script ∷ scripts) before p fit =
    let keys = map-append key_of_script before (script ∷ []) in
    let fit' : CallersFit (map key_of_script (before ++ script ∷ [])) (map key_of_script scripts) =
    subst (λ (ks : List PlainKey). CallersFit ks (map key_of_script scripts)) (sym keys) fit.2 in
    let rest = own_names scripts (before ++ script ∷ []) p fit' in
    own_by script scripts before p (script.port == p) refl fit.0 (on-append p before script) rest
