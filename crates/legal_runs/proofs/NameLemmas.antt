-- Callers by their names, and their calls by phase.
use Rattle.std.proofs.Common.{◌≡◌, ◌⊎◌, inl, inr, ℕ, zero, suc, ◌+◌, ◌<◌, ◌≤◌, Bool, true, false}
use Rattle.std.proofs.Common.{if◌then◌else◌, List, [], ◌∷◌, ◌++◌, Option, None, Some, length, take}
use Rattle.std.proofs.Common.{drop, map, refl, sym, ◌∙◌, ap, arith, append-nil, length-append}
use Rattle.std.specs.Prelude.{slice_get, fold, sum}
use Rattle.std.specs.List.{list_any}
use Rattle.std.specs.Str.{bytes_eq}
use Rattle.std.proofs.lemmas.Bool.{false≢true, or_left, or_right}
use Rattle.std.proofs.lemmas.List.{take_more, take-append-drop}
use Rattle.std.proofs.lemmas.List.Sums.{sum_by-cons}
use Rattle.std.proofs.lemmas.Grind.{flat_map-append}
use Rattle.std.proofs.lemmas.Slice.Eq.{bytes_eq-Decides}
use Rattle.tty_calls.specs.Plain.{PlainCall}
use Rattle.tty_calls.specs.Sessions.{PlainScript, PlainPhase, PlainSession, scripts_on}
use Rattle.tty_calls.specs.Sessions.{scripts_over, with_name, names_of, calls_of, call_at}
use Rattle.legal_runs.specs.Legal.{phase_at, name_at, first_step, steps_in}

pub get_append : {X : Type 0} (xs ys : List X) (i : ℕ) (x : X)
    → slice_get xs i ≡ Some x
    → slice_get (xs ++ ys) i ≡ Some x
get_append [] ys i x h = absurd (cc)
get_append (y ∷ xs) ys zero x h = h
get_append (y ∷ xs) ys (suc i) x h = get_append xs ys i x h

pub get_past : {X : Type 0} (xs ys : List X) (j i : ℕ) → j ≡ length xs + i → slice_get (xs ++ ys) j ≡ slice_get ys i
get_past [] ys j i e = let same : j ≡ i = omega (arith, e) in ap (λ n. slice_get ys n) same
get_past (x ∷ xs) ys zero i e = absurd (omega (arith, e))
get_past (x ∷ xs) ys (suc j) i e = get_past xs ys j i (omega (arith, e))

pub last_cases : (ns : List (List ℕ)) (name : List ℕ) (c : ℕ) (x : List ℕ)
    → slice_get (ns ++ name ∷ []) c ≡ Some x
    → (slice_get ns c ≡ Some x) ⊎ ((c ≡ length ns) × (name ≡ x))
last_cases [] name zero x h = inr (refl, cc)
last_cases [] name (suc c) x h = absurd (cc)
last_cases (y ∷ ns) name zero x h = inl h
last_cases (y ∷ ns) name (suc c) x h =
    elim (last_cases ns name c x h) [ inl p ↦ inl p | inr p ↦ inr (ap (λ n. suc n) p.0, p.1) ]

pub same_name : (name : List ℕ) → bytes_eq name name ≡ true
same_name name = (bytes_eq-Decides name name).1 refl

pub named_keeps : (b : Bool) (ns : List (List ℕ)) (name : List ℕ) (c : ℕ) (x : List ℕ)
    → slice_get ns c ≡ Some x
    → slice_get (if b then ns else ns ++ name ∷ []) c ≡ Some x
named_keeps true ns name c x h = h
named_keeps false ns name c x h = get_append ns (name ∷ []) c x h

pub names_keep : (scripts : List PlainScript) (ns : List (List ℕ)) (c : ℕ) (x : List ℕ)
    → slice_get ns c ≡ Some x
    → slice_get (fold (λ names s. with_name names s.name) ns scripts) c ≡ Some x
names_keep [] ns c x h = h
names_keep (s ∷ ss) ns c x h =
    names_keep ss (with_name ns s.name) c x (named_keeps (list_any (bytes_eq s.name) ns) ns s.name c x h)

pub record Distinct (ns : List (List ℕ)) : Type 0 where
  pub one_place : (c d : ℕ) (x : List ℕ) → slice_get ns c ≡ Some x → slice_get ns d ≡ Some x → c ≡ d

pub any_at : (ns : List (List ℕ)) (name : List ℕ) (c : ℕ)
    → slice_get ns c ≡ Some name
    → list_any (bytes_eq name) ns ≡ true
any_at [] name c h = absurd (cc)
any_at (y ∷ ns) name zero h =
    let same : name ≡ y = cc in
    or_left (bytes_eq name y) (list_any (bytes_eq name) ns) ((bytes_eq-Decides name y).1 same)
any_at (y ∷ ns) name (suc c) h = or_right (bytes_eq name y) (list_any (bytes_eq name) ns) (any_at ns name c h)

pub not_there : (ns : List (List ℕ)) (name : List ℕ) (c : ℕ)
    → list_any (bytes_eq name) ns ≡ false
    → slice_get ns c ≡ Some name
    → ⊥
not_there ns name c none h = false≢true (sym none ∙ any_at ns name c h)

pub two_places : (ns : List (List ℕ)) (name : List ℕ) (c d : ℕ) (x : List ℕ)
    → Distinct ns
    → list_any (bytes_eq name) ns ≡ false
    → (slice_get ns c ≡ Some x) ⊎ ((c ≡ length ns) × (name ≡ x))
    → (slice_get ns d ≡ Some x) ⊎ ((d ≡ length ns) × (name ≡ x))
    → c ≡ d
two_places ns name c d x h none (inl p) (inl q) = h.one_place c d x p q
two_places ns name c d x h none (inl p) (inr q) = absurd (not_there ns name c none (p ∙ ap (λ y. Some y) (sym q.1)))
two_places ns name c d x h none (inr p) (inl q) = absurd (not_there ns name d none (q ∙ ap (λ y. Some y) (sym p.1)))
two_places ns name c d x h none (inr p) (inr q) = p.0 ∙ sym q.0

pub named_distinct : (b : Bool) (ns : List (List ℕ)) (name : List ℕ)
    → list_any (bytes_eq name) ns ≡ b
    → Distinct ns
    → Distinct (if b then ns else ns ++ name ∷ [])
named_distinct true ns name is h = h
named_distinct false ns name is h = record {
  one_place = λ c d x p q. two_places ns name c d x h is (last_cases ns name c x p) (last_cases ns name d x q);
}

pub names_distinct : (scripts : List PlainScript) (ns : List (List ℕ))
    → Distinct ns
    → Distinct (fold (λ names s. with_name names s.name) ns scripts)
names_distinct [] ns h = h
names_distinct (s ∷ ss) ns h =
    names_distinct ss (with_name ns s.name) (named_distinct (list_any (bytes_eq s.name) ns) ns s.name refl h)

pub all_distinct : (scripts : List PlainScript) → Distinct (names_of scripts)
all_distinct scripts = names_distinct scripts [] (record { one_place = λ c d x p q. absurd (cc) })

pub named_few : (b : Bool) (ns : List (List ℕ)) (name : List ℕ)
    → length (if b then ns else ns ++ name ∷ []) ≤ length ns + 1
named_few true ns name = omega arith
named_few false ns name = omega (arith, length-append ns (name ∷ []))

pub names_few : (scripts : List PlainScript) (ns : List (List ℕ))
    → length (fold (λ names s. with_name names s.name) ns scripts) ≤ length ns + length scripts
names_few [] ns = omega arith
names_few (s ∷ ss) ns =
    omega (arith, names_few ss (with_name ns s.name), named_few (list_any (bytes_eq s.name) ns) ns s.name)

pub calls_append : (xs ys : List PlainScript) (name : Option (List ℕ))
    → calls_of (xs ++ ys) name ≡ calls_of xs name ++ calls_of ys name
calls_append xs ys None = refl
calls_append xs ys (Some name) = flat_map-append (λ s. if bytes_eq s.name name then s.calls else []) xs ys

pub over_next : (p : ℕ) (s : PlainSession) (k : ℕ)
    → k < length s.phases
    → scripts_over p (take (k + 1) s.phases) ≡ scripts_over p (take k s.phases) ++ scripts_on p (phase_at s k)
over_next p s k h =
    ap (scripts_over p) (take_more s.phases k (record { lines = []; ticks = []; callers = [] }) h)
    ∙ flat_map-append (scripts_on p) (take k s.phases) (phase_at s k ∷ [])
    ∙ ap (λ (x : List PlainScript). scripts_over p (take k s.phases) ++ x) (append-nil (scripts_on p (phase_at s k)))

pub over_all : (p : ℕ) (s : PlainSession) (k : ℕ)
    → k < length s.phases
    → scripts_over p s.phases ≡ scripts_over p (take (k + 1) s.phases) ++ scripts_over p (drop (k + 1) s.phases)
over_all p s k h =
    ap (scripts_over p) (sym (take-append-drop (k + 1) s.phases))
    ∙ flat_map-append (scripts_on p) (take (k + 1) s.phases) (drop (k + 1) s.phases)

pub first_next : (p : ℕ) (s : PlainSession) (k c : ℕ)
    → k < length s.phases
    → first_step p s (k + 1) c ≡ first_step p s k c + steps_in p s k c
first_next p s k c h =
    ap (λ (x : List PlainScript). length (calls_of x (name_at p s c))) (over_next p s k h)
    ∙ ap (λ (x : List PlainCall). length x)
    (calls_append (scripts_over p (take k s.phases)) (scripts_on p (phase_at s k)) (name_at p s c))
    ∙ length-append (calls_of (scripts_over p (take k s.phases)) (name_at p s c))
    (calls_of (scripts_on p (phase_at s k)) (name_at p s c))

pub call_of_phase : (p : ℕ) (s : PlainSession) (k c i : ℕ) (call : PlainCall)
    → k < length s.phases
    → slice_get (calls_of (scripts_on p (phase_at s k)) (name_at p s c)) i ≡ Some call
    → call_at p s c (first_step p s k c + i) ≡ Some call
call_of_phase p s k c i call within h =
    let name : Option (List ℕ) = name_at p s c in
    let first : List PlainCall = calls_of (scripts_over p (take k s.phases)) name in
    let own : List PlainCall = calls_of (scripts_on p (phase_at s k)) name in
    let later : List PlainCall = calls_of (scripts_over p (drop (k + 1) s.phases)) name in
    let all : calls_of (scripts_over p s.phases) name ≡ (first ++ own) ++ later =
    ap (λ (x : List PlainScript). calls_of x name) (over_all p s k within)
    ∙ calls_append (scripts_over p (take (k + 1) s.phases)) (scripts_over p (drop (k + 1) s.phases)) name
    ∙ ap (λ (x : List PlainCall). x ++ later)
    (ap (λ (x : List PlainScript). calls_of x name) (over_next p s k within)
    ∙ calls_append (scripts_over p (take k s.phases)) (scripts_on p (phase_at s k)) name) in
    ap (λ (x : List PlainCall). slice_get x (first_step p s k c + i)) all
    ∙ get_append (first ++ own) later (first_step p s k c + i) call
    (get_past first own (first_step p s k c + i) i refl ∙ h)

pub length_over : (p : ℕ) (phases : List PlainPhase)
    → length (scripts_over p phases) ≡ sum (map (λ phase. length (scripts_on p phase)) phases)
length_over p [] = refl
length_over p (x ∷ xs) =
    length-append (scripts_on p x) (scripts_over p xs) ∙ ap (λ n. length (scripts_on p x) + n) (length_over p xs)
    ∙ sym (sum_by-cons (λ n. n) (length (scripts_on p x)) (map (λ phase. length (scripts_on p phase)) xs))

pub other_way : (a b : List ℕ) (c : Bool) → bytes_eq a b ≡ c → bytes_eq b a ≡ c
other_way a b true h = (bytes_eq-Decides b a).1 (sym ((bytes_eq-Decides a b).0 h))
other_way a b false h =
    not_true (bytes_eq b a) (λ k. false≢true (sym h ∙ (bytes_eq-Decides a b).1 (sym ((bytes_eq-Decides b a).0 k))))
  where
    not_true : (x : Bool) → (x ≡ true → ⊥) → x ≡ false
    not_true true no_way = absurd (no_way refl)
    not_true false no_way = refl

pub no_calls_yet : (name : Option (List ℕ)) → length (calls_of [] name) ≡ 0
no_calls_yet None = refl
no_calls_yet (Some name) = refl
