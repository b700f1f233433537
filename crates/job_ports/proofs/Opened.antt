-- The desk of a port at its opening.
use Rattle.std.proofs.Common.{◌≡◌, ◌≤◌, ◌<◌, ◌⊎◌, inl, inr, ℕ, zero, suc, ◌+◌, ◌==◌, Bool, true, false, not}
use Rattle.std.proofs.Common.{cond, List, [], ◌∷◌, ◌++◌, Option, None, Some, length, map, filter, drop}
use Rattle.std.proofs.Common.{if◌then◌else◌, refl, sym, ap, ◌∙◌, subst, arith, append_assoc}
use Rattle.std.specs.Prelude.{nat_lt, replicate, slice_get, slice_index_or, slice_set, unwrap_or}
use Rattle.std.specs.Str.{bytes_eq}
use Rattle.std.specs.List.{position_or_len}
use Rattle.std.proofs.lemmas.Bool.{cases_eq, ltb-false}
use Rattle.std.proofs.lemmas.Bool.Decides.{nat_tests}
use Rattle.std.proofs.lemmas.List.{get_or-set_same, get_or-set_other, length-set}
use Rattle.std.proofs.lemmas.Option.{slice_get_within}
use Rattle.std.proofs.lemmas.Slice.Eq.{bytes_eq-Decides}
use Rattle.tty_calls.specs.Sessions.{number_in}
use Rattle.legal_runs.proofs.ScriptLemmas.{at_number}
use Rattle.job_control.specs.declared.processes.Proc.{Proc}
use Rattle.job_text.specs.declared.sessions.PortProc.{PortProc}
use Rattle.job_text.specs.Sessions.{procs_on, proc_place}
use Rattle.job_ports.specs.Callers.{AreCallers, StandOnce, caller_of, with_proc}

procs_if : (b : Bool) (q : PortProc) (qs : List PortProc)
    → map (λ r. r.proc) (cond b (q ∷ qs) qs) ≡ (if b then q.proc ∷ [] else []) ++ map (λ r. r.proc) qs
procs_if true q qs = refl
procs_if false q qs = refl

next_in : {X : Type 0} (xs : List X) (i : ℕ) (x : X)
    → i < length xs
    → x ≡ slice_index_or xs i x
    → drop i xs ≡ x ∷ drop (i + 1) xs
next_in [] i x lt at = absurd (omega (arith, lt))
next_in (y ∷ ys) zero x lt at = ap (λ z. z ∷ ys) (sym at)
next_in (y ∷ ys) (suc i) x lt at = (let same : suc (i + 1) ≡ suc i + 1 = omega arith in
    next_in ys i x (omega (arith, lt)) at ∙ ap (λ (n : ℕ). x ∷ drop n (y ∷ ys)) same)

pub proc_more : (found new all : List Proc) (p i : ℕ) (procs : List PortProc) (x : PortProc)
    → i < length procs
    → x ≡ slice_index_or procs i x
    → new ≡ found ++ (if x.port == p then x.proc ∷ [] else [])
    → found ++ procs_on p (drop i procs) ≡ all
    → new ++ procs_on p (drop (i + 1) procs) ≡ all
proc_more found new all p i procs x lt at put left =
    let one : List Proc = if x.port == p then x.proc ∷ [] else [] in
    let rest : List PortProc = drop (i + 1) procs in
    ap (λ (l : List Proc). l ++ procs_on p rest) put
    ∙ append_assoc found one (procs_on p rest)
    ∙ ap (λ (l : List Proc). found ++ l) (sym (procs_if (x.port == p) x (filter (λ r. r.port == p) rest)))
    ∙ ap (λ (qs : List PortProc). found ++ procs_on p qs) (sym (next_in procs i x lt at))
    ∙ left

-- ---- places

lt_of : (a b : ℕ) → nat_lt a b ≡ true → a < b
lt_of a b e = grind (arith, nat_tests)

some_then : (b : Bool) (place n : ℕ) → (if b then Some place else None) ≡ Some n → (b ≡ true) × (place ≡ n)
some_then true place n e = (refl, cc)
some_then false place n e = absurd (cc)

pub place_within : (procs : List Proc) (name : List ℕ) (n : ℕ) → proc_place procs name ≡ Some n → n < length procs
place_within procs name n is =
    let test : Proc → Bool = λ proc. bytes_eq proc.name.bytes name in
    let place = position_or_len test procs in
    let found = some_then (nat_lt place (length procs)) place n is in
    subst (λ (m : ℕ). m < length procs) found.1 (lt_of place (length procs) found.0)

-- ---- callers

abbrev place_from : List Proc → List ℕ → ℕ
place_from procs name = position_or_len (λ (proc : Proc). bytes_eq proc.name.bytes name) procs

either : (b : Bool) → (b ≡ true) ⊎ (b ≡ false)
either true = inl refl
either false = inr refl

-- the places of the processes from one on were noted
pub record AreNoted (procs : List Proc) (names : List (List ℕ)) (left : ℕ) (callers : List ℕ) : Type 0 where
  pub many : length callers ≡ length names
  pub each : (c : ℕ) (name : List ℕ)
      → slice_get names c ≡ Some name
      → slice_index_or callers c 0 ≡ left + place_from (drop left procs) name

all_at : (n x c : ℕ) → c < n → slice_index_or (replicate n x) c 0 ≡ x
all_at zero x c lt = absurd (omega (arith, lt))
all_at (suc n) x zero lt = refl
all_at (suc n) x (suc c) lt = all_at n x c (omega (arith, lt))

-- one process more, which may be a caller's
first_named : (x : Proc) (xs : List Proc) (name : List ℕ)
    → x.name.bytes ≡ name
    → place_from (x ∷ xs) name ≡ 0
first_named x xs name is =
    ap (λ (b : Bool). cond (not b) (1 + place_from xs name) 0)
    (ap (λ (n : List ℕ). bytes_eq n name) is ∙ (bytes_eq-Decides name name).1 refl)

later_named : (x : Proc) (xs : List Proc) (name : List ℕ)
    → (x.name.bytes ≡ name → ⊥)
    → place_from (x ∷ xs) name ≡ 1 + place_from xs name
later_named x xs name other = elim (either (bytes_eq x.name.bytes name)) [
  | inl is ↦ absurd (other ((bytes_eq-Decides x.name.bytes name).0 is))
  | inr ne ↦ ap (λ (b : Bool). cond (not b) (1 + place_from xs name) 0) ne
]

pub one_noted : (procs : List Proc) (names : List (List ℕ)) (left place : ℕ) (old new : List ℕ) (x : Proc)
    → StandOnce names
    → left ≡ place + 1
    → x ≡ slice_index_or procs place x
    → place < length procs
    → new ≡ with_proc old (number_in names x.name.bytes) place
    → AreNoted procs names left old
    → AreNoted procs names place new
one_noted procs names left place old new x once is at lt are h =
    subst (AreNoted procs names place) (sym are) (by_number (number_in names x.name.bytes) refl)
  where
    next : drop place procs ≡ x ∷ drop left procs
    next = next_in procs place x lt at ∙ ap (λ (n : ℕ). x ∷ drop n procs) (sym is)

    others : (c : ℕ) (name : List ℕ)
        → slice_get names c ≡ Some name
        → (x.name.bytes ≡ name → ⊥)
        → slice_index_or old c 0 ≡ place + place_from (drop place procs) name
    others c name named other =
        (let was = h.each c name named in
        let now = ap (λ (ps : List Proc). place_from ps name) next ∙ later_named x (drop left procs) name other in
        omega (arith, is, was, now))

    none_some : (n : ℕ) → None ≡ Some n → ⊥
    none_some n e = absurd (cc)

    some_is : (m n : ℕ) → Some m ≡ Some n → m ≡ n
    some_is m n e = cc

    by_number : (o : Option ℕ) → number_in names x.name.bytes ≡ o → AreNoted procs names place (with_proc old o place)
    by_number None none = record {
      many = h.many;
      each = λ c name named.
          others c name named (λ same. none_some c (sym none ∙ (ap (number_in names) same ∙ once c name named)));
    }
    by_number (Some n) number = record {
      many = length-set old n place ∙ h.many;
      each = λ c name named. elim (cases_eq c n) [
        | inl same ↦
            (let here = ap (λ (m : ℕ). slice_index_or (slice_set old n place) m 0) same
            ∙ get_or-set_same old n place 0
            (omega (arith, h.many, same, slice_get_within names c name named)) in
            let own : x.name.bytes ≡ name =
            name_is (at_number names x.name.bytes n number) (ap (slice_get names) (sym same) ∙ named) in
            let now = ap (λ (ps : List Proc). place_from ps name) next ∙ first_named x (drop left procs) name own in
            omega (arith, here, now))
        | inr other ↦
            get_or-set_other old n c place 0 other
            ∙ others c name named
            (λ same.
            other (some_is c n (sym (once c name named) ∙ (ap (number_in names) (sym same) ∙ number))))
      ];
    }
      where
        name_is : {o : Option (List ℕ)} {a b : List ℕ} → o ≡ Some a → o ≡ Some b → a ≡ b
        name_is p q = cc

-- ---- all were noted

place_most : (procs : List Proc) (name : List ℕ) → place_from procs name ≤ length procs
place_most [] name = omega arith
place_most (x ∷ xs) name = elim (either (bytes_eq x.name.bytes name)) [
  | inl is ↦
      (let here = ap (λ (b : Bool). cond (not b) (1 + place_from xs name) 0) is in omega (arith, here))
  | inr ne ↦
      (let here = ap (λ (b : Bool). cond (not b) (1 + place_from xs name) 0) ne in
      let rest = place_most xs name in
      omega (arith, here, rest))
]

place_or_last : (place n : ℕ) (b : Bool)
    → nat_lt place n ≡ b
    → place ≤ n
    → unwrap_or (if b then Some place else None) n ≡ place
place_or_last place n true is le = refl
place_or_last place n false is le = (let past = ltb-false place n is in omega (arith, past, le))

caller_place : (procs : List Proc) (name : List ℕ) → caller_of procs (Some name) ≡ place_from procs name
caller_place procs name =
    place_or_last (place_from procs name) (length procs) (nat_lt (place_from procs name) (length procs)) refl
    (place_most procs name)

some_at : (xs : List (List ℕ)) (c : ℕ) → c < length xs → (x : List ℕ) × (slice_get xs c ≡ Some x)
some_at [] c lt = absurd (omega (arith, lt))
some_at (x ∷ xs) zero lt = (x, refl)
some_at (x ∷ xs) (suc c) lt = some_at xs c (omega (arith, lt))

pub all_noted : (procs : List Proc) (names : List (List ℕ)) (left : ℕ) (callers : List ℕ)
    → left ≡ 0
    → AreNoted procs names left callers
    → AreCallers procs names (length names) callers
all_noted procs names left callers none h = record {
  many = h.many;
  each = λ c lt.
      (let named = some_at names c lt in
      let all : slice_index_or callers c 0 ≡ place_from procs named.0 =
      h.each c named.0 named.1
      ∙ (ap (λ (n : ℕ). n + place_from (drop n procs) named.0) none ∙ omega arith) in
      all ∙ (sym (caller_place procs named.0) ∙ ap (caller_of procs) (sym named.1)));
}
