-- Names of callers differ, so that what is summed over the callers of a name is counted once.
use Rattle.std.proofs.Common.{◌≡◌, ℕ, zero, suc, ◌+◌, ◌≤◌, Bool, true, false, ◌||◌, if◌then◌else◌, List}
use Rattle.std.proofs.Common.{[], ◌∷◌, ◌++◌, Option, None, Some, refl, sym, ap, subst, ◌∙◌, arith}
use Rattle.std.specs.Prelude.{slice_get, sum_by, fold}
use Rattle.std.specs.List.{list_any}
use Rattle.std.specs.Str.{bytes_eq}
use Rattle.std.proofs.lemmas.Bool.{false≢true, or_parts}
use Rattle.std.proofs.lemmas.List.Folds.{list_any-append}
use Rattle.std.proofs.lemmas.List.Sums.{sum_by-cons, sum_by-append}
use Rattle.std.proofs.lemmas.Slice.Eq.{bytes_eq-Decides}
use Rattle.tty_calls.specs.Plain.{PlainCall}
use Rattle.tty_calls.specs.Sessions.{PlainScript, PlainPhase, scripts_on, scripts_over}
use Rattle.tty_calls.specs.Sessions.{with_name, names_of, calls_under, calls_of}
use Rattle.legal_runs.specs.Legal.{has_script}
use Rattle.journal_bound.proofs.Totals.{total, total_shift, total_plus, total_none}
use Rattle.legal_runs.proofs.NameLemmas.{other_way}

both_false : (a b : Bool) → a ≡ false → b ≡ false → (a || (b || false)) ≡ false
both_false true b h k = absurd (false≢true (sym h))
both_false false true h k = absurd (false≢true (sym k))
both_false false false h k = refl

-- ---- names

abbrev pub OwnNames : List (List ℕ) → Type 0
OwnNames [] = Unit {0}
OwnNames (n ∷ ns) = (list_any (bytes_eq n) ns ≡ false) × OwnNames ns

own_more : (ns : List (List ℕ)) (name : List ℕ)
    → OwnNames ns
    → list_any (bytes_eq name) ns ≡ false
    → OwnNames (ns ++ name ∷ [])
own_more [] name own none = (refl, tt)
own_more (n ∷ ns) name own none =
    let parts = or_parts (bytes_eq name n) (list_any (bytes_eq name) ns) none in (
      list_any-append (bytes_eq n) ns (name ∷ [])
          ∙ both_false (list_any (bytes_eq n) ns) (bytes_eq n name) own.0 (other_way name n false parts.0),
      own_more ns name own.1 parts.1,
    )

own_with : (b : Bool) (ns : List (List ℕ)) (name : List ℕ)
    → list_any (bytes_eq name) ns ≡ b
    → OwnNames ns
    → OwnNames (if b then ns else ns ++ name ∷ [])
own_with true ns name e own = own
own_with false ns name e own = own_more ns name own e

own_from : (ss : List PlainScript) (ns : List (List ℕ))
    → OwnNames ns
    → OwnNames (fold (λ names s. with_name names s.name) ns ss)
own_from [] ns own = own
own_from (s ∷ ss) ns own =
    own_from ss (with_name ns s.name) (own_with (list_any (bytes_eq s.name) ns) ns s.name refl own)

pub names_own : (ss : List PlainScript) → OwnNames (names_of ss)
names_own ss = own_from ss [] tt

-- ---- what the scripts of a name are worth

abbrev pub worth : Option (List ℕ) → PlainScript → ℕ → ℕ
worth None s x = 0
worth (Some name) s x = if bytes_eq s.name name then x else 0

abbrev pub worth_of : (PlainScript → ℕ) → List PlainScript → Option (List ℕ) → ℕ
worth_of w [] o = 0
worth_of w (s ∷ ss) o = worth o s (w s) + worth_of w ss o

no_name : (ns : List (List ℕ)) (s : PlainScript) (x c : ℕ)
    → list_any (bytes_eq s.name) ns ≡ false
    → worth (slice_get ns c) s x ≡ 0
no_name [] s x c none = refl
no_name (n ∷ ns) s x zero none =
    ap (λ (b : Bool). if b then x else 0) (or_parts (bytes_eq s.name n) (list_any (bytes_eq s.name) ns) none).0
no_name (n ∷ ns) s x (suc c) none =
    no_name ns s x c (or_parts (bytes_eq s.name n) (list_any (bytes_eq s.name) ns) none).1

-- a script is of one name at most
one_name : (ns : List (List ℕ)) (s : PlainScript) (x n : ℕ)
    → OwnNames ns
    → total (λ c. worth (slice_get ns c) s x) n ≤ x
one_name [] s x n own = omega (arith, total_none (λ c. worth (slice_get [] c) s x) n (λ c. refl))
one_name (m ∷ ns) s x zero own = omega arith
one_name (m ∷ ns) s x (suc n) own =
    let first : total (λ c. worth (slice_get (m ∷ ns) c) s x) (suc n)
    ≡ worth (Some m) s x + total (λ c. worth (slice_get ns c) s x) n =
    total_shift (λ c. worth (slice_get (m ∷ ns) c) s x) n in
    let rest = by_first (bytes_eq s.name m) refl (one_name ns s x n own.1) in
    omega (arith, first, rest)
  where
    by_first : (b : Bool)
        → bytes_eq s.name m ≡ b
        → total (λ c. worth (slice_get ns c) s x) n ≤ x
        → worth (Some m) s x + total (λ c. worth (slice_get ns c) s x) n ≤ x
    by_first true e few =
        let here : worth (Some m) s x ≡ x = ap (λ (b : Bool). if b then x else 0) e in
        let none : list_any (bytes_eq s.name) ns ≡ false =
        subst (λ (name : List ℕ). list_any (bytes_eq name) ns ≡ false) (sym ((bytes_eq-Decides s.name m).0 e)) own.0 in
        omega (arith, here, total_none (λ c. worth (slice_get ns c) s x) n (λ c. no_name ns s x c none))
    by_first false e few =
        let here : worth (Some m) s x ≡ 0 = ap (λ (b : Bool). if b then x else 0) e in
        omega (arith, here, few)

-- what is worth something under a name is counted once
pub worth_once : (ns : List (List ℕ)) (w : PlainScript → ℕ) (ss : List PlainScript) (n : ℕ)
    → OwnNames ns
    → total (λ c. worth_of w ss (slice_get ns c)) n ≤ sum_by w ss
worth_once ns w [] n own = omega (arith, total_none (λ c. worth_of w [] (slice_get ns c)) n (λ c. refl))
worth_once ns w (s ∷ ss) n own =
    let both : total (λ c. worth_of w (s ∷ ss) (slice_get ns c)) n
    ≡ total (λ c. worth (slice_get ns c) s (w s)) n + total (λ c. worth_of w ss (slice_get ns c)) n =
    total_plus (λ c. worth (slice_get ns c) s (w s)) (λ c. worth_of w ss (slice_get ns c)) n in
    omega (arith, both, one_name ns s (w s) n own, worth_once ns w ss n own, sum_by-cons w s ss)

pub worth_append : (w : PlainScript → ℕ) (xs ys : List PlainScript) (o : Option (List ℕ))
    → worth_of w (xs ++ ys) o ≡ worth_of w xs o + worth_of w ys o
worth_append w [] ys o = omega arith
worth_append w (x ∷ xs) ys o = omega (arith, worth_append w xs ys o)

-- phase by phase
pub worth_over : (w : PlainScript → ℕ) (p : ℕ) (phases : List PlainPhase) (o : Option (List ℕ))
    → sum_by (λ phase. worth_of w (scripts_on p phase) o) phases ≡ worth_of w (scripts_over p phases) o
worth_over w p [] o = refl
worth_over w p (x ∷ xs) o =
    omega (
      arith,
      sum_by-cons (λ (phase : PlainPhase). worth_of w (scripts_on p phase) o) x xs,
      worth_append w (scripts_on p x) (scripts_over p xs) o,
      worth_over w p xs o,
    )

-- of a caller's calls
unnamed : (w : PlainScript → ℕ) (ss : List PlainScript) → worth_of w ss None ≡ 0
unnamed w [] = refl
unnamed w (s ∷ ss) = omega (arith, unnamed w ss)

of_named : (b : Bool) (w : PlainCall → ℕ) (xs : List PlainCall)
    → sum_by w (if b then xs else []) ≡ (if b then sum_by w xs else 0)
of_named true w xs = refl
of_named false w xs = refl

calls_under_worth : (w : PlainCall → ℕ) (name : List ℕ) (ss : List PlainScript)
    → sum_by w (calls_under name ss) ≡ worth_of (λ s. sum_by w s.calls) ss (Some name)
calls_under_worth w name [] = refl
calls_under_worth w name (s ∷ ss) =
    let parts : sum_by w (calls_under name (s ∷ ss))
    ≡ sum_by w (if bytes_eq s.name name then s.calls else []) + sum_by w (calls_under name ss) =
    sum_by-append w (if bytes_eq s.name name then s.calls else []) (calls_under name ss) in
    omega (arith, parts, of_named (bytes_eq s.name name) w s.calls, calls_under_worth w name ss)

pub calls_worth : (w : PlainCall → ℕ) (ss : List PlainScript) (o : Option (List ℕ))
    → sum_by w (calls_of ss o) ≡ worth_of (λ s. sum_by w s.calls) ss o
calls_worth w ss None = sym (unnamed (λ s. sum_by w s.calls) ss)
calls_worth w ss (Some name) = calls_under_worth w name ss

-- each script counts one
abbrev pub one_each : PlainScript → ℕ
one_each s = 1

named_once : (ss : List PlainScript) (name : List ℕ)
    → list_any (λ s. bytes_eq s.name name) ss ≡ true
    → 1 ≤ worth_of one_each ss (Some name)
named_once [] name h = absurd (false≢true h)
named_once (s ∷ ss) name h = at_first (bytes_eq s.name name) refl (named_once ss name)
  where
    at_first : (b : Bool)
        → bytes_eq s.name name ≡ b
        → (list_any (λ r. bytes_eq r.name name) ss ≡ true → 1 ≤ worth_of one_each ss (Some name))
        → 1 ≤ worth (Some name) s 1 + worth_of one_each ss (Some name)
    at_first true e rest =
        let here : worth (Some name) s 1 ≡ 1 = ap (λ (b : Bool). if b then 1 else 0) e in
        omega (arith, here)
    at_first false e rest =
        let later : list_any (λ r. bytes_eq r.name name) ss ≡ true =
        subst (λ (b : Bool). (b || list_any (λ r. bytes_eq r.name name) ss) ≡ true) e h in
        omega (arith, rest later)

pub caller_worth : (ss : List PlainScript) (o : Option (List ℕ)) → has_script ss o ≡ true → 1 ≤ worth_of one_each ss o
caller_worth ss None h = absurd (false≢true h)
caller_worth ss (Some name) h = named_once ss name h
