-- Scripts by their names, and how many calls they have.
use Rattle.std.specs.Prelude.{filter, slice_get, sum_by}
use Rattle.std.proofs.Common.{◌≡◌, ℕ, zero, suc, ◌+◌, ◌-◌, ◌<◌, ◌≤◌, ◌==◌, Bool, true, false, ◌||◌, cond, if◌then◌else◌}
use Rattle.std.proofs.Common.{List, [], ◌∷◌, ◌++◌, Option, None, Some, length, take, drop, get_or, refl, sym, ◌∙◌, ap}
use Rattle.std.proofs.Common.{arith, length-append, append_assoc}
use Rattle.std.specs.List.{list_any, position_from}
use Rattle.std.specs.Str.{bytes_eq}
use Rattle.std.proofs.lemmas.Bool.{false≢true, or_left}
use Rattle.std.proofs.lemmas.List.Elements.{All-get_or}
use Rattle.std.proofs.lemmas.List.Folds.{list_any-append}
use Rattle.std.proofs.lemmas.List.Sums.{sum_by-cons}
use Rattle.std.proofs.lemmas.Option.{slice_get-get_or}
use Rattle.std.proofs.lemmas.List.Quantifiers.{position-Some}
use Rattle.std.proofs.lemmas.Iterator.Adapters.{position_from-zero}
use Rattle.std.proofs.lemmas.Slice.Eq.{bytes_eq-Decides}
use Rattle.tty_base.specs.Sizes.{MOST_STEPS}
use Rattle.tty_calls.specs.Plain.{PlainCall}
use Rattle.tty_calls.specs.Sessions.{PlainScript, PlainPhase, PlainSession, scripts_on, scripts_over, number_in}
use Rattle.tty_calls.specs.Sessions.{calls_of}
use Rattle.tty_calls.specs.Limits.{IsPhaseWithin, IsWithinLimits, call_count}
use Rattle.legal_runs.specs.Legal.{phase_at, name_at, has_script, first_step}
use Rattle.legal_runs.proofs.NameLemmas.{calls_append, first_next}

abbrev pub is_of : ℕ → PlainScript → Bool
is_of p s = s.port == p

pub has_append : (xs ys : List PlainScript) (name : Option (List ℕ))
    → has_script (xs ++ ys) name ≡ (has_script xs name || has_script ys name)
has_append xs ys None = refl
has_append xs ys (Some name) = list_any-append (λ s. bytes_eq s.name name) xs ys

-- without a script there are no calls
pub no_calls : (xs : List PlainScript) (name : Option (List ℕ)) → has_script xs name ≡ false → calls_of xs name ≡ []
no_calls xs None none = refl
no_calls [] (Some name) none = refl
no_calls (x ∷ xs) (Some name) none = either (bytes_eq x.name name) refl (no_calls xs (Some name))
  where
    either : (b : Bool)
        → bytes_eq x.name name ≡ b
        → (has_script xs (Some name) ≡ false → calls_of xs (Some name) ≡ [])
        → calls_of (x ∷ xs) (Some name) ≡ []
    either true is rest =
        absurd (false≢true (sym none ∙ or_left (bytes_eq x.name name) (list_any (λ s. bytes_eq s.name name) xs) is))
    either false is rest =
        ap (λ b. (if b then x.calls else []) ++ calls_of xs (Some name)) is
        ∙ rest (sym (ap (λ b. b || list_any (λ s. bytes_eq s.name name) xs) is) ∙ none)

pub phase_within : (session : PlainSession) (k : ℕ)
    → IsWithinLimits session
    → k < length session.phases
    → IsPhaseWithin session.ports (phase_at session k)
phase_within session k limits lt = All-get_or (IsPhaseWithin session.ports) session.phases k
    (record { lines = []; ticks = []; callers = [] }) lt limits.phases

calls_few : (p : ℕ) (scripts : List PlainScript) (name : Option (List ℕ))
    → length (calls_of (filter (is_of p) scripts) name) ≤ sum_by (λ s. length s.calls) scripts
calls_few p scripts None = omega arith
calls_few p [] (Some name) = omega arith
calls_few p (x ∷ xs) (Some name) =
    let rest = calls_few p xs (Some name) in
    let all = sum_by-cons (λ (s : PlainScript). length s.calls) x xs in
    either (is_of p x) (bytes_eq x.name name) rest all
  where
    few : (b : Bool) → length (if b then x.calls else []) ≤ length x.calls
    few true = omega arith
    few false = omega arith

    either : (b d : Bool)
        → length (calls_of (filter (is_of p) xs) (Some name)) ≤ sum_by (λ s. length s.calls) xs
        → sum_by (λ s. length s.calls) (x ∷ xs) ≡ length x.calls + sum_by (λ s. length s.calls) xs
        → length (calls_of (cond b (x ∷ filter (is_of p) xs) (filter (is_of p) xs)) (Some name))
        ≤ sum_by (λ s. length s.calls) (x ∷ xs)
    either true d rest all =
        omega (
          arith,
          few (bytes_eq x.name name),
          length-append (if bytes_eq x.name name then x.calls else []) (calls_of (filter (is_of p) xs) (Some name)),
        )
    either false d rest all = omega arith

over_few : (p : ℕ) (phases : List PlainPhase) (name : Option (List ℕ))
    → length (calls_of (scripts_over p phases) name) ≤ call_count phases
over_few p [] None = omega arith
over_few p [] (Some name) = omega arith
over_few p (x ∷ xs) name =
    omega (
      arith,
      ap (λ (cs : List PlainCall). length cs) (calls_append (scripts_on p x) (scripts_over p xs) name),
      length-append (calls_of (scripts_on p x) name) (calls_of (scripts_over p xs) name),
      calls_few p x.callers name,
      over_few p xs name,
      sum_by-cons (λ (phase : PlainPhase). sum_by (λ s. length s.calls) phase.callers) x xs,
    )

over_split : (p : ℕ) (phases : List PlainPhase) (k : ℕ)
    → scripts_over p phases ≡ scripts_over p (take k phases) ++ scripts_over p (drop k phases)
over_split p phases zero = refl
over_split p [] (suc k) = refl
over_split p (x ∷ xs) (suc k) =
    ap (λ (ss : List PlainScript). scripts_on p x ++ ss) (over_split p xs k)
    ∙ sym (append_assoc (scripts_on p x) (scripts_over p (take k xs)) (scripts_over p (drop k xs)))

pub first_few : (p : ℕ) (session : PlainSession) (k c : ℕ) → IsWithinLimits session
    → first_step p session k c ≤ MOST_STEPS
first_few p session k c limits =
    let name = name_at p session c in
    let front = scripts_over p (take k session.phases) in
    let rest = scripts_over p (drop k session.phases) in
    let all : scripts_over p session.phases ≡ front ++ rest = over_split p session.phases k in
    omega (
      arith,
      over_few p session.phases name,
      limits.few_calls,
      ap (λ (ss : List PlainScript). length (calls_of ss name)) all,
      ap (λ (cs : List PlainCall). length cs) (calls_append front rest name),
      length-append (calls_of front name) (calls_of rest name),
    )

-- a number is the place of its name, where it is there
place_from : (name : List ℕ) (i : ℕ) (names : List (List ℕ)) (c : ℕ)
    → slice_get names c ≡ Some name
    → position_from (bytes_eq name) i names ≡ None
    → ⊥
place_from name i [] c at none = cc
place_from name i (n ∷ ns) c at none =
    either (bytes_eq name n) refl c at (λ d there. place_from name (i + 1) ns d there)
  where
    either : (b : Bool)
        → bytes_eq name n ≡ b
        → (d : ℕ)
        → slice_get (n ∷ ns) d ≡ Some name
        → ((e : ℕ) → slice_get ns e ≡ Some name → position_from (bytes_eq name) (i + 1) ns ≡ None → ⊥)
        → ⊥
    either true is d there later = (let found : Some i ≡ None =
        sym (ap (λ b. cond b (Some i) (position_from (bytes_eq name) (i + 1) ns)) is) ∙ none in
        cc)
    either false other zero here later =
        (let same : name ≡ n = cc in false≢true (sym other ∙ (bytes_eq-Decides name n).1 same))
    either false other (suc d) there later =
        later d there (sym (ap (λ b. cond b (Some i) (position_from (bytes_eq name) (i + 1) ns)) other) ∙ none)

pub nowhere : (names : List (List ℕ)) (name : List ℕ) (c : ℕ)
    → number_in names name ≡ None
    → slice_get names c ≡ Some name
    → ⊥
nowhere names name c none at = place_from name 0 names c at (sym (position_from-zero (bytes_eq name) names) ∙ none)

pub at_number : (names : List (List ℕ)) (name : List ℕ) (c : ℕ)
    → number_in names name ≡ Some c
    → slice_get names c ≡ Some name
at_number names name c is =
    let place = position-Some (bytes_eq name) names c [] is in
    slice_get-get_or names c [] place.0 ∙ ap (λ n. Some n) (sym ((bytes_eq-Decides name (get_or names c [])).0 place.1))

-- a caller without a script has the same step next in the phase after it
pub first_stays : (p : ℕ) (session : PlainSession) (k c : ℕ)
    → k < length session.phases
    → has_script (scripts_on p (phase_at session k)) (name_at p session c) ≡ false
    → first_step p session (k + 1) c ≡ first_step p session k c
first_stays p session k c lt none =
    omega (
      arith,
      first_next p session k c lt,
      ap (λ (cs : List PlainCall). length cs) (no_calls (scripts_on p (phase_at session k)) (name_at p session c) none),
    )
