-- Where as many callers are over as a phase has, they are the callers of the phase.
use Rattle.std.proofs.Common.{◌≡◌, ℕ, zero, suc, ◌+◌, ◌<◌, ◌≤◌, Bool, true, false, ◌||◌, cond, List}
use Rattle.std.proofs.Common.{[], ◌∷◌, Option, None, Some, length, get_or, refl, sym, ap, subst, arith}
use Rattle.std.specs.Prelude.{slice_get, count_by}
use Rattle.std.specs.List.{list_any}
use Rattle.std.specs.Str.{bytes_eq}
use Rattle.std.proofs.lemmas.Bool.{false≢true}
use Rattle.std.proofs.lemmas.List.Sums.{sum_by-cons}
use Rattle.std.proofs.lemmas.Slice.Eq.{bytes_eq-Decides}
use Rattle.tty_calls.specs.Sessions.{PlainScript}
use Rattle.tty_terminal.specs.declared.callers.CallerState.{CallerState}
use Rattle.tty_terminal.specs.Terminals.{idle_caller, is_over}
use Rattle.legal_runs.specs.Legal.{has_script}
use Rattle.legal_runs.proofs.NameLemmas.{Distinct}

abbrev bit : Bool → ℕ
bit b = cond b 1 0

-- how many of the first numbers pass
abbrev hits : (ℕ → Bool) → ℕ → ℕ
hits f zero = 0
hits f (suc n) = bit (f 0) + hits (λ c. f (suc c)) n

bit_most : (b d : Bool) → (b ≡ true → d ≡ true) → bit b ≤ bit d
bit_most true d h = subst (λ (x : Bool). 1 ≤ bit x) (sym (h refl)) (omega arith)
bit_most false d h = omega arith

over_cons : (s : CallerState) (cs : List CallerState) → count_by is_over (s ∷ cs) ≡ bit s.over + count_by is_over cs
over_cons s cs = sum_by-cons (λ (x : CallerState). cond (is_over x) 1 0) s cs

over_hits : (f : ℕ → Bool) (cs : List CallerState)
    → ((c : ℕ) → (get_or cs c idle_caller).over ≡ true → f c ≡ true)
    → count_by is_over cs ≤ hits f (length cs)
over_hits f [] h = omega arith
over_hits f (s ∷ cs) h =
    omega (arith, over_cons s cs, bit_most s.over (f 0) (h 0), over_hits (λ c. f (suc c)) cs (λ c. h (suc c)))

bit_less : (b d : Bool) → b ≡ false → d ≡ true → bit b + 1 ≤ bit d
bit_less b d none some = omega (arith, ap bit none, ap bit some)

over_less : (f : ℕ → Bool) (cs : List CallerState) (c : ℕ)
    → ((d : ℕ) → (get_or cs d idle_caller).over ≡ true → f d ≡ true)
    → c < length cs
    → f c ≡ true
    → (get_or cs c idle_caller).over ≡ false
    → count_by is_over cs + 1 ≤ hits f (length cs)
over_less f [] c h lt is not = absurd (omega arith)
over_less f (s ∷ cs) zero h lt is not =
    omega (arith, over_cons s cs, bit_less s.over (f 0) not is, over_hits (λ c. f (suc c)) cs (λ c. h (suc c)))
over_less f (s ∷ cs) (suc c) h lt is not =
    omega (
      arith,
      over_cons s cs,
      bit_most s.over (f 0) (h 0),
      over_less (λ d. f (suc d)) cs c (λ d. h (suc d)) (omega arith) is not,
    )

no_hits : (f : ℕ → Bool) (n : ℕ) → ((c : ℕ) → f c ≡ true → ⊥) → hits f n ≡ 0
no_hits f zero h = refl
no_hits f (suc n) h = omega (arith, none (f 0) (h 0), no_hits (λ c. f (suc c)) n (λ c. h (suc c)))
  where
    none : (b : Bool) → (b ≡ true → ⊥) → bit b ≡ 0
    none true h = absurd (h refl)
    none false h = refl

one_hit : (f : ℕ → Bool) (n : ℕ) → ((c d : ℕ) → f c ≡ true → f d ≡ true → c ≡ d) → hits f n ≤ 1
one_hit f zero h = omega arith
one_hit f (suc n) h = either (f 0) refl (one_hit (λ c. f (suc c)) n (λ c d p q. same c d (h (suc c) (suc d) p q)))
  where
    same : (c d : ℕ) → suc c ≡ suc d → c ≡ d
    same c d e = omega (arith, e)

    either : (b : Bool) → f 0 ≡ b → hits (λ c. f (suc c)) n ≤ 1 → bit (f 0) + hits (λ c. f (suc c)) n ≤ 1
    either true is rest = omega (arith, ap bit is, no_hits (λ c. f (suc c)) n (λ c p. apart c (h 0 (suc c) is p)))
      where
        apart : (c : ℕ) → 0 ≡ suc c → ⊥
        apart c e = omega (arith, e)
    either false is rest = omega (arith, ap bit is, rest)

either_hits : (f g e : ℕ → Bool) (n : ℕ) → ((c : ℕ) → e c ≡ (f c || g c)) → hits e n ≤ hits f n + hits g n
either_hits f g e zero h = omega arith
either_hits f g e (suc n) h = omega (
  arith,
  most (f 0) (g 0),
  ap bit (h 0),
  either_hits (λ c. f (suc c)) (λ c. g (suc c)) (λ c. e (suc c)) n (λ c. h (suc c)),
)
  where
    most : (a b : Bool) → bit (a || b) ≤ bit a + bit b
    most true b = omega arith
    most false b = omega arith

has_cons : (s : PlainScript) (ss : List PlainScript) (name : Option (List ℕ))
    → has_script (s ∷ ss) name ≡ (has_script (s ∷ []) name || has_script ss name)
has_cons s ss None = refl
has_cons s ss (Some name) = either (bytes_eq s.name name)
  where
    either : (b : Bool)
        → (b || list_any (λ x. bytes_eq x.name name) ss) ≡ ((b || false) || list_any (λ x. bytes_eq x.name name) ss)
    either true = refl
    either false = refl

named_by : (s : PlainScript) (name : Option (List ℕ)) → has_script (s ∷ []) name ≡ true → name ≡ Some s.name
named_by s None is = absurd (false≢true is)
named_by s (Some name) is = either (bytes_eq s.name name) refl is
  where
    either : (b : Bool) → bytes_eq s.name name ≡ b → (b || false) ≡ true → Some name ≡ Some s.name
    either true e h = ap (λ n. Some n) (sym ((bytes_eq-Decides s.name name).0 e))
    either false e h = absurd (false≢true h)

-- no more callers have a script than there are scripts
script_hits : (names : List (List ℕ)) (ss : List PlainScript) (n : ℕ)
    → Distinct names
    → hits (λ c. has_script ss (slice_get names c)) n ≤ length ss
script_hits names [] n distinct =
    omega (arith, no_hits (λ c. has_script [] (slice_get names c)) n (λ c is. nobody (slice_get names c) is))
  where
    nobody : (name : Option (List ℕ)) → has_script [] name ≡ true → ⊥
    nobody None is = false≢true is
    nobody (Some name) is = false≢true is
script_hits names (s ∷ ss) n distinct =
    omega (
      arith,
      either_hits (λ c. has_script (s ∷ []) (slice_get names c)) (λ c. has_script ss (slice_get names c))
          (λ c. has_script (s ∷ ss) (slice_get names c)) n (λ c. has_cons s ss (slice_get names c)),
      one_hit (λ c. has_script (s ∷ []) (slice_get names c)) n (λ c d p q.
          distinct.one_place c d s.name (named_by s (slice_get names c) p) (named_by s (slice_get names d) q)),
      script_hits names ss n distinct,
    )

pub all_over : (names : List (List ℕ)) (ss : List PlainScript) (cs : List CallerState) (c : ℕ)
    → Distinct names
    → ((d : ℕ) → (get_or cs d idle_caller).over ≡ true → has_script ss (slice_get names d) ≡ true)
    → length ss ≤ count_by is_over cs
    → c < length cs
    → has_script ss (slice_get names c) ≡ true
    → (get_or cs c idle_caller).over ≡ true
all_over names ss cs c distinct h many lt is = either (get_or cs c idle_caller).over refl
  where
    either : (b : Bool) → (get_or cs c idle_caller).over ≡ b → (get_or cs c idle_caller).over ≡ true
    either true e = e
    either false e =
        absurd (omega (
          arith,
          over_less (λ d. has_script ss (slice_get names d)) cs c h lt is e,
          script_hits names ss (length cs) distinct,
          many,
        ))
