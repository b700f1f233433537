-- Which callers have begun a call, entry by entry.
use Rattle.std.proofs.Common.{◌≡◌, ◌<◌, inl, inr, ℕ, zero, suc, ◌+◌, ◌-◌, ◌≤◌, ◌==◌, Bool, true, false, List, [], ◌∷◌}
use Rattle.std.proofs.Common.{◌++◌}
use Rattle.std.proofs.Common.{Some, get_or, if◌then◌else◌, length, drop, flat_map, refl, sym, ap, ◌∙◌, subst, arith}
use Rattle.std.proofs.Common.{append_assoc, append-nil}
use Rattle.std.specs.Prelude.{replicate, slice_get, slice_index_or, slice_set}
use Rattle.std.specs.List.{range_with_len}
use Rattle.std.proofs.lemmas.Bool.{cases_eq, eq-eqb, ne_eqb}
use Rattle.std.proofs.lemmas.List.{get_or-set_same, get_or-set_other, length-set}
use Rattle.tty_calls.specs.declared.journals.Who.{Who}
use Rattle.tty_calls.specs.declared.journals.Who.TheVariants.{Caller, Flusher, Line, Clock, Session}
use Rattle.tty_calls.specs.Plain.{PlainEvent, answered, parted, waited, flushed, ticked, line_ended}
use Rattle.tty_calls.specs.Plain.{clock_ended, caller_ended, phase_ended, hung_up, PlainEntry, is_caller}
use Rattle.tty_terminal.specs.Standing.{Standing, standing_in, standing_after, standing_after_own}
use Rattle.tty_terminal.specs.Standing.{standing_after_other}
use Rattle.derived_session.specs.Begun.{has_begun, begun_own, begun_by, begun_after}
use Rattle.derived_session.proofs.Walking.{next_got}

-- ---- one caller

by_own : (event : PlainEvent) (n : ℕ) (q : Standing) → (standing_after_own event n q).begun ≡ has_begun event q.begun
by_own (answered answer dropped) n q = refl
by_own (parted taken) n q = refl
by_own waited n q = refl
by_own (flushed chars) n q = refl
by_own ticked n q = refl
by_own (line_ended sent) n q = refl
by_own clock_ended n q = refl
by_own caller_ended n q = refl
by_own phase_ended n q = refl
by_own (hung_up dropped) n q = refl

by_other : (event : PlainEvent) (q : Standing) → (standing_after_other event q).begun ≡ q.begun
by_other (answered answer dropped) q = refl
by_other (parted taken) q = refl
by_other waited q = refl
by_other (flushed chars) q = refl
by_other ticked q = refl
by_other (line_ended sent) q = refl
by_other clock_ended q = refl
by_other caller_ended q = refl
by_other phase_ended q = refl
by_other (hung_up dropped) q = refl

abbrev pub begun_then : (c : ℕ) → PlainEntry → Bool → Bool
begun_then c e begun = if is_caller e.who c then has_begun e.event begun else begun

abbrev pub begun_over : (c : ℕ) → List PlainEntry → Bool → Bool
begun_over c [] begun = begun
begun_over c (e ∷ es) begun = begun_over c es (begun_then c e begun)

stands_then : (c : ℕ) (e : PlainEntry) (q : Standing) → (standing_after c e q).begun ≡ begun_then c e q.begun
stands_then c e q = by_who (is_caller e.who c)
  where
    by_who : (b : Bool)
        → (if b then standing_after_own e.event e.generation q else standing_after_other e.event q).begun
        ≡ (if b then has_begun e.event q.begun else q.begun)
    by_who true = by_own e.event e.generation q
    by_who false = by_other e.event q

pub stands_begun : (c : ℕ) (es : List PlainEntry) (q : Standing)
    → (standing_in c es q).begun ≡ begun_over c es q.begun
stands_begun c [] q = refl
stands_begun c (e ∷ es) q =
    stands_begun c es (standing_after c e q) ∙ ap (λ (b : Bool). begun_over c es b) (stands_then c e q)

-- ---- all callers

set_past : (xs : List Bool) (i : ℕ) (x : Bool) → length xs ≤ i → slice_set xs i x ≡ xs
set_past [] i x le = refl
set_past (y ∷ ys) zero x le = absurd (omega (arith, le))
set_past (y ∷ ys) (suc i) x le = ap (λ (zs : List Bool). y ∷ zs) (set_past ys i x (omega (arith, le)))

after_entry : (begun : List Bool) (who : Who) (event : PlainEvent) (c : ℕ)
    → c < length begun
    → slice_index_or (begun_by begun who event) c false
    ≡ (if is_caller who c then has_begun event (slice_index_or begun c false) else slice_index_or begun c false)
after_entry begun (Caller n) event c lt = elim (cases_eq c n) [
  | inl same ↦
      subst
      (λ (m : ℕ).
      slice_index_or (begun_own begun n event) m false
      ≡ (if n == m then has_begun event (slice_index_or begun m false) else slice_index_or begun m false)) (sym same)
      (get_or-set_same begun n (has_begun event (slice_index_or begun n false)) false
      (subst (λ (m : ℕ). m < length begun) same lt)
      ∙ ap
      (λ (b : Bool). if b then has_begun event (slice_index_or begun n false) else slice_index_or begun n false)
      (sym (eq-eqb n n refl)))
  | inr other ↦
      get_or-set_other begun n c (has_begun event (slice_index_or begun n false)) false other
      ∙ ap
      (λ (b : Bool). if b then has_begun event (slice_index_or begun c false) else slice_index_or begun c false)
      (sym (ne_eqb n c (λ e. other (sym e))))
]
after_entry begun Flusher event c lt = refl
after_entry begun Line event c lt = refl
after_entry begun Clock event c lt = refl
after_entry begun Session event c lt = refl

after_long : (begun : List Bool) (who : Who) (event : PlainEvent) → length (begun_by begun who event) ≡ length begun
after_long begun (Caller n) event = length-set begun n (has_begun event (slice_index_or begun n false))
after_long begun Flusher event = refl
after_long begun Line event = refl
after_long begun Clock event = refl
after_long begun Session event = refl

-- those who have begun one so far, in a journal of which these entries are left
pub record AreBegun (callers : ℕ) (journal : List PlainEntry) (begun : List Bool)
    (left : List PlainEntry) : Type 0 where
  pub many : length begun ≡ callers
  pub same : (c : ℕ)
      → c < callers
      → begun_over c left (slice_index_or begun c false) ≡ begun_over c journal false

none_at : (n c : ℕ) → slice_index_or (replicate n false) c false ≡ false
none_at zero c = refl
none_at (suc n) zero = refl
none_at (suc n) (suc c) = none_at n c

long_none : (n : ℕ) → length (replicate n false) ≡ n
long_none zero = refl
long_none (suc n) = ap suc (long_none n)

pub first_begun : (callers : ℕ) (journal : List PlainEntry) (begun : List Bool)
    → begun ≡ replicate callers false
    → AreBegun callers journal begun journal
first_begun callers journal begun none = subst (λ (bs : List Bool). AreBegun callers journal bs journal) (sym none)
    (record {
      many = long_none callers;
      same = λ c lt. ap (λ (b : Bool). begun_over c journal b) (none_at callers c);
    })

pub begun_more : (callers place : ℕ) (journal : List PlainEntry) (begun next : List Bool) (e : PlainEntry)
    → slice_get journal place ≡ Some e
    → next ≡ begun_after begun e
    → AreBegun callers journal begun (drop place journal)
    → AreBegun callers journal next (drop (place + 1) journal)
begun_more callers place journal begun next e at are h =
    let rest = drop (place + 1) journal in
    record {
      many = ap (λ (bs : List Bool). length bs) are ∙ (after_long begun e.who e.event ∙ h.many);
      same = λ c lt.
          ap (λ (bs : List Bool). begun_over c rest (slice_index_or bs c false)) are
          ∙ (ap (λ (b : Bool). begun_over c rest b) (after_entry begun e.who e.event c (omega (arith, lt, h.many)))
          ∙ (ap (λ (es : List PlainEntry). begun_over c es (slice_index_or begun c false))
          (sym (next_got journal place e at))
          ∙ h.same c lt));
    }

-- ---- of a range, one by one

pub range_more : {X : Type 0} (f : ℕ → List X) (n p : ℕ) (old new first : List X)
    → p < n
    → new ≡ old ++ f p
    → old ++ flat_map f (range_with_len p (n - p)) ≡ first
    → new ++ flat_map f (range_with_len (p + 1) (n - (p + 1))) ≡ first
range_more {X} f n p old new first lt put left =
    let rest : List X = flat_map f (range_with_len (p + 1) (n - (p + 1))) in
    let count : n - p ≡ suc (n - (p + 1)) = omega arith in
    ap (λ (l : List X). l ++ rest) put
    ∙ (append_assoc old (f p) rest
    ∙ (ap (λ (k : ℕ). old ++ flat_map f (range_with_len p k)) (sym count) ∙ left))

pub range_over : {X : Type 0} (f : ℕ → List X) (n p : ℕ) (made first : List X)
    → n ≤ p
    → made ++ flat_map f (range_with_len p (n - p)) ≡ first
    → made ≡ first
range_over {X} f n p made first over left =
    let none : n - p ≡ 0 = omega arith in
    sym (append-nil made)
    ∙ (ap (λ (k : ℕ). made ++ flat_map f (range_with_len p k)) (sym none) ∙ left)

pub read_at : (xs : List Bool) (i : ℕ) (d : Bool) → i < length xs → get_or xs i d ≡ slice_index_or xs i false
read_at [] i d lt = absurd (omega (arith, lt))
read_at (x ∷ xs) zero d lt = refl
read_at (x ∷ xs) (suc i) d lt = read_at xs i d (omega (arith, lt))
