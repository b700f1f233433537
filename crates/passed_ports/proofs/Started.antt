-- The calls that a port has begun and not answered: of each caller one or none. And the limits of what it was passed.
use Rattle.std.proofs.Common.{◌≡◌, ◌≤◌, ◌<◌, ◌⊎◌, inl, inr, ℕ, zero, suc, ◌+◌, ◌==◌, Bool, true, false, cond}
use Rattle.std.proofs.Common.{List, [], ◌∷◌, ◌++◌, length, sum, if◌then◌else◌, refl, sym, ap, ◌∙◌, subst, arith}
use Rattle.std.proofs.Common.{append-nil}
use Rattle.std.specs.Prelude.{All, flat_map, slice_index_or, replicate}
use Rattle.std.specs.List.{range_with_len}
use Rattle.std.proofs.lemmas.Bool.{eq-eqb, ne_eqb}
use Rattle.std.proofs.lemmas.List.Elements.{All-nil, All-cons, All-head, All-tail, All-same, All-filter, filter-append}
use Rattle.tty_calls.specs.Limits.{IsCallWithin}
use Rattle.tty_calls.specs.Plain.{PlainCall, PlainEntry}
use Rattle.tty_terminal.specs.Terminals.{opening}
use Rattle.tty_terminal.specs.Standing.{Standing, standing_in, at_first}
use Rattle.tty_terminal.proofs.StandingLaws.{run_stands}
use Rattle.passed_calls.specs.Derived.{Passing, BlockPhase, by_caller, calls_at}
use Rattle.passed_calls.specs.Journals.{Journal}
use Rattle.port_core.specs.Ports.{PortValue, IsPort, call_in}
use Rattle.play_base.specs.Roles.{Scene}
use Rattle.order_laws.specs.Witness.{HasPassed}
use Rattle.order_laws.specs.Begun.{begun_at}
use Rattle.order_laws.specs.Later.{IsLater}
use Rattle.order_laws.specs.Sessions.{begun_calls}
use Rattle.passed_ports.specs.Ports.{ArePassingsWithin}

abbrev pub one_if : Bool → Passing → List Passing
one_if b m = if b then m ∷ [] else []

by_own : (b : Bool) (m : Passing) (c : ℕ) → m.caller ≡ c → by_caller c (one_if b m) ≡ one_if b m
by_own true m c same = ap (λ (t : Bool). if t then m ∷ [] else []) (eq-eqb m.caller c same)
by_own false m c same = refl

by_other : (b : Bool) (m : Passing) (c : ℕ) → (m.caller ≡ c → ⊥) → by_caller c (one_if b m) ≡ []
by_other true m c other = ap (λ (t : Bool). if t then m ∷ [] else []) (ne_eqb m.caller c other)
by_other false m c other = refl

equal_or : (a b : ℕ) → a ≤ b → (a ≡ b) ⊎ (a < b)
equal_or a b le = grind arith

-- of each caller of a range one passing or none
abbrev pub ones : (begun : ℕ → Bool) (of : ℕ → Passing) → (from n : ℕ) → List Passing
ones begun of from n = flat_map (λ c. one_if (begun c) (of c)) (range_with_len from n)

pub none_of : (begun : ℕ → Bool) (of : ℕ → Passing) (from n c : ℕ)
    → ((d : ℕ) → (of d).caller ≡ d)
    → c < from
    → by_caller c (ones begun of from n) ≡ []
none_of begun of from zero c own lt = refl
none_of begun of from (suc n) c own lt =
    filter-append (λ (m : Passing). m.caller == c) (one_if (begun from) (of from)) (ones begun of (from + 1) n)
    ∙ (λ i.
    by_other (begun from) (of from) c (λ e. omega (arith, lt, own from, e)) i
    ++ none_of begun of (from + 1) n c own (omega (arith, lt)) i)

pub some_of : (begun : ℕ → Bool) (of : ℕ → Passing) (from n c : ℕ)
    → ((d : ℕ) → (of d).caller ≡ d)
    → from ≤ c
    → c < from + n
    → by_caller c (ones begun of from n) ≡ one_if (begun c) (of c)
some_of begun of from zero c own le lt = absurd (omega (arith, le, lt))
some_of begun of from (suc n) c own le lt =
    filter-append (λ (m : Passing). m.caller == c) (one_if (begun from) (of from)) (ones begun of (from + 1) n)
    ∙ elim (equal_or from c le) [
      | inl same ↦
          (λ i.
          by_own (begun from) (of from) c (own from ∙ same) i
          ++ none_of begun of (from + 1) n c own (omega (arith, same)) i)
          ∙ (append-nil (one_if (begun from) (of from)) ∙ ap (λ (d : ℕ). one_if (begun d) (of d)) same)
      | inr more ↦
          λ i.
          by_other (begun from) (of from) c (λ e. omega (arith, more, own from, e)) i
          ++ some_of begun of (from + 1) n c own (omega (arith, more)) (omega (arith, lt)) i
    ]

pub past_of : (begun : ℕ → Bool) (of : ℕ → Passing) (from n c : ℕ)
    → ((d : ℕ) → (of d).caller ≡ d)
    → from + n ≤ c
    → by_caller c (ones begun of from n) ≡ []
past_of begun of from zero c own le = refl
past_of begun of from (suc n) c own le =
    filter-append (λ (m : Passing). m.caller == c) (one_if (begun from) (of from)) (ones begun of (from + 1) n)
    ∙ (λ i.
    by_other (begun from) (of from) c (λ e. omega (arith, le, own from, e)) i
    ++ past_of begun of (from + 1) n c own (omega (arith, le)) i)

pub none_begun : (begun : ℕ → Bool) (of : ℕ → Passing) (from n : ℕ)
    → ((c : ℕ) → begun c ≡ false)
    → ones begun of from n ≡ []
none_begun begun of from zero none = refl
none_begun begun of from (suc n) none =
    ap (λ (b : Bool). one_if b (of from) ++ ones begun of (from + 1) n) (none from)
    ∙ none_begun begun of (from + 1) n none

pub true_or_false : (b : Bool) → (b ≡ true) ⊎ (b ≡ false)
true_or_false true = inl refl
true_or_false false = inr refl

pub below_or : (a b : ℕ) → (a < b) ⊎ (b ≤ a)
below_or a b = grind arith

abbrev pub zeros : ℕ → List ℕ
zeros n = replicate n 0

pub zeros_at : (n c : ℕ) → slice_index_or (zeros n) c 0 ≡ 0
zeros_at zero c = refl
zeros_at (suc n) zero = refl
zeros_at (suc n) (suc c) = zeros_at n c

pub zeros_long : (n : ℕ) → length (zeros n) ≡ n
zeros_long zero = refl
zeros_long (suc n) = ap suc (zeros_long n)

-- the journal as it is
abbrev pub now_of : PortValue → Journal
now_of v = record { entries = v.journal; calls = call_in v.kept; opening = opening (sum v.counts) v.flip.capacity }

pub is_now : (v : PortValue) → IsLater v (now_of v)
is_now v = record { opens = refl; calls = λ c step call is. is; rest = []; entries = sym (append-nil v.journal) }

-- ---- the calls that a port has begun and not answered

abbrev begun_of : (answered : ℕ → ℕ) → (calls : (c step : ℕ) → List PlainCall) → ℕ → Passing
begun_of answered calls c = record { caller = c; step = answered c; calls = calls c (answered c) }

pub nothing_begun : (answered : ℕ → ℕ) (calls : (c step : ℕ) → List PlainCall) (n : ℕ) (journal : List PlainEntry)
    → ((c : ℕ) → (standing_in c journal at_first).begun ≡ false)
    → begun_calls answered calls n journal ≡ []
nothing_begun answered calls n journal none =
    none_begun (λ c. (standing_in c journal at_first).begun) (begun_of answered calls) 0 n none

-- what was passed by a caller: what was logged of it, and behind it the call that it has begun, at its next step
pub begun_last : (v : PortValue) (logged : List Passing) (answered next : ℕ → ℕ)
    (calls : (c step : ℕ) → List PlainCall) (n c : ℕ)
    → IsPort v
    → (c < n → answered c ≡ next c)
    → (begun_at v c ≡ true → c < n)
    → by_caller c (logged ++ begun_calls answered calls n v.journal)
    ≡ by_caller c logged ++ one_if (begun_at v c) (begun_of next calls c)
begun_last v logged answered next calls n c port counts known =
    let begun : ℕ → Bool = λ x. (standing_in x v.journal at_first).begun in
    let of : ℕ → Passing = begun_of answered calls in
    let same : begun c ≡ begun_at v c =
    sym (ap (λ (q : Standing). q.begun)
    (run_stands (call_in v.kept) v.counts v.flip.capacity v.journal v.terminal port.run c)) in
    filter-append (λ (m : Passing). m.caller == c) logged (ones begun of 0 n)
    ∙ ap (λ (ms : List Passing). by_caller c logged ++ ms) (elim (below_or c n) [
      | inl lt ↦
          some_of begun of 0 n c (λ x. refl) (omega arith) (omega (arith, lt))
          ∙ λ i. one_if (same i) (record { caller = c; step = counts lt i; calls = calls c (counts lt i) })
      | inr le ↦
          past_of begun of 0 n c (λ x. refl) (omega (arith, le))
          ∙ elim (true_or_false (begun_at v c)) [
            | inl yes_begun ↦ absurd (let lt = known yes_begun in omega (arith, le, lt))
            | inr not_begun ↦ sym (ap (λ (b : Bool). one_if b (begun_of next calls c)) not_begun)
          ]
    ])

-- ---- limits

tail_of : (P : Passing → Type 0) (b : Bool) (m : Passing) (ms : List Passing) → All P (cond b (m ∷ ms) ms) → All P ms
tail_of P true m ms h = All-tail P m ms h
tail_of P false m ms h = h

all_of_callers : (P : Passing → Type 0) (ms : List Passing) → ((c : ℕ) → All P (by_caller c ms)) → All P ms
all_of_callers P [] h = All-nil P
all_of_callers P (m ∷ ms) h =
    All-cons P m ms
    (All-head P m (by_caller m.caller ms)
    (subst (λ (b : Bool). All P (cond b (m ∷ by_caller m.caller ms) (by_caller m.caller ms)))
    (eq-eqb m.caller m.caller refl) (h m.caller)))
    (all_of_callers P ms (λ c. tail_of P (m.caller == c) m (by_caller c ms) (h c)))

pub within_of : (first : Scene) (phases : List BlockPhase) (mine : ℕ → List Passing) (v : PortValue) (ms : List Passing)
    → HasPassed first phases mine v
    → ((c : ℕ) → by_caller c ms ≡ mine c)
    → ArePassingsWithin ms
within_of first phases mine v ms has same =
    let p = first.port in
    let passed : List Passing = has.by.passed p in
    let P : Passing → Type 0 = λ m. All IsCallWithin m.calls in
    record {
      calls = all_of_callers P ms (λ c. All-same P (by_caller c ms) (by_caller c passed) (same c ∙ sym (has.by.by c))
          (All-filter (λ (m : Passing). m.caller == c) P passed (has.within.calls p)));
      single = λ c step. subst (λ (xs : List Passing). length (calls_at xs step) ≤ 1) (has.by.by c ∙ sym (same c))
          (has.within.single p c step);
    }
