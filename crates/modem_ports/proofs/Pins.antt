-- The items of the modem blocks of a port, phase by phase.
use Rattle.std.proofs.Common.{◌≡◌, ◌≤◌, ◌<◌, ◌⊎◌, inl, inr, ℕ, zero, suc, ◌+◌, ◌==◌, false, List, [], ◌∷◌}
use Rattle.std.proofs.Common.{◌++◌, Some, length, map, filter, take, refl, sym, ap, ◌∙◌, arith, length-append}
use Rattle.std.specs.Prelude.{slice_get, slice_index_or}
use Rattle.std.specs.List.{range_with_len}
use Rattle.std.proofs.lemmas.Bool.{ne_eqb}
use Rattle.std.proofs.lemmas.List.{length-map}
use Rattle.tty_base.specs.Sizes.{MOST_STEPS}
use Rattle.order_laws.specs.Passed.{begin_of}
use Rattle.order_laws.proofs.Shares.{get_first, get_later, take_more, map_append}
use Rattle.passed_calls.specs.Blocks.{names_on}
use Rattle.passed_calls.specs.Derived.{blocks_of}
use Rattle.passed_calls.specs.Within.{call_count}
use Rattle.passed_ports.proofs.Leaving.{get_map, steps_few}
use Rattle.modem_text.specs.declared.sessions.PinItem.{PinItem}
use Rattle.modem_text.specs.Sessions.{ModemPhase, ModemSession, PinStep, pins_by_port, pins_on, step_of}
use Rattle.modem_steps.specs.Derived.{block_phases, carrier_on}
use Rattle.modem_steps.specs.Steps.{PlacedItem, items_from}
use Rattle.modem_steps.specs.Order.{is_of_phase}
use Rattle.modem_one.specs.Left.{AreItemsLeft}
use Rattle.modem_one.proofs.Shares.{count_of, pins_by_phase}

-- ---- one port's

pins_from : (from n i : ℕ) (pins : List PinItem)
    → i < n
    → slice_index_or (map (λ q. map step_of (filter (λ (item : PinItem). item.port == q) pins))
    (range_with_len from n)) i []
    ≡ map step_of (filter (λ (item : PinItem). item.port == from + i) pins)
pins_from from zero i pins lt = absurd (omega (arith, lt))
pins_from from (suc n) zero pins lt =
    (let same : from ≡ from + 0 = omega arith in
    ap (λ (q : ℕ). map step_of (filter (λ (item : PinItem). item.port == q) pins)) same)
pins_from from (suc n) (suc i) pins lt =
    let same : (from + 1) + i ≡ from + suc i = omega arith in
    pins_from (from + 1) n i pins (omega (arith, lt))
    ∙ ap (λ (q : ℕ). map step_of (filter (λ (item : PinItem). item.port == q) pins)) same

pub pins_are : (p ports : ℕ) (pins : List PinItem)
    → p < ports
    → slice_index_or (pins_by_port ports pins) p [] ≡ map step_of (filter (λ (item : PinItem). item.port == p) pins)
pins_are p ports pins lt =
    let same : 0 + p ≡ p = omega arith in
    pins_from 0 ports p pins lt ∙ ap (λ (q : ℕ). map step_of (filter (λ (item : PinItem). item.port == q) pins)) same

-- ---- all of a port's

below_or : (a b : ℕ) → (a < b) ⊎ (b ≤ a)
below_or a b = grind arith

past : {X : Type 0} (xs ys : List X) (i : ℕ)
    → length xs ≤ i
    → (j : ℕ) × (slice_get (xs ++ ys) i ≡ slice_get ys j)
past [] ys i le = (i, refl)
past (x ∷ xs) ys zero le = absurd (omega (arith, le))
past (x ∷ xs) ys (suc i) le = past xs ys i (omega (arith, le))

abbrev here_of : ℕ → List PinStep → List PlacedItem
here_of j pins = map (λ (step : PinStep). record { phase = j; step = step }) pins

in_phase : (j k m : ℕ) (pins : List PinStep) → k < j → is_of_phase k (slice_get (here_of j pins) m) ≡ false
in_phase j k m [] lt = refl
in_phase j k zero (pin ∷ pins) lt = ne_eqb j k (λ e. absurd (omega (arith, lt, e)))
in_phase j k (suc m) (pin ∷ pins) lt = in_phase j k m pins lt

-- all are of this phase or of later ones
all_later : (p j k m : ℕ) (phases : List ModemPhase)
    → k < j
    → is_of_phase k (slice_get (items_from p j phases) m) ≡ false
all_later p j k m [] lt = refl
all_later p j k m (phase ∷ phases) lt =
    let own = here_of j (pins_on p phase) in
    let rest = items_from p (j + 1) phases in
    elim (below_or m (length own)) [
      | inl front ↦ ap (is_of_phase k) (get_first own rest m front) ∙ in_phase j k m (pins_on p phase) lt
      | inr behind ↦
          (let at = past own rest m behind in
          ap (is_of_phase k) at.1 ∙ all_later p (j + 1) k at.0 phases (omega (arith, lt)))
    ]

-- past those of the first phases
pub items_past : (p j k n : ℕ) (phases : List ModemPhase)
    → k < j + n
    → is_of_phase k (slice_get (items_from p j phases) (count_of (pins_by_phase p (take n phases)))) ≡ false
items_past p j k n [] lt = refl
items_past p j k zero (phase ∷ phases) lt = all_later p j k 0 (phase ∷ phases) (omega (arith, lt))
items_past p j k (suc n) (phase ∷ phases) lt =
    let own = here_of j (pins_on p phase) in
    let rest = items_from p (j + 1) phases in
    let count = count_of (pins_by_phase p (take n phases)) in
    let many : length (pins_on p phase) ≡ length own =
    sym (length-map (pins_on p phase) (λ (step : PinStep). record { phase = j; step = step })) in
    ap (λ (m : ℕ). is_of_phase k (slice_get (own ++ rest) (m + count))) many
    ∙ (ap (is_of_phase k) (get_later own rest count) ∙ items_past p (j + 1) k n phases (omega (arith, lt)))

-- one by its place in its phase
pub items_at : (p j k i : ℕ) (phases : List ModemPhase) (phase : ModemPhase) (step : PinStep)
    → slice_get phases k ≡ Some phase
    → slice_get (pins_on p phase) i ≡ Some step
    → slice_get (items_from p j phases) (count_of (pins_by_phase p (take k phases)) + i)
    ≡ Some (record { phase = j + k; step = step })
items_at p j k i [] phase step at is = absurd (cc)
items_at p j zero i (first ∷ phases) phase step at is =
    let own = here_of j (pins_on p first) in
    let rest = items_from p (j + 1) phases in
    let same : first ≡ phase = cc in
    let there : slice_get own i ≡ Some (record { phase = j; step = step }) =
    get_map (λ (s : PinStep). record { phase = j; step = s }) (pins_on p first) i step
    (ap (λ (x : ModemPhase). slice_get (pins_on p x) i) same ∙ is) in
    let place : 0 + i ≡ i = omega arith in
    let number : j ≡ j + 0 = omega arith in
    ap (λ (m : ℕ). slice_get (own ++ rest) m) place
    ∙ (get_first own rest i (some_below own i (record { phase = j; step = step }) there)
    ∙ (there ∙ ap (λ (n : ℕ). Some (record { phase = n; step = step })) number))
  where
    some_below : (xs : List PlacedItem) (i : ℕ) (x : PlacedItem) → slice_get xs i ≡ Some x → i < length xs
    some_below [] i x e = absurd (cc)
    some_below (y ∷ xs) zero x e = omega arith
    some_below (y ∷ xs) (suc i) x e = (let rest = some_below xs i x e in omega (arith, rest))
items_at p j (suc k) i (first ∷ phases) phase step at is =
    let own = here_of j (pins_on p first) in
    let rest = items_from p (j + 1) phases in
    let count = count_of (pins_by_phase p (take k phases)) in
    let many : length (pins_on p first) ≡ length own =
    sym (length-map (pins_on p first) (λ (s : PinStep). record { phase = j; step = s })) in
    let place : (length (pins_on p first) + count) + i ≡ length own + (count + i) = omega (arith, many) in
    let number : (j + 1) + k ≡ j + suc k = omega arith in
    ap (λ (m : ℕ). slice_get (own ++ rest) m) place
    ∙ (get_later own rest (count + i)
    ∙ (items_at p (j + 1) k i phases phase step at is ∙ ap (λ (n : ℕ). Some (record { phase = n; step = step }))
    number))

count_both : (xs ys : List (List PinStep)) → count_of (xs ++ ys) ≡ count_of xs + count_of ys
count_both [] ys = (let none : count_of [] ≡ 0 = refl in omega (arith, none))
count_both (x ∷ xs) ys = (let rest = count_both xs ys in omega (arith, rest))

-- one phase more
pub count_more : (p k : ℕ) (phases : List ModemPhase) (phase : ModemPhase)
    → slice_get phases k ≡ Some phase
    → count_of (pins_by_phase p (take (k + 1) phases))
    ≡ count_of (pins_by_phase p (take k phases)) + length (pins_on p phase)
count_more p k phases phase at =
    let later : k + 1 ≡ suc k = omega arith in
    let both = ap (λ (n : ℕ). count_of (pins_by_phase p (take n phases))) later
    ∙ (ap (λ (ps : List ModemPhase). count_of (pins_by_phase p ps)) (take_more phases k phase at)
    ∙ (ap count_of (map_append (pins_on p) (take k phases) (phase ∷ []))
    ∙ count_both (pins_by_phase p (take k phases)) (pins_on p phase ∷ []))) in
    let one : count_of (pins_on p phase ∷ []) ≡ length (pins_on p phase) + 0 = refl in
    omega (arith, both, one)

-- what is left at the beginning of a phase
pub items_left : (p k : ℕ) (session : ModemSession) (phase : ModemPhase) (items : ℕ)
    → slice_get session.phases k ≡ Some phase
    → ((n : ℕ)
    → begin_of p (block_phases session) n (carrier_on p session) ≡ count_of (pins_by_phase p (take n session.phases)))
    → items ≡ begin_of p (block_phases session) k (carrier_on p session)
    → call_count (block_phases session) ≤ MOST_STEPS
    → AreItemsLeft p k session items (pins_on p phase)
items_left p k session phase items at counts is limit =
    let here = counts k in
    let next = counts (k + 1) in
    let more = count_more p k session.phases phase at in
    let from : items ≡ count_of (pins_by_phase p (take k session.phases)) = is ∙ here in
    record {
      from = omega (arith, is);
      count = omega (arith, from, next, more);
      each = λ i step left.
          (let number : 0 + k ≡ k = omega arith in
          ap (λ (n : ℕ). slice_get (items_from p 0 session.phases) (n + i)) from
          ∙ (items_at p 0 k i session.phases phase step at left
          ∙ ap (λ (n : ℕ). Some (record { phase = n; step = step })) number));
      few =
          (let most = steps_few p (block_phases session) (k + 1)
          (slice_get (names_on p (blocks_of (block_phases session))) (carrier_on p session)) in
          omega (arith, from, next, more, most, limit));
      behind =
          (let place : items + length (pins_on p phase) ≡ count_of (pins_by_phase p (take (k + 1) session.phases)) =
          omega (arith, from, more) in
          ap (λ (n : ℕ). is_of_phase k (slice_get (items_from p 0 session.phases) n)) place
          ∙ items_past p 0 k (k + 1) session.phases (omega arith));
    }

pub items_many : (p j : ℕ) (phases : List ModemPhase) → length (items_from p j phases)
    ≡ count_of (pins_by_phase p phases)
items_many p j [] = refl
items_many p j (phase ∷ phases) =
    let both = length-append (here_of j (pins_on p phase)) (items_from p (j + 1) phases) in
    let here : length (here_of j (pins_on p phase)) ≡ length (pins_on p phase) =
    length-map (pins_on p phase) (λ (step : PinStep). record { phase = j; step = step }) in
    let rest = items_many p (j + 1) phases in
    omega (arith, both, here, rest)
