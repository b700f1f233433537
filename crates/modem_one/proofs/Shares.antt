-- The steps of the callers of a port in its phases: those of callers count their calls, and those of `carrier` the
-- items of the modem blocks.
use Rattle.std.proofs.Common.{◌≡◌, ◌≤◌, ◌<◌, ◌⊎◌, inl, inr, ℕ, zero, suc, ◌+◌, ◌==◌, Bool, false, cond}
use Rattle.std.proofs.Common.{List, [], ◌∷◌, ◌++◌, Option, None, Some, length, map, take, drop}
use Rattle.std.proofs.Common.{if◌then◌else◌, refl, sym, ap, ◌∙◌, arith, append_assoc, length-append}
use Rattle.std.specs.Prelude.{flat_map, slice_get, slice_index_or, nat_lt}
use Rattle.std.specs.List.{range_with_len}
use Rattle.std.specs.Str.{bytes_eq}
use Rattle.std.proofs.lemmas.Bool.{eq-eqb, ne_eqb}
use Rattle.std.proofs.lemmas.Bool.Decides.{nat_tests}
use Rattle.std.proofs.lemmas.List.Elements.{filter-append}
use Rattle.std.proofs.lemmas.List.Sums.{sum_by-cons, sum_by-append}
use Rattle.legal_runs.proofs.NameLemmas.{same_name}
use Rattle.tty_calls.specs.Sessions.{PlainScript, names_of}
use Rattle.passed_calls.specs.Blocks.{Block, bare, blocks_on, names_on, steps_under}
use Rattle.passed_calls.specs.Derived.{BlockPhase, blocks_of}
use Rattle.passed_calls.specs.Scripts.{CallerScript, block_of, calls_named}
use Rattle.order_laws.specs.Passed.{steps_named, begin_of}
use Rattle.order_laws.proofs.Shares.{on_port, over, named, blocks_one, map_append, named_length, named_append}
use Rattle.order_laws.proofs.Shares.{take_map, AreCounted, begin_named, get_first}
use Rattle.calls_left.specs.Remaining.{IsLeftTo}
use Rattle.modem_text.specs.Sessions.{ModemCall, ModemPhase, ModemSession, PinStep, pins_on}
use Rattle.modem_text.specs.Sessions.{carrier_name, carrier_block, phase_blocks, blocks_in}
use Rattle.modem_text.specs.Within.{block_phase_of}
use Rattle.modem_steps.specs.Derived.{block_phases, carrier_on, scripts_over, calls_over, modem_call_at, call_in_phase}

abbrev One : Type 0
One = CallerScript ModemCall

-- the scripts of the callers of each phase
abbrev pub callers_of : List ModemPhase → List (List One)
callers_of phases = map (λ (phase : ModemPhase). phase.callers) phases

pub over_are : (p : ℕ) (phases : List ModemPhase) → over p (callers_of phases) ≡ scripts_over p phases
over_are p [] = refl
over_are p (phase ∷ phases) = ap (λ (ss : List One). on_port p phase.callers ++ ss) (over_are p phases)

-- ---- the blocks of `carrier` on a port

abbrev carriers : (steps : ℕ → ℕ) → (from n : ℕ) → List Block
carriers steps from n = map (λ q. carrier_block (steps q) q) (range_with_len from n)

none_before : (steps : ℕ → ℕ) (p from n : ℕ) → p < from → blocks_on p (carriers steps from n) ≡ []
none_before steps p from zero lt = refl
none_before steps p from (suc n) lt =
    ap (λ (b : Bool). cond b (carrier_block (steps from) from ∷ blocks_on p (carriers steps (from + 1) n))
    (blocks_on p (carriers steps (from + 1) n))) (ne_eqb from p (λ e. omega (arith, lt, e)))
    ∙ none_before steps p (from + 1) n (omega (arith, lt))

same_or_more : (a b : ℕ) → a ≤ b → (a ≡ b) ⊎ (a < b)
same_or_more a b le = grind arith

-- one, on a port that there is
one_there : (steps : ℕ → ℕ) (p from n : ℕ)
    → from ≤ p
    → p < from + n
    → blocks_on p (carriers steps from n) ≡ carrier_block (steps p) p ∷ []
one_there steps p from zero le lt = absurd (omega (arith, le, lt))
one_there steps p from (suc n) le lt = elim (same_or_more from p le) [
  | inl same ↦
      ap (λ (b : Bool). cond b (carrier_block (steps from) from ∷ blocks_on p (carriers steps (from + 1) n))
      (blocks_on p (carriers steps (from + 1) n))) (eq-eqb from p same)
      ∙ (ap (λ (bs : List Block). carrier_block (steps from) from ∷ bs)
      (none_before steps p (from + 1) n (omega (arith, same)))
      ∙ ap (λ (q : ℕ). carrier_block (steps q) q ∷ []) same)
  | inr more ↦
      ap (λ (b : Bool). cond b (carrier_block (steps from) from ∷ blocks_on p (carriers steps (from + 1) n))
      (blocks_on p (carriers steps (from + 1) n))) (ne_eqb from p (λ e. omega (arith, more, e)))
      ∙ one_there steps p (from + 1) n (omega (arith, more)) (omega (arith, lt))
]

none_past : (steps : ℕ → ℕ) (p from n : ℕ) → from + n ≤ p → blocks_on p (carriers steps from n) ≡ []
none_past steps p from zero le = refl
none_past steps p from (suc n) le =
    ap (λ (b : Bool). cond b (carrier_block (steps from) from ∷ blocks_on p (carriers steps (from + 1) n))
    (blocks_on p (carriers steps (from + 1) n))) (ne_eqb from p (λ e. omega (arith, le, e)))
    ∙ none_past steps p (from + 1) n (omega (arith, le))

-- the blocks of a port in a phase
abbrev its_carriers : (steps : ℕ → ℕ) → (ports p : ℕ) → List Block
its_carriers steps ports p = blocks_on p (carriers steps 0 ports)

pub blocks_are : (steps : ℕ → ℕ) (ports p : ℕ) (phase : ModemPhase)
    → blocks_on p (phase_blocks steps ports phase)
    ≡ map block_of (on_port p phase.callers) ++ its_carriers steps ports p
blocks_are steps ports p phase =
    filter-append (λ (b : Block). b.port == p) (map block_of phase.callers) (carriers steps 0 ports)
    ∙ ap (λ (bs : List Block). bs ++ its_carriers steps ports p) (blocks_one p phase.callers)

-- .. of a port that there is
pub blocks_there : (steps : ℕ → ℕ) (ports p : ℕ) (phase : ModemPhase)
    → p < ports
    → blocks_on p (phase_blocks steps ports phase)
    ≡ map block_of (on_port p phase.callers) ++ carrier_block (steps p) p ∷ []
blocks_there steps ports p phase lt =
    blocks_are steps ports p phase
    ∙ ap (λ (bs : List Block). map block_of (on_port p phase.callers) ++ bs)
    (one_there steps p 0 ports (omega arith) (omega (arith, lt)))

-- ---- names

below_or : (a b : ℕ) → (a < b) ⊎ (b ≤ a)
below_or a b = grind arith

bare_carriers : (a b : ℕ → ℕ) (ports p : ℕ) → map bare (its_carriers a ports p) ≡ map bare (its_carriers b ports p)
bare_carriers a b ports p = elim (below_or p ports) [
  | inl lt ↦
      ap (map bare) (one_there a p 0 ports (omega arith) (omega (arith, lt)))
      ∙ sym (ap (map bare) (one_there b p 0 ports (omega arith) (omega (arith, lt))))
  | inr le ↦
      ap (map bare) (none_past a p 0 ports (omega (arith, le)))
      ∙ sym (ap (map bare) (none_past b p 0 ports (omega (arith, le))))
]

bare_phase : (a b : ℕ → ℕ) (ports p : ℕ) (phase : ModemPhase)
    → map bare (blocks_on p (phase_blocks a ports phase)) ≡ map bare (blocks_on p (phase_blocks b ports phase))
bare_phase a b ports p phase =
    let own = map block_of (on_port p phase.callers) in
    ap (map bare) (blocks_are a ports p phase)
    ∙ (map_append bare own (its_carriers a ports p)
    ∙ (ap (λ (ss : List PlainScript). map bare own ++ ss) (bare_carriers a b ports p)
    ∙ (sym (map_append bare own (its_carriers b ports p)) ∙ sym (ap (map bare) (blocks_are b ports p phase)))))

abbrev no_steps : ℕ → ℕ
no_steps p = 0

bare_all : (ports p : ℕ) (phases : List ModemPhase)
    → map bare (blocks_on p (flat_map (phase_blocks no_steps ports) phases))
    ≡ map bare (blocks_on p (blocks_of (map (block_phase_of ports) phases)))
bare_all ports p [] = refl
bare_all ports p (phase ∷ phases) =
    let a : ℕ → ℕ = no_steps in
    let b : ℕ → ℕ = λ q. length (pins_on q phase) in
    let left = flat_map (phase_blocks a ports) phases in
    let right = blocks_of (map (block_phase_of ports) phases) in
    ap (map bare) (filter-append (λ (x : Block). x.port == p) (phase_blocks a ports phase) left)
    ∙ (map_append bare (blocks_on p (phase_blocks a ports phase)) (blocks_on p left)
    ∙ ((λ i. bare_phase a b ports p phase i ++ bare_all ports p phases i)
    ∙ (sym (map_append bare (blocks_on p (phase_blocks b ports phase)) (blocks_on p right))
    ∙ sym (ap (map bare) (filter-append (λ (x : Block). x.port == p) (phase_blocks b ports phase) right)))))

-- the names of a port's callers
pub names_same : (p : ℕ) (session : ModemSession)
    → names_on p (blocks_in session) ≡ names_on p (blocks_of (block_phases session))
names_same p session = ap names_of (bare_all session.ports p session.phases)

-- ---- how many steps

under_append : (name : List ℕ) (xs ys : List Block)
    → steps_under name (xs ++ ys) ≡ steps_under name xs + steps_under name ys
under_append name xs ys = sum_by-append (λ (b : Block). if bytes_eq b.name name then b.steps else 0) xs ys

under_one : (name : List ℕ) (b : Block) → steps_under name (b ∷ []) ≡ (if bytes_eq b.name name then b.steps else 0)
under_one name b =
    let more = sum_by-cons (λ (x : Block). if bytes_eq x.name name then x.steps else 0) b [] in
    let none : steps_under name [] ≡ 0 = refl in
    omega (arith, more, none)

-- of another name `carrier` has none
none_under : (name : List ℕ) (steps : ℕ → ℕ) (ports p : ℕ)
    → bytes_eq carrier_name name ≡ false
    → steps_under name (its_carriers steps ports p) ≡ 0
none_under name steps ports p other = elim (below_or p ports) [
  | inl lt ↦
      ap (steps_under name) (one_there steps p 0 ports (omega arith) (omega (arith, lt)))
      ∙ (under_one name (carrier_block (steps p) p) ∙ ap (λ (b : Bool). if b then steps p else 0) other)
  | inr le ↦ ap (steps_under name) (none_past steps p 0 ports (omega (arith, le)))
]

counted_in : (ports p : ℕ) (name : List ℕ) (phases : List ModemPhase)
    → bytes_eq carrier_name name ≡ false
    → steps_under name (blocks_on p (blocks_of (map (block_phase_of ports) phases)))
    ≡ length (named name (over p (callers_of phases)))
counted_in ports p name [] other = refl
counted_in ports p name (phase ∷ phases) other =
    let steps : ℕ → ℕ = λ q. length (pins_on q phase) in
    let own = on_port p phase.callers in
    let rest = blocks_on p (blocks_of (map (block_phase_of ports) phases)) in
    let here : steps_under name (blocks_on p (phase_blocks steps ports phase)) ≡ length (named name own) =
    ap (steps_under name) (blocks_are steps ports p phase)
    ∙ (under_append name (map block_of own) (its_carriers steps ports p)
    ∙ (let none = none_under name steps ports p other in let many = named_length name own in omega (arith, none, many)))
    in
    let both : steps_under name (blocks_on p (blocks_of (map (block_phase_of ports) (phase ∷ phases))))
    ≡ steps_under name (blocks_on p (phase_blocks steps ports phase)) + steps_under name rest =
    ap (steps_under name) (filter-append (λ (x : Block). x.port == p) (phase_blocks steps ports phase)
    (blocks_of (map (block_phase_of ports) phases)))
    ∙ under_append name (blocks_on p (phase_blocks steps ports phase)) rest in
    let later = counted_in ports p name phases other in
    let calls = ap (λ (cs : List ModemCall). length cs) (named_append name own (over p (callers_of phases)))
    ∙ length-append (named name own) (named name (over p (callers_of phases))) in
    omega (arith, here, both, later, calls)

pub callers_counted : (p : ℕ) (session : ModemSession) (name : List ℕ)
    → bytes_eq carrier_name name ≡ false
    → AreCounted p (block_phases session) (callers_of session.phases) name
callers_counted p session name other k =
    ap (λ (ps : List BlockPhase). steps_under name (blocks_on p (blocks_of ps)))
    (take_map (block_phase_of session.ports) k session.phases)
    ∙ (counted_in session.ports p name (take k session.phases) other
    ∙ sym (ap (λ (ss : List (List One)). length (named name (over p ss)))
    (take_map (λ (phase : ModemPhase). phase.callers) k session.phases)))

-- a caller's first step in a phase counts its calls before
pub begin_counts : (p : ℕ) (session : ModemSession) (k c : ℕ) (name : List ℕ)
    → slice_get (names_on p (blocks_in session)) c ≡ Some name
    → bytes_eq carrier_name name ≡ false
    → begin_of p (block_phases session) k c ≡ length (calls_over p session (take k session.phases) c)
begin_counts p session k c name is other =
    let there : slice_get (names_on p (blocks_of (block_phases session))) c ≡ Some name =
    ap (λ (ns : List (List ℕ)). slice_get ns c) (sym (names_same p session)) ∙ is in
    begin_named p (block_phases session) (callers_of session.phases) k c name there
    (callers_counted p session name other)
    ∙ (ap (λ (ss : List (List One)). length (named name (over p ss)))
    (take_map (λ (phase : ModemPhase). phase.callers) k session.phases)
    ∙ (ap (λ (ss : List One). length (named name ss)) (over_are p (take k session.phases))
    ∙ sym (ap (λ (o : Option (List ℕ)). length (calls_named o (scripts_over p (take k session.phases)))) is)))

-- ---- a call by its step, in its phase

scripts_append : (p : ℕ) (xs ys : List ModemPhase) → scripts_over p (xs ++ ys) ≡ scripts_over p xs ++ scripts_over p ys
scripts_append p [] ys = refl
scripts_append p (x ∷ xs) ys =
    ap (λ (ss : List One). on_port p x.callers ++ ss) (scripts_append p xs ys)
    ∙ sym (append_assoc (on_port p x.callers) (scripts_over p xs) (scripts_over p ys))

named_or_append : (o : Option (List ℕ)) (xs ys : List One)
    → calls_named o (xs ++ ys) ≡ calls_named o xs ++ calls_named o ys
named_or_append None xs ys = refl
named_or_append (Some name) xs ys = named_append name xs ys

take_and_drop : {X : Type 0} (k : ℕ) (xs : List X) → xs ≡ take k xs ++ drop k xs
take_and_drop zero xs = refl
take_and_drop (suc k) [] = refl
take_and_drop {X} (suc k) (x ∷ xs) = ap (λ (ys : List X). x ∷ ys) (take_and_drop k xs)

-- the calls of the first of some phases are the first of all
pub calls_parts : (p : ℕ) (session : ModemSession) (phases : List ModemPhase) (k c : ℕ)
    → calls_over p session phases c
    ≡ calls_over p session (take k phases) c ++ calls_over p session (drop k phases) c
calls_parts p session phases k c =
    let o = slice_get (names_on p (blocks_in session)) c in
    ap (λ (ps : List ModemPhase). calls_named o (scripts_over p ps)) (take_and_drop k phases)
    ∙ (ap (calls_named o) (scripts_append p (take k phases) (drop k phases))
    ∙ named_or_append o (scripts_over p (take k phases)) (scripts_over p (drop k phases)))

pub calls_front : (p : ℕ) (session : ModemSession) (k c : ℕ)
    → calls_over p session session.phases c
    ≡ calls_over p session (take k session.phases) c ++ calls_over p session (drop k session.phases) c
calls_front p session k c = calls_parts p session session.phases k c

not_below : (a b : ℕ) → b ≤ a → nat_lt a b ≡ false
not_below a b le = grind (arith, nat_tests)

past_end : {X : Type 0} (xs : List X) (i : ℕ) → length xs ≤ i → slice_get xs i ≡ None
past_end [] i le = refl
past_end (x ∷ xs) zero le = absurd (omega (arith, le))
past_end (x ∷ xs) (suc i) le = past_end xs i (omega (arith, le))

next_left : (p : ℕ) (session : ModemSession) (k c step : ℕ) (left : List ModemCall)
    → step + length left ≡ length (calls_over p session (take (k + 1) session.phases) c)
    → ((i : ℕ) → i < length left → modem_call_at p session c (step + i) ≡ slice_get left i)
    → slice_get (calls_over p session (take (k + 1) session.phases) c) step ≡ slice_get left 0
next_left p session k c step [] many each =
    past_end (calls_over p session (take (k + 1) session.phases) c) step (omega (arith, many))
next_left p session k c step (call ∷ left) many each =
    let front = calls_over p session (take (k + 1) session.phases) c in
    let rest = calls_over p session (drop (k + 1) session.phases) c in
    let same : step + 0 ≡ step = omega arith in
    sym (get_first front rest step (omega (arith, many)))
    ∙ (sym (ap (λ (cs : List ModemCall). slice_get cs step) (calls_front p session (k + 1) c))
    ∙ (ap (λ (n : ℕ). modem_call_at p session c n) (sym same) ∙ each 0 (omega arith)))

-- the next call of a caller in a phase is the first that is left
pub next_in_phase : (p : ℕ) (session : ModemSession) (k c : ℕ) (name : List ℕ) (next : List ℕ) (left : List ModemCall)
    → slice_get (names_on p (blocks_in session)) c ≡ Some name
    → bytes_eq carrier_name name ≡ false
    → IsLeftTo p k (block_phases session) (modem_call_at p session) next c left
    → call_in_phase p session k c (slice_index_or next c 0) ≡ slice_get left 0
next_in_phase p session k c name next left is other h =
    let step = slice_index_or next c 0 in
    let here = begin_counts p session k c name is other in
    let later = begin_counts p session (k + 1) c name is other in
    let from = h.from in
    let count = h.count in
    ap (λ (b : Bool). if b then None else slice_get (calls_over p session (take (k + 1) session.phases) c) step)
    (not_below step (length (calls_over p session (take k session.phases) c)) (omega (arith, from, here)))
    ∙ next_left p session k c step left (omega (arith, count, later)) h.each

-- ---- `carrier`

-- no caller of the port is called so
abbrev pub NoneIsCarrier : ℕ → List ModemPhase → Type 0
NoneIsCarrier p phases =
    (k : ℕ) (phase : ModemPhase) → slice_get phases k ≡ Some phase → named carrier_name (on_port p phase.callers) ≡ []

abbrev pub pins_by_phase : ℕ → List ModemPhase → List (List PinStep)
pins_by_phase p phases = map (pins_on p) phases

abbrev pub count_of : List (List PinStep) → ℕ
count_of [] = 0
count_of (items ∷ more) = length items + count_of more

items_counted : (ports p : ℕ) (phases : List ModemPhase)
    → p < ports
    → NoneIsCarrier p phases
    → steps_under carrier_name (blocks_on p (blocks_of (map (block_phase_of ports) phases)))
    ≡ count_of (pins_by_phase p phases)
items_counted ports p [] lt none = refl
items_counted ports p (phase ∷ phases) lt none =
    let steps : ℕ → ℕ = λ q. length (pins_on q phase) in
    let own = on_port p phase.callers in
    let rest = blocks_on p (blocks_of (map (block_phase_of ports) phases)) in
    let nobody : length (named carrier_name own) ≡ 0 =
    ap (λ (cs : List ModemCall). length cs) (none 0 phase refl) in
    let callers = named_length carrier_name own in
    let one : steps_under carrier_name (carrier_block (steps p) p ∷ []) ≡ steps p =
    under_one carrier_name (carrier_block (steps p) p)
    ∙ ap (λ (b : Bool). if b then steps p else 0) (same_name carrier_name) in
    let parts_are = ap (steps_under carrier_name) (blocks_there steps ports p phase lt)
    ∙ under_append carrier_name (map block_of own) (carrier_block (steps p) p ∷ []) in
    let both = ap (steps_under carrier_name) (filter-append (λ (x : Block). x.port == p)
    (phase_blocks steps ports phase) (blocks_of (map (block_phase_of ports) phases)))
    ∙ under_append carrier_name (blocks_on p (phase_blocks steps ports phase)) rest in
    let later = items_counted ports p phases lt (λ k x is. none (suc k) x is) in
    omega (arith, nobody, callers, one, parts_are, both, later)

front_of : {X : Type 0} (n : ℕ) (xs : List X) (k : ℕ) (x : X) → slice_get (take n xs) k ≡ Some x → slice_get xs k
    ≡ Some x
front_of zero xs k x is = absurd (cc)
front_of (suc n) [] k x is = absurd (cc)
front_of (suc n) (y ∷ xs) zero x is = is
front_of (suc n) (y ∷ xs) (suc k) x is = front_of n xs k x is

-- the first step of `carrier` in a phase counts the items before
pub carrier_counts : (p : ℕ) (session : ModemSession) (k : ℕ)
    → p < session.ports
    → NoneIsCarrier p session.phases
    → slice_get (names_on p (blocks_in session)) (carrier_on p session) ≡ Some carrier_name
    → begin_of p (block_phases session) k (carrier_on p session) ≡ count_of (pins_by_phase p (take k session.phases))
carrier_counts p session k lt none is =
    let there : slice_get (names_on p (blocks_of (block_phases session))) (carrier_on p session) ≡ Some carrier_name =
    ap (λ (ns : List (List ℕ)). slice_get ns (carrier_on p session)) (sym (names_same p session)) ∙ is in
    ap (λ (o : Option (List ℕ)). steps_named p (blocks_of (take k (block_phases session))) o) there
    ∙ (ap (λ (ps : List BlockPhase). steps_under carrier_name (blocks_on p (blocks_of ps)))
    (take_map (block_phase_of session.ports) k session.phases)
    ∙ items_counted session.ports p (take k session.phases) lt
    (λ j phase at. none j phase (front_of k session.phases j phase at)))
