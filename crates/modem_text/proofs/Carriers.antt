-- The blocks of a phase keep the limits with those of `carrier`.
use Rattle.std.proofs.Common.{◌≡◌, ◌⊎◌, inl, inr, ℕ, zero, suc, ◌+◌, ◌<◌, ◌≤◌, ◌==◌, nat_le, Bool, true, false, cond}
use Rattle.std.proofs.Common.{List, [], ◌∷◌, ◌++◌, length, map, refl, sym, ◌∙◌, ap, arith, append-nil, length-append}
use Rattle.std.specs.Prelude.{All, count_by, filter, fold, slice_index_or, sum_by}
use Rattle.std.specs.List.{AllByRecursion, list_any, range_with_len}
use Rattle.std.specs.Str.{bytes_eq}
use Rattle.std.proofs.lemmas.Bool.{cases_order, cond-false, cond-true, eq-eqb, eqb-true}
use Rattle.std.proofs.lemmas.Bool.{false_from_ne_true, le-leb, lt-leb, ne_eqb, or_from}
use Rattle.std.proofs.lemmas.List.{length-map, map-append}
use Rattle.std.proofs.lemmas.List.Elements.{All-nil, All-cons, All-append, filter-append}
use Rattle.std.proofs.lemmas.List.FromFn.{get_or-map-range_with_len}
use Rattle.std.proofs.lemmas.List.Sums.{fold-append, length-filter, sum_by-append, sum_by-cons}
use Rattle.std.proofs.lemmas.Slice.Eq.{bytes_eq-Decides}
use Rattle.tty_calls.specs.Limits.{IsPhaseWithin}
use Rattle.tty_calls.specs.Sessions.{PlainScript, PlainPhase, scripts_on, with_name}
use Rattle.session_text.specs.Stands.{PlainKey, callers_on}
use Rattle.passed_calls.specs.Blocks.{Block, bare, blocks_on, names_on}
use Rattle.passed_calls.specs.Scripts.{block_of, mixed_scripts}
use Rattle.passed_calls.specs.Within.{IsBlockPhaseWithin}
use Rattle.passed_calls.proofs.Mixed.{bare_names, names_mixed, phase_within, steps_mixed}
use Rattle.passed_calls.proofs.Names.{fold_names, name_of}
use Rattle.further_text.proofs.Drafts.{keys_in}
use Rattle.modem_text.specs.declared.sessions.PinItem.{PinItem}
use Rattle.modem_text.specs.Sessions.{PlainPart, PinStep, carrier_name, carrier_block}
use Rattle.modem_text.specs.Sessions.{phase_with, pins_by_port, step_of}
use Rattle.modem_text.specs.Within.{block_phase_of}
use Rattle.modem_text.proofs.Steps.{AreCallers, size}

-- ---- the blocks of `carrier`

abbrev carriers : (steps : ℕ → ℕ) → (first n : ℕ) → List Block
carriers steps a n = map (λ p. carrier_block (steps p) p) (range_with_len a n)

abbrev names : List Block → List (List ℕ)
names bs = map (λ (b : Block). b.name) bs

carriers_below : (steps : ℕ → ℕ) (ports a n : ℕ)
    → a + n ≤ ports
    → All (λ (b : Block). b.port < ports) (carriers steps a n)
carriers_below steps ports a zero h = All-nil (λ (b : Block). b.port < ports)
carriers_below steps ports a (suc n) h =
    All-cons (λ (b : Block). b.port < ports) (carrier_block (steps a) a) (carriers steps (a + 1) n) (omega (arith, h))
    (carriers_below steps ports (a + 1) n (omega (arith, h)))

-- there is one on a port at most
passed_by : (steps : ℕ → ℕ) (p a n : ℕ) → p < a → blocks_on p (carriers steps a n) ≡ []
passed_by steps p a zero h = refl
passed_by steps p a (suc n) h =
    cond-false (a == p) (carrier_block (steps a) a ∷ blocks_on p (carriers steps (a + 1) n))
    (blocks_on p (carriers steps (a + 1) n)) (ne_eqb a p (λ e. omega (arith, h, e)))
    ∙ passed_by steps p (a + 1) n (omega (arith, h))

abbrev OneName : List (List ℕ) → Type 0
OneName ns = (ns ≡ []) ⊎ (ns ≡ carrier_name ∷ [])

one_either : (t : Bool) (b : Block) (bs : List Block)
    → b.name ≡ carrier_name
    → (t ≡ true → bs ≡ [])
    → OneName (names bs)
    → OneName (names (cond t (b ∷ bs) bs))
one_either true b bs is none h =
    inr (ap (λ (xs : List Block). b.name ∷ names xs) (none refl) ∙ ap (λ (n : List ℕ). n ∷ []) is)
one_either false b bs is none h = h

one_name : (steps : ℕ → ℕ) (p a n : ℕ) → OneName (names (blocks_on p (carriers steps a n)))
one_name steps p a zero = inl refl
one_name steps p a (suc n) =
    one_either (a == p) (carrier_block (steps a) a) (blocks_on p (carriers steps (a + 1) n)) refl
    (λ e. passed_by steps p (a + 1) n (omega (arith, eqb-true a p e))) (one_name steps p (a + 1) n)

-- ---- names that differ

names_fold : (p : ℕ) (bs : List Block) → names_on p bs ≡ fold with_name [] (names (blocks_on p bs))
names_fold p bs =
    fold_names [] (map bare (blocks_on p bs))
    ∙ ap (λ (ns : List (List ℕ)). fold with_name [] ns) (bare_names (blocks_on p bs))

add_name : (ns more : List (List ℕ))
    → fold with_name [] ns ≡ ns
    → list_any (bytes_eq carrier_name) ns ≡ false
    → OneName more
    → fold with_name [] (ns ++ more) ≡ ns ++ more
add_name ns more own free (inl none) =
    ap (λ (xs : List (List ℕ)). fold with_name [] (ns ++ xs)) none
    ∙ ap (fold with_name []) (append-nil ns)
    ∙ own
    ∙ sym (append-nil ns)
    ∙ ap (λ (xs : List (List ℕ)). ns ++ xs) (sym none)
add_name ns more own free (inr one) =
    ap (λ (xs : List (List ℕ)). fold with_name [] (ns ++ xs)) one
    ∙ fold-append with_name [] ns (carrier_name ∷ [])
    ∙ ap (λ (xs : List (List ℕ)). with_name xs carrier_name) own
    ∙ cond-false (list_any (bytes_eq carrier_name) ns) ns (ns ++ carrier_name ∷ []) free
    ∙ ap (λ (xs : List (List ℕ)). ns ++ xs) (sym one)

other_name : (name : List ℕ) → bytes_eq name carrier_name ≡ false → bytes_eq carrier_name name ≡ false
other_name name e =
    false_from_ne_true (bytes_eq carrier_name name) (λ same.
    let is : carrier_name ≡ name = (bytes_eq-Decides carrier_name name).0 same in
    let self : bytes_eq name carrier_name ≡ true = ap (λ (n : List ℕ). bytes_eq n carrier_name) (sym is) in
    let both : true ≡ false = sym self ∙ e in absurd (cc))

free_either : (t : Bool) (s : PlainScript) (ss : List PlainScript)
    → bytes_eq carrier_name s.name ≡ false
    → list_any (bytes_eq carrier_name) (map name_of ss) ≡ false
    → list_any (bytes_eq carrier_name) (map name_of (cond t (s ∷ ss) ss)) ≡ false
free_either true s ss one rest =
    or_from (bytes_eq carrier_name s.name) (list_any (bytes_eq carrier_name) (map name_of ss)) one rest
free_either false s ss one rest = rest

abbrev key_of : PlainScript → PlainKey
key_of s = record { name = s.name; port = s.port }

no_carrier : (p : ℕ) (ss : List PlainScript)
    → AllByRecursion (λ (key : PlainKey). bytes_eq key.name carrier_name ≡ false) (map key_of ss)
    → list_any (bytes_eq carrier_name) (map name_of (filter (λ (s : PlainScript). s.port == p) ss)) ≡ false
no_carrier p [] h = refl
no_carrier p (s ∷ ss) h = free_either (s.port == p) s (filter (λ (x : PlainScript). x.port == p) ss)
    (other_name s.name h.0) (no_carrier p ss h.1)

length_either : {X : Type 0} (t : Bool) (x : X) (xs : List X) → length (cond t (x ∷ xs) xs) ≡ cond t 1 0 + length xs
length_either true x xs = omega arith
length_either false x xs = omega arith

count_scripts : (p : ℕ) (ss : List PlainScript)
    → callers_on p (map key_of ss) ≡ length (filter (λ (s : PlainScript). s.port == p) ss)
count_scripts p [] = refl
count_scripts p (s ∷ ss) =
    omega (
      arith,
      count_scripts p ss,
      length_either (s.port == p) s (filter (λ (x : PlainScript). x.port == p) ss),
      sum_by-cons (λ (key : PlainKey). cond (key.port == p) 1 0) (key_of s) (map key_of ss),
    )

-- ---- the blocks of a phase

few_with_one : (xs ys all : List Block) → all ≡ xs ++ ys → length xs ≤ 15 → OneName (names ys) → length all ≤ 16
few_with_one xs ys all is short (inl none) = omega (
  arith,
  ap (λ (bs : List Block). length bs) is,
  length-append xs ys,
  short,
  length-map ys (λ (b : Block). b.name),
  ap (λ (ns : List (List ℕ)). length ns) none,
)
few_with_one xs ys all is short (inr one) = omega (
  arith,
  ap (λ (bs : List Block). length bs) is,
  length-append xs ys,
  short,
  length-map ys (λ (b : Block). b.name),
  ap (λ (ns : List (List ℕ)). length ns) one,
)

blocks_carried : (ports : ℕ) (phase : PlainPhase) (part : PlainPart) (steps : ℕ → ℕ)
    → IsPhaseWithin ports phase
    → AreCallers (keys_in phase)
    → IsBlockPhaseWithin ports (record {
      lines = phase.lines;
      ticks = phase.ticks;
      blocks = map block_of (mixed_scripts 0 phase.callers part.own) ++ carriers steps 0 ports;
    })
blocks_carried ports phase part steps h callers =
    let own = map block_of (mixed_scripts 0 phase.callers part.own) in
    let is = phase_within ports phase part.own h in
    let on : (p : ℕ)
    → blocks_on p (own ++ carriers steps 0 ports) ≡ blocks_on p own ++ blocks_on p (carriers steps 0 ports) = λ p.
    filter-append (λ (b : Block). b.port == p) own (carriers steps 0 ports) in
    let named : (p : ℕ)
    → names (blocks_on p (own ++ carriers steps 0 ports))
    ≡ names (blocks_on p own) ++ names (blocks_on p (carriers steps 0 ports)) =
    λ p.
    ap names (on p) ∙ map-append (λ (b : Block). b.name) (blocks_on p own) (blocks_on p (carriers steps 0 ports)) in
    record {
      lines = is.lines;
      ticks = is.ticks;
      steps = is.steps;
      blocks = All-append (λ (b : Block). b.port < ports) own (carriers steps 0 ports) is.blocks
          (carriers_below steps ports 0 ports (omega arith));
      few_callers = λ p. few_with_one (blocks_on p own) (blocks_on p (carriers steps 0 ports))
          (blocks_on p (own ++ carriers steps 0 ports)) (on p)
          (omega (
            arith,
            ap length (names_mixed p 0 phase.callers part.own),
            length-map (blocks_on p own) (λ (b : Block). b.name),
            length-map (scripts_on p phase) name_of,
            count_scripts p phase.callers,
            callers.few p,
          ))
          (one_name steps p 0 ports);
      own_names = λ p.
          names_fold p (own ++ carriers steps 0 ports) ∙ ap (fold with_name []) (named p)
          ∙ add_name (names (blocks_on p own)) (names (blocks_on p (carriers steps 0 ports)))
          (sym (names_fold p own) ∙ is.own_names p)
          (ap (list_any (bytes_eq carrier_name)) (names_mixed p 0 phase.callers part.own)
          ∙ no_carrier p phase.callers callers.named)
          (one_name steps p 0 ports)
          ∙ sym (named p);
    }

-- ---- the calls of `carrier` are few

from_on : (a port : ℕ) → cond (port == a) 1 0 + cond (nat_le (a + 1) port) 1 0 ≤ cond (nat_le a port) 1 0
from_on a port =
    elim (cases_order port a) [
      | inl same ↦ omega (
        arith,
        cond-true {A = ℕ} (port == a) 1 0 (eq-eqb port a same),
        cond-false {A = ℕ} (nat_le (a + 1) port) 1 0 (lt-leb (a + 1) port (omega (arith, same))),
        cond-true {A = ℕ} (nat_le a port) 1 0 (le-leb a port (omega (arith, same))),
      )
      | inr other ↦ elim other [
        | inl below ↦ omega (
          arith,
          cond-false {A = ℕ} (port == a) 1 0 (ne_eqb port a (λ e. omega (arith, e, below))),
          cond-false {A = ℕ} (nat_le (a + 1) port) 1 0 (lt-leb (a + 1) port (omega (arith, below))),
        )
        | inr above ↦ omega (
          arith,
          cond-false {A = ℕ} (port == a) 1 0 (ne_eqb port a (λ e. omega (arith, e, above))),
          cond-true {A = ℕ} (nat_le (a + 1) port) 1 0 (le-leb (a + 1) port (omega (arith, above))),
          cond-true {A = ℕ} (nat_le a port) 1 0 (le-leb a port (omega (arith, above))),
        )
      ]
    ]

abbrev from : ℕ → List PinItem → ℕ
from a pins = count_by (λ (item : PinItem). nat_le a item.port) pins

abbrev at : ℕ → List PinItem → ℕ
at a pins = count_by (λ (item : PinItem). item.port == a) pins

pins_from : (a : ℕ) (pins : List PinItem) → at a pins + from (a + 1) pins ≤ from a pins
pins_from a [] = omega arith
pins_from a (item ∷ pins) =
    omega (
      arith,
      from_on a item.port,
      pins_from a pins,
      sum_by-cons (λ (i : PinItem). cond (i.port == a) 1 0) item pins,
      sum_by-cons (λ (i : PinItem). cond (nat_le (a + 1) i.port) 1 0) item pins,
      sum_by-cons (λ (i : PinItem). cond (nat_le a i.port) 1 0) item pins,
    )

carried : (steps : ℕ → ℕ) (pins : List PinItem) (a n : ℕ)
    → ((p : ℕ) → p < a + n → steps p ≤ at p pins)
    → sum_by (λ (b : Block). b.steps) (carriers steps a n) ≤ from a pins
carried steps pins a zero few = omega arith
carried steps pins a (suc n) few =
    omega (
      arith,
      few a (omega arith),
      carried steps pins (a + 1) n (λ p h. few p (omega (arith, h))),
      pins_from a pins,
      sum_by-cons (λ (b : Block). b.steps) (carrier_block (steps a) a) (carriers steps (a + 1) n),
    )

one_at_most : (t : Bool) → cond t 1 0 ≤ 1
one_at_most true = omega arith
one_at_most false = omega arith

from_first : (pins : List PinItem) → from 0 pins ≤ length pins
from_first [] = omega arith
from_first (item ∷ pins) = omega (
  arith,
  one_at_most (nat_le 0 item.port),
  from_first pins,
  sum_by-cons (λ (i : PinItem). cond (nat_le 0 i.port) 1 0) item pins,
)

pins_of : (ports : ℕ) (pins : List PinItem) (p : ℕ)
    → p < 0 + ports
    → length (slice_index_or (pins_by_port ports pins) p []) ≤ at p pins
pins_of ports pins p h =
    let here = get_or-map-range_with_len (λ q. map step_of (filter (λ (item : PinItem). item.port == q) pins)) 0 ports p
    p [] (omega (arith, h)) (omega arith) in
    omega (
      arith,
      ap (λ (xs : List PinStep). length xs) here,
      length-map (filter (λ (item : PinItem). item.port == p) pins) step_of,
      length-filter (λ (item : PinItem). item.port == p) pins,
    )

pub few_steps : (ports : ℕ) (phase : PlainPhase) (part : PlainPart)
    → sum_by (λ (b : Block). b.steps) (block_phase_of ports (phase_with ports phase part)).blocks
    ≤ sum_by (λ (s : PlainScript). length s.calls) phase.callers + size part
few_steps ports phase part =
    let steps : ℕ → ℕ = λ p. length (slice_index_or (pins_by_port ports part.pins) p []) in
    let own = map block_of (mixed_scripts 0 phase.callers part.own) in
    let all : sum_by (λ (b : Block). b.steps) (block_phase_of ports (phase_with ports phase part)).blocks
    ≡ sum_by (λ (b : Block). b.steps) own + sum_by (λ (b : Block). b.steps) (carriers steps 0 ports) =
    sum_by-append (λ (b : Block). b.steps) own (carriers steps 0 ports) in
    omega (
      arith,
      all,
      steps_mixed 0 phase.callers part.own,
      carried steps part.pins 0 ports (pins_of ports part.pins),
      from_first part.pins,
    )

pub blocks_within_phase : (ports : ℕ) (phase : PlainPhase) (part : PlainPart)
    → IsPhaseWithin ports phase
    → AreCallers (keys_in phase)
    → IsBlockPhaseWithin ports (block_phase_of ports (phase_with ports phase part))
blocks_within_phase ports phase part h callers =
    blocks_carried ports phase part (λ p. length (slice_index_or (pins_by_port ports part.pins) p [])) h callers
