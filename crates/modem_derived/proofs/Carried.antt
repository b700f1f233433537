-- The steps of the callers of a session with modem lines, with the blocks of `carrier`.
use Rattle.std.proofs.Common.{◌≡◌, ◌≤◌, ◌<◌, ℕ, zero, suc, ◌+◌, ◌==◌, Bool, true, false, cond, List, [], ◌∷◌, ◌++◌}
use Rattle.std.proofs.Common.{Option, None, Some, length, map, filter, if◌then◌else◌}
use Rattle.std.proofs.Common.{refl, sym, ap, ◌∙◌, subst, arith, append-nil}
use Rattle.std.specs.Prelude.{All, option_map, replicate, slice_get, slice_index_or}
use Rattle.std.specs.List.{range_with_len}
use Rattle.std.specs.Str.{bytes_eq}
use Rattle.std.proofs.lemmas.List.{length-map, length-replicate, map-append}
use Rattle.std.proofs.lemmas.List.Elements.{All-nil, All-cons, All-head, All-tail, All-append, All-replicate}
use Rattle.std.proofs.lemmas.List.Elements.{filter-append}
use Rattle.std.proofs.lemmas.List.FromFn.{get_or-map-range_with_len}
use Rattle.std.proofs.lemmas.Grind.{flat_map-append}
use Rattle.std.proofs.lemmas.Option.{slice_get-map}
use Rattle.tty_calls.specs.Sessions.{PlainPhase, PlainSession, names_of, scripts_over as plain_over}
use Rattle.play_base.proofs.NameLemmas.{eq_name}
use Rattle.passed_calls.specs.declared.placed.PlacedCall.{PlacedCall}
use Rattle.passed_calls.specs.Blocks.{Block, names_on}
use Rattle.passed_calls.specs.Derived.{BlockPhase, blocks_of}
use Rattle.passed_calls.specs.Scripts.{CallerScript, plain, further, block_of, calls_named, mixed_scripts}
use Rattle.passed_calls.specs.Scripts.{phases_with}
use Rattle.passed_calls.specs.Within.{IsBlockPhaseWithin}
use Rattle.passed_calls.proofs.Names.{names_stay}
use Rattle.derived_session.specs.declared.passed.FurtherBlock.{FurtherBlock}
use Rattle.derived_session.specs.Steps.{CallerStep, StepsPhase, step_of, steps_in, further_steps, phases_steps}
use Rattle.derived_session.specs.Steps.{block_phase_of}
use Rattle.derived_session.specs.Steps.{scripts_in, step_at, own_call}
use Rattle.derived_session.proofs.Stepping.{blocks_kept, own_kept}
use Rattle.modem_text.specs.declared.items.OwnCall.{OwnCall}
use Rattle.modem_text.specs.declared.sessions.ModemPart.{ModemPart}
use Rattle.modem_text.specs.declared.sessions.PinItem.{PinItem}
use Rattle.modem_text.specs.Sessions.{ModemCall, ModemPhase, ModemSession, PinStep, PlainPart, part_of, no_part}
use Rattle.modem_text.specs.Sessions.{step_of as pin_step_of, pins_by_port, pins_on, phase_with, session_with}
use Rattle.modem_text.specs.Sessions.{carrier_block, carrier_name, phase_blocks, blocks_in}
use Rattle.modem_text.specs.Within.{block_phase_of as modem_block_phase, IsModemSessionWithin}
use Rattle.modem_steps.specs.Derived.{block_phases, modem_call_at, plain_call, scripts_over}
use Rattle.modem_one.proofs.Shares.{names_same}
use Rattle.modem_derived.specs.Blocks.{AreCarriers, block_of_further, carriers_in, items_of_port, nothing_passed}
use Rattle.modem_derived.specs.Blocks.{own_of, pins_of}
use Rattle.modem_steps.proofs.Silent.{silent_in, silent_over}

abbrev One : Type 0
One = CallerScript ModemCall

abbrev is_on : {C : Type 0} → ℕ → CallerScript C → Bool
is_on p s = s.port == p

-- ---- what a phase has beside

own_at : (parts : List ModemPart) (n : ℕ)
    → slice_index_or (map own_of parts) n [] ≡ (slice_index_or (map part_of parts) n no_part).own
own_at [] n = refl
own_at (part ∷ parts) zero = refl
own_at (part ∷ parts) (suc n) = own_at parts n

pins_at : (parts : List ModemPart) (n : ℕ)
    → slice_index_or (map pins_of parts) n [] ≡ (slice_index_or (map part_of parts) n no_part).pins
pins_at [] n = refl
pins_at (part ∷ parts) zero = refl
pins_at (part ∷ parts) (suc n) = pins_at parts n

-- ---- the blocks of `carrier`

further_block : (b : FurtherBlock) → block_of (further_steps b) ≡ block_of_further b
further_block b =
    ap (λ (n : ℕ). record { port = b.port; name = b.name.bytes; steps = n }) (length-replicate b.steps None)

further_blocks : (bs : List FurtherBlock) → map block_of (map further_steps bs) ≡ map block_of_further bs
further_blocks [] = refl
further_blocks (b ∷ bs) = λ i. further_block b i ∷ further_blocks bs i

-- a port's items are as many as those of all ports that are its
pins_many : (ports : ℕ) (pins : List PinItem) (p : ℕ)
    → p < ports
    → length (slice_index_or (pins_by_port ports pins) p []) ≡ length (items_of_port p pins)
pins_many ports pins p lt =
    ap (λ (xs : List PinStep). length xs)
    (get_or-map-range_with_len (λ q. map pin_step_of (filter (λ item. item.port == q) pins)) 0 ports p p [] lt
    (omega arith))
    ∙ length-map (items_of_port p pins) pin_step_of

carriers_same : (ports : ℕ) (pins : List PinItem) (from n : ℕ)
    → from + n ≤ ports
    → map (λ p. carrier_block (length (items_of_port p pins)) p) (range_with_len from n)
    ≡ map (λ p. carrier_block (length (slice_index_or (pins_by_port ports pins) p [])) p) (range_with_len from n)
carriers_same ports pins from zero le = refl
carriers_same ports pins from (suc n) le =
    λ i.
    carrier_block (sym (pins_many ports pins from (omega (arith, le))) i) from
    ∷ carriers_same ports pins (from + 1) n (omega (arith, le)) i

all_back : (P : Block → Type 0) (bs : List FurtherBlock)
    → All P (map block_of_further bs)
    → All (λ b. P (block_of_further b)) bs
all_back P [] h = All-nil (λ (b : FurtherBlock). P (block_of_further b))
all_back P (b ∷ bs) h =
    All-cons (λ (x : FurtherBlock). P (block_of_further x)) b bs
    (All-head P (block_of_further b) (map block_of_further bs) h)
    (all_back P bs (All-tail P (block_of_further b) (map block_of_further bs) h))

-- each is a port's, and is called so
abbrev pub IsCarrier : ℕ → Block → Type 0
IsCarrier ports b = (b.port < ports) × (b.name ≡ carrier_name)

carriers_of_ports : (ports : ℕ) (f : ℕ → ℕ) (from n : ℕ)
    → from + n ≤ ports
    → All (IsCarrier ports) (map (λ p. carrier_block (f p) p) (range_with_len from n))
carriers_of_ports ports f from zero le = All-nil (IsCarrier ports)
carriers_of_ports ports f from (suc n) le =
    All-cons (IsCarrier ports) (carrier_block (f from) from)
    (map (λ p. carrier_block (f p) p) (range_with_len (from + 1) n)) (omega (arith, le), refl)
    (carriers_of_ports ports f (from + 1) n (omega (arith, le)))

pub are_carriers : (ports : ℕ) (pins : List PinItem) (bs : List FurtherBlock)
    → map block_of_further bs ≡ carriers_in ports pins
    → All (λ b. IsCarrier ports (block_of_further b)) bs
are_carriers ports pins bs is =
    all_back (IsCarrier ports) bs
    (subst (λ (xs : List Block). All (IsCarrier ports) xs) (sym is)
    (carriers_of_ports ports (λ p. length (items_of_port p pins)) 0 ports (omega arith)))

-- ---- steps under a name

abbrev under : {C : Type 0} → List ℕ → List (CallerScript C) → List C
under name ss = calls_named (Some name) ss

under_append : {C : Type 0} (name : List ℕ) (xs ys : List (CallerScript C))
    → under name (xs ++ ys) ≡ under name xs ++ under name ys
under_append {C} name xs ys =
    flat_map-append (λ (s : CallerScript C). if bytes_eq s.name name then s.calls else []) xs ys

kept_if : (b : Bool) (cs : List ModemCall) → (if b then map step_of cs else []) ≡ map step_of (if b then cs else [])
kept_if true cs = refl
kept_if false cs = refl

named_kept : (name : List ℕ) (ss : List One) → under name (map steps_in ss) ≡ map step_of (under name ss)
named_kept name [] = refl
named_kept name (s ∷ ss) =
    (λ i. kept_if (bytes_eq s.name name) s.calls i ++ named_kept name ss i)
    ∙ sym (map-append step_of (if bytes_eq s.name name then s.calls else []) (under name ss))

own_named : (name : List ℕ) (p : ℕ) (ss : List One)
    → under name (filter (is_on p) (map steps_in ss)) ≡ map step_of (under name (filter (is_on p) ss))
own_named name p ss = ap (under name) (own_kept p ss) ∙ named_kept name (filter (is_on p) ss)

abbrev IsNone : CallerStep → Type 0
IsNone s = s ≡ None

-- `carrier` passes none of its steps down, and under another name it has none
module _ (name : List ℕ) (p : ℕ) where
  all_none : (bs : List FurtherBlock) → All IsNone (under name (filter (is_on p) (map further_steps bs)))
  all_none [] = All-nil IsNone
  all_none (b ∷ bs) = either (b.port == p) (filter (is_on p) (map further_steps bs)) (all_none bs)
    where
      of_name : (t : Bool) → All IsNone (if t then replicate b.steps None else [])
      of_name true = All-replicate IsNone b.steps None refl
      of_name false = All-nil IsNone

      either : (t : Bool) (xs : List (CallerScript CallerStep))
          → All IsNone (under name xs)
          → All IsNone (under name (cond t (further_steps b ∷ xs) xs))
      either true xs h =
          All-append IsNone (if bytes_eq b.name.bytes name then replicate b.steps None else []) (under name xs)
          (of_name (bytes_eq b.name.bytes name)) h
      either false xs h = h

  module _ (ports : ℕ) (other : bytes_eq carrier_name name ≡ false) where
    none_other : (bs : List FurtherBlock)
        → All (λ b. IsCarrier ports (block_of_further b)) bs
        → under name (filter (is_on p) (map further_steps bs)) ≡ []
    none_other [] h = refl
    none_other (b ∷ bs) h = either (b.port == p) (filter (is_on p) (map further_steps bs))
        (none_other bs (All-tail (λ (x : FurtherBlock). IsCarrier ports (block_of_further x)) b bs h))
      where
        called : bytes_eq b.name.bytes name ≡ false
        called =
            ap (λ (n : List ℕ). bytes_eq n name)
            (All-head (λ (x : FurtherBlock). IsCarrier ports (block_of_further x)) b bs h).1
            ∙ other

        either : (t : Bool) (xs : List (CallerScript CallerStep))
            → under name xs ≡ []
            → under name (cond t (further_steps b ∷ xs) xs) ≡ []
        either true xs none =
            ap (λ (t : Bool). (if t then replicate b.steps None else []) ++ under name xs) called ∙ none
        either false xs none = none

none_made : (steps : List CallerStep) (n : ℕ) → All IsNone steps → own_call (slice_get steps n) ≡ []
none_made [] n h = refl
none_made (s ∷ steps) zero h = ap (λ (x : CallerStep). own_call (Some x)) (All-head IsNone s steps h)
none_made (s ∷ steps) (suc n) h = none_made steps n (All-tail IsNone s steps h)

plain_is : (o : Option ModemCall) → own_call (option_map step_of o) ≡ plain_call o
plain_is None = refl
plain_is (Some (plain call)) = refl
plain_is (Some (further call)) = refl

blocks_in_phases : (phases : List StepsPhase)
    → map block_of (scripts_in phases) ≡ blocks_of (map block_phase_of phases)
blocks_in_phases [] = refl
blocks_in_phases (phase ∷ phases) =
    map-append block_of phase.callers (scripts_in phases)
    ∙ ap (λ (bs : List Block). map block_of phase.callers ++ bs) (blocks_in_phases phases)

-- ---- all phases

module _ (ports count : ℕ) (parts : List ModemPart) (carriers : List (List FurtherBlock))
    (are : AreCarriers ports count parts carriers) where
  abbrev phases_from : (n : ℕ) → List PlainPhase → List ModemPhase
  phases_from n phases = phases_with (phase_with ports) no_part (map part_of parts) n phases

  abbrev steps_from : (n : ℕ) → List PlainPhase → List StepsPhase
  steps_from n phases = phases_steps (map own_of parts) carriers n phases

  abbrev others_at : ℕ → List FurtherBlock
  others_at n = slice_index_or carriers n []

  -- the callers' scripts
  abbrev mixed_at : (n : ℕ) → PlainPhase → List One
  mixed_at n phase = mixed_scripts 0 phase.callers (slice_index_or (map own_of parts) n [])

  abbrev part_at : ℕ → PlainPart
  part_at n = slice_index_or (map part_of parts) n no_part

  blocks_at : (n : ℕ) (phase : PlainPhase)
      → n < count
      → map block_of (map steps_in (mixed_at n phase) ++ map further_steps (others_at n))
      ≡ phase_blocks (λ p. length (pins_on p (phase_with ports phase (part_at n)))) ports
      (phase_with ports phase (part_at n))
  blocks_at n phase lt =
      map-append block_of (map steps_in (mixed_at n phase)) (map further_steps (others_at n))
      ∙ λ i.
      (blocks_kept (mixed_at n phase)
      ∙ ap (λ (os : List (PlacedCall OwnCall)). map block_of (mixed_scripts 0 phase.callers os)) (own_at parts n)) i
      ++ (further_blocks (others_at n)
      ∙ (are.each n lt
      ∙ (ap (λ (pins : List PinItem). carriers_in ports pins) (pins_at parts n)
      ∙ carriers_same ports (part_at n).pins 0 ports (omega arith)))) i

  pub phases_are : (n : ℕ) (phases : List PlainPhase)
      → n + length phases ≤ count
      → map block_phase_of (steps_from n phases) ≡ map (modem_block_phase ports) (phases_from n phases)
  phases_are n [] le = refl
  phases_are n (phase ∷ phases) le =
      λ i.
      record { lines = phase.lines; ticks = phase.ticks; blocks = blocks_at n phase (omega (arith, le)) i }
      ∷ phases_are (n + 1) phases (omega (arith, le)) i

  module _ (p : ℕ) where
    -- the scripts of a port
    abbrev of_port : List StepsPhase → List (CallerScript CallerStep)
    of_port phases = filter (is_on p) (scripts_in phases)

    abbrev mine_at : (n : ℕ) → PlainPhase → List One
    mine_at n phase = filter (is_on p) (mixed_at n phase)

    abbrev carriers_at : (n : ℕ) → List (CallerScript CallerStep)
    carriers_at n = filter (is_on p) (map further_steps (others_at n))

    mine_is : (n : ℕ) (phase : PlainPhase) → mine_at n phase ≡ filter (is_on p)
        (phase_with ports phase (part_at n)).callers
    mine_is n phase =
        ap (λ (os : List (PlacedCall OwnCall)). filter (is_on p) (mixed_scripts 0 phase.callers os)) (own_at parts n)

    named_first : (name : List ℕ) (n : ℕ) (phase : PlainPhase) (phases : List PlainPhase)
        → under name (of_port (steps_from n (phase ∷ phases)))
        ≡ (map step_of (under name (mine_at n phase)) ++ under name (carriers_at n))
        ++ under name (of_port (steps_from (n + 1) phases))
    named_first name n phase phases =
        let own = map steps_in (mixed_at n phase) in
        let others = map further_steps (others_at n) in
        let later = scripts_in (steps_from (n + 1) phases) in
        ap (under name) (filter-append (is_on p) (own ++ others) later)
        ∙ (under_append name (filter (is_on p) (own ++ others)) (filter (is_on p) later)
        ∙ ap (λ (cs : List CallerStep). cs ++ under name (filter (is_on p) later))
        (ap (under name) (filter-append (is_on p) own others)
        ∙ (under_append name (filter (is_on p) own) (filter (is_on p) others)
        ∙ ap (λ (cs : List CallerStep). cs ++ under name (filter (is_on p) others))
        (own_named name p (mixed_at n phase)))))

    -- under the names of callers, the steps of their calls
    other_named : (name : List ℕ) (n : ℕ) (phases : List PlainPhase)
        → bytes_eq carrier_name name ≡ false
        → n + length phases ≤ count
        → under name (of_port (steps_from n phases)) ≡ map step_of (under name (scripts_over p (phases_from n phases)))
    other_named name n [] other le = refl
    other_named name n (phase ∷ phases) other le =
        let mine = filter (is_on p) (phase_with ports phase (part_at n)).callers in
        let later = scripts_over p (phases_from (n + 1) phases) in
        let none : under name (carriers_at n) ≡ [] =
        none_other name p ports other (others_at n)
        (are_carriers ports (slice_index_or (map pins_of parts) n []) (others_at n) (are.each n (omega (arith, le)))) in
        let here : map step_of (under name (mine_at n phase)) ++ under name (carriers_at n)
        ≡ map step_of (under name mine) =
        ap (λ (cs : List CallerStep). map step_of (under name (mine_at n phase)) ++ cs) none
        ∙ (append-nil (map step_of (under name (mine_at n phase)))
        ∙ ap (λ (ss : List One). map step_of (under name ss)) (mine_is n phase)) in
        named_first name n phase phases
        ∙ ((λ i. here i ++ other_named name (n + 1) phases other (omega (arith, le)) i)
        ∙ (sym (map-append step_of (under name mine) (under name later))
        ∙ ap (map step_of) (sym (under_append name mine later))))

    -- under `carrier`, none
    carrier_named : (n : ℕ) (phases : List PlainPhase)
        → All (IsBlockPhaseWithin ports) (map (modem_block_phase ports) (phases_from n phases))
        → All IsNone (under carrier_name (of_port (steps_from n phases)))
    carrier_named n [] within = All-nil IsNone
    carrier_named n (phase ∷ phases) within =
        let made = phase_with ports phase (part_at n) in
        let later = under carrier_name (of_port (steps_from (n + 1) phases)) in
        let none : map step_of (under carrier_name (mine_at n phase)) ≡ [] =
        ap (λ (ss : List One). map step_of (under carrier_name ss)) (mine_is n phase)
        ∙ ap (map step_of)
        (silent_in ports p made
        (All-head (IsBlockPhaseWithin ports) (modem_block_phase ports made)
        (map (modem_block_phase ports) (phases_from (n + 1) phases)) within)) in
        subst (λ (cs : List CallerStep). All IsNone cs)
        (sym (named_first carrier_name n phase phases
        ∙ ap (λ (cs : List CallerStep). (cs ++ under carrier_name (carriers_at n)) ++ later) none))
        (All-append IsNone (under carrier_name (carriers_at n)) later (all_none carrier_name p (others_at n))
        (carrier_named (n + 1) phases
        (All-tail (IsBlockPhaseWithin ports) (modem_block_phase ports made)
        (map (modem_block_phase ports) (phases_from (n + 1) phases)) within)))

-- ---- the session

module _ (base : PlainSession) (parts : List ModemPart) (carriers : List (List FurtherBlock))
    (are : AreCarriers base.ports (length base.phases) parts carriers) where
  abbrev session : ModemSession
  session = session_with base (map part_of parts)

  abbrev pub all_steps : List StepsPhase
  all_steps = phases_steps (map own_of parts) carriers 0 base.phases

  pub blocks_are : map block_phase_of all_steps ≡ block_phases session
  blocks_are = phases_are base.ports (length base.phases) parts carriers are 0 base.phases (omega arith)

  names_known : (p : ℕ) → names_on p (map block_of (scripts_in all_steps)) ≡ names_on p (blocks_in session)
  names_known p =
      ap (names_on p) (blocks_in_phases all_steps ∙ ap (λ (ps : List BlockPhase). blocks_of ps) blocks_are)
      ∙ sym (names_same p session)

  pub base_names : (p : ℕ) (made : PlainSession)
      → made ≡ nothing_passed session
      → names_of (plain_over p made.phases) ≡ names_on p (blocks_in session)
  base_names p made is =
      ap (λ (s : PlainSession). names_of (plain_over p s.phases)) is
      ∙ (names_stay (λ q. []) (block_phases session) p ∙ sym (names_same p session))

  module _ (within : IsModemSessionWithin session) (p : ℕ) where
    abbrev mine : List (CallerScript CallerStep)
    mine = filter (is_on p) (scripts_in all_steps)

    abbrev calls : List One
    calls = scripts_over p session.phases

    by_name : (name : List ℕ) (n : ℕ) (b : Bool)
        → bytes_eq carrier_name name ≡ b
        → own_call (slice_get (under name mine) n) ≡ plain_call (slice_get (under name calls) n)
    by_name name n true is =
        let same = eq_name carrier_name name is in
        let silent : under name calls ≡ [] =
        ap (λ (x : List ℕ). under x calls) (sym same) ∙ silent_over base.ports p session.phases within.blocks.each in
        none_made (under name mine) n
        (subst (λ (x : List ℕ). All IsNone (under x mine)) same
        (carrier_named base.ports (length base.phases) parts carriers are p 0 base.phases within.blocks.each))
        ∙ sym (ap (λ (cs : List ModemCall). plain_call (slice_get cs n)) silent)
    by_name name n false is =
        ap (λ (cs : List CallerStep). own_call (slice_get cs n))
        (other_named base.ports (length base.phases) parts carriers are p name 0 base.phases is (omega arith))
        ∙ (ap own_call (slice_get-map step_of (under name calls) n) ∙ plain_is (slice_get (under name calls) n))

    by_number : (o : Option (List ℕ)) (n : ℕ)
        → own_call (slice_get (calls_named o mine) n) ≡ plain_call (slice_get (calls_named o calls) n)
    by_number None n = refl
    by_number (Some name) n = by_name name n (bytes_eq carrier_name name) refl

    -- a caller passes the same down
    pub call_is : (c n : ℕ) → own_call (step_at (scripts_in all_steps) p c n) ≡ plain_call (modem_call_at p session c n)
    call_is c n =
        ap (λ (names : List (List ℕ)). own_call (slice_get (calls_named (slice_get names c) mine) n)) (names_known p)
        ∙ by_number (slice_get (names_on p (blocks_in session)) c) n
