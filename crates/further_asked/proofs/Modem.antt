-- What a session of ports with modem lines asks.
use Rattle.std.proofs.Common.{◌≡◌, inl, inr, ℕ, zero, suc, ◌+◌, ◌-◌, ◌*◌, ◌<◌, ◌≤◌, ◌==◌, Bool, true, false, cond}
use Rattle.std.proofs.Common.{Option, None, Some, Ok, Err, List, [], ◌∷◌, ◌++◌, length, map, refl, sym, ap, ◌∙◌}
use Rattle.std.proofs.Common.{if◌then◌else◌, subst, arith, append-nil, length-append}
use Rattle.std.specs.Prelude.{All, filter, flat_map, option_map, replicate, slice_get, slice_index_or, sum_by}
use Rattle.std.specs.List.{range_with_len}
use Rattle.std.specs.Str.{bytes_eq}
use Rattle.std.proofs.lemmas.Bool.{cases_lt, cond-false, eqb-true, ne_eqb}
use Rattle.std.proofs.lemmas.List.{get_or_past, length-map, length-replicate, map-append}
use Rattle.std.proofs.lemmas.List.Elements.{All-nil, All-cons, All-append, All-replicate}
use Rattle.std.proofs.lemmas.List.Elements.{All-filter, filter-append}
use Rattle.std.proofs.lemmas.List.Folds.{sum_by-replicate}
use Rattle.std.proofs.lemmas.List.FromFn.{get_or-map-range_with_len, length-map-range_with_len}
use Rattle.std.proofs.lemmas.List.Sums.{sum_by-append, sum_by-cons}
use Rattle.std.proofs.lemmas.Grind.{flat_map-append}
use Rattle.std.proofs.lemmas.Option.{slice_get-map}
use Rattle.tty_calls.specs.Plain.{hangs_up}
use Rattle.tty_calls.specs.Sessions.{PlainPhase, scripts_on}
use Rattle.session_text.specs.Refusals.{lines_in}
use Rattle.session_text.proofs.TextAsks.{text_asks}
use Rattle.play_base.proofs.NameLemmas.{eq_name}
use Rattle.passed_calls.specs.declared.placed.PlacedCall.{PlacedCall}
use Rattle.passed_calls.specs.Blocks.{Block, bare, blocks_on, names_on}
use Rattle.passed_calls.specs.Derived.{BlockPhase, Passing, blocks_of}
use Rattle.passed_calls.specs.Scripts.{CallerScript, plain, further, block_of, calls_named, numbered_call}
use Rattle.passed_calls.proofs.Mixed.{bare_names, map_phases}
use Rattle.passed_calls.proofs.Names.{names_by_names}
use Rattle.further_text.specs.Faults.{Read}
use Rattle.modem_text.specs.declared.items.ModemItem.{ModemItem}
use Rattle.modem_text.specs.declared.items.ModemItem.TheVariants as item
use Rattle.modem_text.specs.declared.items.OwnCall.{OwnCall}
use Rattle.modem_text.specs.declared.sessions.PinItem.{PinItem}
use Rattle.modem_text.specs.Events.{ModemEvent, pin_set, own, passed, carrier_lost, ModemLog, events_on}
use Rattle.modem_text.specs.Left.{IsLeft, call_in, item_by, items_by, items_said, own_of, pin_in, pins_of}
use Rattle.modem_text.specs.Reading.{modem_in}
use Rattle.modem_text.specs.Sessions.{ModemCall, ModemPhase, ModemSession, PinStep, PlainPart, blocks_in}
use Rattle.modem_text.specs.Sessions.{carrier_block, carrier_name, no_part, phase_blocks, phase_with, pins_by_port}
use Rattle.modem_text.specs.Sessions.{pins_on, step_of}
use Rattle.modem_text.specs.Verbs.{all_verbs, verb_text}
use Rattle.modem_text.specs.Within.{block_phase_of, IsModemSessionWithin}
use Rattle.modem_text.proofs.Left.{session_left}
use Rattle.modem_steps.specs.Derived.{carrier_on, modem_call_at, passings_from, passings_on}
use Rattle.modem_steps.specs.Derived.{plain_call, scripts_over as modem_scripts}
use Rattle.modem_steps.proofs.Silent.{silent_over}
use Rattle.further_asked.specs.Asked.{AskedPhase, AskNoMore, AsksWithin, any_asks, asked_at, asked_on}
use Rattle.further_asked.specs.Asked.{asks_of, block_phases, call_asks, scripts_over}
use Rattle.further_asked.specs.Modem.{asked_phase_of, asked_phases, carrier_asks}
use Rattle.further_asked.proofs.Mixing.{phases_ask, plain_asks, script_asks, scripts_ask}
use Rattle.further_asked.proofs.Scripts.{AsksThree, asked_blocks, asked_named, asked_on_port}
use Rattle.further_asked.proofs.Scripts.{hangup_within, scripts_three}
use Rattle.further_asked.proofs.Texts.{Each, left_asks}

-- ---- a text

one_item : (read : Read ModemItem) → length (item_by read) ≤ 1
one_item (Ok item) = omega arith
one_item (Err reason) = omega arith

few_said : (arguments : List (List ℕ)) → Each (λ v. length (items_by (Some v) arguments) ≤ 1) all_verbs
few_said arguments = (
  omega arith,
  (
    one_item _,
    (
      one_item _,
      (
        one_item _,
        (
          one_item _,
          (
            one_item _,
            (
              one_item _,
              (
                one_item _,
                (
                  one_item _,
                  (
                    one_item _,
                    (one_item _, (one_item _, (one_item _, tt))),
                  ),
                ),
              ),
            ),
          ),
        ),
      ),
    ),
  ),
)

verbs_long : Each (λ v. 2 ≤ length (verb_text v)) all_verbs
verbs_long = (
  omega arith,
  (
    omega arith,
    (
      omega arith,
      (
        omega arith,
        (
          omega arith,
          (
            omega arith,
            (
              omega arith,
              (
                omega arith,
                (
                  omega arith,
                  (omega arith, (omega arith, (omega arith, (omega arith, tt)))),
                ),
              ),
            ),
          ),
        ),
      ),
    ),
  ),
)

-- what lines say is a call or an item of a modem block
one_of_both : (i : ModemItem) → length (call_in i) + length (pin_in i) ≤ 1
one_of_both (item.Block port) = omega arith
one_of_both (item.Pin pin up) = omega arith
one_of_both (item.Call call) = omega arith

both_few : (items : List ModemItem) → length (flat_map call_in items) + length (flat_map pin_in items) ≤ length items
both_few [] = omega arith
both_few (i ∷ items) = omega (
  arith,
  one_of_both i,
  both_few items,
  length-append (call_in i) (flat_map call_in items),
  length-append (pin_in i) (flat_map pin_in items),
)

-- ---- a phase

abbrev weight : PlainPart → ℕ
weight part = 3 * (length part.own + length part.pins)

weights : (parts : List PlainPart)
    → sum_by weight parts ≡ 3 * (length (flat_map own_of parts) + length (flat_map pins_of parts))
weights [] = refl
weights (part ∷ parts) = omega (
  arith,
  weights parts,
  sum_by-cons weight part parts,
  length-append (own_of part) (flat_map own_of parts),
  length-append (pins_of part) (flat_map pins_of parts),
  length-map part.own (λ (o : PlacedCall OwnCall). o.call),
  length-map part.pins step_of,
)

-- the scripts of `carrier` on the ports from one on
abbrev carriers : ModemPhase → (first n : ℕ) → List (CallerScript ℕ)
carriers phase a n = map (carrier_asks phase) (range_with_len a n)

abbrev is_on : ℕ → CallerScript ℕ → Bool
is_on p s = s.port == p

passed_by : (phase : ModemPhase) (p a n : ℕ) → p < a → filter (is_on p) (carriers phase a n) ≡ []
passed_by phase p a zero h = refl
passed_by phase p a (suc n) h =
    cond-false (a == p) (carrier_asks phase a ∷ filter (is_on p) (carriers phase (a + 1) n))
    (filter (is_on p) (carriers phase (a + 1) n)) (ne_eqb a p (λ e. omega (arith, h, e)))
    ∙ passed_by phase p (a + 1) n (omega (arith, h))

carrier_sum : (phase : ModemPhase) (p : ℕ) → script_asks (carrier_asks phase p) ≡ 3 * length (pins_on p phase)
carrier_sum phase p = omega (arith, sum_by-replicate (λ (x : ℕ). x) (length (pins_on p phase)) 3)

ask_either : (t : Bool) (phase : ModemPhase) (a p : ℕ) (rest : List (CallerScript ℕ))
    → (t ≡ true → (a ≡ p) × (rest ≡ []))
    → sum_by script_asks rest ≤ 3 * length (pins_on p phase)
    → sum_by script_asks (cond t (carrier_asks phase a ∷ rest) rest) ≤ 3 * length (pins_on p phase)
ask_either true phase a p rest one h =
    let is = one refl in
    omega (
      arith,
      sum_by-cons script_asks (carrier_asks phase a) rest,
      carrier_sum phase a,
      ap (λ (q : ℕ). length (pins_on q phase)) is.0,
      ap (λ (ss : List (CallerScript ℕ)). sum_by script_asks ss) is.1,
    )
ask_either false phase a p rest one h = h

carriers_ask : (phase : ModemPhase) (p a n : ℕ)
    → sum_by script_asks (filter (is_on p) (carriers phase a n)) ≤ 3 * length (pins_on p phase)
carriers_ask phase p a zero = omega arith
carriers_ask phase p a (suc n) =
    ask_either (a == p) phase a p (filter (is_on p) (carriers phase (a + 1) n))
    (λ e. (eqb-true a p e, passed_by phase p (a + 1) n (omega (arith, eqb-true a p e))))
    (carriers_ask phase p (a + 1) n)

kept_few : (p : ℕ) (pins : List PinItem)
    → length (filter (λ (i : PinItem). i.port == p) pins) ≤ length pins
kept_few p [] = omega arith
kept_few p (i ∷ pins) = either (i.port == p) i (filter (λ (x : PinItem). x.port == p) pins) (length pins)
    (kept_few p pins)
  where
    either : (t : Bool) (x : PinItem) (xs : List PinItem) (n : ℕ)
        → length xs ≤ n
        → length (cond t (x ∷ xs) xs) ≤ suc n
    either true x xs n h = omega (arith, h)
    either false x xs n h = omega (arith, h)

few_pins : (ports : ℕ) (pins : List PinItem) (p : ℕ)
    → length (slice_index_or (pins_by_port ports pins) p []) ≤ length pins
few_pins ports pins p =
    let on : ℕ → List PinStep = λ q. map step_of (filter (λ (i : PinItem). i.port == q) pins) in
    elim (cases_lt p ports) [
      | inl within ↦ omega (
        arith,
        ap (λ (xs : List PinStep). length xs) (get_or-map-range_with_len on 0 ports p p [] within (omega arith)),
        length-map (filter (λ (i : PinItem). i.port == p) pins) step_of,
        kept_few p pins,
      )
      | inr past ↦ omega (
        arith,
        ap (λ (xs : List PinStep). length xs) (get_or_past (pins_by_port ports pins) p []
            (omega (arith, past, length-map-range_with_len on 0 ports))),
      )
    ]

abbrev phase_asked : (ports : ℕ) → PlainPhase → PlainPart → AskedPhase
phase_asked ports phase part = asked_phase_of ports (phase_with ports phase part)

phase_asks : (ports p : ℕ) (phase : PlainPhase) (part : PlainPart)
    → sum_by script_asks (filter (is_on p) (phase_asked ports phase part).callers)
    ≤ sum_by plain_asks (scripts_on p phase) + weight part
phase_asks ports p phase part =
    let with : ModemPhase = phase_with ports phase part in
    let own : List (CallerScript ℕ) = map asks_of with.callers in
    omega (
      arith,
      ap (λ (ss : List (CallerScript ℕ)). sum_by script_asks ss) (filter-append (is_on p) own (carriers with 0 ports)),
      sum_by-append script_asks (filter (is_on p) own) (filter (is_on p) (carriers with 0 ports)),
      scripts_ask p 0 phase.callers part.own,
      carriers_ask with p 0 ports,
      few_pins ports part.pins p,
    )

asks_by : (text : List ℕ) (session : ModemSession) (p : ℕ)
    → IsLeft text session
    → asked_on p (asked_phases session) ≤ length text + 1
asks_by text session p h =
    let items = flat_map items_said (lines_in text) in
    let phases = map_phases (phase_with h.base.ports) (asked_phase_of h.base.ports) no_part h.parts 0 h.base.phases in
    omega (
      arith,
      ap (λ (s : ModemSession). asked_on p (asked_phases s)) h.is,
      ap (λ (ps : List AskedPhase). asked_on p ps) phases,
      phases_ask (phase_asked h.base.ports) no_part weight p refl (phase_asks h.base.ports p) (λ phase part. refl)
          h.parts h.base.phases,
      weights h.parts,
      text_asks _ h.base p h.spells,
      ap (λ (cs : List OwnCall). length cs) h.calls,
      ap (λ (ps : List PinStep). length ps) h.pins,
      both_few items,
      left_asks verb_text all_verbs items_by items_said refl (λ word arguments. refl) (λ arguments. omega arith)
          few_said verbs_long
          text,
    )

pub text_asks_all : (text : List ℕ) (session : ModemSession) (p : ℕ)
    → modem_in text ≡ Ok session
    → asked_on p (asked_phases session) ≤ length text + 1
text_asks_all text session p h = asks_by text session p (session_left text session h)

-- ---- the blocks of what is asked

map_both : {X Y Z : Type 0} (f : Y → Z) (g : X → Y) (xs : List X) → map f (map g xs) ≡ map (λ x. f (g x)) xs
map_both f g [] = refl
map_both {Z = Z} f g (x ∷ xs) = ap (λ (zs : List Z). f (g x) ∷ zs) (map_both f g xs)

carrier_blocks : (phase : ModemPhase) (a n : ℕ)
    → map block_of (carriers phase a n)
    ≡ map (λ p. carrier_block (length (pins_on p phase)) p) (range_with_len a n)
carrier_blocks phase a zero = refl
carrier_blocks phase a (suc n) = λ i.
    carrier_block (length-replicate {A = ℕ} (length (pins_on a phase)) 3 i) a ∷ carrier_blocks phase (a + 1) n i

phase_blocks_are : (ports : ℕ) (phase : ModemPhase)
    → map block_of (asked_phase_of ports phase).callers ≡ phase_blocks (λ p. length (pins_on p phase)) ports phase
phase_blocks_are ports phase =
    map-append block_of (map asks_of phase.callers) (carriers phase 0 ports)
    ∙ ap (λ (bs : List Block). bs ++ map block_of (carriers phase 0 ports)) (asked_blocks phase.callers)
    ∙ ap (λ (bs : List Block). map block_of phase.callers ++ bs) (carrier_blocks phase 0 ports)

pub asked_blocks_are : (ports : ℕ) (phases : List ModemPhase)
    → block_phases (map (asked_phase_of ports) phases) ≡ map (block_phase_of ports) phases
asked_blocks_are ports [] = refl
asked_blocks_are ports (phase ∷ phases) = λ i.
    (let first : BlockPhase =
    record { lines = phase.lines; ticks = phase.ticks; blocks = phase_blocks_are ports phase i } in first)
    ∷ asked_blocks_are ports phases i

-- ---- the names of the callers

abbrev names : List Block → List (List ℕ)
names bs = map (λ (b : Block). b.name) bs

carrier_names : (f g : ℕ → ℕ) (p a n : ℕ)
    → names (blocks_on p (map (λ q. carrier_block (f q) q) (range_with_len a n)))
    ≡ names (blocks_on p (map (λ q. carrier_block (g q) q) (range_with_len a n)))
carrier_names f g p a zero = refl
carrier_names f g p a (suc n) =
    either (a == p) (blocks_on p (map (λ q. carrier_block (f q) q) (range_with_len (a + 1) n)))
    (blocks_on p (map (λ q. carrier_block (g q) q) (range_with_len (a + 1) n))) (carrier_names f g p (a + 1) n)
  where
    either : (t : Bool) (xs ys : List Block)
        → names xs ≡ names ys
        → names (cond t (carrier_block (f a) a ∷ xs) xs) ≡ names (cond t (carrier_block (g a) a ∷ ys) ys)
    either true xs ys h = ap (λ (ns : List (List ℕ)). carrier_name ∷ ns) h
    either false xs ys h = h

names_append : (p : ℕ) (xs ys : List Block)
    → names (blocks_on p (xs ++ ys)) ≡ names (blocks_on p xs) ++ names (blocks_on p ys)
names_append p xs ys =
    ap names (filter-append (λ (b : Block). b.port == p) xs ys)
    ∙ map-append (λ (b : Block). b.name) (blocks_on p xs) (blocks_on p ys)

phase_names : (ports p : ℕ) (phase : ModemPhase) (f g : ℕ → ℕ)
    → names (blocks_on p (phase_blocks f ports phase)) ≡ names (blocks_on p (phase_blocks g ports phase))
phase_names ports p phase f g =
    let own = map block_of phase.callers in
    names_append p own (map (λ q. carrier_block (f q) q) (range_with_len 0 ports))
    ∙ ap (λ (ns : List (List ℕ)). names (blocks_on p own) ++ ns) (carrier_names f g p 0 ports)
    ∙ sym (names_append p own (map (λ q. carrier_block (g q) q) (range_with_len 0 ports)))

all_names : (ports p : ℕ) (phases : List ModemPhase)
    → names (blocks_on p (blocks_of (map (block_phase_of ports) phases)))
    ≡ names (blocks_on p (flat_map (phase_blocks (λ q. 0) ports) phases))
all_names ports p [] = refl
all_names ports p (phase ∷ phases) =
    names_append p (block_phase_of ports phase).blocks (blocks_of (map (block_phase_of ports) phases))
    ∙ ap (λ (ns : List (List ℕ)). ns ++ names (blocks_on p (blocks_of (map (block_phase_of ports) phases))))
    (phase_names ports p phase (λ q. length (pins_on q phase)) (λ q. 0))
    ∙ ap (λ (ns : List (List ℕ)). names (blocks_on p (phase_blocks (λ q. 0) ports phase)) ++ ns)
    (all_names ports p phases)
    ∙ sym (names_append p (phase_blocks (λ q. 0) ports phase) (flat_map (phase_blocks (λ q. 0) ports) phases))

same_names : (p : ℕ) (xs ys : List Block) → names (blocks_on p xs) ≡ names (blocks_on p ys) → names_on p xs
    ≡ names_on p ys
same_names p xs ys h =
    names_by_names (map bare (blocks_on p xs)) (map bare (blocks_on p ys))
    (bare_names (blocks_on p xs) ∙ h ∙ sym (bare_names (blocks_on p ys)))

names_are : (session : ModemSession) (p : ℕ)
    → names_on p (blocks_of (block_phases (asked_phases session))) ≡ names_on p (blocks_in session)
names_are session p =
    ap (λ (bs : List BlockPhase). names_on p (blocks_of bs)) (asked_blocks_are session.ports session.phases)
    ∙ same_names p (blocks_of (map (block_phase_of session.ports) session.phases)) (blocks_in session)
    (all_names session.ports p session.phases)

-- ---- what a log passes

carrier_calls : (phase : ModemPhase) (name : List ℕ) (p a n : ℕ)
    → bytes_eq carrier_name name ≡ false
    → calls_named (Some name) (filter (is_on p) (carriers phase a n)) ≡ []
carrier_calls phase name p a zero other = refl
carrier_calls phase name p a (suc n) other =
    either (a == p) (filter (is_on p) (carriers phase (a + 1) n)) (carrier_calls phase name p (a + 1) n other)
  where
    either : (t : Bool) (xs : List (CallerScript ℕ))
        → calls_named (Some name) xs ≡ []
        → calls_named (Some name) (cond t (carrier_asks phase a ∷ xs) xs) ≡ []
    either true xs h =
        ap (λ (b : Bool). (if b then replicate (length (pins_on a phase)) 3 else []) ++ calls_named (Some name) xs)
        other
        ∙ h
    either false xs h = h

module _ (ports p : ℕ) (name : List ℕ) (other : bytes_eq carrier_name name ≡ false) where
  abbrev named : List (CallerScript ℕ) → List ℕ
  named ss = calls_named (Some name) ss

  named_append : (xs ys : List (CallerScript ℕ)) → named (xs ++ ys) ≡ named xs ++ named ys
  named_append xs ys =
      flat_map-append (λ (s : CallerScript ℕ). if bytes_eq s.name name then s.calls else []) xs ys

  phase_calls : (phase : ModemPhase)
      → named (filter (is_on p) (asked_phase_of ports phase).callers)
      ≡ map any_asks (calls_named (Some name) (filter (λ s. s.port == p) phase.callers))
  phase_calls phase =
      let own = map asks_of phase.callers in
      ap named (filter-append (is_on p) own (carriers phase 0 ports))
      ∙ named_append (filter (is_on p) own) (filter (is_on p) (carriers phase 0 ports))
      ∙ ap (λ (ns : List ℕ). named (filter (is_on p) own) ++ ns) (carrier_calls phase name p 0 ports other)
      ∙ append-nil (named (filter (is_on p) own))
      ∙ ap named (asked_on_port p phase.callers)
      ∙ asked_named name (filter (λ s. s.port == p) phase.callers)

  other_calls : (phases : List ModemPhase)
      → named (scripts_over p (map (asked_phase_of ports) phases))
      ≡ map any_asks (calls_named (Some name) (modem_scripts p phases))
  other_calls [] = refl
  other_calls (phase ∷ phases) =
      let mine : CallerScript ModemCall → List ModemCall = λ s. if bytes_eq s.name name then s.calls else [] in
      let here : List (CallerScript ModemCall) = filter (λ s. s.port == p) phase.callers in
      named_append (filter (is_on p) (asked_phase_of ports phase).callers)
      (scripts_over p (map (asked_phase_of ports) phases))
      ∙ ap (λ (ns : List ℕ). ns ++ named (scripts_over p (map (asked_phase_of ports) phases))) (phase_calls phase)
      ∙ ap (λ (ns : List ℕ). map any_asks (flat_map mine here) ++ ns) (other_calls phases)
      ∙ sym (map-append any_asks (flat_map mine here) (flat_map mine (modem_scripts p phases)))
      ∙ ap (λ (cs : List ModemCall). map any_asks cs) (sym (flat_map-append mine here (modem_scripts p phases)))

plain_within : (o : Option ModemCall) → All (AsksWithin (option_map any_asks o)) (plain_call o)
plain_within None = All-nil (AsksWithin None)
plain_within (Some (plain call)) =
    All-cons (AsksWithin (Some (call_asks call))) call [] (omega arith) (All-nil (AsksWithin (Some (call_asks call))))
plain_within (Some (further call)) = All-nil (AsksWithin (Some 3))

module _ (session : ModemSession) (p : ℕ) (within : IsModemSessionWithin session) where
  abbrev asked_scripts : List (CallerScript ℕ)
  asked_scripts = scripts_over p (asked_phases session)

  abbrev all_scripts : List (CallerScript ModemCall)
  all_scripts = modem_scripts p session.phases

  by_name : (name : List ℕ) (step : ℕ) (b : Bool)
      → bytes_eq carrier_name name ≡ b
      → All (AsksWithin (slice_get (calls_named (Some name) asked_scripts) step))
      (plain_call (slice_get (calls_named (Some name) all_scripts) step))
  by_name name step true e =
      let none : calls_named (Some name) all_scripts ≡ [] =
      ap (λ (n : List ℕ). calls_named (Some n) all_scripts) (sym (eq_name carrier_name name e))
      ∙ silent_over session.ports p session.phases within.blocks.each in
      subst (λ (cs : List ModemCall).
      All (AsksWithin (slice_get (calls_named (Some name) asked_scripts) step)) (plain_call (slice_get cs step)))
      (sym none) (All-nil (AsksWithin (slice_get (calls_named (Some name) asked_scripts) step)))
  by_name name step false e =
      let calls = calls_named (Some name) all_scripts in
      let same : option_map any_asks (slice_get calls step)
      ≡ slice_get (calls_named (Some name) asked_scripts) step =
      sym (ap (λ (ns : List ℕ). slice_get ns step) (other_calls session.ports p name e session.phases)
      ∙ slice_get-map any_asks calls step) in
      subst (λ (o : Option ℕ). All (AsksWithin o) (plain_call (slice_get calls step))) same
      (plain_within (slice_get calls step))

  by_number : (o : Option (List ℕ)) (step : ℕ)
      → All (AsksWithin (slice_get (calls_named o asked_scripts) step))
      (plain_call (slice_get (calls_named o all_scripts) step))
  by_number None step = All-nil (AsksWithin None)
  by_number (Some name) step = by_name name step (bytes_eq carrier_name name) refl

  pub call_within : (c step : ℕ)
      → All (AsksWithin (asked_at p (asked_phases session) c step)) (plain_call (modem_call_at p session c step))
  call_within c step = subst
      (λ (ns : List (List ℕ)).
      All (AsksWithin (numbered_call ns asked_scripts c step)) (plain_call (modem_call_at p session c step)))
      (sym (names_are session p)) (by_number (slice_get (names_on p (blocks_in session)) c) step)

  carriers_three : (phase : ModemPhase) (a n : ℕ) → All AsksThree (filter (is_on p) (carriers phase a n))
  carriers_three phase a zero = All-nil AsksThree
  carriers_three phase a (suc n) =
      either (a == p) (filter (is_on p) (carriers phase (a + 1) n)) (carriers_three phase (a + 1) n)
    where
      either : (t : Bool) (xs : List (CallerScript ℕ))
          → All AsksThree xs
          → All AsksThree (cond t (carrier_asks phase a ∷ xs) xs)
      either true xs h = All-cons AsksThree (carrier_asks phase a) xs
          (All-replicate (λ m. 3 ≤ m) (length (pins_on a phase)) 3 (omega arith)) h
      either false xs h = h

  all_three : (phases : List ModemPhase) → All AsksThree (scripts_over p (map (asked_phase_of session.ports) phases))
  all_three [] = All-nil AsksThree
  all_three (phase ∷ phases) =
      let own = map asks_of phase.callers in
      All-append AsksThree (filter (is_on p) (asked_phase_of session.ports phase).callers)
      (scripts_over p (map (asked_phase_of session.ports) phases))
      (subst (λ (ss : List (CallerScript ℕ)). All AsksThree ss)
      (sym (filter-append (is_on p) own (carriers phase 0 session.ports)))
      (All-append AsksThree (filter (is_on p) own) (filter (is_on p) (carriers phase 0 session.ports))
      (All-filter (is_on p) AsksThree own (scripts_three phase.callers)) (carriers_three phase 0 session.ports)))
      (all_three phases)

  abbrev Within : Passing → Type 0
  Within m = All (AsksWithin (asked_at p (asked_phases session) m.caller m.step)) m.calls

  events_within : (carrier items : ℕ) (es : List ModemEvent)
      → All Within (passings_from (modem_call_at p session) carrier items es)
  events_within carrier items [] = All-nil Within
  events_within carrier items (pin_set pin up ∷ es) = events_within carrier (items + 1) es
  events_within carrier items (own c step answer ∷ es) = events_within carrier items es
  events_within carrier items (passed c step answer ∷ es) =
      All-cons Within (record { caller = c; step = step; calls = plain_call (modem_call_at p session c step) })
      (passings_from (modem_call_at p session) carrier items es) (call_within c step) (events_within carrier items es)
  events_within carrier items (carrier_lost h ∷ es) =
      All-cons Within (record { caller = carrier; step = items - 1; calls = hangs_up h ∷ [] })
      (passings_from (modem_call_at p session) carrier items es)
      (hangup_within (names_on p (blocks_of (block_phases (asked_phases session)))) asked_scripts carrier (items - 1) h
      (all_three session.phases))
      (events_within carrier items es)

pub logged_within : (session : ModemSession) (log : ModemLog) (p : ℕ)
    → IsModemSessionWithin session
    → AskNoMore p (asked_phases session) (passings_on session log p)
logged_within session log p within = events_within session p within (carrier_on p session) 0 (events_on p log)
