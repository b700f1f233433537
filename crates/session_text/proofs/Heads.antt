-- The items before the first phase: the header, `ports`, and each `flip`.
use Rattle.std.proofs.Common.{◌≡◌, ℕ, ◌+◌, ◌<◌, ◌≤◌, ◌==◌, nat_lt, Bool, true, false, cond}
use Rattle.std.proofs.Common.{List, [], ◌∷◌, ◌++◌, length, replicate, Some, None, refl, ap, sym}
use Rattle.std.proofs.Common.{subst, ◌∙◌, arith, zero, suc, ltb-true, ltb-false, inl, inr, ◌⊎◌}
use Rattle.std.specs.Prelude.{flat_map, sum_by, map, fold, slice_index}
use Rattle.std.specs.List.{AllByRecursion}
use Rattle.std.proofs.lemmas.Bool.{eqb-true}
use Rattle.std.proofs.lemmas.List.Sums.{sum_by-cons}
use Rattle.tty_base.specs.Sizes.{DEFAULT_FLIP, MOST_ARRIVALS, MOST_PORTS, MOST_TICKS}
use Rattle.text_lines.specs.Values.{is_number, number_of, word_at, number_at}
use Rattle.session_text.specs.declared.faults.Reason.TheVariants as reason
use Rattle.session_text.specs.declared.kinds.ArgumentKind.TheVariants as kind
use Rattle.session_text.specs.declared.verbs.Verb.{Verb}
use Rattle.session_text.specs.declared.verbs.Verb.TheVariants.{Session, Ports, Flip, Phase, Line}
use Rattle.session_text.specs.declared.verbs.Verb.TheVariants.{Clock, Caller, Tick, End, Step, Call}
use Rattle.session_text.specs.declared.stands.ItemPlace.{ItemPlace}
use Rattle.session_text.specs.declared.stands.ItemPlace.TheVariants as place
use Rattle.session_text.specs.Verbs.{verb_of, verb_text}
use Rattle.session_text.specs.Kinds.{kind_at, fault_of, limit_fault}
use Rattle.session_text.specs.Stands.{PlainStand, first_stand, stand_after, is_good, may_stand, is_ended}
use Rattle.session_text.specs.Meaning.{empty_phase}
use Rattle.session_text.specs.Drafts.{first_draft}
use Rattle.session_text.specs.Grammar.{WrittenItem, WrittenBlock, Written, flip_item, phase_item, phase_items, end_item}
use Rattle.session_text.specs.Grammar.{session_items, with_flip, phase_meaning, session_meaning, ports_of}
use Rattle.session_text.specs.Grammar.{opens_block, IsWellWritten, IsGoodFlip, IsGoodBlock, IsGoodPhase, Once}
use Rattle.session_text.specs.Grammar.{port_in, port_of, steps_count, arrivals_by, ticks_by}
use Rattle.session_text.specs.Grammar.{block_characters, characters_count, block_ticks, ticks_count}
use Rattle.session_text.proofs.Bounds.{none_on}
use Rattle.session_text.proofs.Rests.{Fits, Rest, rest_items, phase_after}
use Rattle.session_text.proofs.Judged.{is_start, good_fits, fits_good, header_found, header_good, flip_version}
use Rattle.session_text.proofs.Fits.{good_parts, no_fault_at, good_number, limit_none}
use Rattle.session_text.proofs.Runs.{Run, session_read, item_with, run_follows, ended_run, phase_follows}
use Rattle.session_text.proofs.Runs.{end_follows, PhasesFollow, takes_all, phase_items_more}

abbrev pub first_port : List (List ℕ) → ℕ
first_port arguments = number_at arguments 0

-- the flips and phases fit what the reader has seen of the head
pub record Head (s : PlainStand) (flips : List (List (List ℕ))) (phases : List (List WrittenBlock)) : Type 0 where
  pub flips_good : AllByRecursion (IsGoodFlip s.version s.ports) flips
  pub flips_once : Once s.flips (map first_port flips)
  pub phases_good : AllByRecursion (IsGoodPhase s.ports) phases
  pub few_phases : length phases ≤ s.phases_left
  pub few_steps : sum_by steps_count phases ≤ s.steps_left
  pub few_characters : (p : ℕ) → sum_by (characters_count p) phases ≤ slice_index s.characters_left p
  pub few_ticks : (p : ℕ) → sum_by (ticks_count p) phases ≤ slice_index s.ticks_left p

abbrev pub head_items : List (List (List ℕ)) → List (List WrittenBlock) → List WrittenItem
head_items flips phases = map flip_item flips ++ (flat_map phase_items phases ++ end_item ∷ [])

head_of_rest : (s : PlainStand) (phases : List (List WrittenBlock)) → Rest s [] [] phases → Head s [] phases
head_of_rest s phases r = record {
  flips_good = tt;
  flips_once = tt;
  phases_good = r.phases_good;
  few_phases = r.few_phases;
  few_steps = let few = r.few_steps in omega (arith, few);
  few_characters = λ p. let few = r.few_characters p in omega (arith, few);
  few_ticks = λ p. let few = r.few_ticks p in omega (arith, few);
}

rest_of_head : (s : PlainStand) (phases : List (List WrittenBlock)) → Head s [] phases → Rest s [] [] phases
rest_of_head s phases h = record {
  own_good = tt;
  blocks_good = tt;
  lines_once = tt;
  clocks_once = tt;
  callers_fit = tt;
  phases_good = h.phases_good;
  few_phases = h.few_phases;
  few_steps = let few = h.few_steps in omega (arith, few);
  few_characters = λ p.
      let few = h.few_characters p in let none = none_on (s.port == p) 0 refl in omega (arith, few, none);
  few_ticks = λ p. let few = h.few_ticks p in let none = none_on (s.port == p) 0 refl in omega (arith, few, none);
}

-- ---- what is taken is such a head

pub record HeadFollows (s : PlainStand) (items : List WrittenItem) : Type 0 where
  pub flips : List (List (List ℕ))
  pub phases : List (List WrittenBlock)
  pub head : Head s flips phases
  pub items_are : items ≡ head_items flips phases

phases_head : (s : PlainStand) (items : List WrittenItem) → PhasesFollow s items → HeadFollows s items
phases_head s items f =
    record { flips = []; phases = f.phases; head = head_of_rest s f.phases f.rest; items_are = f.items_are }

flip_head : (s : PlainStand) (arguments : List (List ℕ)) (items : List WrittenItem)
    → verb_of s.version (verb_text Flip) ≡ Some Flip
    → Fits s Flip arguments
    → HeadFollows (stand_after s Flip arguments) items
    → HeadFollows s (item_with Flip arguments ∷ items)
flip_head s arguments items known fits f = record {
  flips = arguments ∷ f.flips;
  phases = f.phases;
  head = record {
    flips_good =
        (record { second = eqb-true s.version 2 (flip_version s.version known); good = fits.good }, f.head.flips_good);
    flips_once = (fits.once, f.head.flips_once);
    phases_good = f.head.phases_good;
    few_phases = f.head.few_phases;
    few_steps = f.head.few_steps;
    few_characters = f.head.few_characters;
    few_ticks = f.head.few_ticks;
  };
  items_are = ap (λ (xs : List WrittenItem). flip_item arguments ∷ xs) f.items_are;
}

stands_before : (s : PlainStand) (verb : Verb) (arguments : List (List ℕ))
    → s.place ≡ place.Before
    → Fits s verb arguments
    → may_stand verb place.Before ≡ true
stands_before s verb arguments at fits = subst (λ (p : ItemPlace). may_stand verb p ≡ true) at fits.at

verb_head : (verb : Verb) (arguments : List (List ℕ)) (items : List WrittenItem) (s : PlainStand)
    → s.place ≡ place.Before
    → verb_of s.version (verb_text verb) ≡ Some verb
    → Fits s verb arguments
    → may_stand verb place.Before ≡ true
    → Run (stand_after s verb arguments) items
    → ((next : PlainStand) → next.place ≡ place.Before → Run next items → HeadFollows next items)
    → HeadFollows s (item_with verb arguments ∷ items)
verb_head Flip arguments items s at known fits stands run later =
    flip_head s arguments items known fits (later (stand_after s Flip arguments) at run)
verb_head Phase arguments items s at known fits stands run later =
    phases_head s (item_with Phase arguments ∷ items)
    (phase_follows s arguments items fits (run_follows items (stand_after s Phase arguments) refl run))
verb_head End arguments items s at known fits stands run later =
    phases_head s (item_with End arguments ∷ items)
    (end_follows s arguments items fits (ended_run items (stand_after s End arguments) refl run))
verb_head Session arguments items s at known fits stands run later = cc
verb_head Ports arguments items s at known fits stands run later = cc
verb_head Line arguments items s at known fits stands run later = cc
verb_head Clock arguments items s at known fits stands run later = cc
verb_head Caller arguments items s at known fits stands run later = cc
verb_head Tick arguments items s at known fits stands run later = cc
verb_head (Step verb) arguments items s at known fits stands run later = cc
verb_head (Call verb) arguments items s at known fits stands run later = cc

past_before : (at : ItemPlace) → at ≡ place.Before → is_start at ≡ false
past_before at e = subst (λ (p : ItemPlace). is_start p ≡ false) (sym e) refl

not_ended : (s : PlainStand) → s.place ≡ place.Before → Run s [] → ⊥
not_ended s at run = let ended = subst (λ (p : ItemPlace). is_ended p ≡ true) at run in cc

pub head_follows : (items : List WrittenItem) (s : PlainStand)
    → s.place ≡ place.Before
    → Run s items
    → HeadFollows s items
head_follows [] s at run = absurd (not_ended s at run)
head_follows (item ∷ items) s at run =
    let fits = good_fits s (verb_text item.verb) item.arguments item.verb (past_before s.place at) run.0 in
    verb_head item.verb item.arguments items s at fits.0 fits.1 (stands_before s item.verb item.arguments at fits.1)
    run.1 (λ next there onwards. head_follows items next there onwards)

-- ---- such a head is taken

pub record HeadTaken (s : PlainStand) (flips : List (List (List ℕ))) (phases : List (List WrittenBlock)) : Type 0 where
  pub run : Run s (head_items flips phases)
  pub meant : (capacities : List ℕ)
      → session_read s (record { flips = capacities; phases = []; open_phase = None }) (head_items flips phases)
      ≡ record {
        version = s.version;
        ports = s.ports;
        flips = fold with_flip capacities flips;
        phases = map (phase_meaning s.ports) phases;
      }

flip_known : (version : ℕ) → version ≡ 2 → verb_of version (verb_text Flip) ≡ Some Flip
flip_known version e = subst (λ (v : ℕ). verb_of v (verb_text Flip) ≡ Some Flip) (sym e) refl

stand_at_before : (s : PlainStand) (verb : Verb)
    → s.place ≡ place.Before
    → may_stand verb place.Before ≡ true
    → may_stand verb s.place ≡ true
stand_at_before s verb at h = subst (λ (p : ItemPlace). may_stand verb p ≡ true) (sym at) h

pub head_taken : (flips : List (List (List ℕ))) (phases : List (List WrittenBlock)) (s : PlainStand)
    → s.place ≡ place.Before
    → Head s flips phases
    → HeadTaken s flips phases
head_taken [] [] s at h = record {
  run = (
    fits_good s (verb_text End) [] End (past_before s.place at) refl
        (record { at = stand_at_before s End at refl; good = refl; once = refl; within = refl }),
    refl,
  );
  meant = λ capacities. refl;
}
head_taken [] (blocks ∷ phases) s at h =
    let both = phase_after s blocks phases (stand_at_before s Phase at refl) (rest_of_head s (blocks ∷ phases) h) in
    let items = rest_items [] blocks phases in
    let rest = takes_all items (stand_after s Phase []) [] blocks phases refl both.1 refl in
    let parted : head_items [] (blocks ∷ phases) ≡ phase_item ∷ items = phase_items_more blocks phases in record {
      run = subst (Run s) (sym parted)
          (fits_good s (verb_text Phase) [] Phase (past_before s.place at) refl both.0, rest.run);
      meant = λ capacities.
          ap (session_read s (record { flips = capacities; phases = []; open_phase = None })) parted
          ∙ rest.meant capacities [] (empty_phase s.ports);
    }
head_taken (arguments ∷ flips) phases s at h =
    let fits : Fits s Flip arguments =
    record { at = stand_at_before s Flip at refl; good = h.flips_good.0.good; once = h.flips_once.0; within = refl } in
    let rest = head_taken flips phases (stand_after s Flip arguments) at (record {
      flips_good = h.flips_good.1;
      flips_once = h.flips_once.1;
      phases_good = h.phases_good;
      few_phases = h.few_phases;
      few_steps = h.few_steps;
      few_characters = h.few_characters;
      few_ticks = h.few_ticks;
    }) in record {
      run = (
        fits_good s (verb_text Flip) arguments Flip (past_before s.place at)
            (flip_known s.version h.flips_good.0.second) fits,
        rest.run,
      );
      meant = λ capacities. rest.meant (with_flip capacities arguments);
    }

-- ---- ports and what is left for them

left_at_most : (n x p : ℕ) → slice_index (replicate n x) p ≤ x
left_at_most zero x p = omega arith
left_at_most (suc n) x zero = omega arith
left_at_most (suc n) x (suc p) = left_at_most n x p

left_all : (n x p : ℕ) → p < n → slice_index (replicate n x) p ≡ x
left_all zero x p h = absurd (omega (arith, h))
left_all (suc n) x zero h = refl
left_all (suc n) x (suc p) h = left_all n x p (omega (arith, h))

port_by : (number : Bool) (n ports : ℕ)
    → cond number (limit_fault (nat_lt n ports)) (Some reason.Number) ≡ None
    → cond number n 0 < ports
port_by true n ports h = ltb-true n ports (limit_none (nat_lt n ports) h)
port_by false n ports h = cc

-- a port of good arguments is below the number of ports
port_below : (ports : ℕ) (verb : Verb) (words : List (List ℕ)) (at : ℕ)
    → is_good ports verb words ≡ true
    → at < length words
    → kind_at verb (0 + at) ≡ kind.Port
    → number_at words at < ports
port_below ports verb words at good within k =
    let fault = no_fault_at ports verb words 0 at (good_parts ports verb words good).1 within in
    port_by (is_number (word_at words at)) (number_of (word_at words at)) ports
    (subst (λ k. fault_of ports k (word_at words at) ≡ None) k fault)

pub block_port_below : (ports : ℕ) (verb : Verb) (words : List (List ℕ))
    → opens_block verb ≡ true
    → is_good ports verb words ≡ true
    → port_in verb words < ports
block_port_below ports Line words one good =
    let count = eqb-true (length words) 1 (good_parts ports Line words good).0 in
    port_below ports Line words 0 good (omega (arith, count)) refl
block_port_below ports Clock words one good =
    let count = eqb-true (length words) 1 (good_parts ports Clock words good).0 in
    port_below ports Clock words 0 good (omega (arith, count)) refl
block_port_below ports Caller words one good =
    let count = eqb-true (length words) 2 (good_parts ports Caller words good).0 in
    port_below ports Caller words 1 good (omega (arith, count)) refl
block_port_below ports Session words one good = cc
block_port_below ports Ports words one good = cc
block_port_below ports Flip words one good = cc
block_port_below ports Phase words one good = cc
block_port_below ports Tick words one good = cc
block_port_below ports End words one good = cc
block_port_below ports (Step verb) words one good = cc
block_port_below ports (Call verb) words one good = cc

other_port : (q p n : ℕ) (b : Bool) → (q == p) ≡ b → q < p → cond b n 0 ≡ 0
other_port q p n true e lt = absurd (let same = eqb-true q p e in omega (arith, same, lt))
other_port q p n false e lt = refl

no_characters : (ports p : ℕ) (blocks : List WrittenBlock)
    → ports ≤ p
    → AllByRecursion (IsGoodBlock ports) blocks
    → characters_count p blocks ≡ 0
no_characters ports p [] h good = refl
no_characters ports p (block ∷ blocks) h good =
    let cons = sum_by-cons (block_characters p) block blocks in
    let below = block_port_below ports block.opening.verb block.opening.arguments good.0.opens_one good.0.good in
    let none =
    other_port (port_of block) p (sum_by arrivals_by block.items) (port_of block == p) refl (omega (arith, below, h)) in
    let rest = no_characters ports p blocks h good.1 in
    omega (arith, cons, none, rest)

no_ticks : (ports p : ℕ) (blocks : List WrittenBlock)
    → ports ≤ p
    → AllByRecursion (IsGoodBlock ports) blocks
    → ticks_count p blocks ≡ 0
no_ticks ports p [] h good = refl
no_ticks ports p (block ∷ blocks) h good =
    let cons = sum_by-cons (block_ticks p) block blocks in
    let below = block_port_below ports block.opening.verb block.opening.arguments good.0.opens_one good.0.good in
    let none =
    other_port (port_of block) p (sum_by ticks_by block.items) (port_of block == p) refl (omega (arith, below, h)) in
    let rest = no_ticks ports p blocks h good.1 in
    omega (arith, cons, none, rest)

no_characters_ever : (ports p : ℕ) (phases : List (List WrittenBlock))
    → ports ≤ p
    → AllByRecursion (IsGoodPhase ports) phases
    → sum_by (characters_count p) phases ≡ 0
no_characters_ever ports p [] h good = refl
no_characters_ever ports p (blocks ∷ phases) h good =
    let cons = sum_by-cons (characters_count p) blocks phases in
    let here = no_characters ports p blocks h good.0.each in
    let rest = no_characters_ever ports p phases h good.1 in
    omega (arith, cons, here, rest)

no_ticks_ever : (ports p : ℕ) (phases : List (List WrittenBlock))
    → ports ≤ p
    → AllByRecursion (IsGoodPhase ports) phases
    → sum_by (ticks_count p) phases ≡ 0
no_ticks_ever ports p [] h good = refl
no_ticks_ever ports p (blocks ∷ phases) h good =
    let cons = sum_by-cons (ticks_count p) blocks phases in
    let here = no_ticks ports p blocks h good.0.each in
    let rest = no_ticks_ever ports p phases h good.1 in
    omega (arith, cons, here, rest)

-- ---- the whole session

abbrev pub header_stand : List (List ℕ) → PlainStand
header_stand arguments = stand_after first_stand Session arguments

abbrev pub ports_stand : List (List ℕ) → List (List ℕ) → PlainStand
ports_stand version ports = stand_after (header_stand version) Ports ports

one_word : (words : List (List ℕ)) → (length words == 1) ≡ true → (word : List ℕ) × (words ≡ word ∷ [])
one_word [] h = cc
one_word (word ∷ []) h = (word, refl)
one_word (word ∷ other ∷ words) h =
    absurd (let one = eqb-true (length (word ∷ other ∷ words)) 1 h in omega (arith, one))

-- a good written session for items
pub record IsWritten (items : List WrittenItem) : Type 0 where
  pub written : Written
  pub good : IsWellWritten written
  pub items_are : items ≡ session_items written

written_from : (version ports : List ℕ)
    → is_good 0 Session (version ∷ []) ≡ true
    → is_good 0 Ports (ports ∷ []) ≡ true
    → (items : List WrittenItem)
    → HeadFollows (ports_stand (version ∷ []) (ports ∷ [])) items
    → IsWritten (item_with Session (version ∷ []) ∷ item_with Ports (ports ∷ []) ∷ items)
written_from version ports good_version good_ports items f = record {
  written = record { version = version; ports = ports; flips = f.flips; phases = f.phases };
  good = record {
    header = good_version;
    ports = good_ports;
    flips = f.head.flips_good;
    flips_once = f.head.flips_once;
    phases = f.head.phases_good;
    few_phases = f.head.few_phases;
    few_steps = f.head.few_steps;
    few_characters = λ p.
        let few = f.head.few_characters p in
        let most = left_at_most MOST_PORTS MOST_ARRIVALS p in omega (arith, few, most);
    few_ticks = λ p.
        let few = f.head.few_ticks p in
        let most = left_at_most MOST_PORTS MOST_TICKS p in omega (arith, few, most);
  };
  items_are =
      ap (λ (xs : List WrittenItem). item_with Session (version ∷ []) ∷ item_with Ports (ports ∷ []) ∷ xs) f.items_are;
}

-- after the header nothing but `ports` may stand
ports_written : (version : List ℕ)
    → is_good 0 Session (version ∷ []) ≡ true
    → (verb : Verb) (arguments : List (List ℕ)) (items : List WrittenItem)
    → Fits (header_stand (version ∷ [])) verb arguments
    → Run (stand_after (header_stand (version ∷ [])) verb arguments) items
    → IsWritten (item_with Session (version ∷ []) ∷ item_with verb arguments ∷ items)
ports_written version good Ports arguments items fits run =
    let one = one_word arguments (good_parts 0 Ports arguments fits.good).0 in
    let good_ports : is_good 0 Ports (one.0 ∷ []) ≡ true =
    subst (λ (words : List (List ℕ)). is_good 0 Ports words ≡ true) one.1 fits.good in
    let run' : Run (ports_stand (version ∷ []) (one.0 ∷ [])) items =
    subst (λ (words : List (List ℕ)). Run (ports_stand (version ∷ []) words) items) one.1 run in
    subst (λ (words : List (List ℕ)). IsWritten (item_with Session (version ∷ []) ∷ item_with Ports words ∷ items))
    (sym one.1)
    (written_from version one.0 good good_ports items
    (head_follows items (ports_stand (version ∷ []) (one.0 ∷ [])) refl run'))
ports_written version good Session arguments items fits run = absurd (let none = fits.at in cc)
ports_written version good Flip arguments items fits run = absurd (let none = fits.at in cc)
ports_written version good Phase arguments items fits run = absurd (let none = fits.at in cc)
ports_written version good Line arguments items fits run = absurd (let none = fits.at in cc)
ports_written version good Clock arguments items fits run = absurd (let none = fits.at in cc)
ports_written version good Caller arguments items fits run = absurd (let none = fits.at in cc)
ports_written version good Tick arguments items fits run = absurd (let none = fits.at in cc)
ports_written version good End arguments items fits run = absurd (let none = fits.at in cc)
ports_written version good (Step verb) arguments items fits run = absurd (let none = fits.at in cc)
ports_written version good (Call verb) arguments items fits run = absurd (let none = fits.at in cc)

head_written : (version : List ℕ) (items : List WrittenItem)
    → is_good 0 Session (version ∷ []) ≡ true
    → Run (header_stand (version ∷ [])) items
    → IsWritten (item_with Session (version ∷ []) ∷ items)
head_written version [] good run = cc
head_written version (item ∷ items) good run =
    let fits = good_fits (header_stand (version ∷ [])) (verb_text item.verb) item.arguments item.verb refl run.0 in
    ports_written version good item.verb item.arguments items fits.1 run.1

-- items that are taken from the first stand on are those of a good session
pub run_written : (items : List WrittenItem) → Run first_stand items → IsWritten items
run_written [] run = cc
run_written (item ∷ items) run =
    let found = header_found first_stand (verb_text item.verb) item.arguments item.verb refl run.0 in
    let one = one_word item.arguments (good_parts 0 Session item.arguments found.0).0 in
    let same : item ≡ item_with Session (one.0 ∷ []) =
    ap (λ (verb : Verb). item_with verb item.arguments) (sym found.1) ∙ ap (item_with Session) one.1 in
    let good : is_good 0 Session (one.0 ∷ []) ≡ true =
    subst (λ (words : List (List ℕ)). is_good 0 Session words ≡ true) one.1 found.0 in
    let onwards : Run (header_stand (one.0 ∷ [])) items =
    subst (λ (i : WrittenItem). Run (stand_after first_stand i.verb i.arguments) items) same run.1 in
    subst (λ (i : WrittenItem). IsWritten (i ∷ items)) (sym same) (head_written one.0 items good onwards)

-- .. and those are taken, and read as what they mean
pub ports_few : (w : Written) → IsWellWritten w → ports_of w ≤ MOST_PORTS
ports_few w good = good_number 0 Ports (w.ports ∷ []) 0 1 MOST_PORTS good.ports refl

left_for : (left : List ℕ) (most n p : ℕ)
    → ((p < MOST_PORTS) ⊎ (MOST_PORTS ≤ p))
    → ((p < MOST_PORTS) → slice_index left p ≡ most)
    → n ≤ most
    → ((MOST_PORTS ≤ p) → n ≡ 0)
    → n ≤ slice_index left p
left_for left most n p (inl lt) all few none = let e = all lt in omega (arith, e, few)
left_for left most n p (inr ge) all few none = let e = none ge in omega (arith, e)

which_side : (p : ℕ) → (p < MOST_PORTS) ⊎ (MOST_PORTS ≤ p)
which_side p = elim (nat_lt p MOST_PORTS) as (λ b. nat_lt p MOST_PORTS ≡ b → (p < MOST_PORTS) ⊎ (MOST_PORTS ≤ p)) [
  | true ↦ λ e. inl (ltb-true p MOST_PORTS e)
  | false ↦ λ e. inr (ltb-false p MOST_PORTS e)
] refl

pub record WrittenTaken (w : Written) : Type 0 where
  pub run : Run first_stand (session_items w)
  pub meant : session_read first_stand first_draft (session_items w) ≡ session_meaning w

pub written_taken : (w : Written) → IsWellWritten w → WrittenTaken w
written_taken w good =
    let s = ports_stand (w.version ∷ []) (w.ports ∷ []) in
    let few = ports_few w good in
    let head : Head s w.flips w.phases = record {
      flips_good = good.flips;
      flips_once = good.flips_once;
      phases_good = good.phases;
      few_phases = good.few_phases;
      few_steps = good.few_steps;
      few_characters = λ p.
          left_for (replicate MOST_PORTS MOST_ARRIVALS) MOST_ARRIVALS (sum_by (characters_count p) w.phases) p
          (which_side p)
          (left_all MOST_PORTS MOST_ARRIVALS p) (good.few_characters p)
          (λ ge. no_characters_ever (ports_of w) p w.phases (omega (arith, ge, few)) good.phases);
      few_ticks = λ p.
          left_for (replicate MOST_PORTS MOST_TICKS) MOST_TICKS (sum_by (ticks_count p) w.phases) p (which_side p)
          (left_all MOST_PORTS MOST_TICKS p) (good.few_ticks p)
          (λ ge. no_ticks_ever (ports_of w) p w.phases (omega (arith, ge, few)) good.phases);
    } in
    let rest = head_taken w.flips w.phases s refl head in record {
      run = (
        header_good first_stand (w.version ∷ []) refl good.header,
        (
          fits_good (header_stand (w.version ∷ [])) (verb_text Ports) (w.ports ∷ []) Ports refl refl
              (record { at = refl; good = good.ports; once = refl; within = refl }),
          rest.run,
        ),
      );
      meant = rest.meant (replicate (ports_of w) DEFAULT_FLIP);
    }
