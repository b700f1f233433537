-- What may follow where the reader stands in a phase: the rest of the open block, further blocks, further
-- phases, and the end.
use Rattle.std.proofs.Common.{◌≡◌, ℕ, ◌+◌, ◌<◌, ◌≤◌, ◌==◌, ◌||◌, nat_le, nat_lt, Bool, true, false, List}
use Rattle.std.proofs.Common.{[], ◌∷◌, ◌++◌, length, refl, ap, sym, subst, arith, leb-true, ltb-false}
use Rattle.std.proofs.lemmas.Bool.{leb-false}
use Rattle.std.specs.Prelude.{slice_index, flat_map, sum_by}
use Rattle.std.specs.List.{AllByRecursion}
use Rattle.std.proofs.lemmas.List.Sums.{sum_by-cons}
use Rattle.tty_base.specs.Sizes.{MOST_CALLERS}
use Rattle.text_lines.specs.Values.{number_at}
use Rattle.session_text.specs.declared.verbs.Verb.{Verb}
use Rattle.session_text.specs.declared.verbs.Verb.TheVariants.{Session, Phase, Line, Clock, Caller, Tick, Step, Call}
use Rattle.session_text.specs.declared.verbs.LineVerb.{LineVerb}
use Rattle.session_text.specs.declared.verbs.CallVerb.{CallVerb}
use Rattle.session_text.specs.declared.stands.ItemPlace.{ItemPlace}
use Rattle.session_text.specs.declared.stands.ItemPlace.TheVariants as place
use Rattle.session_text.specs.Stands.{PlainStand, callers_on, arrivals, has_many, is_good, may_stand, has_stood}
use Rattle.session_text.specs.Stands.{is_over, in_phase, is_before, is_line, is_clock, is_caller, stand_after}
use Rattle.session_text.specs.Grammar.{WrittenItem, WrittenBlock, block_items, phase_items, end_item, is_inside}
use Rattle.session_text.specs.Grammar.{IsGoodItem, IsGoodBlock, IsGoodPhase, Once, CallersFit, line_ports}
use Rattle.session_text.specs.Grammar.{clock_ports, caller_keys, port_of, steps_count, arrivals_by, ticks_by}
use Rattle.session_text.specs.Grammar.{block_characters, characters_count, block_ticks, ticks_count}
use Rattle.session_text.proofs.Bounds.{or_parts, or_neither, above_zero, is_above_zero, le-ltb-false}
use Rattle.session_text.proofs.Bounds.{on_port, none_on, spent_more, spent_less, spent_fits}

-- an item passes the tests of where the reader stands
pub record Fits (s : PlainStand) (verb : Verb) (arguments : List (List ℕ)) : Type 0 where
  pub at : may_stand verb s.place ≡ true
  pub good : is_good s.ports verb arguments ≡ true
  pub once : has_stood s verb arguments ≡ false
  pub within : is_over s verb arguments ≡ false

-- the verb with which the open block began; none may stand inside a `tty-session`
abbrev pub opening_at : ItemPlace → Verb
opening_at place.Line = Line
opening_at place.Clock = Clock
opening_at place.Caller = Caller
opening_at other = Session

abbrev pub after_item : PlainStand → WrittenItem → PlainStand
after_item s item = stand_after s item.verb item.arguments

pub record Rest (s : PlainStand) (own : List WrittenItem) (blocks : List WrittenBlock)
    (phases : List (List WrittenBlock)) : Type 0 where
  pub own_good : AllByRecursion (IsGoodItem s.ports (opening_at s.place)) own
  pub blocks_good : AllByRecursion (IsGoodBlock s.ports) blocks
  pub lines_once : Once s.lines (line_ports blocks)
  pub clocks_once : Once s.clocks (clock_ports blocks)
  pub callers_fit : CallersFit s.callers (caller_keys blocks)
  pub phases_good : AllByRecursion (IsGoodPhase s.ports) phases
  pub few_phases : length phases ≤ s.phases_left
  pub few_steps : length own + (steps_count blocks + sum_by steps_count phases) ≤ s.steps_left
  pub few_characters : (p : ℕ)
      → on_port s.port p (sum_by arrivals_by own) + (characters_count p blocks + sum_by (characters_count p) phases)
      ≤ slice_index s.characters_left p
  pub few_ticks : (p : ℕ)
      → on_port s.port p (sum_by ticks_by own) + (ticks_count p blocks + sum_by (ticks_count p) phases)
      ≤ slice_index s.ticks_left p

abbrev pub rest_items : List WrittenItem → List WrittenBlock → List (List WrittenBlock) → List WrittenItem
rest_items own blocks phases = own ++ (flat_map block_items blocks ++ (flat_map phase_items phases ++ end_item ∷ []))

-- ---- places

pub line_is : (at : ItemPlace) → is_line at ≡ true → at ≡ place.Line
line_is place.Line h = refl
line_is place.Start h = cc
line_is place.Head h = cc
line_is place.Before h = cc
line_is place.Phase h = cc
line_is place.Clock h = cc
line_is place.Caller h = cc
line_is place.Ended h = cc

pub clock_is : (at : ItemPlace) → is_clock at ≡ true → at ≡ place.Clock
clock_is place.Clock h = refl
clock_is place.Start h = cc
clock_is place.Head h = cc
clock_is place.Before h = cc
clock_is place.Phase h = cc
clock_is place.Line h = cc
clock_is place.Caller h = cc
clock_is place.Ended h = cc

pub caller_is : (at : ItemPlace) → is_caller at ≡ true → at ≡ place.Caller
caller_is place.Caller h = refl
caller_is place.Start h = cc
caller_is place.Head h = cc
caller_is place.Before h = cc
caller_is place.Phase h = cc
caller_is place.Clock h = cc
caller_is place.Line h = cc
caller_is place.Ended h = cc

-- ---- one item more of the open block

is_step_inside : (at : ItemPlace) (verb : LineVerb) → is_line at ≡ true → is_inside (opening_at at) (Step verb) ≡ true
is_step_inside at verb h =
    subst (λ (p : ItemPlace). is_inside (opening_at p) (Step verb) ≡ true) (sym (line_is at h)) refl

is_tick_inside : (at : ItemPlace) → is_clock at ≡ true → is_inside (opening_at at) Tick ≡ true
is_tick_inside at h = subst (λ (p : ItemPlace). is_inside (opening_at p) Tick ≡ true) (sym (clock_is at h)) refl

is_call_inside : (at : ItemPlace) (verb : CallVerb) → is_caller at ≡ true → is_inside (opening_at at) (Call verb) ≡ true
is_call_inside at verb h =
    subst (λ (p : ItemPlace). is_inside (opening_at p) (Call verb) ≡ true) (sym (caller_is at h)) refl

-- the sums of an item more
arrived_more : (item : WrittenItem) (own : List WrittenItem) (n : ℕ)
    → arrivals_by item ≡ n
    → n + sum_by arrivals_by own ≡ sum_by arrivals_by (item ∷ own)
arrived_more item own n e = let cons = sum_by-cons arrivals_by item own in omega (arith, cons, e)

ticks_more : (item : WrittenItem) (own : List WrittenItem) (n : ℕ)
    → ticks_by item ≡ n
    → n + sum_by ticks_by own ≡ sum_by ticks_by (item ∷ own)
ticks_more item own n e = let cons = sum_by-cons ticks_by item own in omega (arith, cons, e)

-- a bound for each port, at an equal sum
at_equal : (port x y : ℕ) (rest left : ℕ → ℕ)
    → x ≡ y
    → ((p : ℕ) → on_port port p x + rest p ≤ left p)
    → (p : ℕ)
    → on_port port p y + rest p ≤ left p
at_equal port x y rest left e h p = subst (λ (n : ℕ). on_port port p n + rest p ≤ left p) e (h p)

abbrev pub characters_rest : List WrittenBlock → List (List WrittenBlock) → ℕ → ℕ
characters_rest blocks phases p = characters_count p blocks + sum_by (characters_count p) phases

abbrev pub ticks_rest : List WrittenBlock → List (List WrittenBlock) → ℕ → ℕ
ticks_rest blocks phases p = ticks_count p blocks + sum_by (ticks_count p) phases

-- ..  a line's item
pub step_before : (s : PlainStand) (verb : LineVerb) (arguments : List (List ℕ)) (own : List WrittenItem)
    (blocks : List WrittenBlock)
    (phases : List (List WrittenBlock))
    → Fits s (Step verb) arguments
    → Rest (stand_after s (Step verb) arguments) own blocks phases
    → Rest s (record { verb = Step verb; arguments = arguments } ∷ own) blocks phases
step_before s verb arguments own blocks phases fits r =
    let item : WrittenItem = record { verb = Step verb; arguments = arguments } in
    let over = or_parts (s.steps_left == 0) (nat_lt (slice_index s.characters_left s.port) (arrivals verb arguments))
    fits.within in
    let some = above_zero s.steps_left over.0 in
    let enough = ltb-false (slice_index s.characters_left s.port) (arrivals verb arguments) over.1 in record {
      own_good =
          (record { inside = is_step_inside s.place verb fits.at; good = fits.good; few_modes = refl }, r.own_good);
      blocks_good = r.blocks_good;
      lines_once = r.lines_once;
      clocks_once = r.clocks_once;
      callers_fit = r.callers_fit;
      phases_good = r.phases_good;
      few_phases = r.few_phases;
      few_steps = let few = r.few_steps in omega (arith, few, some);
      few_characters =
          at_equal s.port (arrivals verb arguments + sum_by arrivals_by own) (sum_by arrivals_by (item ∷ own))
          (characters_rest blocks phases) (slice_index s.characters_left)
          (arrived_more item own (arrivals verb arguments) refl)
          (spent_more s.characters_left s.port (arrivals verb arguments) (sum_by arrivals_by own)
          (characters_rest blocks phases) enough r.few_characters);
      few_ticks = at_equal s.port (sum_by ticks_by own) (sum_by ticks_by (item ∷ own)) (ticks_rest blocks phases)
          (slice_index s.ticks_left) (let e = ticks_more item own 0 refl in omega (arith, e)) r.few_ticks;
    }

pub step_after : (s : PlainStand) (verb : LineVerb) (arguments : List (List ℕ)) (own : List WrittenItem)
    (blocks : List WrittenBlock)
    (phases : List (List WrittenBlock))
    → may_stand (Step verb) s.place ≡ true
    → Rest s (record { verb = Step verb; arguments = arguments } ∷ own) blocks phases
    → Fits s (Step verb) arguments × Rest (stand_after s (Step verb) arguments) own blocks phases
step_after s verb arguments own blocks phases at r =
    let item : WrittenItem = record { verb = Step verb; arguments = arguments } in
    let chars = at_equal s.port (sum_by arrivals_by (item ∷ own)) (arrivals verb arguments + sum_by arrivals_by own)
    (characters_rest blocks phases) (slice_index s.characters_left)
    (sym (arrived_more item own (arrivals verb arguments) refl)) r.few_characters in
    let enough = spent_fits s.characters_left s.port (arrivals verb arguments) (sum_by arrivals_by own)
    (characters_rest blocks phases) chars in (
      record {
        at = at;
        good = r.own_good.0.good;
        once = refl;
        within = or_neither (s.steps_left == 0)
            (nat_lt (slice_index s.characters_left s.port) (arrivals verb arguments))
            (is_above_zero s.steps_left (let few = r.few_steps in omega (arith, few)))
            (le-ltb-false (slice_index s.characters_left s.port) (arrivals verb arguments) enough);
      },
      record {
        own_good = r.own_good.1;
        blocks_good = r.blocks_good;
        lines_once = r.lines_once;
        clocks_once = r.clocks_once;
        callers_fit = r.callers_fit;
        phases_good = r.phases_good;
        few_phases = r.few_phases;
        few_steps = let few = r.few_steps in omega (arith, few);
        few_characters = spent_less s.characters_left s.port (arrivals verb arguments) (sum_by arrivals_by own)
            (characters_rest blocks phases) chars;
        few_ticks = at_equal s.port (sum_by ticks_by (item ∷ own)) (sum_by ticks_by own) (ticks_rest blocks phases)
            (slice_index s.ticks_left) (let e = ticks_more item own 0 refl in omega (arith, e)) r.few_ticks;
      },
    )

-- .. a tick
pub tick_before : (s : PlainStand) (arguments : List (List ℕ)) (own : List WrittenItem) (blocks : List WrittenBlock)
    (phases : List (List WrittenBlock))
    → Fits s Tick arguments
    → Rest (stand_after s Tick arguments) own blocks phases
    → Rest s (record { verb = Tick; arguments = arguments } ∷ own) blocks phases
tick_before s arguments own blocks phases fits r =
    let item : WrittenItem = record { verb = Tick; arguments = arguments } in
    let n = number_at arguments 0 in
    let over = or_parts (s.steps_left == 0) (nat_lt (slice_index s.ticks_left s.port) n) fits.within in
    let some = above_zero s.steps_left over.0 in
    let enough = ltb-false (slice_index s.ticks_left s.port) n over.1 in record {
      own_good = (record { inside = is_tick_inside s.place fits.at; good = fits.good; few_modes = refl }, r.own_good);
      blocks_good = r.blocks_good;
      lines_once = r.lines_once;
      clocks_once = r.clocks_once;
      callers_fit = r.callers_fit;
      phases_good = r.phases_good;
      few_phases = r.few_phases;
      few_steps = let few = r.few_steps in omega (arith, few, some);
      few_characters = at_equal s.port (sum_by arrivals_by own) (sum_by arrivals_by (item ∷ own))
          (characters_rest blocks phases) (slice_index s.characters_left)
          (let e = arrived_more item own 0 refl in omega (arith, e)) r.few_characters;
      few_ticks =
          at_equal s.port (n + sum_by ticks_by own) (sum_by ticks_by (item ∷ own)) (ticks_rest blocks phases)
          (slice_index s.ticks_left) (ticks_more item own n refl)
          (spent_more s.ticks_left s.port n (sum_by ticks_by own) (ticks_rest blocks phases) enough r.few_ticks);
    }

pub tick_after : (s : PlainStand) (arguments : List (List ℕ)) (own : List WrittenItem) (blocks : List WrittenBlock)
    (phases : List (List WrittenBlock))
    → may_stand Tick s.place ≡ true
    → Rest s (record { verb = Tick; arguments = arguments } ∷ own) blocks phases
    → Fits s Tick arguments × Rest (stand_after s Tick arguments) own blocks phases
tick_after s arguments own blocks phases at r =
    let item : WrittenItem = record { verb = Tick; arguments = arguments } in
    let n = number_at arguments 0 in
    let ticks = at_equal s.port (sum_by ticks_by (item ∷ own)) (n + sum_by ticks_by own) (ticks_rest blocks phases)
    (slice_index s.ticks_left) (sym (ticks_more item own n refl)) r.few_ticks in
    let enough = spent_fits s.ticks_left s.port n (sum_by ticks_by own) (ticks_rest blocks phases) ticks in (
      record {
        at = at;
        good = r.own_good.0.good;
        once = refl;
        within = or_neither (s.steps_left == 0) (nat_lt (slice_index s.ticks_left s.port) n)
            (is_above_zero s.steps_left (let few = r.few_steps in omega (arith, few)))
            (le-ltb-false (slice_index s.ticks_left s.port) n enough);
      },
      record {
        own_good = r.own_good.1;
        blocks_good = r.blocks_good;
        lines_once = r.lines_once;
        clocks_once = r.clocks_once;
        callers_fit = r.callers_fit;
        phases_good = r.phases_good;
        few_phases = r.few_phases;
        few_steps = let few = r.few_steps in omega (arith, few);
        few_characters = at_equal s.port (sum_by arrivals_by (item ∷ own)) (sum_by arrivals_by own)
            (characters_rest blocks phases) (slice_index s.characters_left)
            (let e = arrived_more item own 0 refl in omega (arith, e)) r.few_characters;
        few_ticks = spent_less s.ticks_left s.port n (sum_by ticks_by own) (ticks_rest blocks phases) ticks;
      },
    )

-- .. a call
pub call_before : (s : PlainStand) (verb : CallVerb) (arguments : List (List ℕ)) (own : List WrittenItem)
    (blocks : List WrittenBlock)
    (phases : List (List WrittenBlock))
    → Fits s (Call verb) arguments
    → Rest (stand_after s (Call verb) arguments) own blocks phases
    → Rest s (record { verb = Call verb; arguments = arguments } ∷ own) blocks phases
call_before s verb arguments own blocks phases fits r =
    let item : WrittenItem = record { verb = Call verb; arguments = arguments } in
    let over = or_parts (s.steps_left == 0) (has_many verb (length arguments)) fits.within in
    let some = above_zero s.steps_left over.0 in record {
      own_good =
          (record { inside = is_call_inside s.place verb fits.at; good = fits.good; few_modes = over.1 }, r.own_good);
      blocks_good = r.blocks_good;
      lines_once = r.lines_once;
      clocks_once = r.clocks_once;
      callers_fit = r.callers_fit;
      phases_good = r.phases_good;
      few_phases = r.few_phases;
      few_steps = let few = r.few_steps in omega (arith, few, some);
      few_characters = at_equal s.port (sum_by arrivals_by own) (sum_by arrivals_by (item ∷ own))
          (characters_rest blocks phases) (slice_index s.characters_left)
          (let e = arrived_more item own 0 refl in omega (arith, e)) r.few_characters;
      few_ticks = at_equal s.port (sum_by ticks_by own) (sum_by ticks_by (item ∷ own)) (ticks_rest blocks phases)
          (slice_index s.ticks_left) (let e = ticks_more item own 0 refl in omega (arith, e)) r.few_ticks;
    }

pub call_after : (s : PlainStand) (verb : CallVerb) (arguments : List (List ℕ)) (own : List WrittenItem)
    (blocks : List WrittenBlock)
    (phases : List (List WrittenBlock))
    → may_stand (Call verb) s.place ≡ true
    → Rest s (record { verb = Call verb; arguments = arguments } ∷ own) blocks phases
    → Fits s (Call verb) arguments × Rest (stand_after s (Call verb) arguments) own blocks phases
call_after s verb arguments own blocks phases at r =
    let item : WrittenItem = record { verb = Call verb; arguments = arguments } in (
      record {
        at = at;
        good = r.own_good.0.good;
        once = refl;
        within = or_neither (s.steps_left == 0) (has_many verb (length arguments))
            (is_above_zero s.steps_left (let few = r.few_steps in omega (arith, few))) r.own_good.0.few_modes;
      },
      record {
        own_good = r.own_good.1;
        blocks_good = r.blocks_good;
        lines_once = r.lines_once;
        clocks_once = r.clocks_once;
        callers_fit = r.callers_fit;
        phases_good = r.phases_good;
        few_phases = r.few_phases;
        few_steps = let few = r.few_steps in omega (arith, few);
        few_characters = at_equal s.port (sum_by arrivals_by (item ∷ own)) (sum_by arrivals_by own)
            (characters_rest blocks phases) (slice_index s.characters_left)
            (let e = arrived_more item own 0 refl in omega (arith, e)) r.few_characters;
        few_ticks = at_equal s.port (sum_by ticks_by (item ∷ own)) (sum_by ticks_by own) (ticks_rest blocks phases)
            (slice_index s.ticks_left) (let e = ticks_more item own 0 refl in omega (arith, e)) r.few_ticks;
      },
    )

-- ---- one block more

-- the sums of a block more
characters_more : (block : WrittenBlock) (blocks : List WrittenBlock) (phases : List (List WrittenBlock)) (port p : ℕ)
    → port_of block ≡ port
    → on_port port p (sum_by arrivals_by block.items) + characters_rest blocks phases p
    ≡ characters_rest (block ∷ blocks) phases p
characters_more block blocks phases port p e =
    let cons = sum_by-cons (block_characters p) block blocks in
    let here : block_characters p block ≡ on_port port p (sum_by arrivals_by block.items) =
    ap (λ (q : ℕ). on_port q p (sum_by arrivals_by block.items)) e in
    omega (arith, cons, here)

block_ticks_more : (block : WrittenBlock) (blocks : List WrittenBlock) (phases : List (List WrittenBlock)) (port p : ℕ)
    → port_of block ≡ port
    → on_port port p (sum_by ticks_by block.items) + ticks_rest blocks phases p ≡ ticks_rest (block ∷ blocks) phases p
block_ticks_more block blocks phases port p e =
    let cons = sum_by-cons (block_ticks p) block blocks in
    let here : block_ticks p block ≡ on_port port p (sum_by ticks_by block.items) =
    ap (λ (q : ℕ). on_port q p (sum_by ticks_by block.items)) e in
    omega (arith, cons, here)

-- nothing of its own
own_none : (port : ℕ) (rest left : ℕ → ℕ) → ((p : ℕ) → rest p ≤ left p) → (p : ℕ) → on_port port p 0 + rest p ≤ left p
own_none port rest left h p = let none = none_on (port == p) 0 refl in omega (arith, h p, none)

none_own : (port : ℕ) (rest left : ℕ → ℕ) → ((p : ℕ) → on_port port p 0 + rest p ≤ left p) → (p : ℕ) → rest p ≤ left p
none_own port rest left h p = let none = none_on (port == p) 0 refl in omega (arith, h p, none)

characters_before : (block : WrittenBlock) (blocks : List WrittenBlock) (phases : List (List WrittenBlock))
    (old port : ℕ) (left : List ℕ)
    → port_of block ≡ port
    → ((p : ℕ) → on_port port p (sum_by arrivals_by block.items) + characters_rest blocks phases p ≤ slice_index left p)
    → (p : ℕ)
    → on_port old p 0 + characters_rest (block ∷ blocks) phases p ≤ slice_index left p
characters_before block blocks phases old port left e h =
    own_none old (characters_rest (block ∷ blocks) phases) (slice_index left)
    (λ p. let more = characters_more block blocks phases port p e in omega (arith, h p, more))

characters_after : (block : WrittenBlock) (blocks : List WrittenBlock) (phases : List (List WrittenBlock))
    (old port : ℕ) (left : List ℕ)
    → port_of block ≡ port
    → ((p : ℕ) → on_port old p 0 + characters_rest (block ∷ blocks) phases p ≤ slice_index left p)
    → (p : ℕ)
    → on_port port p (sum_by arrivals_by block.items) + characters_rest blocks phases p ≤ slice_index left p
characters_after block blocks phases old port left e h p =
    let more = characters_more block blocks phases port p e in
    let all = none_own old (characters_rest (block ∷ blocks) phases) (slice_index left) h p in
    omega (arith, all, more)

ticks_before : (block : WrittenBlock) (blocks : List WrittenBlock) (phases : List (List WrittenBlock)) (old port : ℕ)
    (left : List ℕ)
    → port_of block ≡ port
    → ((p : ℕ) → on_port port p (sum_by ticks_by block.items) + ticks_rest blocks phases p ≤ slice_index left p)
    → (p : ℕ)
    → on_port old p 0 + ticks_rest (block ∷ blocks) phases p ≤ slice_index left p
ticks_before block blocks phases old port left e h =
    own_none old (ticks_rest (block ∷ blocks) phases) (slice_index left)
    (λ p. let more = block_ticks_more block blocks phases port p e in omega (arith, h p, more))

ticks_after : (block : WrittenBlock) (blocks : List WrittenBlock) (phases : List (List WrittenBlock)) (old port : ℕ)
    (left : List ℕ)
    → port_of block ≡ port
    → ((p : ℕ) → on_port old p 0 + ticks_rest (block ∷ blocks) phases p ≤ slice_index left p)
    → (p : ℕ)
    → on_port port p (sum_by ticks_by block.items) + ticks_rest blocks phases p ≤ slice_index left p
ticks_after block blocks phases old port left e h p =
    let more = block_ticks_more block blocks phases port p e in
    let all = none_own old (ticks_rest (block ∷ blocks) phases) (slice_index left) h p in
    omega (arith, all, more)

abbrev pub block_with : Verb → List (List ℕ) → List WrittenItem → WrittenBlock
block_with verb arguments items = record { opening = record { verb = verb; arguments = arguments }; items = items }

steps_more : (block : WrittenBlock) (blocks : List WrittenBlock)
    → steps_count (block ∷ blocks) ≡ length block.items + steps_count blocks
steps_more block blocks = sum_by-cons (λ b. length b.items) block blocks

pub line_before : (s : PlainStand) (arguments : List (List ℕ)) (items : List WrittenItem) (blocks : List WrittenBlock)
    (phases : List (List WrittenBlock))
    → Fits s Line arguments
    → Rest (stand_after s Line arguments) items blocks phases
    → Rest s [] (block_with Line arguments items ∷ blocks) phases
line_before s arguments items blocks phases fits r =
    let block = block_with Line arguments items in
    let n = number_at arguments 0 in record {
      own_good = tt;
      blocks_good = (record { opens_one = refl; good = fits.good; each = r.own_good }, r.blocks_good);
      lines_once = (fits.once, r.lines_once);
      clocks_once = r.clocks_once;
      callers_fit = r.callers_fit;
      phases_good = r.phases_good;
      few_phases = r.few_phases;
      few_steps = let few = r.few_steps in let more = steps_more block blocks in omega (arith, few, more);
      few_characters = characters_before block blocks phases s.port n s.characters_left refl r.few_characters;
      few_ticks = ticks_before block blocks phases s.port n s.ticks_left refl r.few_ticks;
    }

pub line_after : (s : PlainStand) (arguments : List (List ℕ)) (items : List WrittenItem) (blocks : List WrittenBlock)
    (phases : List (List WrittenBlock))
    → in_phase s.place ≡ true
    → Rest s [] (block_with Line arguments items ∷ blocks) phases
    → Fits s Line arguments × Rest (stand_after s Line arguments) items blocks phases
line_after s arguments items blocks phases at r =
    let block = block_with Line arguments items in
    let n = number_at arguments 0 in (
      record { at = at; good = r.blocks_good.0.good; once = r.lines_once.0; within = refl },
      record {
        own_good = r.blocks_good.0.each;
        blocks_good = r.blocks_good.1;
        lines_once = r.lines_once.1;
        clocks_once = r.clocks_once;
        callers_fit = r.callers_fit;
        phases_good = r.phases_good;
        few_phases = r.few_phases;
        few_steps = let few = r.few_steps in let more = steps_more block blocks in omega (arith, few, more);
        few_characters = characters_after block blocks phases s.port n s.characters_left refl r.few_characters;
        few_ticks = ticks_after block blocks phases s.port n s.ticks_left refl r.few_ticks;
      },
    )

pub clock_before : (s : PlainStand) (arguments : List (List ℕ)) (items : List WrittenItem) (blocks : List WrittenBlock)
    (phases : List (List WrittenBlock))
    → Fits s Clock arguments
    → Rest (stand_after s Clock arguments) items blocks phases
    → Rest s [] (block_with Clock arguments items ∷ blocks) phases
clock_before s arguments items blocks phases fits r =
    let block = block_with Clock arguments items in
    let n = number_at arguments 0 in record {
      own_good = tt;
      blocks_good = (record { opens_one = refl; good = fits.good; each = r.own_good }, r.blocks_good);
      lines_once = r.lines_once;
      clocks_once = (fits.once, r.clocks_once);
      callers_fit = r.callers_fit;
      phases_good = r.phases_good;
      few_phases = r.few_phases;
      few_steps = let few = r.few_steps in let more = steps_more block blocks in omega (arith, few, more);
      few_characters = characters_before block blocks phases s.port n s.characters_left refl r.few_characters;
      few_ticks = ticks_before block blocks phases s.port n s.ticks_left refl r.few_ticks;
    }

pub clock_after : (s : PlainStand) (arguments : List (List ℕ)) (items : List WrittenItem) (blocks : List WrittenBlock)
    (phases : List (List WrittenBlock))
    → in_phase s.place ≡ true
    → Rest s [] (block_with Clock arguments items ∷ blocks) phases
    → Fits s Clock arguments × Rest (stand_after s Clock arguments) items blocks phases
clock_after s arguments items blocks phases at r =
    let block = block_with Clock arguments items in
    let n = number_at arguments 0 in (
      record { at = at; good = r.blocks_good.0.good; once = r.clocks_once.0; within = refl },
      record {
        own_good = r.blocks_good.0.each;
        blocks_good = r.blocks_good.1;
        lines_once = r.lines_once;
        clocks_once = r.clocks_once.1;
        callers_fit = r.callers_fit;
        phases_good = r.phases_good;
        few_phases = r.few_phases;
        few_steps = let few = r.few_steps in let more = steps_more block blocks in omega (arith, few, more);
        few_characters = characters_after block blocks phases s.port n s.characters_left refl r.few_characters;
        few_ticks = ticks_after block blocks phases s.port n s.ticks_left refl r.few_ticks;
      },
    )

few_callers : (n : ℕ) → nat_le MOST_CALLERS n ≡ false → n < MOST_CALLERS
few_callers n h = leb-false MOST_CALLERS n h

few_by : (n : ℕ) (t : Bool) → nat_le MOST_CALLERS n ≡ t → n < MOST_CALLERS → t ≡ false
few_by n true e h = absurd (let le = leb-true MOST_CALLERS n e in omega (arith, le, h))
few_by n false e h = refl

pub caller_before : (s : PlainStand) (arguments : List (List ℕ)) (items : List WrittenItem) (blocks : List WrittenBlock)
    (phases : List (List WrittenBlock))
    → Fits s Caller arguments
    → Rest (stand_after s Caller arguments) items blocks phases
    → Rest s [] (block_with Caller arguments items ∷ blocks) phases
caller_before s arguments items blocks phases fits r =
    let block = block_with Caller arguments items in
    let n = number_at arguments 1 in record {
      own_good = tt;
      blocks_good = (record { opens_one = refl; good = fits.good; each = r.own_good }, r.blocks_good);
      lines_once = r.lines_once;
      clocks_once = r.clocks_once;
      callers_fit = (fits.once, few_callers (callers_on n s.callers) fits.within, r.callers_fit);
      phases_good = r.phases_good;
      few_phases = r.few_phases;
      few_steps = let few = r.few_steps in let more = steps_more block blocks in omega (arith, few, more);
      few_characters = characters_before block blocks phases s.port n s.characters_left refl r.few_characters;
      few_ticks = ticks_before block blocks phases s.port n s.ticks_left refl r.few_ticks;
    }

pub caller_after : (s : PlainStand) (arguments : List (List ℕ)) (items : List WrittenItem) (blocks : List WrittenBlock)
    (phases : List (List WrittenBlock))
    → in_phase s.place ≡ true
    → Rest s [] (block_with Caller arguments items ∷ blocks) phases
    → Fits s Caller arguments × Rest (stand_after s Caller arguments) items blocks phases
caller_after s arguments items blocks phases at r =
    let block = block_with Caller arguments items in
    let n = number_at arguments 1 in (
      record {
        at = at;
        good = r.blocks_good.0.good;
        once = r.callers_fit.0;
        within = few_by (callers_on n s.callers) (nat_le MOST_CALLERS (callers_on n s.callers)) refl r.callers_fit.1;
      },
      record {
        own_good = r.blocks_good.0.each;
        blocks_good = r.blocks_good.1;
        lines_once = r.lines_once;
        clocks_once = r.clocks_once;
        callers_fit = r.callers_fit.2;
        phases_good = r.phases_good;
        few_phases = r.few_phases;
        few_steps = let few = r.few_steps in let more = steps_more block blocks in omega (arith, few, more);
        few_characters = characters_after block blocks phases s.port n s.characters_left refl r.few_characters;
        few_ticks = ticks_after block blocks phases s.port n s.ticks_left refl r.few_ticks;
      },
    )

-- ---- one phase more

pub phase_before : (s : PlainStand) (arguments : List (List ℕ)) (blocks : List WrittenBlock)
    (phases : List (List WrittenBlock))
    → Fits s Phase arguments → Rest (stand_after s Phase arguments) [] blocks phases → Rest s [] [] (blocks ∷ phases)
phase_before s arguments blocks phases fits r =
    let some = above_zero s.phases_left fits.within in record {
      own_good = tt;
      blocks_good = tt;
      lines_once = tt;
      clocks_once = tt;
      callers_fit = tt;
      phases_good = (
        record {
          each = r.blocks_good;
          lines_once = r.lines_once;
          clocks_once = r.clocks_once;
          callers_fit = r.callers_fit;
        },
        r.phases_good,
      );
      few_phases = let few = r.few_phases in omega (arith, few, some);
      few_steps = let few = r.few_steps in let more = sum_by-cons steps_count blocks phases in omega (arith, few, more);
      few_characters = λ p.
          let few = r.few_characters p in
          let more = sum_by-cons (characters_count p) blocks phases in omega (arith, few, more);
      few_ticks = λ p.
          let few = r.few_ticks p in let more = sum_by-cons (ticks_count p) blocks phases in omega (arith, few, more);
    }

pub phase_after : (s : PlainStand) (blocks : List WrittenBlock) (phases : List (List WrittenBlock))
    → (is_before s.place || in_phase s.place) ≡ true
    → Rest s [] [] (blocks ∷ phases)
    → Fits s Phase [] × Rest (stand_after s Phase []) [] blocks phases
phase_after s blocks phases at r = (
  record {
    at = at;
    good = refl;
    once = refl;
    within = is_above_zero s.phases_left (let few = r.few_phases in omega (arith, few));
  },
  record {
    own_good = tt;
    blocks_good = r.phases_good.0.each;
    lines_once = r.phases_good.0.lines_once;
    clocks_once = r.phases_good.0.clocks_once;
    callers_fit = r.phases_good.0.callers_fit;
    phases_good = r.phases_good.1;
    few_phases = let few = r.few_phases in omega (arith, few);
    few_steps = let few = r.few_steps in let more = sum_by-cons steps_count blocks phases in omega (arith, few, more);
    few_characters = λ p.
        let few = r.few_characters p in
        let more = sum_by-cons (characters_count p) blocks phases in omega (arith, few, more);
    few_ticks = λ p.
        let few = r.few_ticks p in let more = sum_by-cons (ticks_count p) blocks phases in omega (arith, few, more);
  },
)

-- nothing but the end
pub end_before : (s : PlainStand) → Rest s [] [] []
end_before s = record {
  own_good = tt;
  blocks_good = tt;
  lines_once = tt;
  clocks_once = tt;
  callers_fit = tt;
  phases_good = tt;
  few_phases = omega arith;
  few_steps = omega arith;
  few_characters = λ p. let none = none_on (s.port == p) 0 refl in omega (arith, none);
  few_ticks = λ p. let none = none_on (s.port == p) 0 refl in omega (arith, none);
}
