-- Items that are taken one after the other, from where the reader stands to the end, are the rest of a good
-- session; and such a rest is taken, and read as what it means.
use Rattle.std.proofs.Common.{◌≡◌, ℕ, ◌==◌, ◌||◌, Bool, true, false, List, [], ◌∷◌, ◌++◌}
use Rattle.std.proofs.Common.{length, Some, Ok, refl, ap, sym, subst, ◌∙◌, append_assoc, arith}
use Rattle.std.specs.Prelude.{flat_map, map, fold}
use Rattle.std.specs.List.{AllByRecursion}
use Rattle.std.proofs.lemmas.Bool.{eqb-true}
use Rattle.tty_calls.specs.Plain.{PlainCall}
use Rattle.tty_calls.specs.Sessions.{PlainScript, PlainPhase, PlainSession}
use Rattle.text_lines.specs.Values.{number_at, word_at}
use Rattle.session_text.specs.declared.verbs.Verb.{Verb}
use Rattle.session_text.specs.declared.verbs.Verb.TheVariants.{Session, Ports, Flip, Phase, Line}
use Rattle.session_text.specs.declared.verbs.Verb.TheVariants.{Clock, Caller, Tick, End, Step, Call}
use Rattle.session_text.specs.declared.verbs.LineVerb.{LineVerb}
use Rattle.session_text.specs.declared.verbs.CallVerb.{CallVerb}
use Rattle.session_text.specs.declared.stands.ItemPlace.{ItemPlace}
use Rattle.session_text.specs.declared.stands.ItemPlace.TheVariants as place
use Rattle.session_text.specs.Verbs.{verb_text}
use Rattle.session_text.specs.Stands.{PlainStand, verdict_on, stand_after, in_phase, is_before, is_head}
use Rattle.session_text.specs.Stands.{is_ended, is_line, is_clock, is_caller, may_stand, is_good}
use Rattle.session_text.specs.Meaning.{steps_in, call_in, empty_phase, with_steps, with_ticks, with_script}
use Rattle.session_text.specs.Drafts.{PlainDraft, draft_after, session_with, with_call}
use Rattle.session_text.specs.Grammar.{WrittenItem, WrittenBlock, block_items, phase_item}
use Rattle.session_text.specs.Grammar.{phase_items, end_item, steps_by}
use Rattle.session_text.specs.Grammar.{calls_by, with_block, phase_meaning, is_inside, opens_block, IsGoodItem}
use Rattle.session_text.proofs.Rests.{Fits, opening_at, Rest, rest_items, block_with, step_before, step_after}
use Rattle.session_text.proofs.Rests.{tick_before, tick_after, call_before, call_after, line_before}
use Rattle.session_text.proofs.Rests.{line_after, clock_before, clock_after, caller_before, caller_after}
use Rattle.session_text.proofs.Rests.{phase_before, phase_after, end_before, line_is, clock_is, caller_is}
use Rattle.session_text.proofs.Judged.{is_start, good_fits, fits_good, line_verb_read, call_verb_read, past_in_phase}
use Rattle.session_text.proofs.Fits.{good_parts}
use Rattle.session_text.proofs.Added.{with_own, own_nothing, steps_twice, tick_own, calls_more, calls_at_end}

abbrev pub Run : PlainStand → List WrittenItem → Type 0
Run s [] = is_ended s.place ≡ true
Run s (item ∷ items) =
    (verdict_on s (verb_text item.verb) item.arguments ≡ Ok item.verb)
    × Run (stand_after s item.verb item.arguments) items

-- the session that items are read as
abbrev pub session_read : PlainStand → PlainDraft → List WrittenItem → PlainSession
session_read s d [] = session_with s d
session_read s d (item ∷ items) =
    session_read (stand_after s item.verb item.arguments) (draft_after s d item.verb item.arguments) items

pub record Follows (s : PlainStand) (items : List WrittenItem) : Type 0 where
  pub own : List WrittenItem
  pub blocks : List WrittenBlock
  pub phases : List (List WrittenBlock)
  pub rest : Rest s own blocks phases
  pub items_are : items ≡ rest_items own blocks phases

-- ---- places that cannot be

ended_no_phase : (at : ItemPlace) → is_ended at ≡ true → in_phase at ≡ true → ⊥
ended_no_phase place.Ended e h = cc
ended_no_phase place.Start e h = cc
ended_no_phase place.Head e h = cc
ended_no_phase place.Before e h = cc
ended_no_phase place.Phase e h = cc
ended_no_phase place.Line e h = cc
ended_no_phase place.Clock e h = cc
ended_no_phase place.Caller e h = cc

head_no_phase : (at : ItemPlace) → is_head at ≡ true → in_phase at ≡ true → ⊥
head_no_phase place.Head e h = cc
head_no_phase place.Start e h = cc
head_no_phase place.Ended e h = cc
head_no_phase place.Before e h = cc
head_no_phase place.Phase e h = cc
head_no_phase place.Line e h = cc
head_no_phase place.Clock e h = cc
head_no_phase place.Caller e h = cc

before_no_phase : (at : ItemPlace) → is_before at ≡ true → in_phase at ≡ true → ⊥
before_no_phase place.Before e h = cc
before_no_phase place.Start e h = cc
before_no_phase place.Ended e h = cc
before_no_phase place.Head e h = cc
before_no_phase place.Phase e h = cc
before_no_phase place.Line e h = cc
before_no_phase place.Clock e h = cc
before_no_phase place.Caller e h = cc

nothing_stands : (verb : Verb) → may_stand verb place.Ended ≡ true → ⊥
nothing_stands Session h = cc
nothing_stands Ports h = cc
nothing_stands Flip h = cc
nothing_stands Phase h = cc
nothing_stands Line h = cc
nothing_stands Clock h = cc
nothing_stands Caller h = cc
nothing_stands Tick h = cc
nothing_stands End h = cc
nothing_stands (Step verb) h = cc
nothing_stands (Call verb) h = cc

-- nothing follows the end
pub ended_run : (items : List WrittenItem) (s : PlainStand) → s.place ≡ place.Ended → Run s items → items ≡ []
ended_run [] s at run = refl
ended_run (item ∷ items) s at run =
    let fits = good_fits s (verb_text item.verb) item.arguments item.verb
    (subst (λ (p : ItemPlace). is_start p ≡ false) (sym at) refl) run.0 in
    absurd (nothing_stands item.verb (subst (λ (p : ItemPlace). may_stand item.verb p ≡ true) at fits.1.at))

-- ---- no words follow `phase` and `end`

empty_from : (words : List (List ℕ)) → (length words == 0) ≡ true → words ≡ []
empty_from [] h = refl
empty_from (word ∷ words) h = absurd (let none = eqb-true (length (word ∷ words)) 0 h in omega (arith, none))

pub no_arguments : (ports : ℕ) (words : List (List ℕ)) → is_good ports Phase words ≡ true → words ≡ []
no_arguments ports words h = empty_from words (good_parts ports Phase words h).0

pub no_end_arguments : (ports : ℕ) (words : List (List ℕ)) → is_good ports End words ≡ true → words ≡ []
no_end_arguments ports words h = empty_from words (good_parts ports End words h).0

own_empty : (ports : ℕ) (own : List WrittenItem) → AllByRecursion (IsGoodItem ports Session) own → own ≡ []
own_empty ports [] good = refl
own_empty ports (item ∷ own) good = let none = good.0.inside in cc

-- ---- what is taken is a rest

pub phase_items_more : (blocks : List WrittenBlock) (phases : List (List WrittenBlock))
    → rest_items [] [] (blocks ∷ phases) ≡ phase_item ∷ rest_items [] blocks phases
phase_items_more blocks phases = ap (λ (xs : List WrittenItem). phase_item ∷ xs)
    (append_assoc (flat_map block_items blocks) (flat_map phase_items phases) (end_item ∷ []))

block_items_more : (opening : WrittenItem) (items : List WrittenItem) (blocks : List WrittenBlock)
    (phases : List (List WrittenBlock))
    → rest_items [] (record { opening = opening; items = items } ∷ blocks) phases
    ≡ opening ∷ rest_items items blocks phases
block_items_more opening items blocks phases =
    ap (λ (xs : List WrittenItem). opening ∷ xs)
    (append_assoc items (flat_map block_items blocks) (flat_map phase_items phases ++ end_item ∷ []))

abbrev pub item_with : Verb → List (List ℕ) → WrittenItem
item_with verb arguments = record { verb = verb; arguments = arguments }

block_follows : (s : PlainStand) (verb : Verb) (arguments : List (List ℕ)) (items own : List WrittenItem)
    (blocks : List WrittenBlock)
    (phases : List (List WrittenBlock))
    → Rest s [] (block_with verb arguments own ∷ blocks) phases
    → items ≡ rest_items own blocks phases
    → Follows s (item_with verb arguments ∷ items)
block_follows s verb arguments items own blocks phases rest same = record {
  own = [];
  blocks = block_with verb arguments own ∷ blocks;
  phases = phases;
  rest = rest;
  items_are =
      ap (λ (xs : List WrittenItem). item_with verb arguments ∷ xs) same
      ∙ sym (block_items_more (item_with verb arguments) own blocks phases);
}

own_follows : (s : PlainStand) (item : WrittenItem) (items own : List WrittenItem) (blocks : List WrittenBlock)
    (phases : List (List WrittenBlock))
    → Rest s (item ∷ own) blocks phases
    → items ≡ rest_items own blocks phases
    → Follows s (item ∷ items)
own_follows s item items own blocks phases rest same = record {
  own = item ∷ own;
  blocks = blocks;
  phases = phases;
  rest = rest;
  items_are = ap (λ (xs : List WrittenItem). item ∷ xs) same;
}

-- nothing more of a block, and no further block
pub record PhasesFollow (s : PlainStand) (items : List WrittenItem) : Type 0 where
  pub phases : List (List WrittenBlock)
  pub rest : Rest s [] [] phases
  pub items_are : items ≡ rest_items [] [] phases

pub phase_follows : (s : PlainStand) (arguments : List (List ℕ)) (items : List WrittenItem)
    → Fits s Phase arguments
    → Follows (stand_after s Phase arguments) items
    → PhasesFollow s (item_with Phase arguments ∷ items)
phase_follows s arguments items fits f =
    let none = own_empty s.ports f.own f.rest.own_good in
    let bare = no_arguments s.ports arguments fits.good in
    let rest : Rest (stand_after s Phase arguments) [] f.blocks f.phases =
    subst (λ (own : List WrittenItem). Rest (stand_after s Phase arguments) own f.blocks f.phases) none f.rest in
    let same : items ≡ rest_items [] f.blocks f.phases =
    f.items_are ∙ ap (λ (own : List WrittenItem). rest_items own f.blocks f.phases) none in record {
      phases = f.blocks ∷ f.phases;
      rest = phase_before s arguments f.blocks f.phases fits rest;
      items_are =
          ap (λ (words : List (List ℕ)). item_with Phase words ∷ items) bare
          ∙ ap (λ (xs : List WrittenItem). phase_item ∷ xs) same
          ∙ sym (phase_items_more f.blocks f.phases);
    }

pub end_follows : (s : PlainStand) (arguments : List (List ℕ)) (items : List WrittenItem)
    → Fits s End arguments
    → items ≡ []
    → PhasesFollow s (item_with End arguments ∷ items)
end_follows s arguments items fits none = record {
  phases = [];
  rest = end_before s;
  items_are =
      ap (λ (words : List (List ℕ)). item_with End words ∷ items) (no_end_arguments s.ports arguments fits.good)
      ∙ ap (λ (xs : List WrittenItem). end_item ∷ xs) none;
}

no_block_follows : (s : PlainStand) (items : List WrittenItem) → PhasesFollow s items → Follows s items
no_block_follows s items f = record { own = []; blocks = []; phases = f.phases; rest = f.rest; items_are = f.items_are }

verb_follows : (verb : Verb) (arguments : List (List ℕ)) (items : List WrittenItem) (s : PlainStand)
    → in_phase s.place ≡ true
    → Fits s verb arguments
    → Run (stand_after s verb arguments) items
    → ((next : PlainStand) → in_phase next.place ≡ true → Run next items → Follows next items)
    → Follows s (item_with verb arguments ∷ items)
verb_follows Session arguments items s at fits run later = absurd (let none = fits.at in cc)
verb_follows Ports arguments items s at fits run later = absurd (head_no_phase s.place fits.at at)
verb_follows Flip arguments items s at fits run later = absurd (before_no_phase s.place fits.at at)
verb_follows Phase arguments items s at fits run later =
    no_block_follows s (item_with Phase arguments ∷ items)
    (phase_follows s arguments items fits (later (stand_after s Phase arguments) refl run))
verb_follows Line arguments items s at fits run later =
    let f = later (stand_after s Line arguments) refl run in
    block_follows s Line arguments items f.own f.blocks f.phases
    (line_before s arguments f.own f.blocks f.phases fits f.rest) f.items_are
verb_follows Clock arguments items s at fits run later =
    let f = later (stand_after s Clock arguments) refl run in
    block_follows s Clock arguments items f.own f.blocks f.phases
    (clock_before s arguments f.own f.blocks f.phases fits f.rest) f.items_are
verb_follows Caller arguments items s at fits run later =
    let f = later (stand_after s Caller arguments) refl run in
    block_follows s Caller arguments items f.own f.blocks f.phases
    (caller_before s arguments f.own f.blocks f.phases fits f.rest) f.items_are
verb_follows Tick arguments items s at fits run later =
    let f = later (stand_after s Tick arguments) at run in
    own_follows s (item_with Tick arguments) items f.own f.blocks f.phases
    (tick_before s arguments f.own f.blocks f.phases fits f.rest) f.items_are
verb_follows End arguments items s at fits run later =
    no_block_follows s (item_with End arguments ∷ items)
    (end_follows s arguments items fits (ended_run items (stand_after s End arguments) refl run))
verb_follows (Step verb) arguments items s at fits run later =
    let f = later (stand_after s (Step verb) arguments) at run in
    own_follows s (item_with (Step verb) arguments) items f.own f.blocks f.phases
    (step_before s verb arguments f.own f.blocks f.phases fits f.rest) f.items_are
verb_follows (Call verb) arguments items s at fits run later =
    let f = later (stand_after s (Call verb) arguments) at run in
    own_follows s (item_with (Call verb) arguments) items f.own f.blocks f.phases
    (call_before s verb arguments f.own f.blocks f.phases fits f.rest) f.items_are

pub run_follows : (items : List WrittenItem) (s : PlainStand) → in_phase s.place ≡ true → Run s items → Follows s items
run_follows [] s at run = absurd (ended_no_phase s.place run at)
run_follows (item ∷ items) s at run =
    let fits = good_fits s (verb_text item.verb) item.arguments item.verb (past_in_phase s.place at) run.0 in
    verb_follows item.verb item.arguments items s at fits.1 run.1
    (λ next there onwards. run_follows items next there onwards)

-- ---- a rest is taken, and read as what it means

-- the session of a rest: its head, the phases before, the open phase with what is added to it, and the further phases
abbrev pub rest_meant : PlainStand
    → List ℕ
    → List PlainPhase
    → PlainPhase
    → List WrittenItem
    → List WrittenBlock
    → List (List WrittenBlock)
    → PlainSession
rest_meant s flips done phase own blocks phases = record {
  version = s.version;
  ports = s.ports;
  flips = flips;
  phases = done ++ (fold with_block (with_own s.place s.port own phase) blocks ∷ map (phase_meaning s.ports) phases);
}

abbrev pub draft_with : List ℕ → List PlainPhase → PlainPhase → PlainDraft
draft_with flips done phase = record { flips = flips; phases = done; open_phase = Some phase }

abbrev pub Meant : PlainStand
    → List WrittenItem
    → List WrittenItem
    → List WrittenBlock
    → List (List WrittenBlock)
    → Type 0
Meant s items own blocks phases =
    (flips : List ℕ) (done : List PlainPhase) (phase : PlainPhase)
    → session_read s (draft_with flips done phase) items ≡ rest_meant s flips done phase own blocks phases

pub record Taken (s : PlainStand) (items own : List WrittenItem) (blocks : List WrittenBlock)
    (phases : List (List WrittenBlock)) : Type 0 where
  pub run : Run s items
  pub meant : Meant s items own blocks phases

abbrev pub Takes : List WrittenItem → Type 0
Takes items =
    (s : PlainStand) (own : List WrittenItem) (blocks : List WrittenBlock) (phases : List (List WrittenBlock))
    → in_phase s.place ≡ true
    → Rest s own blocks phases
    → items ≡ rest_items own blocks phases
    → Taken s items own blocks phases

-- the open block's first item stands where such an item may
inside_line : (at : ItemPlace) (verb : LineVerb) → is_inside (opening_at at) (Step verb) ≡ true → is_line at ≡ true
inside_line place.Line verb h = refl
inside_line place.Start verb h = cc
inside_line place.Head verb h = cc
inside_line place.Before verb h = cc
inside_line place.Phase verb h = cc
inside_line place.Clock verb h = cc
inside_line place.Caller verb h = cc
inside_line place.Ended verb h = cc

inside_clock : (at : ItemPlace) → is_inside (opening_at at) Tick ≡ true → is_clock at ≡ true
inside_clock place.Clock h = refl
inside_clock place.Start h = cc
inside_clock place.Head h = cc
inside_clock place.Before h = cc
inside_clock place.Phase h = cc
inside_clock place.Line h = cc
inside_clock place.Caller h = cc
inside_clock place.Ended h = cc

inside_caller : (at : ItemPlace) (verb : CallVerb) → is_inside (opening_at at) (Call verb) ≡ true → is_caller at ≡ true
inside_caller place.Caller verb h = refl
inside_caller place.Start verb h = cc
inside_caller place.Head verb h = cc
inside_caller place.Before verb h = cc
inside_caller place.Phase verb h = cc
inside_caller place.Clock verb h = cc
inside_caller place.Line verb h = cc
inside_caller place.Ended verb h = cc

abbrev pub stands_inside : Verb → Bool
stands_inside Tick = true
stands_inside (Step verb) = true
stands_inside (Call verb) = true
stands_inside other = false

inside_only : (opening verb : Verb) → is_inside opening verb ≡ true → stands_inside verb ≡ true
inside_only Line (Step verb) h = refl
inside_only Clock Tick h = refl
inside_only Caller (Call verb) h = refl
inside_only opening verb h = cc

-- the same is added, whether at once or one by one
step_added : (at : ItemPlace) (port : ℕ) (verb : LineVerb) (arguments : List (List ℕ)) (own : List WrittenItem)
    (phase : PlainPhase)
    → at ≡ place.Line
    → with_own at port own (with_steps port (steps_in verb arguments) phase)
    ≡ with_own at port (item_with (Step verb) arguments ∷ own) phase
step_added at port verb arguments own phase e =
    subst (λ (p : ItemPlace).
    with_own p port own (with_steps port (steps_in verb arguments) phase)
    ≡ with_own p port (item_with (Step verb) arguments ∷ own) phase)
    (sym e)
    (steps_twice port (steps_in verb arguments) (flat_map steps_by own) phase)

tick_added : (at : ItemPlace) (port : ℕ) (arguments : List (List ℕ)) (own : List WrittenItem) (phase : PlainPhase)
    → at ≡ place.Clock
    → with_own at port own (with_ticks port (number_at arguments 0) phase)
    ≡ with_own at port (item_with Tick arguments ∷ own) phase
tick_added at port arguments own phase e =
    subst (λ (p : ItemPlace).
    with_own p port own (with_ticks port (number_at arguments 0) phase)
    ≡ with_own p port (item_with Tick arguments ∷ own) phase)
    (sym e)
    (tick_own port arguments own (number_at arguments 0) phase refl)

abbrev pub phase_with_call : PlainCall → PlainPhase → PlainPhase
phase_with_call call phase = record phase { callers = with_call call phase.callers }

call_added : (at : ItemPlace) (port : ℕ) (verb : CallVerb) (arguments : List (List ℕ)) (own : List WrittenItem)
    (phase : PlainPhase)
    → at ≡ place.Caller
    → with_own at port own (phase_with_call (call_in verb arguments) phase)
    ≡ with_own at port (item_with (Call verb) arguments ∷ own) phase
call_added at port verb arguments own phase e =
    subst (λ (p : ItemPlace).
    with_own p port own (phase_with_call (call_in verb arguments) phase)
    ≡ with_own p port (item_with (Call verb) arguments ∷ own) phase)
    (sym e)
    (ap (λ (scripts : List PlainScript). record phase { callers = scripts })
    (calls_more (call_in verb arguments) (flat_map calls_by own) phase.callers))

-- the rest's session at an equal open phase
meant_at : (s : PlainStand) (flips : List ℕ) (done : List PlainPhase) (blocks : List WrittenBlock)
    (phases : List (List WrittenBlock))
    (one other : PlainPhase)
    → one ≡ other
    → (let r : PlainSession = record {
      version = s.version;
      ports = s.ports;
      flips = flips;
      phases = done ++ (fold with_block one blocks ∷ map (phase_meaning s.ports) phases);
    } in
    r)
    ≡ record {
      version = s.version;
      ports = s.ports;
      flips = flips;
      phases = done ++ (fold with_block other blocks ∷ map (phase_meaning s.ports) phases);
    }
meant_at s flips done blocks phases one other e =
    ap (λ (phase : PlainPhase).
    let r : PlainSession = record {
      version = s.version;
      ports = s.ports;
      flips = flips;
      phases = done ++ (fold with_block phase blocks ∷ map (phase_meaning s.ports) phases);
    } in
    r) e

own_taken : (verb : Verb) (arguments : List (List ℕ)) (items : List WrittenItem)
    → Takes items
    → (s : PlainStand) (own : List WrittenItem) (blocks : List WrittenBlock) (phases : List (List WrittenBlock))
    → in_phase s.place ≡ true
    → Rest s (item_with verb arguments ∷ own) blocks phases
    → items ≡ rest_items own blocks phases
    → stands_inside verb ≡ true
    → Taken s (item_with verb arguments ∷ items) (item_with verb arguments ∷ own) blocks phases
own_taken Tick arguments items takes s own blocks phases at r same inside =
    let clock = inside_clock s.place r.own_good.0.inside in
    let both = tick_after s arguments own blocks phases clock r in
    let rest = takes (stand_after s Tick arguments) own blocks phases at both.1 same in record {
      run = (fits_good s (verb_text Tick) arguments Tick (past_in_phase s.place at) refl both.0, rest.run);
      meant = λ flips done phase.
          rest.meant flips done (with_ticks s.port (number_at arguments 0) phase)
          ∙ meant_at s flips done blocks phases _ _
          (tick_added s.place s.port arguments own phase (clock_is s.place clock));
    }
own_taken (Step verb) arguments items takes s own blocks phases at r same inside =
    let line = inside_line s.place verb r.own_good.0.inside in
    let both = step_after s verb arguments own blocks phases line r in
    let rest = takes (stand_after s (Step verb) arguments) own blocks phases at both.1 same in record {
      run = (
        fits_good s (verb_text (Step verb)) arguments (Step verb) (past_in_phase s.place at)
            (line_verb_read s.version verb) both.0,
        rest.run,
      );
      meant = λ flips done phase.
          rest.meant flips done (with_steps s.port (steps_in verb arguments) phase)
          ∙ meant_at s flips done blocks phases _ _
          (step_added s.place s.port verb arguments own phase (line_is s.place line));
    }
own_taken (Call verb) arguments items takes s own blocks phases at r same inside =
    let caller = inside_caller s.place verb r.own_good.0.inside in
    let both = call_after s verb arguments own blocks phases caller r in
    let rest = takes (stand_after s (Call verb) arguments) own blocks phases at both.1 same in record {
      run = (
        fits_good s (verb_text (Call verb)) arguments (Call verb) (past_in_phase s.place at)
            (call_verb_read s.version verb) both.0,
        rest.run,
      );
      meant = λ flips done phase.
          rest.meant flips done (phase_with_call (call_in verb arguments) phase)
          ∙ meant_at s flips done blocks phases _ _
          (call_added s.place s.port verb arguments own phase (caller_is s.place caller));
    }
own_taken Session arguments items takes s own blocks phases at r same inside = cc
own_taken Ports arguments items takes s own blocks phases at r same inside = cc
own_taken Flip arguments items takes s own blocks phases at r same inside = cc
own_taken Phase arguments items takes s own blocks phases at r same inside = cc
own_taken Line arguments items takes s own blocks phases at r same inside = cc
own_taken Clock arguments items takes s own blocks phases at r same inside = cc
own_taken Caller arguments items takes s own blocks phases at r same inside = cc
own_taken End arguments items takes s own blocks phases at r same inside = cc

block_taken : (verb : Verb) (arguments : List (List ℕ)) (items : List WrittenItem)
    → Takes items
    → (s : PlainStand) (own : List WrittenItem) (blocks : List WrittenBlock) (phases : List (List WrittenBlock))
    → in_phase s.place ≡ true
    → Rest s [] (block_with verb arguments own ∷ blocks) phases
    → items ≡ rest_items own blocks phases
    → opens_block verb ≡ true
    → Taken s (item_with verb arguments ∷ items) [] (block_with verb arguments own ∷ blocks) phases
block_taken Line arguments items takes s own blocks phases at r same one =
    let both = line_after s arguments own blocks phases at r in
    let rest = takes (stand_after s Line arguments) own blocks phases refl both.1 same in record {
      run = (fits_good s (verb_text Line) arguments Line (past_in_phase s.place at) refl both.0, rest.run);
      meant = λ flips done phase.
          rest.meant flips done phase
          ∙ meant_at s flips done blocks phases _ _
          (ap (λ (p : PlainPhase). with_block p (block_with Line arguments own))
          (sym (own_nothing s.place s.port phase)));
    }
block_taken Clock arguments items takes s own blocks phases at r same one =
    let both = clock_after s arguments own blocks phases at r in
    let rest = takes (stand_after s Clock arguments) own blocks phases refl both.1 same in record {
      run = (fits_good s (verb_text Clock) arguments Clock (past_in_phase s.place at) refl both.0, rest.run);
      meant = λ flips done phase.
          rest.meant flips done phase
          ∙ meant_at s flips done blocks phases _ _
          (ap (λ (p : PlainPhase). with_block p (block_with Clock arguments own))
          (sym (own_nothing s.place s.port phase)));
    }
block_taken Caller arguments items takes s own blocks phases at r same one =
    let both = caller_after s arguments own blocks phases at r in
    let rest = takes (stand_after s Caller arguments) own blocks phases refl both.1 same in
    let script : PlainScript = record { port = number_at arguments 1; name = word_at arguments 0; calls = [] } in
    record {
      run = (fits_good s (verb_text Caller) arguments Caller (past_in_phase s.place at) refl both.0, rest.run);
      meant = λ flips done phase. rest.meant flips done (with_script script phase)
          ∙ meant_at s flips done blocks phases _ _
          (ap (λ (scripts : List PlainScript). record phase { callers = scripts })
          (calls_at_end (flat_map calls_by own) phase.callers script)
          ∙ ap (λ (p : PlainPhase). with_block p (block_with Caller arguments own))
          (sym (own_nothing s.place s.port phase)));
    }
block_taken Session arguments items takes s own blocks phases at r same one = cc
block_taken Ports arguments items takes s own blocks phases at r same one = cc
block_taken Flip arguments items takes s own blocks phases at r same one = cc
block_taken Phase arguments items takes s own blocks phases at r same one = cc
block_taken Tick arguments items takes s own blocks phases at r same one = cc
block_taken End arguments items takes s own blocks phases at r same one = cc
block_taken (Step verb) arguments items takes s own blocks phases at r same one = cc
block_taken (Call verb) arguments items takes s own blocks phases at r same one = cc

or_right : (a b : Bool) → b ≡ true → (a || b) ≡ true
or_right true b h = refl
or_right false b h = h

phase_taken : (items : List WrittenItem)
    → Takes items
    → (s : PlainStand) (blocks : List WrittenBlock) (phases : List (List WrittenBlock))
    → in_phase s.place ≡ true
    → Rest s [] [] (blocks ∷ phases)
    → items ≡ rest_items [] blocks phases
    → Taken s (phase_item ∷ items) [] [] (blocks ∷ phases)
phase_taken items takes s blocks phases at r same =
    let both = phase_after s blocks phases (or_right (is_before s.place) (in_phase s.place) at) r in
    let rest = takes (stand_after s Phase []) [] blocks phases refl both.1 same in record {
      run = (fits_good s (verb_text Phase) [] Phase (past_in_phase s.place at) refl both.0, rest.run);
      meant = λ flips done phase. rest.meant flips (done ++ phase ∷ []) (empty_phase s.ports)
          ∙ ap
          (λ (ps : List PlainPhase).
          let r : PlainSession = record { version = s.version; ports = s.ports; flips = flips; phases = ps } in r)
          (append_assoc done (phase ∷ []) (phase_meaning s.ports blocks ∷ map (phase_meaning s.ports) phases))
          ∙ meant_at s flips done [] (blocks ∷ phases) _ _ (sym (own_nothing s.place s.port phase));
    }

end_fits : (s : PlainStand) → in_phase s.place ≡ true → Fits s End []
end_fits s at =
    record { at = or_right (is_before s.place) (in_phase s.place) at; good = refl; once = refl; within = refl }

end_taken : (s : PlainStand) → in_phase s.place ≡ true → Taken s (end_item ∷ []) [] [] []
end_taken s at = record {
  run = (fits_good s (verb_text End) [] End (past_in_phase s.place at) refl (end_fits s at), refl);
  meant = λ flips done phase. meant_at s flips done [] [] _ _ (sym (own_nothing s.place s.port phase));
}

-- the head and tail of an equation of lists
head_is : {X : Type 0} (x y : X) (xs ys : List X) → x ∷ xs ≡ y ∷ ys → x ≡ y
head_is x y xs ys e = cc

tail_is : {X : Type 0} (x y : X) (xs ys : List X) → x ∷ xs ≡ y ∷ ys → xs ≡ ys
tail_is x y xs ys e = cc

no_rest : (own : List WrittenItem) (blocks : List WrittenBlock) (phases : List (List WrittenBlock))
    → [] ≡ rest_items own blocks phases
    → ⊥
no_rest (item ∷ own) blocks phases e = cc
no_rest [] (block ∷ blocks) phases e = cc
no_rest [] [] (blocks ∷ phases) e = cc
no_rest [] [] [] e = cc

takes_next : (item : WrittenItem) (items : List WrittenItem) → Takes items → Takes (item ∷ items)
takes_next item items takes s (first ∷ own) blocks phases at r same =
    let here = head_is item first items (rest_items own blocks phases) same in
    let there = tail_is item first items (rest_items own blocks phases) same in
    subst (λ (i : WrittenItem). Taken s (i ∷ items) (first ∷ own) blocks phases) (sym here)
    (own_taken first.verb first.arguments items takes s own blocks phases at r there
    (inside_only (opening_at s.place) first.verb r.own_good.0.inside))
takes_next item items takes s [] (block ∷ blocks) phases at r same =
    let parted = same ∙ block_items_more block.opening block.items blocks phases in
    let here = head_is item block.opening items (rest_items block.items blocks phases) parted in
    let there = tail_is item block.opening items (rest_items block.items blocks phases) parted in
    subst (λ (i : WrittenItem). Taken s (i ∷ items) [] (block ∷ blocks) phases) (sym here)
    (block_taken block.opening.verb block.opening.arguments items takes s block.items
    blocks phases at r there r.blocks_good.0.opens_one)
takes_next item items takes s [] [] (blocks ∷ phases) at r same =
    let parted = same ∙ phase_items_more blocks phases in
    let here = head_is item phase_item items (rest_items [] blocks phases) parted in
    let there = tail_is item phase_item items (rest_items [] blocks phases) parted in
    subst (λ (i : WrittenItem). Taken s (i ∷ items) [] [] (blocks ∷ phases)) (sym here)
    (phase_taken items takes s blocks phases at r there)
takes_next item items takes s [] [] [] at r same =
    subst (λ (is : List WrittenItem). Taken s is [] [] []) (sym same) (end_taken s at)

pub takes_all : (items : List WrittenItem) → Takes items
takes_all [] s own blocks phases at r same = absurd (no_rest own blocks phases same)
takes_all (item ∷ items) s own blocks phases at r same =
    takes_next item items (λ next more others later there rest is. takes_all items next more others later there rest is)
    s own blocks phases at r same
