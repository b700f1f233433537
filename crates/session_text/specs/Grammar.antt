-- The sessions that texts spell: what is written, what it means, what is allowed.
use Rattle.std.specs.Prelude.{◌≡◌, ℕ, ◌<◌, ◌≤◌, ◌==◌, Bool, true, false, IsTrue, List, [], ◌∷◌, ◌++◌, length}
use Rattle.std.specs.Prelude.{map, filter, fold, flat_map, sum_by, replicate, slice_set, if◌then◌else◌}
use Rattle.std.specs.List.{list_any, AllByRecursion}
use Rattle.tty_base.specs.Sizes.{DEFAULT_FLIP, MOST_ARRIVALS, MOST_CALLERS, MOST_PHASES, MOST_STEPS, MOST_TICKS}
use Rattle.tty_base.specs.declared.lines.LineStep.{LineStep}
use Rattle.tty_calls.specs.Plain.{PlainCall}
use Rattle.tty_calls.specs.Sessions.{PlainPhase, PlainSession}
use Rattle.text_lines.specs.Lines.{says}
use Rattle.text_lines.specs.Values.{word_at, number_at}
use Rattle.session_text.specs.declared.verbs.Verb.{Verb}
use Rattle.session_text.specs.declared.verbs.Verb.TheVariants.{Session, Ports, Flip, Phase, Line}
use Rattle.session_text.specs.declared.verbs.Verb.TheVariants.{Clock, Caller, Tick, End, Step, Call}
use Rattle.session_text.specs.Verbs.{verb_text}
use Rattle.session_text.specs.Meaning.{steps_in, call_in, empty_phase, with_steps, with_ticks, with_script}
use Rattle.session_text.specs.Stands.{PlainKey, key_in, holds, same_key, callers_on, arrivals, has_many, is_good}
use Rattle.session_text.specs.Refusals.{lines_in}

-- ---- what is written

-- An item: a verb, and words.
pub record WrittenItem : Type 0 where
  pub verb : Verb
  pub arguments : List (List ℕ)

-- A block of a phase: the item that opens it, and the items in it.
pub record WrittenBlock : Type 0 where
  pub opening : WrittenItem
  pub items : List WrittenItem

-- A session: the words after `tty-session` and `ports`, those of each `flip`, and the blocks of each phase.
pub record Written : Type 0 where
  pub version : List ℕ
  pub ports : List ℕ
  pub flips : List (List (List ℕ))
  pub phases : List (List WrittenBlock)

abbrev pub item_words : WrittenItem → List (List ℕ)
item_words item = verb_text item.verb ∷ item.arguments

abbrev pub flip_item : List (List ℕ) → WrittenItem
flip_item arguments = record { verb = Flip; arguments = arguments }

abbrev pub block_items : WrittenBlock → List WrittenItem
block_items block = block.opening ∷ block.items

abbrev pub phase_item : WrittenItem
phase_item = record { verb = Phase; arguments = [] }

abbrev pub phase_items : List WrittenBlock → List WrittenItem
phase_items blocks = phase_item ∷ flat_map block_items blocks

abbrev pub end_item : WrittenItem
end_item = record { verb = End; arguments = [] }

abbrev pub session_items : Written → List WrittenItem
session_items w =
    record { verb = Session; arguments = w.version ∷ [] }
    ∷ record { verb = Ports; arguments = w.ports ∷ [] }
    ∷ (map flip_item w.flips ++ (flat_map phase_items w.phases ++ end_item ∷ []))

-- ---- what it means

abbrev pub steps_of : Verb → List (List ℕ) → List LineStep
steps_of (Step verb) arguments = steps_in verb arguments
steps_of other arguments = []

abbrev pub ticks_of : Verb → List (List ℕ) → ℕ
ticks_of Tick arguments = number_at arguments 0
ticks_of other arguments = 0

abbrev pub calls_of : Verb → List (List ℕ) → List PlainCall
calls_of (Call verb) arguments = call_in verb arguments ∷ []
calls_of other arguments = []

abbrev pub steps_by : WrittenItem → List LineStep
steps_by item = steps_of item.verb item.arguments

abbrev pub ticks_by : WrittenItem → ℕ
ticks_by item = ticks_of item.verb item.arguments

abbrev pub calls_by : WrittenItem → List PlainCall
calls_by item = calls_of item.verb item.arguments

-- the phase with what a block adds, which begins with this verb and these words
abbrev pub with_block_of : Verb → List (List ℕ) → List WrittenItem → PlainPhase → PlainPhase
with_block_of Line arguments items phase = with_steps (number_at arguments 0) (flat_map steps_by items) phase
with_block_of Clock arguments items phase = with_ticks (number_at arguments 0) (sum_by ticks_by items) phase
with_block_of Caller arguments items phase =
    with_script (record { port = number_at arguments 1; name = word_at arguments 0; calls = flat_map calls_by items })
    phase
with_block_of other arguments items phase = phase

abbrev pub with_block : PlainPhase → WrittenBlock → PlainPhase
with_block phase block = with_block_of block.opening.verb block.opening.arguments block.items phase

abbrev pub phase_meaning : ℕ → List WrittenBlock → PlainPhase
phase_meaning ports blocks = fold with_block (empty_phase ports) blocks

abbrev pub with_flip : List ℕ → List (List ℕ) → List ℕ
with_flip flips arguments = slice_set flips (number_at arguments 0) (number_at arguments 1)

abbrev pub version_of : Written → ℕ
version_of w = number_at (w.version ∷ []) 0

abbrev pub ports_of : Written → ℕ
ports_of w = number_at (w.ports ∷ []) 0

abbrev pub session_meaning : Written → PlainSession
session_meaning w = record {
  version = version_of w;
  ports = ports_of w;
  flips = fold with_flip (replicate (ports_of w) DEFAULT_FLIP) w.flips;
  phases = map (phase_meaning (ports_of w)) w.phases;
}

-- ---- what is allowed

-- whether an item with this verb is one of a block that begins with that verb
abbrev pub is_inside : Verb → Verb → Bool
is_inside Line (Step verb) = true
is_inside Clock Tick = true
is_inside Caller (Call verb) = true
is_inside opening verb = false

abbrev pub opens_block : Verb → Bool
opens_block Line = true
opens_block Clock = true
opens_block Caller = true
opens_block verb = false

-- whether a `modes` item has too many mode words
abbrev pub has_many_modes : Verb → List (List ℕ) → Bool
has_many_modes (Call verb) arguments = has_many verb (length arguments)
has_many_modes verb arguments = false

pub record IsGoodItem (ports : ℕ) (opening : Verb) (item : WrittenItem) : Type 0 where
  pub inside : IsTrue (is_inside opening item.verb)
  pub good : IsTrue (is_good ports item.verb item.arguments)
  pub few_modes : has_many_modes item.verb item.arguments ≡ false

pub record IsGoodBlock (ports : ℕ) (block : WrittenBlock) : Type 0 where
  pub opens_one : IsTrue (opens_block block.opening.verb)
  pub good : IsTrue (is_good ports block.opening.verb block.opening.arguments)
  pub each : AllByRecursion (IsGoodItem ports block.opening.verb) block.items

-- the port of a block
abbrev pub port_in : Verb → List (List ℕ) → ℕ
port_in Caller arguments = number_at arguments 1
port_in verb arguments = number_at arguments 0

abbrev pub port_of : WrittenBlock → ℕ
port_of block = port_in block.opening.verb block.opening.arguments

-- the port of a line block, of a clock block; the key of a caller's block
abbrev pub line_port : Verb → List (List ℕ) → List ℕ
line_port Line arguments = number_at arguments 0 ∷ []
line_port verb arguments = []

abbrev pub clock_port : Verb → List (List ℕ) → List ℕ
clock_port Clock arguments = number_at arguments 0 ∷ []
clock_port verb arguments = []

abbrev pub caller_key : Verb → List (List ℕ) → List PlainKey
caller_key Caller arguments = key_in arguments ∷ []
caller_key verb arguments = []

abbrev pub line_ports : List WrittenBlock → List ℕ
line_ports blocks = flat_map (λ block. line_port block.opening.verb block.opening.arguments) blocks

abbrev pub clock_ports : List WrittenBlock → List ℕ
clock_ports blocks = flat_map (λ block. clock_port block.opening.verb block.opening.arguments) blocks

abbrev pub caller_keys : List WrittenBlock → List PlainKey
caller_keys blocks = flat_map (λ block. caller_key block.opening.verb block.opening.arguments) blocks

-- each port is none of those before it
abbrev pub Once : List ℕ → List ℕ → Type 0
Once before [] = Unit {0}
Once before (port ∷ ports) = (holds before port ≡ false) × Once (before ++ port ∷ []) ports

-- each caller is none of those before it, of which fewer than a limit are on its port
abbrev pub CallersFit : List PlainKey → List PlainKey → Type 0
CallersFit before [] = Unit {0}
CallersFit before (key ∷ keys) =
    (list_any (same_key key.name key.port) before ≡ false)
    × (callers_on key.port before < MOST_CALLERS)
    × CallersFit (before ++ key ∷ []) keys

pub record IsGoodPhase (ports : ℕ) (blocks : List WrittenBlock) : Type 0 where
  pub each : AllByRecursion (IsGoodBlock ports) blocks
  pub lines_once : Once [] (line_ports blocks)
  pub clocks_once : Once [] (clock_ports blocks)
  pub callers_fit : CallersFit [] (caller_keys blocks)

-- how many steps a phase has: the items in its blocks
abbrev pub steps_count : List WrittenBlock → ℕ
steps_count blocks = sum_by (λ block. length block.items) blocks

abbrev pub arrivals_of : Verb → List (List ℕ) → ℕ
arrivals_of (Step verb) arguments = arrivals verb arguments
arrivals_of other arguments = 0

abbrev pub arrivals_by : WrittenItem → ℕ
arrivals_by item = arrivals_of item.verb item.arguments

-- how many characters arrive on a port in a phase, and how many ticks its clock has
abbrev pub block_characters : ℕ → WrittenBlock → ℕ
block_characters port block = if port_of block == port then sum_by arrivals_by block.items else 0

abbrev pub characters_count : ℕ → List WrittenBlock → ℕ
characters_count port blocks = sum_by (block_characters port) blocks

abbrev pub block_ticks : ℕ → WrittenBlock → ℕ
block_ticks port block = if port_of block == port then sum_by ticks_by block.items else 0

abbrev pub ticks_count : ℕ → List WrittenBlock → ℕ
ticks_count port blocks = sum_by (block_ticks port) blocks

pub record IsGoodFlip (version ports : ℕ) (arguments : List (List ℕ)) : Type 0 where
  pub second : version ≡ 2
  pub good : IsTrue (is_good ports Flip arguments)

pub record IsWellWritten (w : Written) : Type 0 where
  pub header : IsTrue (is_good 0 Session (w.version ∷ []))
  pub ports : IsTrue (is_good 0 Ports (w.ports ∷ []))
  pub flips : AllByRecursion (IsGoodFlip (version_of w) (ports_of w)) w.flips
  pub flips_once : Once [] (map (λ arguments. number_at arguments 0) w.flips)
  pub phases : AllByRecursion (IsGoodPhase (ports_of w)) w.phases
  pub few_phases : length w.phases ≤ MOST_PHASES
  pub few_steps : sum_by steps_count w.phases ≤ MOST_STEPS
  pub few_characters : (port : ℕ) → sum_by (characters_count port) w.phases ≤ MOST_ARRIVALS
  pub few_ticks : (port : ℕ) → sum_by (ticks_count port) w.phases ≤ MOST_TICKS

-- The text spells the session: the lines that say something are the items of a good written session that means it.
pub record Spells (text : List ℕ) (session : PlainSession) : Type 0 where
  pub written : Written
  pub words : filter says (lines_in text) ≡ map item_words (session_items written)
  pub good : IsWellWritten written
  pub means : session ≡ session_meaning written
