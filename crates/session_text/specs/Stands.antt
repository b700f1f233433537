-- Where the reader stands, and what it says of a line there.
use Rattle.std.specs.Prelude.{ℕ, ◌+◌, ◌-◌, ◌/◌, ◌==◌, ◌&&◌, ◌||◌, nat_le, nat_lt, Bool, true, false, List}
use Rattle.std.specs.Prelude.{[], ◌∷◌, ◌++◌, length, replicate, count_by, slice_index, slice_set}
use Rattle.std.specs.Prelude.{Option, None, Some, is_none, Result, Ok, Err, codes, if◌then◌else◌}
use Rattle.std.specs.Str.{bytes_eq}
use Rattle.std.specs.List.{list_any}
use Rattle.std.specs.Option.{option_or}
use Rattle.tty_base.specs.Sizes.{MOST_ARRIVALS, MOST_CALLERS, MOST_MODE_WORDS, MOST_PHASES, MOST_PORTS, MOST_STEPS}
use Rattle.tty_base.specs.Sizes.{MOST_TICKS}
use Rattle.text_lines.specs.Values.{word_at, number_at}
use Rattle.session_text.specs.declared.faults.Reason.{Reason}
use Rattle.session_text.specs.declared.faults.Reason.TheVariants as reason
use Rattle.session_text.specs.declared.verbs.Verb.{Verb}
use Rattle.session_text.specs.declared.verbs.Verb.TheVariants.{Session, Ports, Flip, Phase, Line}
use Rattle.session_text.specs.declared.verbs.Verb.TheVariants.{Clock, Caller, Tick, End, Step, Call}
use Rattle.session_text.specs.declared.verbs.LineVerb.{LineVerb}
use Rattle.session_text.specs.declared.verbs.LineVerb.TheVariants.{Rx, Rxp, Rxf, Break}
use Rattle.session_text.specs.declared.verbs.CallVerb.{CallVerb}
use Rattle.session_text.specs.declared.verbs.CallVerb.TheVariants.{SetModes}
use Rattle.session_text.specs.declared.stands.ItemPlace.{ItemPlace}
use Rattle.session_text.specs.declared.stands.ItemPlace.TheVariants as place
use Rattle.session_text.specs.Verbs.{verb_of}
use Rattle.session_text.specs.Kinds.{may_have, fault_from}

-- a caller of a phase: its name and its port
pub record PlainKey : Type 0 where
  pub name : List ℕ
  pub port : ℕ

-- The place; the version and the number of ports; which ports had their `flip`, and in the open phase
-- their line block and their clock block; the open phase's callers; the port of the open block; and how
-- many phases, steps, and for each port characters and ticks, may still come.
pub record PlainStand : Type 0 where
  pub place : ItemPlace
  pub version : ℕ
  pub ports : ℕ
  pub flips : List ℕ
  pub lines : List ℕ
  pub clocks : List ℕ
  pub callers : List PlainKey
  pub port : ℕ
  pub phases_left : ℕ
  pub steps_left : ℕ
  pub characters_left : List ℕ
  pub ticks_left : List ℕ

abbrev pub first_stand : PlainStand
first_stand = record {
  place = place.Start;
  version = 0;
  ports = 0;
  flips = [];
  lines = [];
  clocks = [];
  callers = [];
  port = 0;
  phases_left = MOST_PHASES;
  steps_left = MOST_STEPS;
  characters_left = replicate MOST_PORTS MOST_ARRIVALS;
  ticks_left = replicate MOST_PORTS MOST_TICKS;
}

-- ---- the place

abbrev pub is_start : ItemPlace → Bool
is_start place.Start = true
is_start other = false

abbrev pub is_head : ItemPlace → Bool
is_head place.Head = true
is_head other = false

abbrev pub is_before : ItemPlace → Bool
is_before place.Before = true
is_before other = false

abbrev pub is_line : ItemPlace → Bool
is_line place.Line = true
is_line other = false

abbrev pub is_clock : ItemPlace → Bool
is_clock place.Clock = true
is_clock other = false

abbrev pub is_caller : ItemPlace → Bool
is_caller place.Caller = true
is_caller other = false

abbrev pub is_ended : ItemPlace → Bool
is_ended place.Ended = true
is_ended other = false

-- in a phase, in a block or before the first
abbrev pub in_phase : ItemPlace → Bool
in_phase place.Phase = true
in_phase place.Line = true
in_phase place.Clock = true
in_phase place.Caller = true
in_phase other = false

abbrev pub may_stand : Verb → ItemPlace → Bool
may_stand Session at = false
may_stand Ports at = is_head at
may_stand Flip at = is_before at
may_stand Phase at = is_before at || in_phase at
may_stand Line at = in_phase at
may_stand Clock at = in_phase at
may_stand Caller at = in_phase at
may_stand Tick at = is_clock at
may_stand End at = is_before at || in_phase at
may_stand (Step verb) at = is_line at
may_stand (Call verb) at = is_caller at

-- ---- once

abbrev pub holds : List ℕ → ℕ → Bool
holds ports port = list_any (λ p. p == port) ports

abbrev pub same_key : List ℕ → ℕ → PlainKey → Bool
same_key name port key = key.port == port && bytes_eq key.name name

abbrev pub has_stood : PlainStand → Verb → List (List ℕ) → Bool
has_stood s Flip arguments = holds s.flips (number_at arguments 0)
has_stood s Line arguments = holds s.lines (number_at arguments 0)
has_stood s Clock arguments = holds s.clocks (number_at arguments 0)
has_stood s Caller arguments = list_any (same_key (word_at arguments 0) (number_at arguments 1)) s.callers
has_stood s verb arguments = false

-- ---- totals

abbrev pub callers_on : ℕ → List PlainKey → ℕ
callers_on port keys = count_by (λ key. key.port == port) keys

-- how many characters a line's item lets arrive
abbrev pub arrivals : LineVerb → List (List ℕ) → ℕ
arrivals Rx arguments = length (word_at arguments 0) / 2
arrivals Rxp arguments = length (word_at arguments 0) / 2
arrivals Rxf arguments = length (word_at arguments 0) / 2
arrivals Break arguments = 1
arrivals verb arguments = 0

-- whether these are the arguments of too many mode words, behind a handle and a time
abbrev pub has_many : CallVerb → ℕ → Bool
has_many SetModes count = nat_lt (MOST_MODE_WORDS + 2) count
has_many verb count = false

abbrev pub is_over : PlainStand → Verb → List (List ℕ) → Bool
is_over s Phase arguments = s.phases_left == 0
is_over s Caller arguments = nat_le MOST_CALLERS (callers_on (number_at arguments 1) s.callers)
is_over s (Step verb) arguments =
    s.steps_left == 0 || nat_lt (slice_index s.characters_left s.port) (arrivals verb arguments)
is_over s Tick arguments = s.steps_left == 0 || nat_lt (slice_index s.ticks_left s.port) (number_at arguments 0)
is_over s (Call verb) arguments = s.steps_left == 0 || has_many verb (length arguments)
is_over s verb arguments = false

-- ---- the tests of a line, in their order

-- whether the arguments are as many as they may be, each of its kind
abbrev pub is_good : ℕ → Verb → List (List ℕ) → Bool
is_good ports verb arguments = may_have verb (length arguments) && is_none (fault_from ports verb 0 arguments)

abbrev pub late_fault : PlainStand → Verb → List (List ℕ) → Option Reason
late_fault s verb arguments =
    if has_stood s verb arguments
    then Some reason.Order
    else if is_over s verb arguments then Some reason.Limit else None

abbrev pub item_fault : PlainStand → Verb → List (List ℕ) → Option Reason
item_fault s verb arguments =
    if may_stand verb s.place then (
    if may_have verb (length arguments) then option_or (fault_from s.ports verb 0 arguments)
    (late_fault s verb arguments)
    else Some reason.Word)
    else Some reason.Order

abbrev pub unless : Option Reason → Verb → Result Verb Reason
unless None verb = Ok verb
unless (Some reason) verb = Err reason

abbrev pub verb_verdict : PlainStand → Option Verb → List (List ℕ) → Result Verb Reason
verb_verdict s None arguments = Err reason.Word
verb_verdict s (Some verb) arguments = unless (item_fault s verb arguments) verb

-- the first item
abbrev pub first_verdict : PlainStand → List ℕ → List (List ℕ) → Result Verb Reason
first_verdict s word arguments =
    if bytes_eq word (codes "tty-session") && is_good s.ports Session arguments then Ok Session else Err reason.Header

abbrev pub verdict_at : PlainStand → ItemPlace → List ℕ → List (List ℕ) → Result Verb Reason
verdict_at s place.Start word arguments = first_verdict s word arguments
verdict_at s other word arguments = verb_verdict s (verb_of s.version word) arguments

-- the verb of a line, or why the line is wrong
abbrev pub verdict_on : PlainStand → List ℕ → List (List ℕ) → Result Verb Reason
verdict_on s word arguments = verdict_at s s.place word arguments

-- ---- the stand after an item

-- so many less for one port
abbrev pub left_after : List ℕ → ℕ → ℕ → List ℕ
left_after left port count = slice_set left port (slice_index left port - count)

abbrev pub key_in : List (List ℕ) → PlainKey
key_in arguments = record { name = word_at arguments 0; port = number_at arguments 1 }

abbrev pub stand_after : PlainStand → Verb → List (List ℕ) → PlainStand
stand_after s Session arguments = record s { place = place.Head; version = number_at arguments 0 }
stand_after s Ports arguments = record s { place = place.Before; ports = number_at arguments 0 }
stand_after s Flip arguments = record s { flips = s.flips ++ number_at arguments 0 ∷ [] }
stand_after s Phase arguments =
    record s { place = place.Phase; lines = []; clocks = []; callers = []; phases_left = s.phases_left - 1 }
stand_after s Line arguments =
    record s { place = place.Line; lines = s.lines ++ number_at arguments 0 ∷ []; port = number_at arguments 0 }
stand_after s Clock arguments =
    record s { place = place.Clock; clocks = s.clocks ++ number_at arguments 0 ∷ []; port = number_at arguments 0 }
stand_after s Caller arguments =
    record s { place = place.Caller; callers = s.callers ++ key_in arguments ∷ []; port = number_at arguments 1 }
stand_after s (Step verb) arguments = record s {
  steps_left = s.steps_left - 1;
  characters_left = left_after s.characters_left s.port (arrivals verb arguments);
}
stand_after s Tick arguments =
    record s { steps_left = s.steps_left - 1; ticks_left = left_after s.ticks_left s.port (number_at arguments 0) }
stand_after s (Call verb) arguments = record s { steps_left = s.steps_left - 1 }
stand_after s End arguments = record s { place = place.Ended }
