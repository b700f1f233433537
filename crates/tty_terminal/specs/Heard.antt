-- The characters that a discipline has heard since it was installed.
use Rattle.std.specs.Prelude.{◌≡◌, ℕ, List, [], ◌∷◌, ◌++◌, Bool, true, false, Option}
use Rattle.tty_base.specs.declared.characters.Flagged.{Flagged}
use Rattle.ldisc_switch.specs.declared.kinds.Kind.{Kind}
use Rattle.ldisc_switch.specs.declared.discipline.Disc.{Disc}
use Rattle.ldisc_switch.specs.Happenings.{Happening, character, read, write, flush}
use Rattle.ldisc_switch.specs.Happenings.{mode_change, ixoff_rule, packet_take, HasHappened}
use Rattle.tty_calls.specs.Plain.{PlainCall, PlainEvent, answered, parted, waited, flushed, ticked}
use Rattle.tty_calls.specs.Plain.{line_ended, clock_ended, caller_ended, phase_ended, hung_up, PlainEntry}
use Rattle.tty_terminal.specs.Terminals.{Terminal}
use Rattle.tty_terminal.specs.Steps.{after}
use Rattle.tty_terminal.specs.Begins.{begins_generation}

-- the characters among what has happened
abbrev pub character_of : Happening → List Flagged
character_of (character found c) = c ∷ []
character_of (read modes n) = []
character_of (write modes output bytes) = []
character_of flush = []
character_of (mode_change old new) = []
character_of ixoff_rule = []
character_of packet_take = []

abbrev pub characters_of : List Happening → List Flagged
characters_of [] = []
characters_of (event ∷ events) = character_of event ++ characters_of events

-- the discipline has heard these characters, in this order, and no others
pub record HasHeard (d : Disc) (chars : List Flagged) : Type 0 where
  pub kind : Kind
  pub events : List Happening
  pub happened : HasHappened d kind events
  pub heard : characters_of events ≡ chars

-- the characters of a flush
abbrev pub flushed_by : PlainEvent → List Flagged
flushed_by (answered a dropped) = []
flushed_by (parted n) = []
flushed_by waited = []
flushed_by (flushed chars) = chars
flushed_by ticked = []
flushed_by (line_ended n) = []
flushed_by clock_ended = []
flushed_by caller_ended = []
flushed_by phase_ended = []
flushed_by (hung_up dropped) = []

-- a discipline that was just installed has heard none
abbrev pub heard_after : Bool → PlainEvent → List Flagged → List Flagged
heard_after true event heard = []
heard_after false event heard = heard ++ flushed_by event

-- the characters of the flushes since the latest change, last close or hangup
abbrev pub heard_in : (ℕ → ℕ → Option PlainCall) → Terminal → List PlainEntry → List Flagged → List Flagged
heard_in calls t [] heard = heard
heard_in calls t (e ∷ es) heard =
    heard_in calls (after calls t e) es (heard_after (begins_generation calls t e.who e.step e.event) e.event heard)
