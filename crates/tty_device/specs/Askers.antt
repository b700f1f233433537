-- A caller between two calls: whether its call waits, and which call that is.
use Rattle.std.specs.Prelude.{ℕ, Bool, true, false, ◌&&◌, ◌==◌, Option, None, Some, is_some, if◌then◌else◌}
use Rattle.tty_calls.specs.Plain.{PlainCall, reads, writes, sets_modes, drains, handle_of}
use Rattle.tty_terminal.specs.declared.callers.Bound.{Bound}
use Rattle.tty_terminal.specs.declared.callers.CallerState.{CallerState}
use Rattle.tty_terminal.specs.Terminals.{idle_caller}
use Rattle.tty_device.specs.declared.askers.Verb.{Verb}
use Rattle.tty_device.specs.declared.askers.Verb.TheVariants as verb
use Rattle.tty_device.specs.declared.askers.Asker.{Asker}

-- what a call is, as far as calls that can wait differ
abbrev pub verb_of : PlainCall → Verb
verb_of (reads h n) = verb.Reads
verb_of (writes h bytes) = verb.Writes
verb_of (sets_modes h w words) = verb.SetsModes
verb_of (drains h) = verb.Drains
verb_of call = verb.Never

abbrev pub same_verb : Verb → Verb → Bool
same_verb verb.Never verb.Never = true
same_verb verb.Reads verb.Reads = true
same_verb verb.Writes verb.Writes = true
same_verb verb.SetsModes verb.SetsModes = true
same_verb verb.Drains verb.Drains = true
same_verb x y = false

-- the state by which a call of a caller goes: since when it waits, and the handle that it began with; of no part is
-- kept count
abbrev pub state_of : Asker → CallerState
state_of asker = record idle_caller { waits = asker.waits; bound = asker.bound }

-- a caller that begins a call
abbrev pub beginner : Asker
beginner = record { waits = None; bound = None }

abbrev pub is_bound_to : ℕ → Option Bound → Bool
is_bound_to h None = false
is_bound_to h (Some b) = b.h == h

-- a caller's call waits, and is of the same kind, on a handle of the same number
abbrev pub waits_with : CallerState → Verb → PlainCall → Bool
waits_with s v call = is_some s.waits && (same_verb v (verb_of call) && is_bound_to (handle_of call) s.bound)

-- a call goes on with the one that waits where it is the same; and else that one is given up
abbrev pub asker_for : CallerState → Verb → PlainCall → Asker
asker_for s v call = if waits_with s v call then record { waits = s.waits; bound = s.bound } else beginner
