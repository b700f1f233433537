-- A journal, as contracts see it, and as its entries are kept: what they tell stands in a list for each kind of it.
use Rattle.std.specs.Prelude.{◌≡◌, ℕ, ◌<◌, List, [], Option, None, Some, length, min, slice_get}
use Rattle.tty_base.specs.declared.counters.Counts.{Counts}
use Rattle.tty_modes.specs.Settings.{Settings}
use Rattle.tty_calls.specs.declared.kept_entries.KeptPurge.{KeptPurge}
use Rattle.tty_calls.specs.declared.kept_entries.KeptEvent.{KeptEvent}
use Rattle.tty_calls.specs.declared.kept_entries.KeptEvent.TheVariants as events
use Rattle.tty_calls.specs.declared.kept_entries.KeptEntry.{KeptEntry}
use Rattle.tty_calls.specs.declared.kept_entries.Lists.{Lists}
use Rattle.tty_calls.specs.Parts.{Extends, IsListPart, part_of}
use Rattle.tty_calls.specs.Plain.{PlainAnswer, done, count_is, got, number_is, modes_are, counts_are}
use Rattle.tty_calls.specs.Plain.{refused, idle, PlainEvent, answered, parted, waited, flushed, ticked}
use Rattle.tty_calls.specs.Plain.{line_ended, clock_ended, caller_ended, phase_ended, hung_up, PlainEntry}

-- the entries, in order; how many more can be added without asking for memory, and how many bytes and characters they
-- may give
pub record JournalValue : Type 0 where
  pub items : List PlainEntry
  pub spare : ℕ
  pub spare_bytes : ℕ
  pub spare_characters : ℕ

-- these modes and counts, this number and this purge, where they are there
abbrev pub modes_at : Option Settings → PlainAnswer
modes_at None = done
modes_at (Some modes) = modes_are modes

abbrev pub counts_at : Option Counts → PlainAnswer
counts_at None = done
counts_at (Some counts) = counts_are counts

abbrev pub sent_at : Option ℕ → PlainEvent
sent_at None = waited
sent_at (Some sent) = line_ended sent

-- the answer that a kept event is, where it is one with which nothing was dropped
abbrev pub answer_in : Lists → KeptEvent → PlainAnswer
answer_in b (events.Count taken) = count_is taken
answer_in b (events.Got part) = got (part_of b.bytes.items part)
answer_in b (events.Number n) = number_is n
answer_in b (events.ModesAre place) = modes_at (slice_get b.modes.items place)
answer_in b (events.CountsAre place) = counts_at (slice_get b.counts.items place)
answer_in b (events.Refused errno) = refused errno
answer_in b events.Idle = idle
answer_in b other = done

abbrev pub purge_at : Lists → Option KeptPurge → PlainEvent
purge_at b None = waited
purge_at b (Some purge) = answered (answer_in b purge.answer) (part_of b.characters.items purge.dropped)

-- the event that a kept one is
abbrev pub event_in : Lists → KeptEvent → PlainEvent
event_in b (events.Purge place) = purge_at b (slice_get b.purges.items place)
event_in b (events.Part taken) = parted taken
event_in b events.Wait = waited
event_in b (events.Flush part) = flushed (part_of b.characters.items part)
event_in b events.Tick = ticked
event_in b (events.LineEnd place) = sent_at (slice_get b.sents.items place)
event_in b events.ClockEnd = clock_ended
event_in b events.CallerEnd = caller_ended
event_in b events.PhaseEnd = phase_ended
event_in b (events.Hangup part) = hung_up (part_of b.characters.items part)
event_in b other = answered (answer_in b other) []

abbrev pub entry_in : Lists → KeptEntry → PlainEntry
entry_in b e =
    record { who = e.who; step = e.step; part = e.part; generation = e.generation; event = event_in b e.event }

-- so many more modes, counts, purges and numbers can be added without asking for memory
abbrev pub rare_spare : Lists → ℕ
rare_spare b = min (min b.modes.spare b.counts.spare) (min b.purges.spare b.sents.spare)

-- lists to which more was added
pub record Grows (old new : Lists) : Type 0 where
  pub bytes : Extends old.bytes.items new.bytes.items
  pub characters : Extends old.characters.items new.characters.items
  pub modes : Extends old.modes.items new.modes.items
  pub counts : Extends old.counts.items new.counts.items
  pub purges : Extends old.purges.items new.purges.items
  pub sents : Extends old.sents.items new.sents.items

-- lists that differ in their room alone
pub record IsSame (old new : Lists) : Type 0 where
  pub bytes : new.bytes.items ≡ old.bytes.items
  pub characters : new.characters.items ≡ old.characters.items
  pub modes : new.modes.items ≡ old.modes.items
  pub counts : new.counts.items ≡ old.counts.items
  pub purges : new.purges.items ≡ old.purges.items
  pub sents : new.sents.items ≡ old.sents.items

-- whether what a kept answer, purge or event names is there
abbrev pub HasAnswer : Lists → KeptEvent → Type 0
HasAnswer b (events.Got part) = IsListPart (length b.bytes.items) part
HasAnswer b (events.ModesAre place) = place < length b.modes.items
HasAnswer b (events.CountsAre place) = place < length b.counts.items
HasAnswer b other = Unit {0}

abbrev pub HasPurge : Lists → Option KeptPurge → Type 0
HasPurge b None = ⊥
HasPurge b (Some purge) = HasAnswer b purge.answer × IsListPart (length b.characters.items) purge.dropped

abbrev pub HasEvent : Lists → KeptEvent → Type 0
HasEvent b (events.Purge place) = HasPurge b (slice_get b.purges.items place)
HasEvent b (events.Flush part) = IsListPart (length b.characters.items) part
HasEvent b (events.LineEnd place) = place < length b.sents.items
HasEvent b (events.Hangup part) = IsListPart (length b.characters.items) part
HasEvent b other = HasAnswer b other

abbrev pub HasEntry : Lists → KeptEntry → Type 0
HasEntry b e = HasEvent b e.event
