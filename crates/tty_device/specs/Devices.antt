-- A port that runs for ever.
use Rattle.std.specs.Prelude.{◌≡◌, ℕ, ◌+◌, ◌-◌, ◌<◌, ◌≤◌, ◌==◌, min, max, nat_lt, Bool, true, false}
use Rattle.std.specs.Prelude.{not, ◌&&◌, ◌||◌, List, [], ◌++◌, length, map, drop, replicate, Option}
use Rattle.std.specs.Prelude.{None, Some, is_some, if◌then◌else◌, slice_get, slice_index_or, slice_set}
use Rattle.tty_base.specs.Sizes.{MOST_HANDLES}
use Rattle.atomic_table.specs.Seated.{TableId}
use Rattle.tty_base.specs.declared.characters.Flag.{Flag}
use Rattle.tty_base.specs.declared.characters.Flagged.{Flagged}
use Rattle.tty_base.specs.declared.counters.Errno.TheVariants.{EBADF, EINVAL}
use Rattle.tty_base.specs.declared.counters.Signal.{Signal}
use Rattle.tty_calls.specs.Plain.{PlainCall, handle_of}
use Rattle.tty_terminal.specs.declared.callers.CallerState.{CallerState}
use Rattle.tty_terminal.specs.Terminals.{Terminal, opening, idle_caller, caller_at, live_count}
use Rattle.tty_terminal.specs.Receiving.{accepts, after_characters, AcceptsAll, after_ixoff}
use Rattle.tty_terminal.specs.Generations.{after_hangup}
use Rattle.tty_terminal.specs.Outcomes.{Outcome, unknown, waits, takes, gives, refuses}
use Rattle.tty_terminal.specs.Calls.{outcome}
use Rattle.tty_terminal.specs.Steps.{with_caller, caller_after_wait}
use Rattle.tty_terminal.specs.Kept.{kept}
use Rattle.tty_device.specs.declared.askers.Verb.{Verb}
use Rattle.tty_device.specs.declared.askers.Verb.TheVariants as verb
use Rattle.tty_device.specs.Askers.{state_of, verb_of, asker_for}
use Rattle.tty_device.specs.Kept.{Taken, flushed, dropped}
use Rattle.tty_device.specs.Lines.{PutEnd, fresh_line, PutsAndPushes}

pub record DeviceState : Type 0 where
  -- the terminal, of which nothing that only grows is kept but the tick: generation, taken, sent and phase are 0
  pub terminal : Terminal
  -- for each caller what its latest call was that waited
  pub verbs : List Verb
  -- its flip buffer
  pub ring : TableId
  -- all that was taken from it, the oldest first
  pub taken : List Taken
  -- how many characters the latest look showed to be pushed, those that were taken among them
  pub shown : ℕ
  -- the end that puts in, where the device has it
  pub line : Option PutEnd

-- at first: where the end that puts in is an object of its own, and where the device has it
abbrev pub fresh_device : TableId → (callers capacity : ℕ) → DeviceState
fresh_device ring callers capacity =
    record {
      terminal = opening callers capacity;
      verbs = replicate callers verb.Never;
      ring = ring;
      taken = [];
      shown = 0;
      line = None;
    }

abbrev pub fresh_whole : TableId → (callers capacity : ℕ) → DeviceState
fresh_whole ring callers capacity =
    record (fresh_device ring callers capacity) { line = Some (fresh_line ring capacity) }

-- ---- calls

-- the state by which a call of a caller goes
abbrev pub state_for : DeviceState → (c : ℕ) → PlainCall → CallerState
state_for d c call = state_of (asker_for (caller_at d.terminal c) (slice_index_or d.verbs c verb.Never) call)

-- a caller that the device has
abbrev pub is_known : DeviceState → (c : ℕ) → Bool
is_known d c = nat_lt c (length d.terminal.callers)

-- what a call meets: EINVAL from a caller that the device has not, EBADF for a number that no handle has, and else
-- what it meets in the state of its caller
abbrev pub outcome_for : DeviceState → (c : ℕ) → PlainCall → Outcome
outcome_for d c call =
    if not (is_known d c) then refuses EINVAL d.terminal
    else if not (nat_lt (handle_of call) MOST_HANDLES) then refuses EBADF d.terminal
    else outcome d.terminal (state_for d c call) call

-- who waits keeps the tick since which it does
abbrev pub caller_waiting : Terminal → CallerState → (h : ℕ) → CallerState
caller_waiting t s h = if is_some s.waits then s else caller_after_wait t s h

-- an answer ends a call, and so does a part of a write; who must wait is noted
abbrev pub after_outcome : DeviceState → (c : ℕ) → PlainCall → Outcome → DeviceState
after_outcome d c call unknown = d
after_outcome d c call waits =
    record d {
      terminal = kept (with_caller d.terminal c (caller_waiting d.terminal (state_for d c call) (handle_of call)));
      verbs = slice_set d.verbs c (verb_of call);
    }
after_outcome d c call (takes n left) = record d { terminal = kept (with_caller left c idle_caller) }
after_outcome d c call (gives answer drops left) =
    record d { terminal = kept (with_caller (after_ixoff left) c idle_caller) }

-- what a call leaves, beside what is dropped; one of no caller, or on a number of no handle, changes nothing
abbrev pub after_call : DeviceState → (c : ℕ) → PlainCall → DeviceState
after_call d c call =
    if is_known d c && nat_lt (handle_of call) MOST_HANDLES
    then after_outcome d c call (outcome d.terminal (state_for d c call) call)
    else d

-- a caller's call that waits is given up
abbrev pub after_cancel : DeviceState → (c : ℕ) → DeviceState
after_cancel d c = if is_known d c then record d { terminal = with_caller d.terminal c idle_caller } else d

-- ---- what a purge and a hangup drop

-- All that one look shows is dropped. A character that is pushed after it stays for the next.
pub record DropsShown (old new : DeviceState) : Type 0 where
  pub chars : List Flagged
  pub tail : ℕ
  pub looked : old.shown ≤ tail
  pub all : length old.taken + length chars ≡ tail
  pub taken : new.taken ≡ old.taken ++ map dropped chars
  pub shown : tail ≤ new.shown

-- where an answer drops
abbrev pub DropsWhere : Bool → DeviceState → DeviceState → Type 0
DropsWhere true old new = DropsShown old new
DropsWhere false old new = (new.taken ≡ old.taken) × (new.shown ≡ old.shown)

-- a device with what was taken and shown by now
abbrev pub with_taken_of : DeviceState → DeviceState → DeviceState
with_taken_of now d = record d { taken = now.taken; shown = now.shown }

abbrev pub after_hang_up : DeviceState → DeviceState
after_hang_up d = record d { terminal = kept (after_hangup d.terminal) }

-- ---- flushes

-- no character can be flushed: no handle is live, or the discipline does not accept
abbrev pub is_stuck : DeviceState → Bool
is_stuck d = (live_count d.terminal == 0) || not (accepts d.terminal)

-- the most characters of one flush
abbrev pub MOST_FLUSHED : ℕ
MOST_FLUSHED = 256

-- The discipline receives what one look shows, from the oldest on, at most that many and at most so many, as long as it
-- accepts.
pub record FlushesShown (old new : DeviceState) (most count : ℕ) : Type 0 where
  pub chars : List Flagged
  pub tail : ℕ
  pub counted : count ≡ length chars
  pub looked : old.shown ≤ tail
  pub few : length chars ≤ min (min most MOST_FLUSHED) (tail - length old.taken)
  pub accepted : AcceptsAll old.terminal chars
  pub left : new
      ≡ record old {
        terminal = kept (after_characters old.terminal chars);
        taken = old.taken ++ map flushed chars;
        shown = tail;
      }
  pub all : length chars < min (min most MOST_FLUSHED) (tail - length old.taken) → accepts new.terminal ≡ false

-- where nothing can be flushed nothing changes
abbrev pub FlushesWhere : Bool → DeviceState → DeviceState → (most count : ℕ) → Type 0
FlushesWhere true old new most count = (count ≡ 0) × (new ≡ old)
FlushesWhere false old new most count = FlushesShown old new most count

-- ---- both ends at hand

-- The end that the device has puts bytes and pushes, and then the device flushes that many characters at most; its look
-- shows all that was put.
pub record TakesIn (old new : DeviceState) (line : PutEnd) (flag : Flag) (bytes : List ℕ) (count : ℕ) : Type 0 where
  pub put : PutEnd
  pub puts : PutsAndPushes line put flag bytes count
  pub handed : ℕ
  pub flushes : FlushesWhere (is_stuck old) (record old { line = Some put }) new MOST_FLUSHED handed
  pub seen : is_stuck old ≡ false → length put.sent ≤ new.shown

-- a device that has no such end answers so, and changes nothing
abbrev pub TakesInWhere : Option PutEnd → (old new : DeviceState) → Flag → (bytes : List ℕ) → (answer : Option ℕ)
    → Type 0
TakesInWhere None old new flag bytes answer = (answer ≡ None) × (new ≡ old)
TakesInWhere (Some line) old new flag bytes answer =
    (count : ℕ) × (answer ≡ Some count) × TakesIn old new line flag bytes count

-- ---- the clock, and what went out

-- time does not go back
abbrev pub after_advance : DeviceState → (tick : ℕ) → DeviceState
after_advance d tick = record d { terminal = record d.terminal { tick = max d.terminal.tick tick } }

-- the bytes that went to the wire, and are not taken yet
abbrev pub wire_of : DeviceState → List ℕ
wire_of d = d.terminal.output.wire

-- so many are taken into a place: as many as are there and as it holds
abbrev pub taken_count : DeviceState → (place : List ℕ) → ℕ
taken_count d place = min (length place) (length (wire_of d))

-- bytes at the front of a place
abbrev pub at_front : (place bytes : List ℕ) → List ℕ
at_front place bytes = bytes ++ drop (length bytes) place

abbrev pub without_wire_front : (n : ℕ) → DeviceState → DeviceState
without_wire_front n d =
    record d { terminal = record d.terminal { output = record d.terminal.output { wire = drop n (wire_of d) } } }

-- the signals that were raised, and are not taken yet
abbrev pub signals_of : DeviceState → List Signal
signals_of d = d.terminal.tally.signals.items

abbrev pub first_signal : DeviceState → Option Signal
first_signal d = slice_get (signals_of d) 0

abbrev pub without_first_signal : DeviceState → DeviceState
without_first_signal d =
    record d {
      terminal = record d.terminal {
        tally = record d.terminal.tally { signals = record d.terminal.tally.signals { items = drop 1 (signals_of d) } };
      };
    }
