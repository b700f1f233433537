-- What keys do to the line of a console, and to the putting end of its flip buffer.
use Rattle.std.specs.Prelude.{◌≡◌, ℕ, ◌+◌, ◌-◌, ◌<◌, ◌≤◌, List, [], ◌∷◌, ◌++◌, false, Option}
use Rattle.std.specs.Prelude.{None, Some, length, reverse, slice_get, slice_index_or, slice_set, take}
use Rattle.std.specs.List.Sorted.{IsNonDecreasing}
use Rattle.tty_base.specs.Sizes.{MOST_SENT}
use Rattle.tty_base.specs.declared.characters.Flagged.{Flagged}
use Rattle.tty_base.specs.declared.lines.Full.{Full}
use Rattle.tty_base.specs.declared.lines.LineStep.{LineStep}
use Rattle.tty_base.specs.declared.lines.LineStep.TheVariants.{Rx, Trigger}
use Rattle.tty_base.specs.declared.lines.Overrun.{Overrun}
use Rattle.tty_base.specs.Lines.{arrival_count}
use Rattle.word_ring.specs.Ends.{PutterState}
use Rattle.uart_line.specs.LineState.{LineState, HasDone}
use Rattle.uart_line.specs.Offered.{HandsOver}
use Rattle.uart_line.specs.Received.{is_masked, trigger_of, received_list, waiting_list, closed_script}
use Rattle.uart_line.specs.GoodSteps.{good_steps}
use Rattle.vt_consoles.specs.Keys.{key_character, GoesTo}
use Rattle.vt_consoles.specs.declared.entries.VtEvent.TheVariants.{Key}
use Rattle.vt_consoles.specs.Seats.{BoardSeat}
use Rattle.vt_account.specs.Keyed.{keys_to}
use Rattle.vt_keyboard.specs.Operating.{MakesAll}
use Rattle.vt_keyboard.specs.Phases.{key_events}

-- ---- a key

-- after these steps the handler is not held back, one character is enough for it, and nothing waits
pub record IsReadyForKeys (before : List LineStep) : Type 0 where
  pub unmasked : is_masked (reverse before) ≡ false
  pub trigger : trigger_of (reverse before) ≡ 1
  pub none_waits : waiting_list before ≡ []

-- a character that is lost at this place is an overrun
abbrev pub overruns_of : (place : ℕ) → Option Full → List Overrun
overruns_of place None = []
overruns_of place (Some f) = record { at = place; sent = f.sent; seen = f.seen } ∷ []

-- the line has received a key, and notes whether it was lost
pub record NotesKey (byte : ℕ) (lost : Option Full) (old new : LineState) : Type 0 where
  pub done : (before : List LineStep) → HasDone old before → HasDone new (before ++ Rx (key_character byte) ∷ [])
  pub overruns : (before : List LineStep) → HasDone old before → IsReadyForKeys before
      → new.report.overruns.items ≡ old.report.overruns.items ++ overruns_of (length (received_list before)) lost
  pub most : new.most ≡ old.most
  pub arrived : new.report.arrived ≡ old.report.arrived + 1

-- ---- steps

-- the line did these steps, and handed over to this putter all that they gave
pub record DoesSteps (steps : List LineStep) (old new : LineState) (putter now : PutterState Flagged) : Type 0 where
  pub done : (before : List LineStep) → HasDone old before → HasDone new (before ++ steps)
  pub hands_over : (before : List LineStep)
      → HasDone old before
      → HandsOver putter.capacity (received_list before) (received_list (before ++ steps)) putter.sent now.sent
      putter.heads now.heads old.report.overruns.items new.report.overruns.items
  pub ring : now.ring ≡ putter.ring
  pub capacity : now.capacity ≡ putter.capacity
  pub most : new.most ≡ old.most
  pub arrived : new.report.arrived ≡ old.report.arrived + arrival_count steps
  pub room : new.most ≤ (MOST_SENT - length now.sent) + new.handed
  pub rise : IsNonDecreasing putter.heads → IsNonDecreasing now.heads

-- nothing is held back on the line, one character is enough for its handler, and nothing waits
pub record IsReadyLine (line : LineState) : Type 0 where
  pub unmasked : line.masked ≡ false
  pub trigger : line.registers.trigger ≡ 1
  pub none_waits : line.window ≡ 0

-- the line can take so many keys, and the putter what they hand over
pub record CanTakeKeys (n : ℕ) (line : LineState) (putter : PutterState Flagged) : Type 0 where
  pub ready : IsReadyLine line
  pub done : (before : List LineStep) × HasDone line before
  pub room : line.report.arrived + n ≤ line.most
  pub put : line.most ≤ (MOST_SENT - length putter.sent) + line.handed

-- a line at the beginning of a phase: nothing is held back on it, and nothing waits
pub record CanBegin (line : LineState) (putter : PutterState Flagged) : Type 0 where
  pub unmasked : line.masked ≡ false
  pub none_waits : line.window ≡ 0
  pub done : (before : List LineStep) × HasDone line before
  pub within : line.report.arrived ≤ line.most
  pub put : line.most ≤ (MOST_SENT - length putter.sent) + line.handed

-- ---- the lines of all consoles, by their numbers

-- there is a line and a putter for each of so many consoles, and each can take so many keys
pub record CanTakeAll (consoles n : ℕ) (lines : List LineState) (ends : List (PutterState Flagged)) : Type 0 where
  pub lines_of : length lines ≡ consoles
  pub ends_of : length ends ≡ consoles
  pub each : (p : ℕ) (l : LineState) (e : PutterState Flagged)
      → slice_get lines p ≡ Some l
      → slice_get ends p ≡ Some e
      → CanTakeKeys n l e

-- a key went to this console: its line notes it, and the other lines stay
pub record NotesAt (byte console : ℕ) (lost : Option Full) (old new : List LineState) : Type 0 where
  pub was : LineState
  pub is : LineState
  pub within : console < length old
  pub found : was ≡ slice_index_or old console was
  pub others : new ≡ slice_set old console is
  pub notes : NotesKey byte lost was is

pub record TakesAt (byte console : ℕ) (lines noted : List LineState)
    (ends now : List (PutterState Flagged)) : Type 0 where
  pub lost : Option Full
  pub notes : NotesAt byte console lost lines noted
  pub goes : GoesTo byte console lost ends now

-- On each console the line did its keys of these, which went to these consoles one by one.
abbrev pub TakeKeys : (keys went : List ℕ) → (lines noted : List LineState) → (ends now : List (PutterState Flagged))
    → Type 0
TakeKeys keys went lines noted ends now =
    (p : ℕ) (l m : LineState) (e f : PutterState Flagged)
    → slice_get lines p ≡ Some l
    → slice_get noted p ≡ Some m
    → slice_get ends p ≡ Some e
    → slice_get now p ≡ Some f
    → DoesSteps (good_steps (keys_to p keys went)) l m e f

-- ---- the keyboard

-- the keyboard, whose seat has this number, made an entry for a key, which went to the console that the entry names
pub record Presses (n index byte : ℕ) (old new : BoardSeat) (lines noted : List LineState)
    (ends now : List (PutterState Flagged)) : Type 0 where
  pub console : ℕ
  pub makes : MakesAll n (Key index console ∷ []) old new
  pub takes : TakesAt byte console lines noted ends now

-- The keyboard, whose seat has this number, made an entry for each of these keys, whose indexes begin with this one;
-- each went to the console that its entry names.
pub record PressesKeys (n first : ℕ) (keys : List ℕ) (old new : BoardSeat) (lines noted : List LineState)
    (ends now : List (PutterState Flagged)) : Type 0 where
  pub went : List ℕ
  pub each_key : length went ≡ length keys
  pub makes : MakesAll n (key_events first went) old new
  pub take : TakeKeys keys went lines noted ends now

-- .. the first of these keys, and not all of them
abbrev pub PressesFirst : (n first : ℕ) → List ℕ → (old new : BoardSeat) → (lines noted : List LineState)
    → (ends now : List (PutterState Flagged))
    → Type 0
PressesFirst n first keys old new lines noted ends now =
    (count : ℕ) × (count < length keys) × PressesKeys n first (take count keys) old new lines noted ends now

-- ---- all consoles, one after the other

-- the lines and putters below this place have changed so, and those from it on are as they were
pub record ChangesUpTo (P : LineState → LineState → PutterState Flagged → PutterState Flagged → Type 0) (i : ℕ)
    (lines noted : List LineState) (ends now : List (PutterState Flagged)) : Type 0 where
  pub lines_of : length noted ≡ length lines
  pub ends_of : length now ≡ length ends
  pub done : (p : ℕ) (l m : LineState) (e f : PutterState Flagged)
      → p < i
      → slice_get lines p ≡ Some l
      → slice_get noted p ≡ Some m
      → slice_get ends p ≡ Some e
      → slice_get now p ≡ Some f
      → P l m e f
  pub lines_left : (p : ℕ) → i ≤ p → slice_get noted p ≡ slice_get lines p
  pub ends_left : (p : ℕ) → i ≤ p → slice_get now p ≡ slice_get ends p

-- each line and putter has changed so
pub record ChangesAll (P : LineState → LineState → PutterState Flagged → PutterState Flagged → Type 0)
    (lines noted : List LineState) (ends now : List (PutterState Flagged)) : Type 0 where
  pub lines_of : length noted ≡ length lines
  pub ends_of : length now ≡ length ends
  pub each : (p : ℕ) (l m : LineState) (e f : PutterState Flagged)
      → slice_get lines p ≡ Some l
      → slice_get noted p ≡ Some m
      → slice_get ends p ≡ Some e
      → slice_get now p ≡ Some f
      → P l m e f

-- one of them has changed so, and the others are as they were
pub record ChangesAt (P : LineState → LineState → PutterState Flagged → PutterState Flagged → Type 0) (i : ℕ)
    (lines noted : List LineState) (ends now : List (PutterState Flagged)) : Type 0 where
  pub line : LineState
  pub line_now : LineState
  pub end : PutterState Flagged
  pub end_now : PutterState Flagged
  pub line_was : line ≡ slice_index_or lines i line
  pub line_is : noted ≡ slice_set lines i line_now
  pub end_was : end ≡ slice_index_or ends i end
  pub end_is : now ≡ slice_set ends i end_now
  pub changes : P line line_now end end_now

-- what the beginning of a phase's keys does to a line, and their end
pub record BeginsKeys (l m : LineState) (e f : PutterState Flagged) : Type 0 where
  pub can : (n : ℕ) → l.report.arrived + n ≤ l.most → CanTakeKeys n m f
  pub does : DoesSteps (Trigger 1 ∷ []) l m e f

abbrev pub EndsKeys : LineState → LineState → PutterState Flagged → PutterState Flagged → Type 0
EndsKeys l m e f = DoesSteps (closed_script []) l m e f
