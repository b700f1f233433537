-- What the calls of a port answer a program in C, and what they leave.
use Rattle.std.specs.Prelude.{◌≡◌, ◌≢◌, ◌+◌, ◌-◌, ◌<◌, ◌≤◌, ℕ, ℤ, pos, negsuc, min, max, take}
use Rattle.std.specs.Prelude.{length, ◌==◌, Option, None, Some, List, [], ◌∷◌, ◌++◌, if◌then◌else◌}
use Rattle.tty_base.specs.declared.characters.Flag.{Flag}
use Rattle.tty_base.specs.declared.counters.Counts.{Counts}
use Rattle.tty_base.specs.declared.counters.Errno.{Errno}
use Rattle.tty_base.specs.declared.counters.Errno.TheVariants as errno
use Rattle.tty_modes.specs.Settings.{Settings, has_flag, character}
use Rattle.tty_modes.specs.declared.words.Word.{Word}
use Rattle.tty_calls.specs.declared.calls.Access.{Access}
use Rattle.tty_calls.specs.declared.calls.Access.TheVariants as access
use Rattle.tty_calls.specs.declared.calls.When.{When}
use Rattle.tty_calls.specs.declared.calls.When.TheVariants as when
use Rattle.tty_calls.specs.declared.calls.Queue.{Queue}
use Rattle.tty_calls.specs.declared.calls.Queue.TheVariants as queue
use Rattle.tty_calls.specs.declared.calls.Act.{Act}
use Rattle.tty_calls.specs.declared.calls.Act.TheVariants as act
use Rattle.tty_calls.specs.Plain.{PlainCall, sets_modes, PlainAnswer, done, count_is}
use Rattle.tty_calls.specs.Plain.{got, number_is, modes_are, counts_are, refused, idle}
use Rattle.tty_terminal.specs.Outcomes.{Outcome, unknown, waits as must_wait, takes, gives}
use Rattle.tty_terminal.specs.Meeting.{drops_of}
use Rattle.flow_control.specs.Counting.{count_after}
use mathlib.Core.List.{IsPrefix}
use Rattle.tty_device.specs.Kept.{chars_of, flushed_of, dropped_of}
use Rattle.tty_device.specs.Devices.{DeviceState, outcome_for, after_call, DropsShown, DropsWhere, with_taken_of}
use Rattle.tty_device.specs.Devices.{after_hang_up, is_stuck, FlushesWhere, TakesInWhere, wire_of, taken_count}
use Rattle.tty_device.specs.Devices.{at_front, without_wire_front, first_signal, without_first_signal}
use Rattle.flip_buffer.specs.Packed.{with_flag}
use Rattle.tty_device.specs.Lines.{PutEnd, HasNoRoom}
use Rattle.tty_c.specs.declared.told.Detail.{Detail}
use Rattle.tty_c.specs.declared.told.Detail.TheVariants as told
use Rattle.tty_c.specs.declared.ports.Port.{Port}
use Rattle.tty_c.specs.declared.lines.Line.{Line}
use Rattle.tty_c.specs.declared.account_exports.Account.{Account}
use Rattle.tty_c.specs.Answers.{no_memory, no_terminal, waits, no_flag, of_truth, signal_number}

-- the port, and the end, that a handle owns
abbrev pub device_in : Port → Option DeviceState
device_in port = port.slot.device

abbrev pub end_in : Line → Option PutEnd
end_in line = line.slot.end

-- ---- answers

-- an error by its negated number (errno.h)
abbrev pub errno_number : Errno → ℤ
errno_number errno.EBADF = negsuc 8
errno_number errno.EEXIST = negsuc 16
errno_number errno.EBUSY = negsuc 15
errno_number errno.EAGAIN = negsuc 10
errno_number errno.EIO = negsuc 4
errno_number errno.EINVAL = negsuc 21
errno_number errno.ENOTTY = negsuc 24
errno_number errno.EMSGSIZE = negsuc 89

-- of the modes a call tells whether one flag is set, or one control character
abbrev pub modes_number : Detail → Settings → ℤ
modes_number (told.Flag flag) modes = of_truth (has_flag modes flag)
modes_number (told.Character place) modes = pos (character modes place)
modes_number (told.Count place) modes = pos 0
modes_number told.Nothing modes = pos 0

-- the counts by their places; one above 2^63 - 1 is told as that
abbrev pub count_at : Counts → ℕ → ℕ
count_at counts place =
    if place == 0 then counts.mark
    else if place == 1 then counts.parity
    else if place == 2 then counts.frame
    else if place == 3 then counts.breaks
    else if place == 4 then counts.cut
    else if place == 5 then counts.echo
    else if place == 6 then counts.pin
    else if place == 7 then counts.pout
    else if place == 8 then counts.pbad
    else if place == 9 then counts.pfull
    else 0

abbrev pub counts_number : Detail → Counts → ℤ
counts_number (told.Count place) counts = pos (min (count_at counts place) 9223372036854775807)
counts_number (told.Flag flag) counts = pos 0
counts_number (told.Character place) counts = pos 0
counts_number told.Nothing counts = pos 0

-- an answer as a number: 0 where the call was done, how many bytes it took or gives, the number that was asked for
abbrev pub answer_number : Detail → PlainAnswer → ℤ
answer_number t done = pos 0
answer_number t (count_is n) = pos n
answer_number t (got bytes) = pos (length bytes)
answer_number t (number_is n) = pos n
answer_number t (modes_are modes) = modes_number t modes
answer_number t (counts_are counts) = counts_number t counts
answer_number t (refused error) = errno_number error
answer_number t idle = pos 0

-- a part of a write answers how many bytes it took
abbrev pub outcome_number : Detail → Outcome → ℤ
outcome_number t unknown = pos 0
outcome_number t must_wait = waits
outcome_number t (takes n left) = pos n
outcome_number t (gives answer drops left) = answer_number t answer

-- ---- calls

-- A call on a port answers what it meets, and leaves what that leaves; without memory it does nothing.
pub record DeviceCalls (t : Detail) (old new : DeviceState) (c : ℕ) (call : PlainCall) (result : ℤ) : Type 0 where
  pub answered : result ≢ no_memory → result ≡ outcome_number t (outcome_for old c call)
  pub left : result ≢ no_memory → new ≡ with_taken_of new (after_call old c call)
  pub drops : result ≢ no_memory → DropsWhere (drops_of (outcome_for old c call)) old new
  pub kept : result ≡ no_memory → new ≡ old

-- What is done with the thing that a handle owns, which it owns afterwards too. Without one a call answers so, and does
-- nothing.
abbrev pub OnHandle : {A : Type 0} → (does : A → A → ℤ → Type 0) → (old new : Option A) → (result : ℤ) → Type 0
OnHandle does None new result = (result ≡ no_terminal) × (new ≡ None)
OnHandle does (Some x) None result = ⊥
OnHandle does (Some x) (Some y) result = does x y result

-- a call on the port of a handle
abbrev pub PortCalls : Detail → (old new : Option DeviceState) → (c : ℕ) → PlainCall → (result : ℤ) → Type 0
PortCalls t old new c call result = OnHandle (λ d u r. DeviceCalls t d u c call r) old new result

-- one argument is none that the call knows: EINVAL, and nothing is done
abbrev pub PortCallsWhere : Detail → Option PlainCall → (old new : Option DeviceState) → (c : ℕ) → (result : ℤ) → Type 0
PortCallsWhere t None old new c result = (result ≡ no_flag) × (new ≡ old)
PortCallsWhere t (Some call) old new c result = PortCalls t old new c call result

-- the bytes that an answer gives stand in a place, as many of them as it holds
abbrev pub place_with : PlainAnswer → (place : List ℕ) → List ℕ
place_with (got bytes) place = at_front place (take (length place) bytes)
place_with answer place = place

abbrev pub place_after : Outcome → (place : List ℕ) → List ℕ
place_after unknown place = place
place_after must_wait place = place
place_after (takes n left) place = place
place_after (gives answer drops left) place = place_with answer place

abbrev pub place_after_call : Option DeviceState → (c : ℕ) → PlainCall → (place : List ℕ) → List ℕ
place_after_call None c call place = place
place_after_call (Some d) c call place = place_after (outcome_for d c call) place

-- ---- arguments by their numbers

-- O_RDONLY, O_WRONLY, O_RDWR (fcntl.h)
abbrev pub access_of : ℕ → Option Access
access_of n =
    if n == 0 then Some access.R else if n == 1 then Some access.W else if n == 2 then Some access.Rw else None

-- TCSANOW, TCSADRAIN, TCSAFLUSH (termios.h)
abbrev pub when_of : ℕ → Option When
when_of n =
    if n == 0 then Some when.Now else if n == 1 then Some when.Drain else if n == 2 then Some when.Flush else None

-- TCIFLUSH, TCOFLUSH, TCIOFLUSH (termios.h)
abbrev pub queue_of : ℕ → Option Queue
queue_of n =
    if n == 0 then Some queue.Input else if n == 1 then Some queue.Output else if n == 2 then Some queue.Both else None

-- TCOOFF, TCOON, TCIOFF, TCION (termios.h)
abbrev pub act_of : ℕ → Option Act
act_of n =
    if n == 0 then Some act.Ooff
    else if n == 1 then Some act.Oon
    else if n == 2 then Some act.Ioff
    else if n == 3 then Some act.Ion
    else None

-- a change of modes by one mode word
abbrev pub word_set : (h : ℕ) → Option When → Option Word → Option PlainCall
word_set h None word = None
word_set h (Some w) None = None
word_set h (Some w) (Some word) = Some (sets_modes h w (word ∷ []))

-- ---- the rest of a port

-- Something is done that answers a number, and changes a port or an end so; without memory it does nothing.
pub record Does {A : Type 0} (answer : A → ℤ) (after : A → A → A) (old new : A) (result : ℤ) : Type 0 where
  pub answered : result ≢ no_memory → result ≡ answer old
  pub left : result ≢ no_memory → new ≡ after new old
  pub kept : result ≡ no_memory → new ≡ old

-- characters are handed over to the discipline
pub record Receives (most : ℕ) (old new : DeviceState) (result : ℤ) : Type 0 where
  pub flushes : result ≢ no_memory → (count : ℕ) × (result ≡ pos count) × FlushesWhere (is_stuck old) old new most count
  pub kept : result ≡ no_memory → new ≡ old

-- how many bytes were put; a port that has no end of its own answers EINVAL
abbrev pub put_number : Option ℕ → ℤ
put_number None = no_flag
put_number (Some count) = pos count

-- bytes are put, each with this flag, into the end that the port has, and characters handed over
pub record TakesIn (bytes : List ℕ) (flag : Flag) (old new : DeviceState) (result : ℤ) : Type 0 where
  pub takes : result ≢ no_memory
      → (answer : Option ℕ) × (result ≡ put_number answer) × TakesInWhere old.line old new flag bytes answer
  pub kept : result ≡ no_memory → new ≡ old

abbrev pub TakesInFlagged : (bytes : List ℕ) → Option Flag → (old new : Option DeviceState) → (result : ℤ) → Type 0
TakesInFlagged bytes None old new result = (result ≡ no_flag) × (new ≡ old)
TakesInFlagged bytes (Some flag) old new result = OnHandle (TakesIn bytes flag) old new result

-- a port is hung up
pub record HangsUp (old new : DeviceState) (result : ℤ) : Type 0 where
  pub does : Does (λ _. pos 0) (λ now d. with_taken_of now (after_hang_up d)) old new result
  pub drops : result ≢ no_memory → DropsShown old new

-- the number of a signal (signal.h), and 0 where none was raised
abbrev pub TakesSignal : (old new : DeviceState) → (result : ℤ) → Type 0
TakesSignal old new result = Does (λ d. signal_number (first_signal d)) (λ _ d. without_first_signal d) old new result

-- how many bytes are taken from the wire, into a place of so many
abbrev pub TakesWire : (place : List ℕ) → (old new : DeviceState) → (result : ℤ) → Type 0
TakesWire place old new result =
    Does (λ d. pos (taken_count d place)) (λ _ d. without_wire_front (taken_count d place) d) old new result

abbrev pub place_after_wire : Option DeviceState → (place : List ℕ) → List ℕ
place_after_wire None place = place
place_after_wire (Some d) place = at_front place (take (taken_count d place) (wire_of d))

-- a count of 64 bits as an answer: one above 2^63 - 1 is told as that
abbrev pub as_answer : ℕ → ℤ
as_answer n = pos (min n 9223372036854775807)

-- where the characters of a port are, as a look shows it
pub record TellsAccount (count : DeviceState → ℕ) (old new : DeviceState) (result : ℤ) : Type 0 where
  pub answer : result ≡ as_answer (count new)
  pub same : new ≡ record old { shown = new.shown }
  pub shown : old.shown ≤ new.shown

abbrev pub flushed_count : DeviceState → ℕ
flushed_count d = length (flushed_of d.taken)

abbrev pub dropped_count : DeviceState → ℕ
dropped_count d = length (dropped_of d.taken)

-- those that are pushed and not taken
abbrev pub waiting_count : DeviceState → ℕ
waiting_count d = d.shown - length d.taken

-- ---- the end that puts characters in

-- bytes are put with a flag; the others are overruns
pub record Puts (bytes : List ℕ) (flag : Flag) (old new : PutEnd) (result : ℤ) : Type 0 where
  pub count : ℕ
  pub answer : result ≡ pos count
  pub within : count ≤ length bytes
  pub left : new
      ≡ record old {
        sent = old.sent ++ with_flag flag (take count bytes);
        overruns = count_after old.overruns (length bytes - count);
        known = new.known;
      }
  pub known : old.known ≤ new.known
  pub full : count < length bytes → HasNoRoom new.sent new.known old.capacity

abbrev pub PutsWhere : (bytes : List ℕ) → Option Flag → (old new : Option PutEnd) → (result : ℤ) → Type 0
PutsWhere bytes None old new result = (result ≡ no_flag) × (new ≡ old)
PutsWhere bytes (Some flag) old new result = OnHandle (Puts bytes flag) old new result

-- what waits for the other end, as far as it is known
pub record TellsWaiting (old new : PutEnd) (result : ℤ) : Type 0 where
  pub answer : result ≡ as_answer (length old.sent - new.known)
  pub left : new ≡ record old { known = new.known }
  pub known : old.known ≤ new.known

-- ---- both ends

-- a port and an end that were made together, where there are both
abbrev pub AreOne : Option DeviceState → Option PutEnd → Type 0
AreOne port end = (d : DeviceState) (l : PutEnd) → port ≡ Some d → end ≡ Some l → l.ring ≡ d.ring

-- the account of both ends, of which the line pushes all that it put: each character was received, dropped, or waits
pub record MeetsBoth (d d' : DeviceState) (l l' : PutEnd) (told : Account) : Type 0 where
  pub sent : told.sent ≡ length l.sent
  pub overruns : told.overruns ≡ l.overruns
  pub received : told.received ≡ flushed_count d
  pub dropped : told.dropped ≡ dropped_count d
  pub waiting : told.received + told.dropped + told.waiting ≡ length l.sent
  pub begins : IsPrefix (chars_of d.taken) l.sent
  pub port : d' ≡ record d { shown = max d.shown (length l.sent) }
  pub line : l' ≡ record l { pushed = l.sent; known = l'.known }
  pub known : length d.taken ≤ l'.known
  pub rises : l.known ≤ l'.known

-- without one of them nothing is told, and nothing changes
abbrev pub MeetsWhere : (port port' : Option DeviceState) → (end end' : Option PutEnd) → (told told' : Account)
    → (result : ℤ)
    → Type 0
MeetsWhere None port' end end' told told' result =
    (result ≡ no_terminal) × (port' ≡ None) × (end' ≡ end) × (told' ≡ told)
MeetsWhere (Some d) port' None end' told told' result =
    (result ≡ no_terminal) × (port' ≡ Some d) × (end' ≡ None) × (told' ≡ told)
MeetsWhere (Some d) port' (Some l) end' told told' result =
    (result ≡ pos 0)
    × ((d' : DeviceState) × (l' : PutEnd) × (port' ≡ Some d') × (end' ≡ Some l') × MeetsBoth d d' l l' told')
