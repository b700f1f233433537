-- What a call answers a program in C, and what it leaves.
use Rattle.std.specs.Prelude.{◌≡◌, ◌≢◌, ℕ, ℤ, pos, negsuc, Bool, true, false, ◌==◌}
use Rattle.std.specs.Prelude.{Option, None, Some, option_map, List, if◌then◌else◌}
use Rattle.tty_base.specs.declared.characters.Flag.{Flag}
use Rattle.tty_base.specs.declared.characters.Flag.TheVariants as flag
use Rattle.tty_base.specs.declared.counters.Signal.{Signal}
use Rattle.tty_base.specs.declared.counters.Signal.TheVariants as signal
use Rattle.tty_embed.specs.Embedded.{Embedded, accepts, after_receipt}
use Rattle.tty_c.specs.declared.handle.Handle.{Handle}

-- What a call answers that has no number to answer: the negated numbers of errno.h. A program in C reads these.

-- no memory was left: ENOMEM
abbrev pub no_memory : ℤ
no_memory = negsuc 11

-- the handle has no terminal: ENODEV
abbrev pub no_terminal : ℤ
no_terminal = negsuc 18

-- a call has to wait: EINPROGRESS
abbrev pub waits : ℤ
waits = negsuc 114

-- a number is none of a flag, and in general an argument none that the call knows: EINVAL
abbrev pub no_flag : ℤ
no_flag = negsuc 21

-- the handle has a terminal already: EALREADY
abbrev pub already_made : ℤ
already_made = negsuc 113

-- the terminal that a handle owns
abbrev pub terminal_of : Handle → Option Embedded
terminal_of handle = handle.slot.tty

-- what a call on a terminal answers, where the handle has one; without one it answers so
abbrev pub answer_on : Option Embedded → (Embedded → ℤ) → ℤ
answer_on None answer = no_terminal
answer_on (Some t) answer = answer t

-- A call on the terminal of a handle answers and leaves what it answers and leaves of that terminal. Without a
-- terminal it answers so, and does nothing; with one, but without memory, it does nothing either.
pub record Calls (answer : Embedded → ℤ) (after : Embedded → Embedded) (old new : Option Embedded)
    (result : ℤ) : Type 0 where
  pub unmade : old ≡ None → result ≡ no_terminal
  pub answered : result ≢ no_memory → result ≡ answer_on old answer
  pub left : result ≢ no_memory → new ≡ option_map after old
  pub kept : result ≡ no_memory → new ≡ old

-- what stands in a place of C's into which a call on a terminal puts bytes
abbrev pub place_on : Option Embedded → (Embedded → List ℕ) → (place : List ℕ) → List ℕ
place_on None put place = place
place_on (Some t) put place = put t

-- 1 for true
abbrev pub of_truth : Bool → ℤ
of_truth true = pos 1
of_truth false = pos 0

-- the flag of a number
abbrev pub flag_of : ℕ → Option Flag
flag_of n =
    if n == 0 then Some flag.Normal
    else if n == 1 then Some flag.Break
    else if n == 2 then Some flag.Parity
    else if n == 3 then Some flag.Frame
    else if n == 4 then Some flag.Overrun
    else None

-- whether a character was accepted; one whose number is none of a flag is refused
abbrev pub receipt_answer : Option Flag → Embedded → ℤ
receipt_answer None t = no_flag
receipt_answer (Some flag) t = of_truth (accepts t)

abbrev pub after_numbered_receipt : (byte : ℕ) → Option Flag → Embedded → Embedded
after_numbered_receipt byte None t = t
after_numbered_receipt byte (Some flag) t = after_receipt t (record { byte = byte; flag = flag })

-- how many bytes were read; a read that has to wait answers so
abbrev pub count_or_wait : Option ℕ → ℤ
count_or_wait None = waits
count_or_wait (Some count) = pos count

-- the number of a signal (signal.h); 0 is none
abbrev pub signal_number : Option Signal → ℤ
signal_number None = pos 0
signal_number (Some signal.Int) = pos 2
signal_number (Some signal.Quit) = pos 3
signal_number (Some signal.Susp) = pos 20
