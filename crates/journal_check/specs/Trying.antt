-- What it is to try an entry, or a part of one, on a terminal.
use Rattle.std.specs.Prelude.{◌≡◌, ℕ, Bool, MatchBool, is_some, ◌&&◌, ◌+◌, ◌-◌, ◌<◌, ◌≤◌, ◌^◌, false}
use Rattle.tty_base.specs.Sizes.{MOST_HANDLES, MOST_SENT, NUMBER_END}
use Rattle.tty_calls.specs.Plain.{PlainCall, PlainAnswer, handle_of}
use Rattle.tty_calls.specs.Limits.{byte_count}
use Rattle.ldisc_switch.specs.Disciplines.{column_in}
use Rattle.tty_terminal.specs.Terminals.{Terminal, caller_at}
use Rattle.tty_terminal.specs.Calls.{outcome}
use Rattle.tty_terminal.specs.Steps.{Answers, Drops, MustWait, quiet_with}

-- where it may be made the terminal has become this one, and otherwise it may not; of the terminal nothing is said then
abbrev pub Tries : Type 0 → Terminal → Terminal → Bool → Type 0
Tries P there u made = MatchBool made (P × (u ≡ there)) (P → ⊥)

-- numbers so small that one more entry overflows none
pub record IsSmall (t : Terminal) : Type 0 where
  pub tick : t.tick < NUMBER_END
  pub generation : t.generation < NUMBER_END
  pub phase : t.phase < NUMBER_END
  pub taken : t.taken < MOST_SENT - 2 ^ 32
  pub capacity : t.capacity < 2 ^ 32
  pub within : t.sent ≤ t.taken + t.capacity
  pub next : (c : ℕ) → (caller_at t c).next < NUMBER_END
  pub parts : (c : ℕ) → (caller_at t c).parts < NUMBER_END
  pub column : column_in t.disc < 2 ^ 61

-- a call by a handle of the table, whose bytes a number of 32 bits counts
pub record IsSmallCall (call : PlainCall) : Type 0 where
  pub number : handle_of call < MOST_HANDLES
  pub bytes : byte_count call < 2 ^ 32

-- a call is answered so, in a phase with so many callers, where so many characters are dropped with it
pub record IsAnsweredBy (t : Terminal) (callers c : ℕ) (call : PlainCall) (a : PlainAnswer) (dropped : ℕ) : Type 0 where
  pub answer : Answers (is_some (caller_at t c).waits && quiet_with callers t) (outcome t (caller_at t c) call) a
  pub drops : Drops t (outcome t (caller_at t c) call) dropped

-- a call begins to wait
pub record BeginsWait (t : Terminal) (c : ℕ) (call : PlainCall) : Type 0 where
  pub first : is_some (caller_at t c).waits ≡ false
  pub must : MustWait (outcome t (caller_at t c) call)
