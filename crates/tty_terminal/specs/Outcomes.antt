-- What a call can meet: it is answered, must wait, or takes a part.
use Rattle.std.specs.Prelude.{ℕ, Bool, true, false, Option, None, Some, if◌then◌else◌}
use Rattle.tty_base.specs.declared.counters.Errno.{Errno}
use Rattle.tty_base.specs.declared.counters.Errno.TheVariants.{EBADF, EIO}
use Rattle.tty_calls.specs.declared.calls.Access.{Access}
use Rattle.tty_calls.specs.declared.calls.Access.TheVariants.{R, W, Rw}
use Rattle.tty_calls.specs.Plain.{PlainAnswer, done, refused}
use Rattle.handle_table.specs.declared.HandleState.{HandleState}
use Rattle.tty_terminal.specs.Terminals.{Terminal}

-- `gives` answers, says whether what waits in the flip buffer is dropped with the answer, and leaves a terminal to
-- which the rule for ixoff is then applied
pub data Outcome : Type 0 where
  unknown : Outcome
  waits : Outcome
  takes : (taken : ℕ) (left : Terminal) → Outcome
  gives : (answer : PlainAnswer) (drops : Bool) (left : Terminal) → Outcome

-- the call is refused, and changes nothing
abbrev pub refuses : Errno → Terminal → Outcome
refuses errno t = gives (refused errno) false t

-- the call does what it is for
abbrev pub does : Terminal → Outcome
does left = gives done false left

-- the call tells something, and changes nothing
abbrev pub tells : PlainAnswer → Terminal → Outcome
tells answer t = gives answer false t

abbrev pub may_read : Access → Bool
may_read R = true
may_read W = false
may_read Rw = true

abbrev pub may_write : Access → Bool
may_write R = false
may_write W = true
may_write Rw = true

-- a call that any handle serves: EBADF where there is none, EIO where it is dead
abbrev pub on_live : Terminal → Option HandleState → Outcome → Outcome
on_live t None live = refuses EBADF t
on_live t (Some handle) live = if handle.live then live else refuses EIO t

-- a call that needs an access: EBADF where the handle lacks it
abbrev pub on_access : (Access → Bool) → Terminal → Option HandleState → Outcome → Outcome
on_access may t None live = refuses EBADF t
on_access may t (Some handle) live = if may handle.access then on_live t (Some handle) live else refuses EBADF t
