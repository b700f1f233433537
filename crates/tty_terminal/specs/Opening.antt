-- Opens and closes (open(2), close(2)).
use Rattle.std.specs.Prelude.{ℕ, Bool, ◌&&◌, ◌==◌, Option, None, Some, is_some, if◌then◌else◌}
use Rattle.tty_base.specs.declared.counters.Errno.TheVariants.{EBADF, EEXIST, EBUSY}
use Rattle.tty_calls.specs.declared.calls.Access.{Access}
use Rattle.handle_table.specs.declared.HandleState.{HandleState}
use Rattle.handle_table.specs.Handles as table
use Rattle.tty_terminal.specs.Terminals.{Terminal, handle_at, live_count}
use Rattle.tty_terminal.specs.Generations.{after_close, after_last_close}
use Rattle.tty_terminal.specs.Outcomes.{Outcome, refuses, does}

-- EEXIST where the number is in use, by a live handle or by a dead one; EBUSY under exclusive use
abbrev pub opening_outcome : Terminal → ℕ → Access → Bool → Outcome
opening_outcome t h access nonblock =
    if is_some (handle_at t h) then refuses EEXIST t
    else if t.exclusive then refuses EBUSY t
    else does (record t { handles = table.with_handle t.handles h access nonblock })

-- the handle is live, and the only one that is
abbrev pub is_last_live : Terminal → HandleState → Bool
is_last_live t handle = handle.live && (live_count t == 1)

abbrev pub closing_outcome : Terminal → ℕ → Option HandleState → Outcome
closing_outcome t h None = refuses EBADF t
closing_outcome t h (Some handle) =
    does (if is_last_live t handle then after_last_close (after_close t h) else after_close t h)
