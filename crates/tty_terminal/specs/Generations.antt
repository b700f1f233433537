-- What begins a new generation: a change of the discipline, the last close, and a hangup. Each names all that it
-- touches.
use Rattle.std.specs.Prelude.{◌≡◌, ℕ, [], ◌+◌, ◌==◌, false, Option, None, Some, if◌then◌else◌, map}
use Rattle.flow_control.specs.Output.{is_halted, after_start, after_release, after_reset}
use Rattle.handle_table.specs.declared.HandleState.{HandleState}
use Rattle.handle_table.specs.Handles as table
use Rattle.ldisc_switch.specs.declared.kinds.Kind.{Kind}
use Rattle.ldisc_switch.specs.declared.kinds.Kind.TheVariants as kind
use Rattle.ldisc_switch.specs.Disciplines.{fresh_of, unread_of}
use Rattle.tty_terminal.specs.declared.callers.Bound.{Bound}
use Rattle.tty_terminal.specs.declared.callers.CallerState.{CallerState}
use Rattle.tty_terminal.specs.Terminals.{Terminal, live_count}

-- A change to another discipline: the old one goes with all that it holds, and the halt by STOP with it. The modes
-- and what TCOOFF holds stay.
abbrev pub after_change : Terminal → Kind → Terminal
after_change t new = record t { disc = fresh_of new; output = after_start t.output; generation = t.generation + 1 }

-- The last close, after the handle went: N_TTY anew, both halts go and what was held is sent. The modes stay.
abbrev pub after_last_close : Terminal → Terminal
after_last_close t =
    record t {
      disc = fresh_of kind.Tty;
      output = after_release t.output;
      exclusive = false;
      generation = t.generation + 1;
    }

-- a call goes on with a handle that is dead for good
abbrev pub bound_after_hangup : Option Bound → Option Bound
bound_after_hangup None = None
bound_after_hangup (Some b) = Some (record b { handle = table.handle_after_hangup b.handle })

abbrev pub caller_after_hangup : CallerState → CallerState
caller_after_hangup s = record s { bound = bound_after_hangup s.bound }

-- A hangup: every handle dies, and N_TTY stands anew. Held output, both halts, the note for ixoff and exclusive use
-- go. The modes, the counts, the signals, the wire and the tick stay.
abbrev pub after_hangup : Terminal → Terminal
after_hangup t =
    record t {
      disc = fresh_of kind.Tty;
      output = after_reset t.output;
      handles = table.after_hangup t.handles;
      callers = map caller_after_hangup t.callers;
      exclusive = false;
      generation = t.generation + 1;
    }

-- a live handle that is closed is none; a dead one stays dead for the call that began with it
abbrev pub closed_handle : Option HandleState → Option HandleState
closed_handle None = None
closed_handle (Some handle) = if handle.live then None else Some handle

abbrev pub bound_after_close : ℕ → Option Bound → Option Bound
bound_after_close h None = None
bound_after_close h (Some b) = Some (record b { handle = if b.h == h then closed_handle b.handle else b.handle })

abbrev pub caller_after_close : ℕ → CallerState → CallerState
caller_after_close h s = record s { bound = bound_after_close h s.bound }

-- a close that need not be the last: the number is free again
abbrev pub after_close : Terminal → ℕ → Terminal
after_close t h =
    record t { handles = table.without_handle t.handles h; callers = map (caller_after_close h) t.callers }

-- what a hangup leaves to whoever opens the port next: N_TTY anew, with nothing unread and nothing held, output that
-- flows, no note for ixoff, no exclusive use, and no live handle
pub record HasNothing (t : Terminal) : Type 0 where
  pub fresh : t.disc ≡ fresh_of kind.Tty
  pub unread : unread_of t.disc ≡ 0
  pub held : t.output.held ≡ []
  pub flows : is_halted t.output ≡ false
  pub noted : t.output.noted ≡ false
  pub exclusive : t.exclusive ≡ false
  pub live : live_count t ≡ 0
