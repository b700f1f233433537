-- The one-thread terminal as a value.
use Rattle.std.specs.Prelude.{ℕ, ◌+◌, List, Bool, true, false, ◌||◌, Option, None}
use Rattle.std.specs.Prelude.{Some, is_some, if◌then◌else◌, replicate, slice_index_or}
use Rattle.tty_modes.specs.Settings.{Settings, sane_modes}
use Rattle.flow_control.specs.Output.{Output, idle_output}
use Rattle.flow_control.specs.declared.tally.Tally.{Tally}
use Rattle.handle_table.specs.declared.HandleState.{HandleState}
use Rattle.handle_table.specs.Handles as table
use Rattle.ldisc_switch.specs.declared.kinds.Kind.TheVariants as kind
use Rattle.ldisc_switch.specs.declared.discipline.Disc.{Disc}
use Rattle.ldisc_switch.specs.Disciplines.{fresh_of}
use Rattle.ldisc_switch.specs.Posted.{new_tally}
use Rattle.tty_terminal.specs.declared.callers.Bound.{Bound}
use Rattle.tty_terminal.specs.declared.callers.CallerState.{CallerState}
use Rattle.tty_terminal.specs.declared.callers.Piece.{Piece}

pub record Terminal : Type 0 where
  pub disc : Disc
  pub modes : Settings
  -- the wire, held output and its halts; and what was counted, with the signals. Room for more is no part of a
  -- terminal: `output.spare` and `tally.signals.spare` are 0
  pub output : Output
  pub tally : Tally
  -- the handles by their numbers, and whether the port may be opened again
  pub handles : table.HandleMap
  pub exclusive : Bool
  pub tick : ℕ
  -- how many discipline changes, hangups and last closes there were
  pub generation : ℕ
  -- how many characters the flip buffer holds at most; it never changes
  pub capacity : ℕ
  -- how many characters were taken or dropped, and how many the last line end said were sent
  pub taken : ℕ
  pub sent : ℕ
  pub phase : ℕ
  -- whether the line and the clock of this phase are over
  pub line_over : Bool
  pub clock_over : Bool
  -- the callers by their numbers
  pub callers : List CallerState
  -- the latest piece of a flush run
  pub flushed : Option Piece

-- a caller that has made no call
abbrev pub idle_caller : CallerState
idle_caller = record { next = 0; over = false; waits = None; parts = 0; taken = 0; generation = 0; bound = None }

-- closed, N_TTY with the default modes, with nothing received and nothing counted
abbrev pub opening : (callers capacity : ℕ) → Terminal
opening callers capacity =
    record {
      disc = fresh_of kind.Tty;
      modes = sane_modes;
      output = idle_output;
      tally = new_tally;
      handles = table.no_handles;
      exclusive = false;
      tick = 0;
      generation = 0;
      capacity = capacity;
      taken = 0;
      sent = 0;
      phase = 0;
      line_over = false;
      clock_over = false;
      callers = replicate callers idle_caller;
      flushed = None;
    }

abbrev pub handle_at : Terminal → ℕ → Option HandleState
handle_at t h = table.handle_at t.handles h

abbrev pub caller_at : Terminal → ℕ → CallerState
caller_at t c = slice_index_or t.callers c idle_caller

abbrev pub is_bound : Option Bound → Bool
is_bound None = false
is_bound (Some b) = true

-- a call of the caller has begun, and is not answered
abbrev pub has_begun : CallerState → Bool
has_begun s = is_bound s.bound

abbrev pub bound_or : Option Bound → Option HandleState → Option HandleState
bound_or None now = now
bound_or (Some b) now = b.handle

-- the handle that a call goes by: the one that it began with, or else the one of now
abbrev pub handle_for : Terminal → CallerState → ℕ → Option HandleState
handle_for t s h = bound_or s.bound (handle_at t h)

-- how many handles are live
abbrev pub live_count : Terminal → ℕ
live_count t = table.live_count t.handles

-- a caller's calls of the phase are over
abbrev pub is_over : CallerState → Bool
is_over s = s.over

-- its calls of the phase are over, or one of them waits
abbrev pub is_resting : CallerState → Bool
is_resting s = s.over || is_some s.waits

-- how many of a caller's steps have begun
abbrev pub begun_of : CallerState → ℕ
begun_of s = if has_begun s then s.next + 1 else s.next
