-- What the fields of a port stand for, and what they keep.
use Rattle.std.specs.Prelude.{◌≡◌, ℕ, List, Bool, ◌<◌, true, false, Option}
use Rattle.std.specs.Prelude.{None, Some, is_some, length, sum, slice_index_or}
use Rattle.tty_base.specs.Sizes.{MOST_HANDLES}
use Rattle.tty_calls.specs.Plain.{PlainCall, reads, writes, sets_modes, drains, handle_of}
use Rattle.port_core.specs.declared.waiting.WaitingCall.{WaitingCall}
use Rattle.port_core.specs.declared.waiting.WaitingCall.TheVariants as waiting
use Rattle.tty_terminal.specs.Terminals.{Terminal, caller_at}
use Rattle.port_core.specs.declared.ports.Port.TheInside.{Inside}
use Rattle.port_core.specs.Ports.{PlainKept, PortValue, IsPort, call_in}

abbrev pub value_of : Inside → PortValue
value_of p =
    record {
      terminal = p.terminal.terminal;
      journal = p.journal.items;
      kept = p.kept.items;
      counts = p.counts.items;
      limit = p.limit;
      starved = p.starved;
      flip = p.flip;
    }

-- the call that waits
abbrev pub call_waiting : WaitingCall → PlainCall
call_waiting (waiting.Read h n) = reads h n
call_waiting (waiting.Write h bytes) = writes h bytes.items
call_waiting (waiting.SetModes h when words) = sets_modes h when words.items
call_waiting (waiting.Drain h) = drains h

-- whether a call may have to wait
abbrev pub can_wait : PlainCall → Bool
can_wait (reads h n) = true
can_wait (writes h bytes) = true
can_wait (sets_modes h when words) = true
can_wait (drains h) = true
can_wait other = false

-- this is a copy of the call that the caller waits with
pub record IsWaitingCall (t : Terminal) (ks : List PlainKept) (c : ℕ) (slot : Option WaitingCall) : Type 0 where
  pub copy : WaitingCall
  pub there : slot ≡ Some copy
  pub found : call_in ks c (caller_at t c).next ≡ Some (call_waiting copy)
  pub number : handle_of (call_waiting copy) < MOST_HANDLES

-- of each caller that waits its call is there
abbrev pub AreWaitingCalls : Terminal → List PlainKept → List (Option WaitingCall) → Type 0
AreWaitingCalls t ks slots =
    (c : ℕ) → is_some (caller_at t c).waits ≡ true → IsWaitingCall t ks c (slice_index_or slots c None)

-- a port, and for each of its callers the latest of its calls that waited
pub record KeepsCalls (v : PortValue) (slots : List (Option WaitingCall)) : Type 0 where
  pub port : IsPort v
  pub many : length slots ≡ sum v.counts
  pub calls : AreWaitingCalls v.terminal v.kept slots

abbrev pub IsSound : Inside → Type 0
IsSound p = KeepsCalls (value_of p) p.waiting.items
