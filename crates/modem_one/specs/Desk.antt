-- The desk of a port with modem lines: the lines, and what is noted beside the port's journal.
use Rattle.std.specs.Prelude.{◌+◌, ℕ, List, [], ◌∷◌, ◌++◌, All, Some, length, slice_index_or, slice_set, if◌then◌else◌}
use Rattle.std.specs.Prelude.{◌≡◌, Bool}
use Rattle.tty_calls.specs.Plain.{PlainCall, PlainAnswer, idle}
use Rattle.tty_terminal.specs.Terminals.{handle_at}
use Rattle.port_core.specs.Ports.{PortValue}
use Rattle.modem_lines.specs.declared.pins.Pin.{Pin}
use Rattle.modem_lines.specs.Lines.{Lines, with_pin, after_shut}
use Rattle.passed_calls.specs.Scripts.{further}
use Rattle.modem_text.specs.declared.items.OwnCall.{OwnCall}
use Rattle.modem_text.specs.Events.{ModemEvent, pin_set, own, passed, carrier_lost, ModemLog}
use Rattle.modem_steps.specs.Steps.{ModemState, modem_handle, modem_gives, through, lines_after_own}
use Rattle.modem_one.specs.Controls.{has_live, is_done, lines_settled}

-- its port, the modem lines, each caller's next step, how many items of the modem blocks are done, and the log so far
pub record DeskState : Type 0 where
  pub number : ℕ
  pub lines : Lines
  pub next : List ℕ
  pub items : ℕ
  pub log : ModemLog

abbrev pub step_of : DeskState → ℕ → ℕ
step_of d c = slice_index_or d.next c 0

abbrev pub noted : DeskState → (at : ℕ) → ModemEvent → DeskState
noted d at event = record d { log = d.log ++ record { port = d.number; at = at; event = event } ∷ [] }

-- each event is of this port
abbrev pub AreOn : ℕ → ModemLog → Type 0
AreOn p log = All (λ l. l.port ≡ p) log

-- a caller's call is answered, and its next one comes
abbrev pub after_call : DeskState → ℕ → DeskState
after_call d c = record d { next = slice_set d.next c (step_of d c + 1) }

-- .. without the port: a call of modem lines, or an open that is told that no carrier comes
abbrev pub answered_own : DeskState → (at c : ℕ) → PlainAnswer → DeskState
answered_own d at c answer = after_call (noted d at (own c (step_of d c) answer)) c

abbrev pub controlled : DeskState → PortValue → (c : ℕ) → OwnCall → DeskState
controlled d v c call =
    record (answered_own d (length v.journal) c
    (through (handle_at v.terminal (modem_handle call)) (modem_gives d.lines call))) {
      lines = lines_after_own d.lines v.terminal (Some (further call));
    }

abbrev pub told_idle : DeskState → (at c : ℕ) → DeskState
told_idle d at c = answered_own d at c idle

-- .. by the port, of whose handles one was live before the answer, or none
abbrev pub answered_passed : DeskState → PortValue → (was_live : Bool) → (c : ℕ) → PlainCall → PlainAnswer → DeskState
answered_passed d v was c call answer =
    record (after_call (noted d (length v.journal) (passed c (step_of d c) answer)) c) {
      lines = if is_done answer then lines_settled d.lines was (has_live v.terminal) call else d.lines;
    }

-- an item of the modem block is done
abbrev pub pinned : DeskState → (at : ℕ) → Pin → (up : Bool) → DeskState
pinned d at pin up =
    record (noted d at (pin_set pin up)) { lines = with_pin d.lines pin up; items = d.items + 1 }

-- the port was hung up, as the carrier was lost
abbrev pub hung_up_through : DeskState → (at h : ℕ) → DeskState
hung_up_through d at h = record (noted d at (carrier_lost h)) { lines = after_shut d.lines }

-- where the log leads, with the handles through which a hangup is due
abbrev pub state_at : DeskState → (at : ℕ) → (due : List ℕ) → ModemState
state_at d at due = record { lines = d.lines; at = at; items = d.items; next = d.next; due = due }
