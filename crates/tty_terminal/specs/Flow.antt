-- Flushing and flow control (ioctl_tty(2), TCFLSH and TCXONC).
use Rattle.std.specs.Prelude.{ℕ, ◌==◌, true, false, [], ◌∷◌, if◌then◌else◌}
use Rattle.tty_calls.specs.declared.calls.Queue.{Queue}
use Rattle.tty_calls.specs.declared.calls.Queue.TheVariants as queue
use Rattle.tty_calls.specs.declared.calls.Act.{Act}
use Rattle.tty_calls.specs.declared.calls.Act.TheVariants as act
use Rattle.tty_calls.specs.Plain.{done}
use Rattle.tty_modes.specs.Settings.{character}
use Rattle.tty_modes.specs.declared.places.TheConstants.{VSTART, VSTOP}
use Rattle.flow_control.specs.Output.{on_wire, after_tco_on}
use Rattle.tty_terminal.specs.Terminals.{Terminal}
use Rattle.tty_terminal.specs.Outcomes.{Outcome, gives}
use Rattle.tty_terminal.specs.Modes.{without_input}

abbrev pub without_held : Terminal → Terminal
without_held t = record t { output = record t.output { held = [] } }

-- where input is dropped, so is what waits in the flip buffer
abbrev pub flush_outcome : Terminal → Queue → Outcome
flush_outcome t queue.Input = gives done true (without_input t)
flush_outcome t queue.Output = gives done false (without_held t)
flush_outcome t queue.Both = gives done true (without_held (without_input t))

-- the control character of a place goes to the wire past any halt, unless it is 0
abbrev pub with_character_sent : Terminal → (place : ℕ) → Terminal
with_character_sent t place =
    if character t.modes place == 0 then t else record t { output = on_wire t.output (character t.modes place ∷ []) }

abbrev pub after_act : Terminal → Act → Terminal
after_act t act.Ooff = record t { output = record t.output { off = true } }
after_act t act.Oon = record t { output = after_tco_on t.output }
after_act t act.Ioff = with_character_sent t VSTOP
after_act t act.Ion = with_character_sent t VSTART
