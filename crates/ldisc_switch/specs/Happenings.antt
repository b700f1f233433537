-- The life of a discipline on its port: what kind it is, and what befell it there, event by event.
use Rattle.std.specs.Prelude.{◌≡◌, ℕ, List, [], ◌∷◌, ◌++◌, drop, fold}
use Rattle.tty_base.specs.declared.characters.Flagged.{Flagged}
use Rattle.tty_modes.specs.Settings.{Settings}
use Rattle.flow_control.specs.Output.{Output}
use Rattle.flow_control.specs.declared.tally.Tally.{Tally}
use Rattle.n_tty.specs.Reading.{after_read}
use Rattle.n_tty.specs.Storing.{without_input, after_recast}
use Rattle.n_tty.specs.Writing.{after_write}
use Rattle.n_slip.specs.History as slip
use Rattle.ldisc_switch.specs.declared.kinds.Kind.{Kind}
use Rattle.ldisc_switch.specs.declared.discipline.Disc.{Disc}
use Rattle.ldisc_switch.specs.declared.discipline.Disc.TheVariants as disc
use Rattle.ldisc_switch.specs.Disciplines.{DiscOnPort, fresh_of, after_character_of}

-- what a character comes upon, and what its effect depends on: the modes, the tick, and the port's output and counts
pub record Conditions : Type 0 where
  pub modes : Settings
  pub tick : ℕ
  pub output : Output
  pub tally : Tally

-- One event, with all that its effect on the discipline is computed from.
pub data Happening : Type 0 where
  -- a character is received
  character : Conditions → Flagged → Happening
  -- a read that asks for n bytes
  read : Settings → (n : ℕ) → Happening
  -- a piece of a write of these bytes, under this output
  write : Settings → Output → List ℕ → Happening
  -- input is thrown away
  flush : Happening
  -- other modes
  mode_change : (old new : Settings) → Happening
  -- the rule for ixoff
  ixoff_rule : Happening
  -- the oldest packet leaves
  packet_take : Happening

-- these characters at a tick, each with the port's output and counts as those before it left them
abbrev pub characters_at : Settings → (now : ℕ) → List Flagged → DiscOnPort → List Happening
characters_at modes now [] port = []
characters_at modes now (c ∷ cs) port =
    character (record { modes = modes; tick = now; output = port.output; tally = port.tally }) c
    ∷ characters_at modes now cs (after_character_of modes now c port.disc port.output port.tally)

-- a discipline after one event; bytes are read and written under N_TTY alone, and packets are under N_SLIP alone
abbrev pub after_one : Disc → Happening → Disc
after_one state (character conditions c) =
    (after_character_of conditions.modes conditions.tick c state conditions.output conditions.tally).disc
after_one (disc.Tty tty) (read modes n) = disc.Tty (after_read modes n tty)
after_one (disc.Tty tty) (write modes output bytes) = disc.Tty (after_write modes output bytes tty)
after_one (disc.Tty tty) flush = disc.Tty (without_input tty)
after_one (disc.Tty tty) (mode_change old new) = disc.Tty (after_recast old new tty)
after_one (disc.Tty tty) ixoff_rule = disc.Tty tty
after_one (disc.Tty tty) packet_take = disc.Tty tty
after_one (disc.Slip slip) (read modes n) = disc.Slip slip
after_one (disc.Slip slip) (write modes output bytes) = disc.Slip slip
after_one (disc.Slip slip) flush = disc.Slip (record slip { packets = [] })
after_one (disc.Slip slip) (mode_change old new) = disc.Slip slip
after_one (disc.Slip slip) ixoff_rule = disc.Slip slip
after_one (disc.Slip slip) packet_take = disc.Slip (record slip { packets = drop 1 slip.packets })

-- a discipline after one event and the next, to the last
abbrev pub after_all : Disc → List Happening → Disc
after_all state events = fold after_one state events

-- a discipline of this kind, put fresh on its port, came to where it is by exactly these events
abbrev pub HasHappened : Disc → Kind → List Happening → Type 0
HasHappened state kind events = state ≡ after_all (fresh_of kind) events

-- an event as N_SLIP sees it
abbrev pub slip_part : Happening → List slip.Happening
slip_part (character conditions c) = slip.character c ∷ []
slip_part flush = slip.flush ∷ []
slip_part packet_take = slip.packet_take ∷ []
slip_part (read modes n) = []
slip_part (write modes output bytes) = []
slip_part (mode_change old new) = []
slip_part ixoff_rule = []

-- the events that N_SLIP sees, among these
abbrev pub slip_parts : List Happening → List slip.Happening
slip_parts [] = []
slip_parts (event ∷ events) = slip_part event ++ slip_parts events
