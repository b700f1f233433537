-- Sessions of ports with modem lines.
use Rattle.std.specs.Prelude.{ℕ, ◌==◌, Bool, List, [], ◌++◌, map, filter, flat_map, slice_index_or, codes}
use Rattle.std.specs.List.{range_with_len}
use Rattle.tty_base.specs.declared.lines.LineStep.{LineStep}
use Rattle.tty_calls.specs.Sessions.{PlainPhase, PlainSession, session_of}
use Rattle.modem_lines.specs.declared.pins.Pin.{Pin}
use Rattle.passed_calls.specs.declared.placed.PlacedCall.{PlacedCall}
use Rattle.passed_calls.specs.Blocks.{Block}
use Rattle.passed_calls.specs.Scripts.{AnyCall, CallerScript, block_of, mixed_scripts, phases_with}
use Rattle.modem_text.specs.declared.items.OwnCall.{OwnCall}
use Rattle.modem_text.specs.declared.sessions.PinItem.{PinItem}
use Rattle.modem_text.specs.declared.sessions.ModemPart.{ModemPart}
use Rattle.modem_text.specs.declared.sessions.ModemSession.{ModemSession as KeptSession}

-- a call that is for the port, or one of the modem lines alone
abbrev pub ModemCall : Type 0
ModemCall = AnyCall OwnCall

-- an item of a modem block: the modem gives a line a level
pub record PinStep : Type 0 where
  pub pin : Pin
  pub up : Bool

-- a phase; `lines`, `ticks` and `pins` have one item for each port
pub record ModemPhase : Type 0 where
  pub lines : List (List LineStep)
  pub ticks : List ℕ
  pub pins : List (List PinStep)
  pub callers : List (CallerScript ModemCall)

pub record ModemSession : Type 0 where
  pub version : ℕ
  pub ports : ℕ
  pub flips : List ℕ
  pub phases : List ModemPhase

-- the items of a port's modem block in a phase
abbrev pub pins_on : ℕ → ModemPhase → List PinStep
pins_on p phase = slice_index_or phase.pins p []

-- the caller that hangs the port up where the carrier is lost
abbrev pub carrier_name : List ℕ
carrier_name = codes "carrier"

-- ---- the callers

-- the block of `carrier` on a port, with so many calls
abbrev pub carrier_block : (steps : ℕ) → ℕ → Block
carrier_block steps p = record { port = p; name = carrier_name; steps = steps }

-- the blocks of a phase: its callers', and on each port, last, that of `carrier`, which has so many calls there
abbrev pub phase_blocks : (steps : ℕ → ℕ) → (ports : ℕ) → ModemPhase → List Block
phase_blocks steps ports phase =
    map block_of phase.callers ++ map (λ p. carrier_block (steps p) p) (range_with_len 0 ports)

-- the blocks of a session by themselves, which tell the callers' numbers
abbrev pub blocks_in : ModemSession → List Block
blocks_in session = flat_map (phase_blocks (λ p. 0) session.ports) session.phases

-- ---- a session of ports, and what its phases have beside

pub record PlainPart : Type 0 where
  pub pins : List PinItem
  pub own : List (PlacedCall OwnCall)

abbrev pub part_of : ModemPart → PlainPart
part_of part = record { pins = part.pins.items; own = part.own.items }

abbrev pub no_part : PlainPart
no_part = record { pins = []; own = [] }

abbrev pub step_of : PinItem → PinStep
step_of item = record { pin = item.pin; up = item.up }

-- the items of each port
abbrev pub pins_by_port : (ports : ℕ) → List PinItem → List (List PinStep)
pins_by_port ports pins = map (λ p. map step_of (filter (λ item. item.port == p) pins)) (range_with_len 0 ports)

abbrev pub phase_with : (ports : ℕ) → PlainPhase → PlainPart → ModemPhase
phase_with ports phase part = record {
  lines = phase.lines;
  ticks = phase.ticks;
  pins = pins_by_port ports part.pins;
  callers = mixed_scripts 0 phase.callers part.own;
}

abbrev pub session_with : PlainSession → List PlainPart → ModemSession
session_with session parts = record {
  version = session.version;
  ports = session.ports;
  flips = session.flips;
  phases = phases_with (phase_with session.ports) no_part parts 0 session.phases;
}

-- what a session that is kept is
abbrev pub modem_session_of : KeptSession → ModemSession
modem_session_of s = session_with (session_of s.session) (map part_of s.parts.items)
