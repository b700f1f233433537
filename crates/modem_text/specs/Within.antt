-- What a session with modem lines asks at most: the limits that every one keeps that a text spells.
use Rattle.std.specs.Prelude.{◌≡◌, ℕ, All, length, map}
use Rattle.passed_calls.specs.Derived.{BlockPhase}
use Rattle.passed_calls.specs.Within.{AreBlocksWithin, AreCallsWithin}
use Rattle.modem_text.specs.Sessions.{ModemPhase, ModemSession, pins_on, phase_blocks}

-- A phase by its blocks. The carrier of a port is lost at an item of its modem block, so `carrier` has at most as many
-- calls there as the block has items.
abbrev pub block_phase_of : (ports : ℕ) → ModemPhase → BlockPhase
block_phase_of ports phase = record {
  lines = phase.lines;
  ticks = phase.ticks;
  blocks = phase_blocks (λ p. length (pins_on p phase)) ports phase;
}

-- its blocks keep the limits, with one of `carrier` on each port, and so do the calls that are for the ports
pub record IsModemSessionWithin (session : ModemSession) : Type 0 where
  pub blocks : AreBlocksWithin session.ports session.flips (map (block_phase_of session.ports) session.phases)
  pub calls : All (λ phase. AreCallsWithin phase.callers) session.phases
  pub pins : All (λ phase. length phase.pins ≡ session.ports) session.phases
