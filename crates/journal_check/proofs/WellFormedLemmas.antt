-- A session within the limits is well-formed.
use Rattle.std.specs.Prelude.{ℕ}
use Rattle.std.proofs.lemmas.List.Elements.{All-weaker}
use Rattle.tty_calls.specs.Sessions.{PlainScript, PlainPhase, PlainSession}
use Rattle.tty_calls.specs.Limits.{IsCallWithin, IsScriptWithin, IsPhaseWithin, IsWithinLimits}
use Rattle.journal_check.specs.WellFormed.{IsOfTable, AreOfTable, IsPhaseWellFormed, IsWellFormed}

script_formed : (ports : ℕ) (script : PlainScript) → IsScriptWithin ports script → AreOfTable script
script_formed ports script h = All-weaker IsCallWithin IsOfTable (λ call within. within.handle) script.calls h.calls

phase_formed : (ports : ℕ) (phase : PlainPhase) → IsPhaseWithin ports phase → IsPhaseWellFormed phase
phase_formed ports phase h = record {
  steps = h.steps;
  calls = All-weaker (IsScriptWithin ports) AreOfTable (script_formed ports) phase.callers h.scripts;
}

pub within_limits_are_well_formed : (session : PlainSession) → IsWithinLimits session → IsWellFormed session
within_limits_are_well_formed session h = record {
  phases =
      All-weaker (IsPhaseWithin session.ports) IsPhaseWellFormed (phase_formed session.ports) session.phases h.phases;
}
