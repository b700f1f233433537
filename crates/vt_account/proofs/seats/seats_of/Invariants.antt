use Rattle.std.proofs.Common.{◌≡◌, drop, map}
use Rattle.std.specs.Prelude.{flat_map}
use Rattle.vt_text.specs.Sessions.{PlainVtPhase, vt_phase_of}
use Rattle.vt_account.specs.Seats.{operator_names}
use Rattle.vt_account.specs.Played.{names_behind}
use Rattle.vt_account.proofs.seats.seats_of.Given as goal

abbrev pub invariant-loop-phase : goal.invariant-loop-phase
invariant-loop-phase l =
    names_behind l.names
    (flat_map (λ (phase : PlainVtPhase). phase.operators) (map vt_phase_of (drop l.phase-index l.phases)))
    ≡ operator_names (map vt_phase_of l.phases)
