-- Sessions that differ in what comes on their lines alone: so a console can be opened, and its callers have their
-- roles, before the keys have come.
use Rattle.std.specs.Prelude.{◌≡◌, map}
use Rattle.tty_calls.specs.Sessions.{PlainPhase, PlainSession}

pub record DifferInLines (x y : PlainSession) : Type 0 where
  pub flips : x.flips ≡ y.flips
  pub callers : map (λ (phase : PlainPhase). phase.callers) x.phases
      ≡ map (λ (phase : PlainPhase). phase.callers) y.phases
  pub ticks : map (λ (phase : PlainPhase). phase.ticks) x.phases ≡ map (λ (phase : PlainPhase). phase.ticks) y.phases
