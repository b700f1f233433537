use Rattle.std.proofs.Common.{refl, lit≤}
use Rattle.modem_steps.proofs.no_carrier.Goals as goal

pub returns-clause-log : goal.returns-clause-log
returns-clause-log c = record {
  last = _;
  leads = (
    lit≤ tt,
    lit≤ tt,
    record { nothing_due = refl; next = refl; between = refl; answers = (refl, refl, refl) },
    (
      lit≤ tt,
      lit≤ tt,
      record { nothing_due = refl; next = refl; between = refl; answers = refl },
      refl,
    ),
  );
  nothing_due = refl;
}

pub returns-clause-played : goal.returns-clause-played
returns-clause-played c = refl
