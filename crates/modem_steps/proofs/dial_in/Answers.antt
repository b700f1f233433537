use Rattle.std.proofs.Common.{[], refl, lit<, lit≤}
use Rattle.modem_steps.proofs.dial_in.Goals as goal

pub returns-clause-log : goal.returns-clause-log
returns-clause-log c = record {
  last = _;
  leads = (
    lit≤ tt,
    lit≤ tt,
    record { nothing_due = refl; in_block = refl; between = refl; item = refl },
    (
      lit≤ tt,
      lit≤ tt,
      record {
        nothing_due = refl;
        next = refl;
        for_port = tt;
        entry = record { entry = _; some = lit< tt; stands = refl; is_answer = (refl, ([], refl)) };
        at_once = lit< tt;
        of_call = refl;
        not_held_up = refl;
      },
      (
        lit≤ tt,
        lit≤ tt,
        record { nothing_due = refl; next = refl; between = refl; answers = refl },
        (
          lit≤ tt,
          lit≤ tt,
          record { nothing_due = refl; in_block = refl; between = refl; item = refl },
          (
            lit≤ tt,
            lit≤ tt,
            record {
              is_due = refl;
              entry = record { entry = _; some = lit< tt; stands = refl; is_answer = (refl, ([], refl)) };
              at_once = refl;
              of_call = refl;
            },
            (
              lit≤ tt,
              lit≤ tt,
              record {
                nothing_due = refl;
                next = refl;
                for_port = tt;
                entry = record { entry = _; some = lit< tt; stands = refl; is_answer = (refl, ([], refl)) };
                at_once = lit< tt;
                of_call = refl;
                not_held_up = refl;
              },
              refl,
            ),
          ),
        ),
      ),
    ),
  );
  nothing_due = refl;
}

pub returns-clause-played : goal.returns-clause-played
returns-clause-played c = refl
