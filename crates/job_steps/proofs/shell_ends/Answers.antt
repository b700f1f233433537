use Rattle.std.proofs.Common.{[], refl, lit<, lit≤}
use Rattle.job_steps.proofs.shell_ends.Goals as goal

pub returns-clause-log : goal.returns-clause-log
returns-clause-log c = record {
  last = _;
  leads = (
    lit≤ tt,
    lit≤ tt,
    record {
      nothing_due = refl;
      next = refl;
      entry = record { entry = _; some = lit< tt; stands = refl; is_answer = (refl, ([], refl)) };
      in_phase = record { from = lit≤ tt; to = lit< tt };
      at_once = lit< tt;
      of_call = refl;
      goes_on = refl;
    },
    (
      lit≤ tt,
      lit≤ tt,
      record {
        nothing_due = refl;
        next = refl;
        in_phase = record { from = lit≤ tt; to = lit< tt };
        between = refl;
        answers = (refl, refl);
      },
      (
        lit≤ tt,
        lit≤ tt,
        record {
          nothing_due = refl;
          next = refl;
          in_phase = record { from = lit≤ tt; to = lit< tt };
          between = refl;
          answers = (refl, refl);
        },
        (
          lit≤ tt,
          lit≤ tt,
          record {
            nothing_due = refl;
            next = refl;
            entry = record { entry = _; some = lit< tt; stands = refl; is_answer = (refl, ([], refl)) };
            in_phase = record { from = lit≤ tt; to = lit< tt };
            at_once = lit< tt;
            of_call = refl;
            goes_on = refl;
          },
          (
            lit≤ tt,
            lit≤ tt,
            record {
              nothing_due = refl;
              next = refl;
              in_phase = record { from = lit≤ tt; to = lit< tt };
              between = refl;
              answers = (refl, refl);
            },
            (
              lit≤ tt,
              lit≤ tt,
              record {
                nothing_due = refl;
                next = refl;
                in_phase = record { from = lit≤ tt; to = lit< tt };
                between = refl;
                answers = (refl, refl);
              },
              (
                lit≤ tt,
                lit≤ tt,
                record {
                  nothing_due = refl;
                  next = refl;
                  in_phase = record { from = lit≤ tt; to = lit< tt };
                  between = refl;
                  answers = (refl, refl);
                },
                (
                  lit≤ tt,
                  lit≤ tt,
                  (refl, refl),
                  (
                    lit≤ tt,
                    lit≤ tt,
                    record {
                      rest = _;
                      is_due = refl;
                      entry = record { entry = _; some = lit< tt; stands = refl; is_answer = (refl, ([], refl)) };
                      at_once = refl;
                      of_call = refl;
                    },
                    refl,
                  ),
                ),
              ),
            ),
          ),
        ),
      ),
    ),
  );
  nothing_due = refl;
  all_sent = refl;
}

pub returns-clause-played : goal.returns-clause-played
returns-clause-played c = refl
