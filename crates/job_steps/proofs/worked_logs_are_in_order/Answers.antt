use Rattle.std.proofs.Common.{refl, lit≤}
use Rattle.uart_line.specs.Received.{is_cut, window, script, is_masked, trigger_of, idle_of, window_output}
use Rattle.job_steps.proofs.worked_logs_are_in_order.Goals as goal

pub returns-clause-foreground : goal.returns-clause-foreground
unfolding is_cut window script is_masked trigger_of idle_of window_output
returns-clause-foreground c = record {
  entries = record {
    turns = (
      record { by_turn = refl; piece = tt },
      (
        record { by_turn = refl; piece = tt },
        (
          record { by_turn = refl; piece = tt },
          (
            record { by_turn = refl; piece = tt },
            (
              record { by_turn = refl; piece = tt },
              (
                record { by_turn = refl; piece = tt },
                (
                  record { by_turn = refl; piece = tt },
                  (
                    record { by_turn = refl; piece = tt },
                    (
                      record { by_turn = refl; piece = tt },
                      (
                        record { by_turn = refl; piece = tt },
                        (
                          record { by_turn = refl; piece = tt },
                          (
                            record { by_turn = refl; piece = tt },
                            (
                              record { by_turn = refl; piece = tt },
                              (
                                record { by_turn = refl; piece = (refl, refl) },
                                (
                                  record { by_turn = refl; piece = tt },
                                  (
                                    record { by_turn = refl; piece = tt },
                                    (
                                      record { by_turn = refl; piece = tt },
                                      (
                                        record { by_turn = refl; piece = tt },
                                        (
                                          record { by_turn = refl; piece = tt },
                                          (
                                            record { by_turn = refl; piece = tt },
                                            tt,
                                          ),
                                        ),
                                      ),
                                    ),
                                  ),
                                ),
                              ),
                            ),
                          ),
                        ),
                      ),
                    ),
                  ),
                ),
              ),
            ),
          ),
        ),
      ),
    );
    seen = tt;
  };
  events =
      (lit≤ tt, ((lit≤ tt, refl), ((lit≤ tt, refl), ((lit≤ tt, refl), (tt, ((lit≤ tt, refl), (tt, (lit≤ tt, tt))))))));
}

pub returns-clause-shell : goal.returns-clause-shell
unfolding is_cut window script
returns-clause-shell c = record {
  entries = record {
    turns = (
      record { by_turn = refl; piece = tt },
      (
        record { by_turn = refl; piece = tt },
        (
          record { by_turn = refl; piece = tt },
          (
            record { by_turn = refl; piece = tt },
            (
              record { by_turn = refl; piece = tt },
              (
                record { by_turn = refl; piece = tt },
                (
                  record { by_turn = refl; piece = tt },
                  (
                    record { by_turn = refl; piece = tt },
                    (
                      record { by_turn = refl; piece = tt },
                      (
                        record { by_turn = refl; piece = tt },
                        (
                          record { by_turn = refl; piece = tt },
                          (
                            record { by_turn = refl; piece = tt },
                            (
                              record { by_turn = refl; piece = tt },
                              (
                                record { by_turn = refl; piece = tt },
                                (
                                  record { by_turn = refl; piece = tt },
                                  (record { by_turn = refl; piece = tt }, tt),
                                ),
                              ),
                            ),
                          ),
                        ),
                      ),
                    ),
                  ),
                ),
              ),
            ),
          ),
        ),
      ),
    );
    seen = tt;
  };
  events = (
    lit≤ tt,
    (
      (lit≤ tt, refl),
      (
        (lit≤ tt, refl),
        (
          lit≤ tt,
          ((lit≤ tt, refl), ((lit≤ tt, refl), ((lit≤ tt, refl), (tt, (tt, tt))))),
        ),
      ),
    ),
  );
}

-- it is the line's turn then
pub returns-clause-too_early : goal.returns-clause-too_early
unfolding is_cut window script
returns-clause-too_early c = λ order. let turn = order.events.1.1.1.0.1 in cc
