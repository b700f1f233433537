-- Worked journals are in the order of one thread, and with an entry elsewhere not.
use Rattle.std.proofs.Common.{[], refl}
use Rattle.uart_line.specs.Received.{is_masked, trigger_of, idle_of, is_cut, window, window_output, script}
use Rattle.tty_terminal.specs.Rows.{three_bytes}
use Rattle.legal_runs.specs.Order.{IsInOneOrder}
use Rattle.legal_runs.specs.Rows.{three_bytes_session, three_bytes_consoles, late_flush, early_clock, waiters_session}
use Rattle.legal_runs.specs.Rows.{waiters, last_waiter_first, both_told, early_tick}

pub three_bytes_in_order : IsInOneOrder 0 three_bytes_session three_bytes []
unfolding is_masked trigger_of idle_of is_cut window window_output script
three_bytes_in_order =
    record {
      turns = (
        record { by_turn = refl; piece = tt },
        (
          record { by_turn = refl; piece = tt },
          (
            record { by_turn = refl; piece = tt },
            (
              record { by_turn = refl; piece = tt },
              (
                record { by_turn = refl; piece = tt },
                (
                  record { by_turn = refl; piece = tt },
                  (
                    record { by_turn = refl; piece = (refl, refl) },
                    (
                      record { by_turn = refl; piece = tt },
                      (
                        record { by_turn = refl; piece = tt },
                        (
                          record { by_turn = refl; piece = tt },
                          (
                            record { by_turn = refl; piece = tt },
                            (
                              record { by_turn = refl; piece = tt },
                              (record { by_turn = refl; piece = tt }, (record { by_turn = refl; piece = tt }, tt)),
                            ),
                          ),
                        ),
                      ),
                    ),
                  ),
                ),
              ),
            ),
          ),
        ),
      );
      seen = tt;
    }

pub late_flush_is_not : IsInOneOrder 0 three_bytes_session late_flush [] → ⊥
unfolding is_masked trigger_of idle_of is_cut window window_output script
late_flush_is_not h = let k = h.turns.1.1.1.1.1.1.0.by_turn in absurd (cc)

pub early_clock_is_not : IsInOneOrder 0 three_bytes_session early_clock [] → ⊥
unfolding is_masked trigger_of idle_of is_cut window window_output script
early_clock_is_not h = let k = h.turns.1.0.by_turn in absurd (cc)

pub early_clock_of_console : IsInOneOrder 0 three_bytes_consoles early_clock []
unfolding is_masked trigger_of idle_of is_cut window window_output script
early_clock_of_console =
    record {
      turns = (
        record { by_turn = refl; piece = tt },
        (
          record { by_turn = refl; piece = tt },
          (
            record { by_turn = refl; piece = tt },
            (
              record { by_turn = refl; piece = tt },
              (record { by_turn = refl; piece = tt }, (record { by_turn = refl; piece = tt }, tt)),
            ),
          ),
        ),
      );
      seen = tt;
    }

pub late_clock_of_console_is_not : IsInOneOrder 0 three_bytes_consoles three_bytes [] → ⊥
unfolding is_masked trigger_of idle_of is_cut window window_output script
late_clock_of_console_is_not h = let k = h.turns.1.0.by_turn in absurd (cc)

pub waiters_in_order : IsInOneOrder 0 waiters_session waiters []
unfolding is_masked trigger_of idle_of is_cut window window_output script
waiters_in_order =
    record {
      turns = (
        record { by_turn = refl; piece = tt },
        (
          record { by_turn = refl; piece = tt },
          (
            record { by_turn = refl; piece = tt },
            (
              record { by_turn = refl; piece = tt },
              (
                record { by_turn = refl; piece = tt },
                (
                  record { by_turn = refl; piece = tt },
                  (
                    record { by_turn = refl; piece = tt },
                    (
                      record { by_turn = refl; piece = tt },
                      (
                        record { by_turn = refl; piece = tt },
                        (
                          record { by_turn = refl; piece = tt },
                          (
                            record { by_turn = refl; piece = tt },
                            (
                              record { by_turn = refl; piece = tt },
                              (record { by_turn = refl; piece = tt }, tt),
                            ),
                          ),
                        ),
                      ),
                    ),
                  ),
                ),
              ),
            ),
          ),
        ),
      );
      seen = tt;
    }

pub last_first_is_not : IsInOneOrder 0 waiters_session last_waiter_first [] → ⊥
unfolding is_masked trigger_of idle_of is_cut window window_output script
last_first_is_not h = let k = h.turns.1.1.1.1.1.1.1.0.by_turn in absurd (cc)

pub both_told_is_not : IsInOneOrder 0 waiters_session both_told [] → ⊥
unfolding is_masked trigger_of idle_of is_cut window window_output script
both_told_is_not h = let k = h.turns.1.1.1.1.1.1.1.1.0.by_turn in absurd (cc)

pub early_tick_is_not : IsInOneOrder 0 waiters_session early_tick [] → ⊥
unfolding is_masked trigger_of idle_of is_cut window window_output script
early_tick_is_not h = let k = h.turns.1.1.1.0.by_turn in absurd (cc)
