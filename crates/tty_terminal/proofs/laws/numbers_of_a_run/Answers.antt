use Rattle.tty_terminal.proofs.Runs.{run_taken, run_in_line, run_within, run_capacity, run_callers, run_bounded}
use Rattle.tty_terminal.proofs.WaitLaws.{run_part_count}
use Rattle.tty_terminal.proofs.laws.numbers_of_a_run.Goals as goal

pub returns : goal.returns
returns c =
    record {
      taken = run_taken;
      in_line = run_in_line;
      within = run_within;
      capacity = run_capacity;
      callers = run_callers;
      generation = λ f counts capacity es u h. (run_bounded f counts capacity es u h).generation;
      tick = λ f counts capacity es u h. (run_bounded f counts capacity es u h).tick;
      phase = λ f counts capacity es u h. (run_bounded f counts capacity es u h).phase;
      next = λ f counts capacity es u h. (run_bounded f counts capacity es u h).next;
      parts = run_part_count;
    }
