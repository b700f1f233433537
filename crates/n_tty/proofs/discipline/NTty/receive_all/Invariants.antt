use Rattle.std.proofs.Common.{◌≡◌, ◌+◌, ◌-◌, ◌*◌, ◌≤◌, length, take}
use Rattle.tty_base.specs.Sizes.{COLUMNS_OF_CHARACTER}
use Rattle.n_tty.specs.States.{on_port, FitsModes}
use Rattle.n_tty.specs.Spending.{pending_count}
use Rattle.n_tty.specs.Runs.{after_characters, AcceptsAll}
use Rattle.n_tty.proofs.discipline.NTty.receive_all.Given as goal

abbrev pub invariant-loop-done : goal.invariant-loop-done
invariant-loop-done l =
    record {
      bound : l.done ≤ length l.chars;
      after : on_port l.self l.wire l.tally
          ≡ after_characters l.modes l.now (take l.done l.chars)
          (on_port l.initial.self l.initial.wire l.initial.tally);
      accepted : AcceptsAll l.modes l.now (take l.done l.chars) (on_port l.initial.self l.initial.wire l.initial.tally);
      fits : FitsModes l.modes l.self;
      spent : l.initial.wire.spare + pending_count l.self l.wire
          ≤ l.wire.spare + (pending_count l.initial.self l.initial.wire + 41 * l.done);
      signals : l.initial.tally.signals.spare ≤ l.tally.signals.spare + l.done;
      moved : l.self.column ≤ l.initial.self.column + COLUMNS_OF_CHARACTER * l.done;
      past : l.initial.self.last ≤ l.now → l.self.last ≤ l.now;
    }

abbrev pub decreases-loop-done : goal.decreases-loop-done
decreases-loop-done l = length l.chars - l.done
