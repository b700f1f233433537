use Rattle.std.proofs.Common.{◌≡◌, ◌-◌, ◌≤◌, length, drop}
use Rattle.n_slip.specs.Discipline.{after_characters, counts_after_characters}
use Rattle.n_slip.proofs.discipline.NSlip.receive_all.Given as goal

abbrev pub invariant-loop-done : goal.invariant-loop-done
invariant-loop-done l =
    record {
      bound : l.done ≤ length l.chars;
      after : after_characters l.self (drop l.done l.chars) ≡ after_characters l.initial.self l.chars;
      counts : counts_after_characters l.self (drop l.done l.chars) l.tally.counts
          ≡ counts_after_characters l.initial.self l.chars l.initial.tally.counts;
      signals : l.tally.signals ≡ l.initial.tally.signals;
    }

abbrev pub decreases-loop-done : goal.decreases-loop-done
decreases-loop-done l = length l.chars - l.done
