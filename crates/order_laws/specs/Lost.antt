-- What is lost in the order of one thread: which characters are overruns, and what they have seen.
use Rattle.std.specs.Prelude.{◌≡◌, ◌+◌, ◌-◌, ℕ, zero, suc, List, [], ◌∷◌, ◌++◌, length}
use Rattle.tty_base.specs.declared.lines.Overrun.{Overrun}
use Rattle.tty_calls.specs.declared.journals.PortRun.{PortRun}
use Rattle.tty_calls.specs.Plain.{PlainEntry}
use Rattle.tty_calls.specs.Sessions.{PlainSession}
use Rattle.tty_terminal.specs.Runs.{chars_of}
use Rattle.legal_runs.specs.Legal.{received_before, before_line_end, flip_on}

-- so many overruns, one after the other, of a full buffer of this capacity, of which so many characters were taken
-- and before which so many were lost
abbrev pub overruns_after : (capacity taken lost count : ℕ) → List Overrun
overruns_after capacity taken lost zero = []
overruns_after capacity taken lost (suc count) =
    record { at = (taken + capacity) + lost; sent = taken + capacity; seen = taken }
    ∷ overruns_after capacity taken (lost + 1) count

-- so many characters were taken before the end of the line of phase k
abbrev pub taken_before_line_end : ℕ → List PlainEntry → ℕ
taken_before_line_end k journal = length (chars_of (before_line_end k journal))

-- how many of so many received characters exceed those taken, those that the buffer holds, and those lost before
abbrev pub excess : (received capacity taken lost : ℕ) → ℕ
excess received capacity taken lost = received - ((taken + capacity) + lost)

-- the overruns in the line of phase k, before which so many were lost
abbrev pub overruns_in : ℕ → PlainSession → List PlainEntry → (k lost : ℕ) → List Overrun
overruns_in p session journal k lost =
    overruns_after (flip_on p session) (taken_before_line_end k journal) lost
    (excess (received_before p session (k + 1)) (flip_on p session) (taken_before_line_end k journal) lost)

-- those in the lines of the first phases
abbrev pub overruns_before : ℕ → PlainSession → List PlainEntry → ℕ → List Overrun
overruns_before p session journal zero = []
overruns_before p session journal (suc k) =
    overruns_before p session journal k
    ++ overruns_in p session journal k (length (overruns_before p session journal k))

-- two runs of a port with the same entries and the same report of their line
pub record IsSameRun (run other : PortRun) : Type 0 where
  pub journal : run.journal.items ≡ other.journal.items
  pub overruns : run.line.overruns.items ≡ other.line.overruns.items
  pub arrived : run.line.arrived ≡ other.line.arrived
  pub fifo_lost : run.line.fifo_lost ≡ other.line.fifo_lost
  pub sent : run.line.sent ≡ other.line.sent
