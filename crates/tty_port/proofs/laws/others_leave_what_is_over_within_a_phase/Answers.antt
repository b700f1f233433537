use Rattle.tty_port.proofs.PhaseLaws.{standing_in_phase, line_in_phase, clock_in_phase}
use Rattle.tty_port.proofs.laws.others_leave_what_is_over_within_a_phase.Goals as goal

pub returns-clause-standing : goal.returns-clause-standing
returns-clause-standing c = standing_in_phase

pub returns-clause-line : goal.returns-clause-line
returns-clause-line c = line_in_phase

pub returns-clause-clock : goal.returns-clause-clock
returns-clause-clock c = clock_in_phase
