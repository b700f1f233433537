use Rattle.tty_port.proofs.Keeping.{standing_kept, clock_kept, line_open_kept}
use Rattle.tty_port.proofs.FlushSteps.{run_kept}
use Rattle.tty_port.proofs.PhaseLaws.{phase_kept}
use Rattle.tty_port.proofs.laws.others_leave_what_is_open.Goals as goal

pub returns-clause-standing : goal.returns-clause-standing
returns-clause-standing c = standing_kept

pub returns-clause-run : goal.returns-clause-run
returns-clause-run c = run_kept

pub returns-clause-line : goal.returns-clause-line
returns-clause-line c = line_open_kept

pub returns-clause-clock : goal.returns-clause-clock
returns-clause-clock c = clock_kept

pub returns-clause-phase : goal.returns-clause-phase
returns-clause-phase c = phase_kept
