use Rattle.tty_terminal.proofs.WaitLaws.{run_waits, run_parts}
use Rattle.tty_terminal.proofs.laws.who_waits_has_begun.Goals as goal

pub returns : goal.returns
returns c = record { waits = run_waits; parts = run_parts }
