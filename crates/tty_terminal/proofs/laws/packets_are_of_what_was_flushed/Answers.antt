use Rattle.tty_terminal.proofs.HappenedLaws.{run_packets}
use Rattle.tty_terminal.proofs.laws.packets_are_of_what_was_flushed.Goals as goal

pub returns : goal.returns
returns c = run_packets
