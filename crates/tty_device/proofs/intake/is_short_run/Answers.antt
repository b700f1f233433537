use Rattle.std.proofs.Common.{rules}
use Rattle.tty_device.proofs.intake.is_short_run.Goals as goal

pub returns-then-bytes-le-MOST_FLUSHED-clause-good : goal.returns-then-bytes-le-MOST_FLUSHED-clause-good
returns-then-bytes-le-MOST_FLUSHED-clause-good c = search rules steps 100000
