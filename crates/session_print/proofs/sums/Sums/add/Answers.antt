use Rattle.std.proofs.Common.{rules}
use Rattle.session_print.proofs.sums.Sums.add.Goals as goal

pub returns-in-Hangup-clause-flushed : goal.returns-in-Hangup-clause-flushed
returns-in-Hangup-clause-flushed c = search rules steps 100000

pub returns-in-Hangup-clause-dropped : goal.returns-in-Hangup-clause-dropped
returns-in-Hangup-clause-dropped c = search rules steps 100000
