use Rattle.std.proofs.Common.{rules}
use Rattle.tty_base.proofs.standard.StdSinkSink.write.Goals as goal

pub returns-in-Ok-clause-takes : goal.returns-in-Ok-clause-takes
returns-in-Ok-clause-takes g c = search rules steps 300000
