use Rattle.std.proofs.Common.{refl}
use Rattle.vt_threads.proofs.console_phase.share_console.Goals as goal

pub returns-clause-shut : goal.returns-clause-shut
returns-clause-shut c = record {
  met = c.meet.new.self;
  met_is = c.meet.ensures.port;
  meets = c.meet.ensures.putter;
  shared = c.in_ok-shared.ensures;
  line_is = refl;
}
