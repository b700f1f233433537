use Rattle.many_threads.specs.PhaseEnds.{IsEndBy}
use Rattle.many_threads.proofs.Gathering.{taken_of}
use Rattle.many_threads.proofs.Onward.{at_ok}
use Rattle.many_threads.proofs.shared_phase.take_together.Goals as goal

pub returns : goal.returns
returns c =
    taken_of c.args.back c.in_ok-back.back c.args.session c.in_ok-back.end c.in_ok-back.ensures.kept
    (at_ok c.end_by-end.result c.in_ok-back.end (IsEndBy c.args.back) c.in_ok-back.ensures.made c.end_by-end.ensures)
