use Rattle.vt_threads.proofs.PartedMade.{put_whole}
use Rattle.vt_threads.proofs.parting.put_together.Goals as goal

pub returns-in-Shared-clause-whole : goal.returns-in-Shared-clause-whole
returns-in-Shared-clause-whole c =
    put_whole c.whole_shared.result c.args.port c.args.seats c.args.own c.args.line c.args.end c.args.standing
    c.in-Shared.session c.taken-shared.result c.taken-seats.result c.taken-own.result
    c.in-Shared.is c.taken-shared.ensures c.taken-seats.ensures c.taken-own.ensures c.whole_shared.ensures.comes
