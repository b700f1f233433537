use Rattle.std.proofs.Common.{[], ◌∷◌}
use Rattle.std.proofs.lemmas.Result.{err_from_is_err_and}
use Rattle.job_text.specs.Events.{passed_down}
use Rattle.job_one.proofs.FlushTurns.{stops_with, memory_at}
use Rattle.job_one.proofs.HangUps.{in_hangup, takes_hangup}
use Rattle.job_one.proofs.turns.hang_up.Goals as goal

pub try_call-requires : goal.try_call-requires
try_call-requires g c = in_hangup g.frame c.args.roles.now c.args.port.now c.args.desk.now
    c.args.stand c.args.place c.args.h c.requires.1 c.requires.0

pub returns-in_err-_tried-clause-err : goal.returns-in_err-_tried-clause-err
returns-in_err-_tried-clause-err g c =
    let p = err_from_is_err_and c.from_residual.result c.from_residual.ensures.1 in
    rw (p.1, p.2) (stops_with g.frame c.args.roles.now c.in_err-_tried.field-0.0 c.args.port.now c.try_call.new.port
    c.args.desk.now c.args.stand (passed_down c.requires.1.role.number c.args.h ∷ [])
    c.requires.1.owing c.in_err-_tried.ensures.err)

pub returns-in_err-pass_down-clause-err : goal.returns-in_err-pass_down-clause-err
returns-in_err-pass_down-clause-err g c =
    let p = err_from_is_err_and c.from_residual-in_err-pass_down.result c.from_residual-in_err-pass_down.ensures.1 in
    rw (p.1, p.2) (memory_at g.frame c.args.roles.now c.in_err-pass_down.field-0.0 c.try_call.new.port
    c.pass_down.new.self c.in_err-pass_down.ensures.err)

pub returns-clause-ok : goal.returns-clause-ok
returns-clause-ok g c =
    takes_hangup g.frame c.args.roles.now c.args.port.now c.try_call.new.port c.args.desk.now c.pass_down.new.self
    c.args.stand _ c.args.place c.args.h _ _
    c.requires.1 c.requires.0 c.journal-before.ensures.port c.journal-behind.ensures.port c.in_ok-_tried.ensures.open
    c.in_ok-_tried.ensures.tried c.in_ok-_tried.ensures.ok c.in_ok-pass_down.ensures.ok
