use Rattle.std.proofs.Common.{[], ◌∷◌}
use Rattle.std.proofs.lemmas.Result.{err_from_is_err_and}
use Rattle.modem_one.proofs.Taking.{in_hangup, stops_with, takes_hangup}
use Rattle.modem_one.proofs.acts.hang_up.Goals as goal

pub try_call-requires : goal.try_call-requires
try_call-requires g c =
    in_hangup g.frame c.args.roles.now c.args.port.now c.args.desk.now c.args.stand c.args.h c.requires

pub returns-in_err-_tried-clause-err : goal.returns-in_err-_tried-clause-err
returns-in_err-_tried-clause-err g c =
    let p = err_from_is_err_and c.from_residual.result c.from_residual.ensures.1 in
    rw (p.1, p.2) (stops_with g.frame c.args.roles.now c.in_err-_tried.field-0.0 c.args.port.now c.try_call.new.port
    c.args.desk.now c.args.stand (c.args.h ∷ []) c.requires.playing c.in_err-_tried.ensures.err)

pub returns-clause-ok : goal.returns-clause-ok
returns-clause-ok g c =
    takes_hangup g.frame c.args.roles.now c.args.port.now c.try_call.new.port c.args.desk.now c.hang_up.new.self
    c.args.stand _ c.args.h _ c.requires c.in_ok-_tried.ensures.tried c.in_ok-_tried.ensures.ok
    c.in_ok-hang_up.ensures.ok
