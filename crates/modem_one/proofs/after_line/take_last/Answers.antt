use Rattle.std.proofs.Common.{[]}
use Rattle.std.proofs.lemmas.Result.{err_from_is_err_and}
use Rattle.modem_one.proofs.LeftCalls.{place_at}
use Rattle.modem_one.proofs.Ending.{in_last_at, between_last, less_last}
use Rattle.modem_one.proofs.Taking.{stops_with}
use Rattle.modem_one.proofs.after_line.take_last.Goals as goal

pub end_calls-requires : goal.end_calls-requires
end_calls-requires g c =
    in_last_at g.frame c.args.roles.now c.args.port.now c.args.desk.now c.args.stand
    c.args.calls.now c.args.items.now c.args.place _ c.requires.0 c.requires.1.0
    (place_at g.frame c.args.roles.now c.args.port.now c.args.desk.now c.args.stand c.args.place
    (record { number = 0; first = 0; place = 0 }) c.requires.1.0) c.requires.1.1

pub returns-in_err-now-clause-err : goal.returns-in_err-now-clause-err
returns-in_err-now-clause-err g c =
    let p = err_from_is_err_and c.from_residual.result c.from_residual.ensures.1 in
    rw (p.1, p.2) (stops_with g.frame c.args.roles.now c.in_err-now.field-0.0 c.args.port.now c.end_calls.new.port
    c.args.desk.now c.args.stand [] c.requires.0.at.playing c.in_err-now.ensures.err)

pub returns-clause-ok : goal.returns-clause-ok
returns-clause-ok g c =
    between_last g.frame c.args.roles.now c.args.port.now c.end_calls.new.port c.args.desk.now c.args.stand
    c.in_ok-now.now c.args.calls.now c.args.items.now c.args.place _ c.requires.0 c.requires.1.0
    (place_at g.frame c.args.roles.now c.args.port.now c.args.desk.now c.args.stand c.args.place
    (record { number = 0; first = 0; place = 0 }) c.requires.1.0) c.requires.1.1
    c.in_ok-now.ensures.ended c.in_ok-now.ensures.ok

pub returns-clause-less : goal.returns-clause-less
returns-clause-less g c =
    less_last g.frame c.args.roles.now c.args.port.now c.end_calls.new.port c.args.desk.now c.args.stand
    c.in_ok-now.now c.args.calls.now c.args.items.now c.args.place _ c.requires.0 c.requires.1.0
    (place_at g.frame c.args.roles.now c.args.port.now c.args.desk.now c.args.stand c.args.place
    (record { number = 0; first = 0; place = 0 }) c.requires.1.0) c.requires.1.1
    c.in_ok-now.ensures.ended c.in_ok-now.ensures.ok c.in_ok-now.ensures.open
