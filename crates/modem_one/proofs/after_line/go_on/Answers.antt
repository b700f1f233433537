use Rattle.std.proofs.lemmas.Result.{err_from_is_err_and}
use Rattle.calls_left.specs.Remaining.{any_call_of}
use Rattle.modem_one.proofs.LeftCalls.{place_at, next_of, between_call, less_call}
use Rattle.modem_one.proofs.after_line.go_on.Goals as goal

pub take_call-requires : goal.take_call-requires
take_call-requires g c = (
  c.requires.0.frame,
  (
    c.requires.0.at,
    (
      c.requires.1,
      next_of g.frame c.args.roles.now c.args.port.now c.args.desk.now c.args.stand c.args.calls.now
          c.args.items.now c.args.place _ (any_call_of c.in-Some.call) c.requires.0
          (place_at g.frame c.args.roles.now c.args.port.now c.args.desk.now c.args.stand c.args.place
          (record { number = 0; first = 0; place = 0 }) c.requires.1) c.in-Some.ensures,
    ),
  ),
)

pub take_last-requires : goal.take_last-requires
take_last-requires g c = (c.requires.0, (c.requires.1, c.in-None.ensures))

pub returns-in_err-taken-in-Some-clause-err : goal.returns-in_err-taken-in-Some-clause-err
returns-in_err-taken-in-Some-clause-err g c =
    let p = err_from_is_err_and c.from_residual.result c.from_residual.ensures.1 in
    rw (p.1, p.2) c.in_err-taken-in-Some.ensures.err

pub returns-in_ok-taken-in-Some-clause-ok : goal.returns-in_ok-taken-in-Some-clause-ok
returns-in_ok-taken-in-Some-clause-ok g c =
    between_call g.frame c.args.roles.now c.args.port.now c.take_call.new.port c.args.desk.now c.take_call.new.desk
    c.args.stand c.args.calls.now c.pass_if.new.calls c.args.items.now c.args.place _ (any_call_of c.in-Some.call)
    c.in_ok-taken-in-Some.taken c.requires.0
    (place_at g.frame c.args.roles.now c.args.port.now c.args.desk.now c.args.stand c.args.place
    (record { number = 0; first = 0; place = 0 }) c.requires.1) c.in-Some.ensures
    c.in_ok-taken-in-Some.ensures.ok c.pass_if.ensures

pub returns-in_ok-taken-in-Some-clause-less : goal.returns-in_ok-taken-in-Some-clause-less
returns-in_ok-taken-in-Some-clause-less g c =
    less_call g.frame c.args.roles.now c.args.port.now c.take_call.new.port c.args.desk.now c.take_call.new.desk
    c.args.calls.now c.pass_if.new.calls c.args.items.now c.args.place (any_call_of c.in-Some.call)
    c.in_ok-taken-in-Some.taken c.in-Some.ensures c.in_ok-taken-in-Some.ensures.ok c.pass_if.ensures
