use Rattle.std.proofs.lemmas.Result.{err_from_is_err_and}
use Rattle.tty_calls.specs.Plain.{call_of}
use Rattle.passed_calls.specs.Scripts.{plain}
use Rattle.job_one.proofs.FlushTurns.{memory_at}
use Rattle.job_one.proofs.OwnTurns.{known_own, few_own, caller_own, stop_at}
use Rattle.job_one.proofs.turns.take_stop.Goals as goal

pub judge-judged-requires : goal.judge-judged-requires
judge-judged-requires g c = caller_own g.frame c.args.roles.now c.args.port.now c.args.desk.now c.args.place
    (plain (call_of c.args.call.now)) _ c.requires.1.1

pub stop-requires-clause-known : goal.stop-requires-clause-known
stop-requires-clause-known g c = known_own g.frame c.args.roles.now c.args.port.now c.args.desk.now c.args.place
    (plain (call_of c.args.call.now)) _ c.requires.1.1

pub stop-requires-clause-few : goal.stop-requires-clause-few
stop-requires-clause-few g c = few_own g.frame c.args.roles.now c.args.port.now c.args.desk.now c.args.place
    (plain (call_of c.args.call.now)) _ c.requires.1.1

pub stop-requires-clause-caller : goal.stop-requires-clause-caller
stop-requires-clause-caller g c = caller_own g.frame c.args.roles.now c.args.port.now c.args.desk.now c.args.place
    (plain (call_of c.args.call.now)) _ c.requires.1.1

pub returns-clause-ok : goal.returns-clause-ok
returns-clause-ok g c =
    stop_at g.frame c.args.roles.now c.args.port.now c.args.desk.now c.stop.new.self c.args.stand c.args.place
    (call_of c.args.call.now) _ c.judge-judged.result c.requires.0 c.requires.1.0 c.known.ensures.port
    c.requires.1.1 c.judge-judged.ensures c.in_ok-stop.ensures.ok

pub returns-in_err-stop-clause-err : goal.returns-in_err-stop-clause-err
returns-in_err-stop-clause-err g c =
    let p = err_from_is_err_and c.from_residual.result c.from_residual.ensures.1 in
    rw (p.1, p.2) (memory_at g.frame c.args.roles.now c.in_err-stop.field-0.0
    c.args.port.now c.stop.new.self c.in_err-stop.ensures.err)
