use Rattle.std.proofs.Common.{◌∙◌, sym}
use Rattle.std.proofs.lemmas.Result.{err_from_is_err_and}
use Rattle.passed_calls.specs.Scripts.{further}
use Rattle.job_one.proofs.FlushTurns.{memory_at}
use Rattle.job_one.proofs.NextCalls.{known_next, few_next, caller_next, exists_next}
use Rattle.job_one.proofs.HangUps.{is_controlled, takes_controlled, hangs_controlled, takes_hung_up}
use Rattle.job_one.proofs.turns.take_own.Goals as goal

pub control-requires-clause-known : goal.control-requires-clause-known
control-requires-clause-known g c =
    known_next g.frame c.args.roles.now c.args.desk.now c.args.place (further c.args.call) _ c.requires.1.1.1

pub control-requires-clause-few : goal.control-requires-clause-few
control-requires-clause-few g c =
    few_next g.frame c.args.roles.now c.args.desk.now c.args.place (further c.args.call) _ c.requires.1.1.1

pub control-requires-clause-caller : goal.control-requires-clause-caller
control-requires-clause-caller g c =
    caller_next g.frame c.args.roles.now c.args.desk.now c.args.place (further c.args.call) _ c.requires.1.1.1

pub control-requires-clause-proc : goal.control-requires-clause-proc
control-requires-clause-proc g c =
    exists_next g.frame c.args.roles.now c.args.desk.now c.args.place (further c.args.call) _ c.requires.1.1.1

pub returns-in_err-due-clause-err : goal.returns-in_err-due-clause-err
returns-in_err-due-clause-err g c =
    let p = err_from_is_err_and c.from_residual.result c.from_residual.ensures.1 in
    rw (p.1, p.2) (memory_at g.frame c.args.roles.now c.in_err-due.field-0.0
    c.args.port.now c.control.new.self c.in_err-due.ensures.err)

pub hang_up-requires : goal.hang_up-requires
hang_up-requires g c = (
  c.requires.1.1.0,
  hangs_controlled g.frame c.args.roles.now c.args.port.now c.args.desk.now c.control.new.self c.args.stand c.args.place
      c.in-Some.h c.args.call c.in_ok-due.due c.requires.0 c.requires.1.0 c.requires.1.1.0
      c.known.ensures.port c.requires.1.1.1
      (is_controlled g.frame c.args.roles.now c.args.port.now c.args.desk.now c.control.new.self c.args.stand
      c.args.place c.args.call _ c.in_ok-due.due c.requires.1.0 c.requires.1.1.0 c.known.ensures.port
      c.requires.1.1.1 c.in_ok-due.ensures.due c.in_ok-due.ensures.ok)
      (sym c.hangup_through.ensures ∙ c.in-Some.is),
)

pub returns-in_ok-now-in-Some-clause-ok : goal.returns-in_ok-now-in-Some-clause-ok
returns-in_ok-now-in-Some-clause-ok g c =
    takes_hung_up g.frame c.args.roles.now c.args.port.now c.hang_up.new.port c.args.desk.now c.control.new.self
    c.hang_up.new.desk c.args.stand _ c.args.place (further c.args.call) c.in_ok-due.due c.requires.1.1.1
    (is_controlled g.frame c.args.roles.now c.args.port.now c.args.desk.now c.control.new.self c.args.stand c.args.place
    c.args.call _ c.in_ok-due.due c.requires.1.0 c.requires.1.1.0 c.known.ensures.port c.requires.1.1.1
    c.in_ok-due.ensures.due c.in_ok-due.ensures.ok)
    c.in_ok-now-in-Some.ensures.ok

pub returns-in-None-clause-ok : goal.returns-in-None-clause-ok
returns-in-None-clause-ok g c =
    takes_controlled g.frame c.args.roles.now c.args.port.now c.args.desk.now c.control.new.self c.args.stand
    c.args.place (further c.args.call) c.in_ok-due.due c.requires.1.1.1
    (is_controlled g.frame c.args.roles.now c.args.port.now c.args.desk.now c.control.new.self c.args.stand c.args.place
    c.args.call _ c.in_ok-due.due c.requires.1.0 c.requires.1.1.0 c.known.ensures.port c.requires.1.1.1
    c.in_ok-due.ensures.due c.in_ok-due.ensures.ok)
    (sym c.hangup_through.ensures ∙ c.in-None.is)
