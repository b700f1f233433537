use Rattle.std.proofs.Common.{◌<◌, subst}
use Rattle.std.proofs.lemmas.Result.{IfOk-weaker}
use Rattle.one_thread.specs.declared.after_line.Turn.{Turn}
use Rattle.job_one.specs.Frames.{IsNextTurn}
use Rattle.order_laws.specs.Left.{turns_left}
use Rattle.job_one.specs.Taken.{IsBetweenTurns, TakesNoCall}
use Rattle.job_one.proofs.LeftCalls.{between_turn, less_turn}
use Rattle.job_one.proofs.after_line.play_turn.Goals as goal

pub take_flush-requires : goal.take_flush-requires
take_flush-requires g c = (
  c.requires.0.at,
  subst (λ (n : Turn). IsNextTurn g.frame c.args.roles.now c.args.port.now c.args.stand n) c.in-Flush.is c.requires.1.0,
)

pub returns-in-Flush-clause-ok : goal.returns-in-Flush-clause-ok
returns-in-Flush-clause-ok g c =
    IfOk-weaker c.take_flush.result (λ now.
    TakesNoCall g.frame c.args.roles.now c.args.port.now c.take_flush.new.port c.args.desk.now c.take_flush.new.desk
    now)
    (λ now. IsBetweenTurns g.frame c.args.roles.now c.take_flush.new.port c.take_flush.new.desk now c.args.calls.now)
    (λ now t. between_turn g.frame c.args.roles.now c.args.port.now c.take_flush.new.port c.args.desk.now
    c.take_flush.new.desk c.args.stand now c.args.calls.now c.requires.0 t) c.take_flush.ensures.ok

pub returns-in-Flush-clause-less : goal.returns-in-Flush-clause-less
returns-in-Flush-clause-less g c =
    IfOk-weaker c.take_flush.result (λ now.
    TakesNoCall g.frame c.args.roles.now c.args.port.now c.take_flush.new.port c.args.desk.now c.take_flush.new.desk
    now)
    (λ now. turns_left c.take_flush.new.port c.args.calls.now < turns_left c.args.port.now c.args.calls.now)
    (λ now t. less_turn g.frame c.args.roles.now c.args.port.now c.take_flush.new.port c.args.calls.now t.gone)
    c.take_flush.ensures.ok

pub go_on-requires : goal.go_on-requires
go_on-requires g c = (
  c.requires.0,
  subst (λ (n : Turn). IsNextTurn g.frame c.args.roles.now c.args.port.now c.args.stand n) c.in-Call.is c.requires.1.0,
)

pub take_pass-requires : goal.take_pass-requires
take_pass-requires g c = (
  c.requires.0.at,
  subst (λ (n : Turn). IsNextTurn g.frame c.args.roles.now c.args.port.now c.args.stand n) c.in-Pass.is c.requires.1.0,
)

pub returns-in-Pass-clause-ok : goal.returns-in-Pass-clause-ok
returns-in-Pass-clause-ok g c =
    IfOk-weaker c.take_pass.result
    (λ now. TakesNoCall g.frame c.args.roles.now c.args.port.now c.take_pass.new.port c.args.desk.now c.args.desk.now
    now)
    (λ now. IsBetweenTurns g.frame c.args.roles.now c.take_pass.new.port c.args.desk.now now c.args.calls.now)
    (λ now t. between_turn g.frame c.args.roles.now c.args.port.now c.take_pass.new.port c.args.desk.now c.args.desk.now
    c.args.stand now c.args.calls.now c.requires.0 t) c.take_pass.ensures.ok

pub returns-in-Pass-clause-less : goal.returns-in-Pass-clause-less
returns-in-Pass-clause-less g c =
    IfOk-weaker c.take_pass.result
    (λ now. TakesNoCall g.frame c.args.roles.now c.args.port.now c.take_pass.new.port c.args.desk.now c.args.desk.now
    now)
    (λ now. turns_left c.take_pass.new.port c.args.calls.now < turns_left c.args.port.now c.args.calls.now)
    (λ now t. less_turn g.frame c.args.roles.now c.args.port.now c.take_pass.new.port c.args.calls.now t.gone)
    c.take_pass.ensures.ok
