use Rattle.std.proofs.Common.{[], inl, inr, ap, subst}
use Rattle.std.proofs.lemmas.Result.{err_from_is_err_and}
use Rattle.tty_calls.specs.Plain.{answer_of, call_of}
use Rattle.port_core.specs.Attempts.{tried_of}
use Rattle.port_core.specs.declared.ports.attempting.Tried.{Tried}
use Rattle.one_thread.specs.Acts.{TriesCall}
use Rattle.modem_one.proofs.Taking.{in_call_at, known_next, few_next, stops_with, takes_waiting}
use Rattle.modem_one.proofs.Taking.{takes_answered}
use Rattle.modem_one.proofs.acts.take_plain.Goals as goal

pub try_call-requires : goal.try_call-requires
try_call-requires g c = in_call_at g.frame c.args.roles.now c.args.port.now c.args.desk.now c.args.stand c.args.place
    (call_of c.args.call.now) c.requires.0 c.requires.1.0 c.requires.1.1.0 c.requires.1.1.1

pub returns-in_err-tried-clause-err : goal.returns-in_err-tried-clause-err
returns-in_err-tried-clause-err g c =
    let p = err_from_is_err_and c.from_residual.result c.from_residual.ensures.1 in
    rw (p.1, p.2) (stops_with g.frame c.args.roles.now c.in_err-tried.field-0.0 c.args.port.now c.try_call.new.port
    c.args.desk.now c.args.stand [] c.requires.1.0.playing c.in_err-tried.ensures.err)

pub pass-requires-clause-known : goal.pass-requires-clause-known
pass-requires-clause-known g c =
    known_next g.frame c.args.roles.now c.args.desk.now c.args.place _ _ c.requires.1.1.1

pub pass-requires-clause-few : goal.pass-requires-clause-few
pass-requires-clause-few g c =
    few_next g.frame c.args.roles.now c.args.desk.now c.args.place _ _ c.requires.1.1.1

pub returns-in_ok-pass-in-Done-clause-ok : goal.returns-in_ok-pass-in-Done-clause-ok
returns-in_ok-pass-in-Done-clause-ok g c =
    takes_answered g.frame c.args.roles.now c.args.port.now c.try_call.new.port c.args.desk.now c.pass.new.self
    c.args.stand _ c.args.place (call_of c.args.call.now) (answer_of c.in-Done.answer) c.has_live-was_live.result _
    c.requires.0 c.requires.1.0 c.requires.1.1.0 c.requires.1.1.1 c.journal-before.ensures.port
    c.journal-behind.ensures.port c.has_live-was_live.ensures
    (subst (λ (t : Tried).
    TriesCall c.args.roles.now c.args.port.now c.try_call.new.port c.args.place (call_of c.args.call.now) (tried_of t))
    c.in-Done.is c.in_ok-tried.ensures.tried)
    c.in_ok-tried.ensures.ok c.in_ok-pass-in-Done.ensures.ok

pub returns-in-Part-clause-ok : goal.returns-in-Part-clause-ok
returns-in-Part-clause-ok g c =
    takes_waiting g.frame c.args.roles.now c.args.port.now c.try_call.new.port c.args.desk.now c.args.stand _
    c.args.place (call_of c.args.call.now) _ c.requires.0 c.requires.1.0 c.requires.1.1.0 c.requires.1.1.1
    c.in_ok-tried.ensures.open (inr (ap tried_of c.in-Part.is)) c.in_ok-tried.ensures.tried c.in_ok-tried.ensures.ok

pub returns-in-MustWait-clause-ok : goal.returns-in-MustWait-clause-ok
returns-in-MustWait-clause-ok g c =
    takes_waiting g.frame c.args.roles.now c.args.port.now c.try_call.new.port c.args.desk.now c.args.stand _
    c.args.place (call_of c.args.call.now) _ c.requires.0 c.requires.1.0 c.requires.1.1.0 c.requires.1.1.1
    c.in_ok-tried.ensures.open (inl (ap tried_of c.in-MustWait.is)) c.in_ok-tried.ensures.tried
    c.in_ok-tried.ensures.ok
