use Rattle.std.proofs.Common.{[], refl}
use Rattle.std.proofs.lemmas.Result.{err_from_is_err_and}
use Rattle.one_thread.specs.declared.after_line.Turn.TheVariants as turn
use Rattle.modem_one.specs.declared.turns.Next.TheVariants as next
use Rattle.modem_one.proofs.Taking.{can_flush, in_turn_at, stops_with, takes_turn}
use Rattle.modem_one.proofs.acts.take_flush.Goals as goal

pub flush-requires : goal.flush-requires
flush-requires g c =
    in_turn_at g.frame c.args.roles.now c.args.port.now c.args.desk.now c.args.stand turn.Flush c.requires.0
    (can_flush g.frame c.args.roles.now c.args.port.now c.args.desk.now c.args.stand c.requires.0 c.requires.1)

pub returns-in_err-now-clause-err : goal.returns-in_err-now-clause-err
returns-in_err-now-clause-err g c =
    let p = err_from_is_err_and c.from_residual.result c.from_residual.ensures.1 in
    rw (p.1, p.2) (stops_with g.frame c.args.roles.now c.in_err-now.field-0.0 c.args.port.now c.flush.new.port
    c.args.desk.now c.args.stand [] c.requires.0.playing c.in_err-now.ensures.err)

pub returns-clause-ok : goal.returns-clause-ok
returns-clause-ok g c =
    takes_turn g.frame c.args.roles.now c.args.port.now c.flush.new.port c.args.desk.now c.args.stand c.in_ok-now.now
    next.Flush turn.Flush c.requires.0 c.requires.1
    (can_flush g.frame c.args.roles.now c.args.port.now c.args.desk.now c.args.stand c.requires.0 c.requires.1) refl
    (λ c. refl) c.in_ok-now.ensures.ok c.in_ok-now.ensures.adds c.in_ok-now.ensures.open
