use Rattle.modem_one.proofs.Taking.{known_next, few_next, takes_own}
use Rattle.modem_one.proofs.acts.take_own.Goals as goal

pub control-requires-clause-known : goal.control-requires-clause-known
control-requires-clause-known g c =
    known_next g.frame c.args.roles.now c.args.desk.now c.args.place _ _ c.requires.1.1

pub control-requires-clause-few : goal.control-requires-clause-few
control-requires-clause-few g c =
    few_next g.frame c.args.roles.now c.args.desk.now c.args.place _ _ c.requires.1.1

pub returns-clause-ok : goal.returns-clause-ok
returns-clause-ok g c =
    takes_own g.frame c.args.roles.now c.args.port.now c.args.desk.now c.control.new.self c.args.stand c.args.place
    c.args.call _ c.requires.0 c.requires.1.0 c.known.ensures.port c.requires.1.1 c.in_ok-control.ensures.ok
