use Rattle.modem_one.proofs.Ending.{told_place, told_known, between_told, less_told}
use Rattle.modem_one.proofs.after_line.tell.Goals as goal

pub tell-requires : goal.tell-requires
tell-requires g c =
    let its = told_known g.frame c.args.roles.now c.args.port.now c.args.desk.now c.args.stand c.args.calls.now
    c.args.items.now c.args.place _ c.requires.0 c.requires.1
    (told_place g.frame c.args.roles.now c.args.port.now c.args.desk.now c.args.stand c.args.place
    (record { number = 0; first = 0; place = 0 }) c.requires.1) in
    record { known = its.0; few = its.1 }

pub returns-clause-ok : goal.returns-clause-ok
returns-clause-ok g c =
    between_told g.frame c.args.roles.now c.args.port.now c.args.desk.now c.tell.new.self c.args.stand
    c.args.calls.now c.pass.new.self c.args.items.now c.args.place _ c.requires.0 c.requires.1 c.known.ensures.port
    (told_place g.frame c.args.roles.now c.args.port.now c.args.desk.now c.args.stand c.args.place
    (record { number = 0; first = 0; place = 0 }) c.requires.1) c.in_ok-tell.ensures.ok c.pass.ensures

pub returns-clause-less : goal.returns-clause-less
returns-clause-less g c =
    less_told g.frame c.args.roles.now c.args.port.now c.args.desk.now c.args.stand
    c.args.calls.now c.pass.new.self c.args.items.now c.args.place _ c.requires.0 c.requires.1
    (told_place g.frame c.args.roles.now c.args.port.now c.args.desk.now c.args.stand c.args.place
    (record { number = 0; first = 0; place = 0 }) c.requires.1) c.pass.ensures
