use Rattle.std.proofs.Common.{[], arith, sym, ◌∙◌}
use Rattle.modem_one.specs.Desk.{state_at}
use Rattle.modem_one.specs.Turns.{port_now, is_so}
use Rattle.modem_one.proofs.Asking.{found, none_found}
use Rattle.modem_one.proofs.turns.first_of.Goals as goal

pub returns-then-is_so : goal.returns-then-is_so
returns-then-is_so g c =
    found (is_so c.args.asked (port_now g.frame.first.port g.frame.session c.args.port.now)
    (state_at c.args.desk.now 0 []) c.args.port.now.terminal) c.args.roles.now _ c.loop-place.place c.requires.many
    (omega (arith, c.loop-place-test.true)) (sym c.is_so.ensures ∙ c.if-is_so.true) c.loop-place.invariant

pub returns : goal.returns
returns g c =
    none_found (is_so c.args.asked (port_now g.frame.first.port g.frame.session c.args.port.now)
    (state_at c.args.desk.now 0 []) c.args.port.now.terminal) c.args.roles.now _ c.loop-place.place c.requires.many
    (omega (arith, c.loop-place-test.false)) c.loop-place.invariant
