use Rattle.std.proofs.Common.{◌-◌, sym, subst}
use Rattle.one_thread.specs.Turns.{role_numbers, TakesTurn}
use Rattle.one_thread.specs.declared.after_line.Stand.{Stand}
use Rattle.one_thread.specs.declared.after_line.Turn.TheVariants as turn
use Rattle.one_thread.proofs.Possible.{pass_view}
use Rattle.one_thread.proofs.Orders.{plays_turn}
use Rattle.one_thread.proofs.Passing.{clock_over_more, tick_more}
use Rattle.one_thread.proofs.Trying.{adds_by}
use Rattle.one_thread.proofs.after_line.pass.Goals as goal

pub clock_end-requires : goal.clock_end-requires
clock_end-requires c =
    (pass_view c.args.port.now (role_numbers c.args.roles.now) c.args.stand.going c.requires.possible).1

pub tick-requires : goal.tick-requires
tick-requires c = (pass_view c.args.port.now (role_numbers c.args.roles.now) c.args.stand.going c.requires.possible).1

pub returns-then-stand-eq0-clause-ok : goal.returns-then-stand-eq0-clause-ok
returns-then-stand-eq0-clause-ok c =
    plays_turn c.args.roles.now c.args.port.now c.clock_end.new.self c.args.stand c.rest.result turn.Pass
    (λ h.
    subst (λ (r : Stand).
    TakesTurn h.scene h.scripts c.args.roles.now c.args.port.now c.clock_end.new.self c.args.stand r turn.Pass)
    (sym c.rest.ensures)
    (clock_over_more h.scene h.scripts c.args.roles.now c.args.port.now c.clock_end.new.self c.args.stand h.plays
    h.possible c.if-stand-eq0.true c.in_ok-clock_end.ensures.ok))

pub returns-clause-ok : goal.returns-clause-ok
returns-clause-ok c =
    plays_turn c.args.roles.now c.args.port.now c.tick.new.self c.args.stand
    (record {
      run = c.rest-2.result.run;
      part = c.rest-2.result.part;
      ticks = c.args.stand.ticks - 1;
      going = c.rest-2.result.going;
    }) turn.Pass
    (λ h. tick_more h.scene h.scripts c.args.roles.now c.args.port.now c.tick.new.self c.args.stand c.rest-2.result
    h.plays h.possible c.if-stand-eq0.false c.in_ok-tick.ensures.ok c.rest-2.ensures)

pub returns-then-stand-eq0-clause-adds : goal.returns-then-stand-eq0-clause-adds
returns-then-stand-eq0-clause-adds c = adds_by c.args.port.now c.clock_end.new.self _ _ c.in_ok-clock_end.ensures.ok

pub returns-clause-adds : goal.returns-clause-adds
returns-clause-adds c = adds_by c.args.port.now c.tick.new.self _ _ c.in_ok-tick.ensures.ok
