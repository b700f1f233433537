use Rattle.std.proofs.Common.{◌≤◌, ◌<◌, length, arith}
use Rattle.vt_keyboard.specs.Consoles.{EndsAt}
use Rattle.vt_keyboard.proofs.Pairs.{pairs_none, pairs_more, pairs_all}
use Rattle.vt_keyboard.proofs.ConsoleEnds.{next_can}
use Rattle.vt_keyboard.proofs.console_ends.end_consoles.Goals as goal

pub loop-p-init : goal.loop-p-init
loop-p-init g c =
    record { within = omega arith; so_far = pairs_none (EndsAt c.args.ports.now) c.args.seats.now c.args.ends.now }

pub end_console_at-requires-clause-can : goal.end_console_at-requires-clause-can
end_console_at-requires-clause-can g c =
    let lt : c.loop-p.p < length c.args.ports.now = omega arith in
    next_can c.args.ports.now c.loop-p.p c.args.seats.now c.loop-p.seats c.args.ends.now c.loop-p.ends lt
    c.requires.ports c.requires.ends c.requires.can c.loop-p.invariant.so_far

pub end_console_at-requires-clause-seat : goal.end_console_at-requires-clause-seat
end_console_at-requires-clause-seat g c = omega (arith, c.loop-p.invariant.so_far.firsts, c.requires.ports)

pub end_console_at-requires-clause-end : goal.end_console_at-requires-clause-end
end_console_at-requires-clause-end g c =
    omega (arith, c.loop-p.invariant.so_far.seconds, c.requires.ends, c.requires.ports)

pub loop-p-preserved : goal.loop-p-preserved
loop-p-preserved g c =
    let lt : c.loop-p.p < length c.args.ports.now = omega arith in
    let inside : c.loop-p.p < length c.args.seats.now = omega (arith, lt, c.requires.ports) in
    record {
      within = omega (arith, lt);
      so_far = pairs_more (EndsAt c.args.ports.now) c.loop-p.p c.args.seats.now c.loop-p.seats
          c.end_console_at.new.seats c.args.ends.now c.loop-p.ends c.end_console_at.new.ends inside c.requires.ends
          c.loop-p.invariant.so_far c.end_console_at.ensures;
    }

pub returns : goal.returns
returns g c =
    let over : length c.args.ports.now ≤ c.loop-p.p = omega arith in
    let past : length c.args.seats.now ≤ c.loop-p.p = omega (arith, over, c.requires.ports) in
    pairs_all (EndsAt c.args.ports.now) c.loop-p.p c.args.seats.now c.loop-p.seats
    c.args.ends.now c.loop-p.ends past c.loop-p.invariant.so_far
