use Rattle.std.proofs.Common.{rules, arith}
use Rattle.std.proofs.lemmas.Grind.{common_steps}
use Rattle.std.proofs.lemmas.List.{take_rest}
use Rattle.tty_base.proofs.Told.{written_more}
use Rattle.tty_base.proofs.sinks.write_all.Goals as goal

pub loop-at-preserved : goal.loop-at-preserved
loop-at-preserved g c =
    let given = g.K.Sink.given in
    record {
      count = omega (arith, c.in-Ok.ensures.count);
      within = search rules;
      written = written_more (given c.args.sink.now) (given c.loop-at.sink) (given c.write.new.self) c.args.bytes.now _
          c.loop-at.at c.in-Ok.count (take_rest c.args.bytes.now c.loop-at.at)
          c.loop-at.invariant.written c.in-Ok.ensures.takes;
    }

pub returns-clause-whole : goal.returns-clause-whole
returns-clause-whole g c = grind (arith, common_steps) steps 1000000
