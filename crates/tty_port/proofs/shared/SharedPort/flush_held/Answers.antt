use Rattle.std.proofs.Common.{ℕ, ◌+◌, rules, sym, subst, arith}
use Rattle.port_core.specs.declared.ports.flushing.Flushed.TheVariants as outcome
use Rattle.port_cell.specs.Word.{generation_in}
use Rattle.port_cell.specs.Knowledge.{list_seen, last_word}
use Rattle.tty_port.specs.Flushing.{GoesOnAt}
use Rattle.tty_port.specs.Going.{FlushTurns}
use Rattle.tty_port.specs.Shared.{name_of_port}
use Rattle.tty_port.proofs.FlushSteps.{flush_more, flush_none, longer}
use Rattle.tty_port.proofs.Outcomes.{at_ok}
use Rattle.tty_port.proofs.shared.SharedPort.flush_held.Goals as goal

pub loop-preserved : goal.loop-preserved
loop-preserved g c =
    let name = name_of_port c.args.self.now in
    let mid = c.loop.seat in
    let new = c.flush_once.new.seat in
    let inv = c.loop.invariant in
    let t : FlushTurns name c.args.run c.loop.part (generation_in (last_word mid)) mid new
    (outcome.Took c.in-Ok-Took.taken) =
    at_ok c.flush_once.result c.in-Ok-Took.field-0 _ _ c.in-Ok-Took.is
    c.in-Ok-Took.field-0-is c.flush_once.ensures.flushed in
    let refs = c.flush_once.ensures.references in
    let within = longer _ mid new c.loop.part t.0 inv.within in
    let most = t.3 in
    record {
      next = tt;
      finite = tt;
      seat = c.flush_once.ensures.seat;
      references = search rules steps 1000000;
      so_far = flush_more name c.args.run c.loop.part c.loop.count c.in-Ok-Took.taken
          c.args.seat.now mid new inv.so_far t refs.word refs.installs;
      piece = subst (λ (w : ℕ). GoesOnAt c.args.run (c.loop.part + 1) (generation_in w) (list_seen new)) (sym refs.word)
          t.1;
      bounded = omega arith;
      within = within;
    }

pub returns-in-Ok-Nothing-clause-ok : goal.returns-in-Ok-Nothing-clause-ok
returns-in-Ok-Nothing-clause-ok g c =
    let name = name_of_port c.args.self.now in
    let mid = c.loop.seat in
    let new = c.flush_once.new.seat in
    let inv = c.loop.invariant in
    let t : FlushTurns name c.args.run c.loop.part (generation_in (last_word mid)) mid new outcome.Nothing =
    at_ok c.flush_once.result c.in-Ok-Nothing.field-0 _ _ c.in-Ok-Nothing.is
    c.in-Ok-Nothing.field-0-is c.flush_once.ensures.flushed in
    let refs = c.flush_once.ensures.references in (
      c.loop.part,
      flush_none name c.args.run c.loop.part c.loop.count c.args.seat.now
          mid new inv.so_far t.0 t.1 refs.word refs.installs,
    )

pub returns-in-Err-clause-err : goal.returns-in-Err-clause-err
returns-in-Err-clause-err g c =
    let name = name_of_port c.args.self.now in
    let mid = c.loop.seat in
    let new = c.flush_once.new.seat in
    let inv = c.loop.invariant in
    let refs = c.flush_once.ensures.references in (
      c.loop.part,
      c.loop.count,
      flush_none name c.args.run c.loop.part c.loop.count c.args.seat.now mid new inv.so_far c.in-Err.ensures.err
          c.in-Err.ensures.next refs.word refs.installs,
    )
