use Rattle.std.proofs.Common.{List, sym, subst, arith}
use Rattle.std.proofs.lemmas.List.{length-map, take_all}
use Rattle.std.proofs.lemmas.Result.{err_from_is_err_and}
use Rattle.tty_base.specs.Characters.{good_characters}
use Rattle.tty_base.specs.declared.characters.Flag.TheVariants.{Normal}
use Rattle.tty_base.specs.declared.lines.LineStep.{LineStep}
use Rattle.line_steps.specs.Steps.{rx_step}
use Rattle.uart_line.specs.GoodSteps.{good_steps}
use Rattle.one_thread.specs.LineInside.{line_at, PlaysSteps, run_after}
use Rattle.one_thread.proofs.LineFlushes.{given_once, given_denied}
use Rattle.one_thread.proofs.LineLoop.{arrival_count-run}
use Rattle.one_thread.proofs.LineWindows.{ReceivesWindow, window_given, window_denied}
use Rattle.one_thread.proofs.line.give_window.Goals as goal

pub receive_window-requires-clause-room : goal.receive_window-requires-clause-room
receive_window-requires-clause-room c =
    omega (arith, c.requires.stands.room, arrival_count-run Normal c.args.window.now)

pub flush_given-requires-clause-ring : goal.flush_given-requires-clause-ring
flush_given-requires-clause-ring c = c.requires.stands.between.in_line.has_put.ring

pub flush_given-requires-clause-piece : goal.flush_given-requires-clause-piece
flush_given-requires-clause-piece c = record {
  some = omega arith;
  few = omega arith;
  numbered = c.requires.stands.between.begins_run.follows;
  one = λ lt. absurd (omega (arith, lt));
}

pub flush_given-requires-clause-small : goal.flush_given-requires-clause-small
flush_given-requires-clause-small c =
    let a = c.receive_window.ensures in
    omega (arith, c.requires.stands.between.in_line.has_put.room, a.room, a.handed, a.within)

pub returns-in_err-flushed-clause-does : goal.returns-in_err-flushed-clause-does
returns-in_err-flushed-clause-does c =
    let p = err_from_is_err_and c.from_residual.result c.from_residual.ensures.1 in
    let a = c.receive_window.ensures in
    let accepts : ReceivesWindow c.args.line.now c.receive_window.new.self c.args.window.now =
    record {
      some = omega arith;
      done = a.done;
      uncut = a.uncut;
      hands_over = a.hands_over;
      most = a.room;
      arrived = a.arrived;
      handed = a.handed;
      within = a.within;
    } in
    let w = c.flush_given.new in
    rw (p.1, p.2) (window_denied c.args.port.now c.args.putter.now c.args.line.now c.receive_window.new.self
    c.args.window.now c.args.run accepts c.requires.stands.between.in_line.has_put.room
    c.in_err-flushed.field-0.0 w.self w.putter c.in_err-flushed.ensures.err)

pub returns-clause-does : goal.returns-clause-does
returns-clause-does c =
    let a = c.receive_window.ensures in
    let accepts : ReceivesWindow c.args.line.now c.receive_window.new.self c.args.window.now =
    record {
      some = omega arith;
      done = a.done;
      uncut = a.uncut;
      hands_over = a.hands_over;
      most = a.room;
      arrived = a.arrived;
      handed = a.handed;
      within = a.within;
    } in
    let w = c.flush_given.new in
    let flushed = c.in_ok-flushed.flushed in
    let steps = good_steps c.args.window.now in
    let old = line_at c.args.port.now c.args.putter.now c.args.line.now in
    let new = line_at w.self w.putter c.receive_window.new.self in
    rw c.run_after.ensures (subst
    (λ (l : List LineStep). PlaysSteps l old new c.args.run (run_after c.args.run flushed))
    (sym (take_all 8 steps (omega (arith, length-map c.args.window.now (rx_step Normal)))))
    (window_given c.args.port.now c.args.putter.now c.args.line.now c.receive_window.new.self
    c.args.window.now c.args.run accepts c.requires.stands.between.in_line.has_put.room
    w.self w.putter flushed c.known.ensures.port c.known.ensures.taken (omega arith) c.in_ok-flushed.ensures.ok))

pub returns-in_err-flushed-clause-flushes : goal.returns-in_err-flushed-clause-flushes
returns-in_err-flushed-clause-flushes c =
    let w = c.flush_given.new in
    given_denied c.in_err-flushed.field-0.0 c.args.port.now w.self c.args.putter.now w.putter
    (good_characters c.args.window.now) c.in_err-flushed.ensures.err

pub returns-clause-flushes : goal.returns-clause-flushes
returns-clause-flushes c =
    let w = c.flush_given.new in
    given_once c.args.port.now w.self c.args.putter.now w.putter c.args.run (good_characters c.args.window.now)
    c.in_ok-flushed.flushed c.in_ok-flushed.ensures.ok
