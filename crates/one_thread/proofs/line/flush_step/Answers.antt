use Rattle.std.proofs.Common.{[], ◌∷◌, List, ◌∙◌, arith}
use Rattle.tty_base.specs.declared.lines.LineStep.{LineStep}
use Rattle.uart_line.specs.LineState.{HasDone}
use Rattle.play_base.proofs.Meetings.{names_tell}
use Rattle.one_thread.proofs.LineSteps.{StepsTo}
use Rattle.one_thread.proofs.LineFlushes.{since_once}
use Rattle.one_thread.proofs.LineWindows.{step_does}
use Rattle.one_thread.proofs.line.flush_step.Goals as goal

pub step-requires-clause-room : goal.step-requires-clause-room
step-requires-clause-room c = omega (arith, c.requires.stands.room)

pub step-requires-clause-put : goal.step-requires-clause-put
step-requires-clause-put c = c.requires.stands.between.in_line.has_put.room

pub flush_since-requires-clause-ring : goal.flush_since-requires-clause-ring
flush_since-requires-clause-ring c =
    names_tell c.step.new.put.ring c.args.putter.now.ring c.step.ensures.name
    ∙ c.requires.stands.between.in_line.has_put.ring

pub flush_since-requires-clause-run : goal.flush_since-requires-clause-run
flush_since-requires-clause-run c = c.requires.stands.between.begins_run

pub returns-clause-does : goal.returns-clause-does
returns-clause-does c =
    let s = c.step.ensures in
    let st : (before : List LineStep)
    → HasDone c.args.line.now before
    → StepsTo c.args.putter.now c.step.new.put c.args.line.now c.step.new.self before c.args.step =
    λ before d. record {
      done = s.done before d;
      hands_over = s.hands_over before d;
      capacity = s.capacity;
      name = s.name;
      room = s.put;
      rise = s.rise;
      most = s.room;
      arrived = s.arrived;
    } in
    let w = c.flush_since.new in
    step_does c.args.port.now c.args.putter.now c.step.new.put c.args.line.now c.step.new.self c.args.step c.args.run st
    c.sent-before.result c.sent-before.ensures w.port w.putter c.flush_since.result c.flush_since.ensures.ok
    c.flush_since.ensures.err

pub returns-clause-flushes : goal.returns-clause-flushes
returns-clause-flushes c =
    let w = c.flush_since.new in
    since_once c.sent-before.result c.args.port.now w.port c.step.new.put w.putter c.args.run c.flush_since.result
    c.flush_since.ensures.ok c.flush_since.ensures.err
