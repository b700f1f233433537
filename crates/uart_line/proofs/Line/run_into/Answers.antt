use Rattle.std.proofs.Common.{◌+◌, ◌++◌, List, arith}
use Rattle.tty_base.specs.declared.lines.LineStep.{LineStep}
use Rattle.uart_line.specs.Received.{closed_script}
use Rattle.uart_line.proofs.Arrivals.{received_few}
use Rattle.uart_line.proofs.OfferedLemmas.{HandsOver-adds}
use Rattle.uart_line.proofs.Line.run_into.Goals as goal

pub returns-clause-adds : goal.returns-clause-adds
returns-clause-adds c = λ before d.
    let r = c.run.ensures in
    let steps : List LineStep = before ++ closed_script c.args.steps.now in
    (HandsOver-adds _ _ _ _ _ _ _ _ _ (r.hands_over before d)
    (omega
    (arith, c.requires.spare, c.requires.room, r.arrived, d.handed, (r.done before d).arrived, received_few steps))).0

pub returns-clause-overruns : goal.returns-clause-overruns
returns-clause-overruns c = λ before d.
    let r = c.run.ensures in
    let steps : List LineStep = before ++ closed_script c.args.steps.now in
    (HandsOver-adds _ _ _ _ _ _ _ _ _ (r.hands_over before d)
    (omega
    (arith, c.requires.spare, c.requires.room, r.arrived, d.handed, (r.done before d).arrived, received_few steps))).1
