use Rattle.std.proofs.Common.{List, drop, sym, subst}
use Rattle.tty_base.specs.declared.lines.LineStep.{LineStep}
use Rattle.uart_line.specs.GoodSteps.{good_steps}
use Rattle.one_thread.specs.LineInside.{line_at, StandsBefore}
use Rattle.one_thread.proofs.LineLoop.{window_first, stands_first, does_window}
use Rattle.one_thread.proofs.line.flush_window.Goals as goal

pub give_window-requires-clause-stands : goal.give_window-requires-clause-stands
give_window-requires-clause-stands c =
    let bytes = c.args.bytes.now in
    let first = good_steps c.in-Some.window.now in
    let rest = drop 8 (good_steps bytes) in
    let at = line_at c.args.port.now c.args.putter.now c.args.line.now in
    stands_first first rest at c.args.run (subst (λ (l : List LineStep). StandsBefore l at c.args.run)
    (sym (window_first bytes c.in-Some.window.now c.in-Some.ensures.first)) c.requires.stands)

pub returns-in-Some-clause-does : goal.returns-in-Some-clause-does
returns-in-Some-clause-does c =
    let w = c.give_window.new in
    does_window c.args.bytes.now c.in-Some.window.now (line_at c.args.port.now c.args.putter.now c.args.line.now)
    (line_at w.port w.putter w.line) c.args.run c.give_window.result c.in-Some.ensures.first c.give_window.ensures.steps
    c.give_window.ensures.does
