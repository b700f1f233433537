use Rattle.std.proofs.Common.{sym, ◌∙◌}
use Rattle.uart_line.proofs.Steps.{done-quiet, hands_over-quiet, done-served, hands_over-served}
use Rattle.uart_line.proofs.Line.advance.Goals as goal

pub returns-then-runs_handler-clause-done : goal.returns-then-runs_handler-clause-done
returns-then-runs_handler-clause-done g c =
    done-served _ c.args.self.now _ c.args.step c.receive.ensures c.handle.new.self _ _ _ _ c.handle.ensures.serves
    c.runs_handler.ensures.receiver (sym c.runs_handler.ensures.runs ∙ c.if-runs_handler.true)
    c.handle.ensures.fifo c.handle.ensures.overrun c.handle.ensures.window c.handle.ensures.lost c.handle.ensures.count

pub returns-then-runs_handler-clause-hands_over : goal.returns-then-runs_handler-clause-hands_over
returns-then-runs_handler-clause-hands_over g c =
    hands_over-served _ c.args.self.now _ c.args.step c.receive.ensures
    c.handle.new.self _ _ _ _ c.handle.ensures.serves
    c.runs_handler.ensures.receiver (sym c.runs_handler.ensures.runs ∙ c.if-runs_handler.true)

pub returns-else-runs_handler-clause-done : goal.returns-else-runs_handler-clause-done
returns-else-runs_handler-clause-done g c =
    done-quiet (g.P.Put.capacity c.args.put.now) c.args.self.now _ c.args.step c.receive.ensures
    c.runs_handler.ensures.receiver (sym c.runs_handler.ensures.runs ∙ c.if-runs_handler.false)

pub returns-else-runs_handler-clause-hands_over : goal.returns-else-runs_handler-clause-hands_over
returns-else-runs_handler-clause-hands_over g c =
    hands_over-quiet (g.P.Put.capacity c.args.put.now) c.args.self.now _ c.args.step c.receive.ensures
    c.runs_handler.ensures.receiver (sym c.runs_handler.ensures.runs ∙ c.if-runs_handler.false) _ _
