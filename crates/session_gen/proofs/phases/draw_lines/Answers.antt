use Rattle.std.proofs.Common.{◌≡◌, ◌+◌, List, [], ◌∷◌, ◌++◌, sym, ap, subst, arith}
use Rattle.line_steps.specs.declared.LineSteps.{LineSteps}
use Rattle.session_gen.proofs.DrawLemmas.{AreBegun, AreBegun-more}
use Rattle.session_gen.proofs.phases.draw_lines.Goals as goal

pub loop-preserved : goal.loop-preserved
loop-preserved c =
    let items : c.add.new.self.items ≡ c.loop.lines.items ++ c.in_ok-draw_line.field-0 ∷ [] =
    ap (λ b. b.items) c.add.ensures in (
      omega (arith, c.loop.invariant.0, ap (λ b. b.spare) c.add.ensures),
      λ seed first e. subst
          (λ (xs : List LineSteps). AreBegun seed first (c.loop.counter + 1) c.draw_line.new.number xs) (sym items)
          (AreBegun-more seed first c.loop.counter c.loop.drawn c.draw_line.new.number
          c.loop.lines.items c.in_ok-draw_line.field-0
          (c.loop.invariant.1 seed first e) c.in_ok-draw_line.ensures.line c.in_ok-draw_line.ensures.after),
    )
