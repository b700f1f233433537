use Rattle.std.proofs.Common.{arith, rules, length, ap, sym, ◌∙◌}
use Rattle.std.proofs.lemmas.Grind.{common_steps}
use Rattle.vt_screen.specs.Paper.{Shown}
use Rattle.vt_screen.proofs.screen.Screen.row.Goals as goal

pub returns-clause-rows : goal.returns-clause-rows
returns-clause-rows c =
    ap (λ (s : Shown). length s.rows) (sym c.self.view_is) ∙ (sym c.self.inside.rows.ok.0 ∙ c.self.invariant.0)

pub returns-clause-row : goal.returns-clause-row
returns-clause-row c = first_of (search rules steps 100000, grind (arith, common_steps) steps 300000)
