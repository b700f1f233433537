use Rattle.std.proofs.Common.{sym, ◌∙◌}
use Rattle.vt_screen.proofs.ScreenLemmas.{at_lowest}
use Rattle.vt_screen.proofs.screen.Screen.scroll.Goals as goal

pub returns-else-self-lt-LAST_ROW : goal.returns-else-self-lt-LAST_ROW
returns-else-self-lt-LAST_ROW c =
    at_lowest _ _ _ _ _ c.self.view_is (sym c.self.inside.rows.ok.0 ∙ c.self.invariant.0)
    c.if-self-lt-LAST_ROW.false c.rotate_left.ensures.items
