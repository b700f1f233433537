use Rattle.std.proofs.Common.{ap, ◌∙◌, drop}
use Rattle.modem_one.proofs.LeftItems.{passed_items}
use Rattle.modem_one.proofs.items.Items.pass.Goals as goal

pub returns-then-self : goal.returns-then-self
returns-then-self c =
    passed_items c.self.inside.items.now c.self.inside.done ∙ ap (drop 1) c.self.view_is
