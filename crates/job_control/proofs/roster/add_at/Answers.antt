use Rattle.std.proofs.Common.{[], ◌∷◌}
use Rattle.job_control.proofs.Children.{list_added}
use Rattle.job_control.proofs.roster.add_at.Goals as goal

pub returns-in_ok-push : goal.returns-in_ok-push
returns-in_ok-push c =
    list_added (λ list. list.items) c.args.lists.now c.args.at c.index-lists-at.result c.push.new.self
    (c.args.place ∷ []) c.if-at-lists.true
    c.in_ok-push.ensures.items
