use Rattle.std.proofs.Common.{◌∙◌}
use Rattle.derived_session.proofs.Noting.{caller_more}
use Rattle.derived_session.proofs.slots.reach_caller.Goals as goal

pub loop-alloc-preserved : goal.loop-alloc-preserved
loop-alloc-preserved c n step =
    caller_more c.loop-alloc.slots.items c.push.new.self.items c.new.result c.in_ok-push.ensures.items
    c.new.ensures.items n step
    ∙ c.loop-alloc.invariant n step
