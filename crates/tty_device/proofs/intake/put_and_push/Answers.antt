use Rattle.tty_device.proofs.TakingIn.{puts_then}
use Rattle.tty_device.proofs.intake.put_and_push.Goals as goal

pub returns : goal.returns
returns c = puts_then _ _ _ _ _ _ c.put-count.ensures.within c.put-count.ensures.after c.put-count.ensures.known
    c.put-count.ensures.full c.push.ensures
