use Rattle.calls_left.proofs.remaining.Remaining.of.Goals as goal

pub returns : goal.returns
returns g c = c.in_ok-cursors.ensures.calls
