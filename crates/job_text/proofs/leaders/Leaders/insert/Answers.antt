use Rattle.job_text.proofs.leaders.Leaders.insert.Goals as goal

pub returns : goal.returns
returns c p s = c.in-Ok.ensures.updates.0 (p, s)
