use Rattle.job_text.proofs.leaders.Leaders.make_room.Goals as goal

pub returns-clause-same : goal.returns-clause-same
returns-clause-same c port session = c.reserve.ensures.keys.2 (port, session)
