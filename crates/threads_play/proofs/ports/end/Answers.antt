use Rattle.threads_play.proofs.ports.end.Goals as goal

pub returns : goal.returns
returns c s in_play = c.end_port.ensures s in_play.stands
