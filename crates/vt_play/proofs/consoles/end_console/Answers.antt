use Rattle.vt_play.proofs.consoles.end_console.Goals as goal

pub returns : goal.returns
returns c s stands = c.end_port.ensures s stands
