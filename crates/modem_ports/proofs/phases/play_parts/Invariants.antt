use Rattle.modem_ports.proofs.Phased.{frame_of}
use Rattle.modem_ports.proofs.phases.play_parts.Given as goal

abbrev pub ghost-play_after_line : goal.ghost-play_after_line
ghost-play_after_line g a = frame_of g.setting a.port.now a.stand.ticks
