use Rattle.modem_ports.proofs.phases.play_phase.Given as goal

abbrev pub ghost-play_parts : goal.ghost-play_parts
ghost-play_parts g a = g.setting
