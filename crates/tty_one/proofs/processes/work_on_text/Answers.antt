use Rattle.tty_one.proofs.ProcessesPlayed.{text_works}
use Rattle.tty_one.proofs.ProcessesRoom.{can_processes_be_played}
use Rattle.tty_one.proofs.processes.work_on_text.Goals as goal

pub run_session-requires : goal.run_session-requires
run_session-requires c = can_processes_be_played c.args.text.now c.in-Ok.session c.in-Ok.ensures c.requires

pub returns-in-Ok-clause-told : goal.returns-in-Ok-clause-told
returns-in-Ok-clause-told c =
    text_works c.args.text.now c.in-Ok.session c.run_session.result c.in-Ok.ensures c.run_session.ensures.told
