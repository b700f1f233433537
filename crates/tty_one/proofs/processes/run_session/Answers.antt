use Rattle.tty_one.proofs.ProcessesPlayed.{played_processes}
use Rattle.tty_one.proofs.processes.run_session.Goals as goal

pub jobs_run-requires : goal.jobs_run-requires
jobs_run-requires c = c.requires.within

pub returns-clause-told : goal.returns-clause-told
returns-clause-told c =
    played_processes c.args.session.now c.in_ok-ran.ran c.requires c.in_ok-ran.ensures.played c.in_ok-ran.ensures.within
    c.work_of.result c.work_of.ensures.ending c.work_of.ensures.brought
