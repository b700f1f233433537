use Rattle.tty_port.proofs.Outcomes.{each_ok}
use Rattle.many_threads.proofs.Gathering.{threads_come}
use Rattle.threads_play.proofs.phases.play_together.Goals as goal

pub returns : goal.returns
returns g c =
    each_ok c.take_together.result _ _
    (λ back taken. threads_come c.args.shared.now c.args.crew c.args.session c.in_ok-back.back back
    c.requires.can c.requires.dealt c.in_ok-back.ensures taken)
    c.take_together.ensures
