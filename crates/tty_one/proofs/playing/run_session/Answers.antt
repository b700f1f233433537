use Rattle.tty_calls.specs.Sessions.{session_of}
use Rattle.tty_one.specs.Reported.{IsOrdered}
use Rattle.tty_one.proofs.PortLemmas.{played_works}
use Rattle.tty_one.proofs.playing.run_session.Goals as goal

pub returns : goal.returns
returns c = record {
  played =
      played_works IsOrdered c.args.telling (session_of c.args.session.now) c.in_ok-played.played c.work_of.result
      c.requires.1 c.in_ok-played.ensures.played (λ p run is. (c.in_ok-played.ensures.in_order p run is).whole)
      c.work_of.ensures.ending c.work_of.ensures.runs;
  own = c.work_of.ensures.own;
}
