use Rattle.tty_calls.specs.Sessions.{session_of}
use Rattle.tty_one.specs.Reported.{IsInAnyOrder}
use Rattle.tty_one.specs.declared.playing.Telling.TheVariants.{Report}
use Rattle.tty_one.proofs.PortLemmas.{played_works}
use Rattle.tty_run.proofs.playing.run_session.Goals as goal

pub returns : goal.returns
returns g c = record {
  played =
      played_works IsInAnyOrder (Report c.args.journals) (session_of c.args.session.now) c.in_ok-played.played
      c.work_of.result c.requires.1 c.in_ok-played.ensures (λ p run is room. tt)
      c.work_of.ensures.ending c.work_of.ensures.runs;
  own = c.work_of.ensures.own;
}
