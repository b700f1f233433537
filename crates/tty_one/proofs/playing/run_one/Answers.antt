use Rattle.tty_one.proofs.Refused.{read_within}
use Rattle.tty_one.proofs.playing.run_one.Goals as goal

pub run_session-requires : goal.run_session-requires
run_session-requires g c =
    read_within (g.S.Source.faults c.args.source.now) (g.S.Source.faults c.read_session.new.source)
    (g.S.Source.left c.args.source.now) (g.S.Source.left c.read_session.new.source) c.in_ok-session.field-0
    c.in-Of.session c.in-Of.is c.in_ok-session.ensures.read
