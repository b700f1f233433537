use Rattle.std.proofs.Common.{rules}
use Rattle.tty_one.proofs.ConsolesPlayed.{consoles_can}
use Rattle.tty_run.proofs.consoles.run_vt.Goals as goal

pub play_consoles-requires : goal.play_consoles-requires
play_consoles-requires g c = (
  search rules,
  (
    search rules,
    consoles_can (g.S.Source.faults c.args.source.now) (g.S.Source.faults c.read_consoles.new.source)
        (g.S.Source.left c.args.source.now) (g.S.Source.left c.read_consoles.new.source) c.in_ok-session.field-0
        c.in-Of.session c.in-Of.is c.in_ok-session.ensures.read,
  ),
)
