use Rattle.std.proofs.Common.{sym, ap}
use Rattle.uart_line.proofs.OfferedLemmas.{Offers-accept, Offers-refuse}
use Rattle.uart_line.proofs.Line.offer.Goals as goal
use Rattle.uart_line.proofs.Line.offer.Goals.{in-Ok, in-Err}

pub returns-clause-offers : goal.returns-clause-offers
returns-clause-offers g c = elim c.match-put.branch [
  | in-Ok w ↦
      rw (w.self-inside-is, ← c.self.view_is)
      (Offers-accept _ _ c.args.c _ _ _ _ w.in-Ok.ensures.grows.0 _ (sym w.in-Ok.ensures.grows.1) w.in-Ok.ensures.ok)
  | in-Err w ↦
      rw (w.self-inside-is, ← c.self.view_is)
      (Offers-refuse _ _ w.in-Err.full.sent w.in-Err.full.seen c.args.c _ _ _ _ _ _
      w.in-Err.ensures.full.1 w.in-Err.ensures.full.0 w.in-Err.ensures.full.2 w.in-Err.ensures.full.3
      (ap (λ b. b.items) w.add_overrun.ensures))
]
