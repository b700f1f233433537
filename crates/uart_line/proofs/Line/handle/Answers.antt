use Rattle.std.proofs.Common.{rules, refl}
use Rattle.uart_line.proofs.Serving.{Serves-push}
use Rattle.uart_line.proofs.Line.handle.Goals as goal

pub returns-clause-serves : goal.returns-clause-serves
returns-clause-serves g c =
    Serves-push _ c.args.self.now c.empty.new.self _ _ _ _ _ _ _ _ c.show.ensures.grows.0
    c.empty.ensures.serves c.show.ensures.sent c.show.ensures.grows.1 (rw (← c.self.view_is) refl)

pub returns-clause-lost : goal.returns-clause-lost
returns-clause-lost g c = search rules steps 300000
