use Rattle.vt_consoles.proofs.RunLemmas.{active_below}
use Rattle.vt_consoles.proofs.board.Board.active.Goals as goal

pub returns-clause-within : goal.returns-clause-within
returns-clause-within c =
    let s = c.self.inside in
    active_below s.consoles s.active s.limit s.entries.items c.args.self.now c.self.invariant c.self.view_is
