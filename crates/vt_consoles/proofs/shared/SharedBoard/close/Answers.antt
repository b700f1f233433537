use Rattle.vt_consoles.specs.Histories.{history_of}
use Rattle.vt_consoles.specs.Seats.{HasAllOf}
use Rattle.vt_consoles.proofs.SeatLemmas.{each_both}
use Rattle.vt_consoles.proofs.shared.SharedBoard.close.Goals as goal

pub returns-clause-seats : goal.returns-clause-seats
returns-clause-seats c =
    each_both _ _ (HasAllOf (history_of c.close-board.result)) (λ s begins own. record { begins = begins; own = own })
    c.args.seats.items c.close-board.ensures.seats c.close-board.ensures.own
