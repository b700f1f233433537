use Rattle.std.proofs.Common.{◌≡◌, [], ◌∷◌, rules, sym, subst}
use Rattle.port_cell.specs.Seats.{HasAll}
use Rattle.port_cell.proofs.Ends.{has_two}
use Rattle.ring_rows.proofs.cells.two_threads.Goals as goal

pub close-log-requires-clause-all : goal.close-log-requires-clause-all
close-log-requires-clause-all g c =
    let seats = c.in_ok-cell.ensures.0 in
    let a = c.both-first.result.0 in
    let b = c.both-first.result.1 in
    let items : c.in_ok-all.all.items ≡ a ∷ b ∷ [] = first_of (cc, search rules) in
    subst (λ n. HasAll n c.in_ok-all.all.items) (sym seats)
    (has_two c.in_ok-all.all.items a b items c.both-first.ensures.first.1 c.both-first.ensures.second.1)
