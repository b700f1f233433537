use Rattle.std.proofs.Common.{is_some, ap, ◌∙◌, subst, zero-add}
use Rattle.port_cell.specs.Cells.{identity_of, opening_value}
use Rattle.port_cell.specs.Seats.{AllNew}
use Rattle.port_cell.proofs.Ends.{fresh_front}
use Rattle.ring_rows.proofs.cells.last.Goals as goal

pub returns-clause-seat : goal.returns-clause-seat
returns-clause-seat c =
    let z = identity_of c.args.cell.now in
    let log = opening_value c.args.cell.now in
    let fresh = (fresh_front z log.name log.entries.items 0 c.pop.new.self.items c.in-Some.seat
    (subst (λ ss. AllNew z log.name log.entries.items 0 ss) c.in-Some.ensures.items c.requires.0)).1 in
    let me = fresh.1.1 in (
      record {
        table = fresh.0;
        named = ap (λ m. is_some m.0.name) me;
        hand = ap (λ m. m.1) me;
        free = ap (λ m. m.0.user) me;
        turn = ap (λ m. m.0.turn) me;
      },
      ap (λ m. m.0.number) me ∙ zero-add _,
    )

pub returns-clause-others : goal.returns-clause-others
returns-clause-others c =
    let z = identity_of c.args.cell.now in
    let log = opening_value c.args.cell.now in
    (fresh_front z log.name log.entries.items 0 c.pop.new.self.items c.in-Some.seat
    (subst (λ ss. AllNew z log.name log.entries.items 0 ss) c.in-Some.ensures.items c.requires.0)).0
