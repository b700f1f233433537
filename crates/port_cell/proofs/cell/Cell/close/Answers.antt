use Rattle.std.proofs.Common.{◌≡◌, sym, ap, ◌∙◌, subst}
use Rattle.port_cell.specs.Views.{total}
use Rattle.port_cell.specs.Knowledge.{number_of, own_entries, list_seen, install_count}
use Rattle.port_cell.specs.Entries.{entries_by}
use Rattle.port_cell.specs.Seats.{EachSeat, IsNamedAs, GoesOnFrom}
use Rattle.port_cell.specs.Joining.{PartOf}
use Rattle.port_cell.proofs.Totals.{total_snoc}
use Rattle.port_cell.proofs.OwnEntries.{entries_by_kept}
use Rattle.port_cell.proofs.Ends.{grown_by_all, each_push, each_weaker, has_numbers, part_found}
use Rattle.port_cell.proofs.cell.Cell.close.Goals as goal

pub end-requires-clause-all : goal.end-requires-clause-all
end-requires-clause-all g c =
    let v = c.gather-all.result.me.0 in
    let parts = subst (λ ss. EachSeat (PartOf v) ss) (sym c.in-Some.ensures.items)
    (each_push (PartOf v) _ _ c.gather-all.ensures.seats c.gather-all.ensures.last) in
    has_numbers c.args.self.table.shared.key.seats c.args.seats.items v c.requires.all parts

pub returns-clause-name : goal.returns-clause-name
returns-clause-name g c =
    let v = c.gather-all.result.me.0 in
    let name = g.V.Kept.name c.end.result in
    let list = g.V.Kept.list c.end.result in
    let parts = subst (λ ss. EachSeat (PartOf v) ss) (sym c.in-Some.ensures.items)
    (each_push (PartOf v) _ _ c.gather-all.ensures.seats c.gather-all.ensures.last) in
    each_weaker (PartOf v) (IsNamedAs name)
    (λ s part. (part_found name list v c.end.ensures.seat c.end.ensures.joined s part).0) c.args.seats.items parts

pub returns-clause-seats : goal.returns-clause-seats
returns-clause-seats g c =
    let v = c.gather-all.result.me.0 in
    let name = g.V.Kept.name c.end.result in
    let list = g.V.Kept.list c.end.result in
    let parts = subst (λ ss. EachSeat (PartOf v) ss) (sym c.in-Some.ensures.items)
    (each_push (PartOf v) _ _ c.gather-all.ensures.seats c.gather-all.ensures.last) in
    each_weaker (PartOf v) (GoesOnFrom list)
    (λ s part. (part_found name list v c.end.ensures.seat c.end.ensures.joined s part).1) c.args.seats.items parts

pub returns-clause-own : goal.returns-clause-own
returns-clause-own g c =
    let v = c.gather-all.result.me.0 in
    let name = g.V.Kept.name c.end.result in
    let list = g.V.Kept.list c.end.result in
    let parts = subst (λ ss. EachSeat (PartOf v) ss) (sym c.in-Some.ensures.items)
    (each_push (PartOf v) _ _ c.gather-all.ensures.seats c.gather-all.ensures.last) in
    each_weaker (PartOf v) (λ s. entries_by (number_of s) list ≡ own_entries s)
    (λ s part. entries_by_kept (number_of s) (list_seen s) list
    (part_found name list v c.end.ensures.seat c.end.ensures.joined s part).1) c.args.seats.items parts

pub returns-clause-generation : goal.returns-clause-generation
returns-clause-generation g c =
    grown_by_all _ _ _ _ _ _ c.end.ensures.generation c.gather-all.ensures.installs
    (ap (total install_count) c.in-Some.ensures.items ∙ total_snoc install_count _ _)
