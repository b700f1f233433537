use Rattle.std.proofs.Common.{◌≡◌, ℕ, ◌+◌, [], length, rules, is_some, sym, ap, ◌∙◌, subst, arith}
use Rattle.port_cell.specs.Views.{next_view}
use Rattle.port_cell.specs.Seats.{IsNew, AllNew}
use Rattle.port_cell.proofs.Ends.{splits, fresh_push}
use Rattle.port_cell.proofs.cell.Cell.deal.Goals as goal

pub split_seat-requires : goal.split_seat-requires
split_seat-requires g c =
    let first = c.seats.invariant.first in
    let made = ap (λ m. m.0.made) first in (
      search rules,
      search rules,
      splits g.V.Kept.name g.V.Kept.list _ _ _ _ (ap (λ m. is_some m.0.name) first) (omega arith) (omega arith),
    )

pub seats-preserved : goal.seats-preserved
seats-preserved g c =
    let value = c.args.self.now.table.shared.key.value.value in
    let name = g.V.Kept.name value in
    let list = g.V.Kept.list value in
    let z = c.args.self.now.table.shared.table_id in
    let i = c.seats.invariant in
    let number : c.seats.counter ≡ 1 + length c.seats.others.items = omega arith in
    let new : IsNew z name list c.seats.counter c.split_seat.result =
    (search rules, (0, c.split_seat.ensures.4 ∙ ap (λ m. (next_view m.0, [])) i.first)) in
    record {
      table = search rules;
      first = search rules;
      size = ap (λ n. n + 1) (c.in_ok-push.ensures.len ∙ i.size);
      others = subst (λ ss. AllNew z name list 1 ss) (sym c.in_ok-push.ensures.items)
          (fresh_push z name list 1 c.seats.others.items c.split_seat.result i.others
          (subst (λ (n : ℕ). IsNew z name list n c.split_seat.result) number new));
    }

pub returns : goal.returns
returns g c =
    let value = c.args.self.now.table.shared.key.value.value in
    let name = g.V.Kept.name value in
    let list = g.V.Kept.list value in
    let z = c.args.self.now.table.shared.table_id in
    let i = c.seats.invariant in
    let first : IsNew z name list 0 c.seats.first = (search rules, (c.seats.counter, i.first)) in
    let items = c.in_ok-insert.ensures.items in
    (omega (arith, ap length items), subst (λ ss. AllNew z name list 0 ss) (sym items) (first, i.others))
