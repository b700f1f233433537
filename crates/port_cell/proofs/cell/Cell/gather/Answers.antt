use Rattle.std.proofs.Common.{◌≡◌, [], ◌∷◌, ◌++◌, rules, is_some, refl, inl, sym}
use Rattle.std.proofs.Common.{ap, ◌∙◌, subst, append_assoc, append-nil, arith}
use Rattle.std.proofs.lemmas.Grind.{common_steps}
use Rattle.port_cell.specs.Seats.{IsFree, EachSeat}
use Rattle.port_cell.specs.Joining.{PartOf}
use Rattle.port_cell.specs.Views.{total, installs_of, with_joined}
use Rattle.port_cell.proofs.Totals.{total_snoc}
use Rattle.port_cell.proofs.Ends.{joins, regrouped, installs_of-joining}
use Rattle.port_cell.proofs.Ends.{each_front, each_weaker, part_more, part_joined}
use Rattle.port_cell.proofs.cell.Cell.gather.Goals as goal

pub loop-other-init : goal.loop-other-init
loop-other-init g c = record {
  done = c.requires.last;
  seats = c.requires.seats;
  first = inl refl;
  installs = refl;
  parts = ([], sym (append-nil c.args.seats.items), tt);
}

pub join_seat-requires : goal.join_seat-requires
join_seat-requires g c =
    let z = c.args.self.now.table.shared.table_id in
    let i = c.loop-other.invariant in
    let both = each_front (IsFree z) c.pop.new.self.items c.in-Some.other
    (subst (λ ss. EachSeat (IsFree z) ss) c.in-Some.ensures.items i.seats) in
    let other = both.1 in (
      i.done.table,
      other.table,
      other.hand,
      search rules,
      joins g.V.Kept.name g.V.Kept.list _ _ _ _ _ _ i.done.named other.named other.free other.turn,
    )

pub loop-other-preserved : goal.loop-other-preserved
loop-other-preserved g c =
    let z = c.args.self.now.table.shared.table_id in
    let i = c.loop-other.invariant in
    let both = each_front (IsFree z) c.pop.new.self.items c.in-Some.other
    (subst (λ ss. EachSeat (IsFree z) ss) c.in-Some.ensures.items i.seats) in
    let v = c.loop-other.last.me.0 in
    let w = c.in-Some.other.me.0 in
    let now = c.join_seat.ensures.2 in
    let taken = i.parts.0 in
    record {
      done = record {
        table = c.join_seat.ensures.0 ∙ i.done.table;
        named = ap (λ m. is_some m.0.name) now ∙ i.done.named;
        hand = ap (λ m. m.1) now ∙ i.done.hand;
        free = ap (λ m. m.0.user) now ∙ i.done.free;
        turn = ap (λ m. m.0.turn) now ∙ i.done.turn;
      };
      seats = both.0;
      first = subst (λ m. PartOf m.0 c.args.last) (sym now) (part_more v w c.args.last i.first);
      installs = regrouped _ _ _ _ _ _ (ap (λ m. installs_of m.0) now ∙ installs_of-joining v w)
          (ap (total (λ s. installs_of s.me.0)) c.in-Some.ensures.items
          ∙ total_snoc (λ s. installs_of s.me.0) c.pop.new.self.items c.in-Some.other)
          i.installs;
      parts = (
        c.in-Some.other ∷ taken,
        i.parts.1
            ∙ ap (λ ss. ss ++ taken) c.in-Some.ensures.items
            ∙ append_assoc c.pop.new.self.items (c.in-Some.other ∷ []) taken,
        (
          subst (λ m. PartOf m.0 c.in-Some.other) (sym now) (part_joined v c.in-Some.other),
          subst (λ m. EachSeat (PartOf m.0) taken) (sym now)
              (each_weaker (PartOf v) (PartOf (with_joined v w)) (part_more v w) taken i.parts.2),
        ),
      );
    }

pub returns-clause-seats : goal.returns-clause-seats
returns-clause-seats g c =
    let i = c.loop-other.invariant in
    let nothing : c.loop-other.seats.items ≡ [] = grind (arith, common_steps) in
    let all : c.args.seats.items ≡ i.parts.0 = i.parts.1 ∙ ap (λ ss. ss ++ i.parts.0) nothing in
    subst (λ ss. EachSeat (PartOf c.loop-other.last.me.0) ss) (sym all) i.parts.2
