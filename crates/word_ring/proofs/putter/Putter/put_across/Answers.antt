use Rattle.std.proofs.Common.{rules, arith, sym, ap, subst, ◌∙◌, ◌≡◌, ◌/◌, ◌*◌, ◌+◌, ◌++◌, length, ℕ}
use Rattle.word_ring.specs.declared.table.View.{View}
use Rattle.word_ring.specs.Ends.{PutterState}
use Rattle.word_ring.specs.Lanes.{lanes}
use Rattle.word_ring.specs.PutterParts.{IsPutting, sent_of}
use Rattle.word_ring.specs.Rule.{place}
use Rattle.word_ring.proofs.Putting.{room_for, group, filled_begins, across_is, after_across}
use Rattle.word_ring.proofs.putter.Putter.put_across.Goals as goal

pub store_lanes-requires-clause-at : goal.store_lanes-requires-clause-at
store_lanes-requires-clause-at c =
    let p = c.self.invariant.putting in
    c.self.invariant.at
    ∙ (ap (λ (z : ℕ). place z (c.self.inside.sent / 4)) (sym p.room)
    ∙ ap (place c.self.inside.seat.me.0.puts_within) (group _ _ _ _ p))

pub store_lanes-requires-clause-begins : goal.store_lanes-requires-clause-begins
store_lanes-requires-clause-begins c =
    filled_begins _ _ _ _ c.self.invariant.putting c.joined-full.result c.args.four c.joined-full.ensures
    (room_for _ _ 4 c.self.invariant c.self.view_is c.requires.room)

pub invariant_of-self : goal.invariant_of-self
invariant_of-self c =
    let next : (c.self.inside.sent + 4) / 4 * 4 / 4 ≡ (c.self.inside.sent + 4) / 4 = omega arith in
    record {
      table = search rules;
      key = search rules;
      words = search rules;
      small = search rules;
      at = c.place_of_next-self-inside.ensures ∙ ap (place c.self.inside.capacity) next;
      bare = search rules;
      head = c.self.invariant.head ∙ sym (ap (λ (v : View). v.head) c.store_lanes.ensures.stored);
      shown = c.self.invariant.shown ∙ sym (ap (λ (v : View). length v.pushed) c.store_lanes.ensures.stored);
      putting = subst (IsPutting c.self.inside.capacity (c.self.inside.sent + 4) c.args.four)
          (sym c.store_lanes.ensures.stored)
          (after_across _ _ _ _ c.self.invariant.putting c.joined-full.result c.args.four c.joined-full.ensures
          (room_for _ _ 4 c.self.invariant c.self.view_is c.requires.room));
    }

pub returns : goal.returns
returns c =
    let stored = c.store_lanes.ensures.stored in
    let sent = ap (sent_of (c.self.inside.sent + 4) c.args.four) stored
    ∙ across_is _ _ _ _ c.self.invariant.putting c.joined-full.result c.args.four c.joined-full.ensures
    (room_for _ _ 4 c.self.invariant c.self.view_is c.requires.room) in
    let ring = c.store_lanes.ensures.same.0 in
    (λ i. record {
      ring = ring i;
      capacity = c.self.inside.capacity;
      sent = sent i;
      pushed = ap (λ v. v.pushed) stored i;
      heads = ap (λ v. v.heads) stored i;
      floor = ap (λ v. v.head) stored i;
    })
    ∙ ap (λ (s : PutterState ℕ). record s { sent = s.sent ++ lanes c.args.four 4 }) c.self.view_is
