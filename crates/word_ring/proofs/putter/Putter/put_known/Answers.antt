use Rattle.std.proofs.Common.{rules, arith, sym, ap, subst, ◌∙◌, ◌≡◌, ◌+◌, ◌/◌, ◌%◌, ◌≤◌, ◌++◌, length, ℕ}
use Rattle.word_ring.specs.declared.table.View.{View}
use Rattle.word_ring.specs.Lanes.{top_lanes, whole_words}
use Rattle.word_ring.specs.PutterParts.{IsPutting}
use Rattle.word_ring.specs.Rule.{place}
use Rattle.word_ring.proofs.Putting.{room_for, after_put, group, full_begins, full_fits, after_store}
use Rattle.word_ring.proofs.putter.Putter.put_known.Goals as goal

pub invariant_of-self : goal.invariant_of-self
invariant_of-self c = record {
  table = search rules;
  key = search rules;
  words = search rules;
  small = search rules;
  at = (let same : c.self.inside.sent / 4 ≡ (c.self.inside.sent + 1) / 4 = omega (arith, c.if-sent-lt3.true) in
      c.self.invariant.at ∙ ap (place c.self.inside.capacity) same);
  bare = search rules;
  head = search rules;
  shown = search rules;
  putting = after_put _ _ _ _ c.self.invariant.putting c.with_next-self-inside.result c.args.x
      (c.with_next-self-inside.ensures (c.self.inside.sent % 4) (omega arith))
      (room_for _ _ 1 c.self.invariant c.self.view_is (omega (arith, c.requires.room))) c.if-sent-lt3.true;
}

pub store_lanes-requires-clause-at : goal.store_lanes-requires-clause-at
store_lanes-requires-clause-at c =
    let p = c.self.invariant.putting in
    c.self.invariant.at
    ∙ (ap (λ z. place z (c.self.inside.sent / 4)) (sym p.room)
    ∙ ap (place c.self.inside.seat.me.0.puts_within) (group _ _ _ _ p))

pub store_lanes-requires-clause-begins : goal.store_lanes-requires-clause-begins
store_lanes-requires-clause-begins c =
    full_begins _ _ _ _ c.self.invariant.putting c.with_next-self-inside.result c.args.x
    (c.with_next-self-inside.ensures (c.self.inside.sent % 4) (omega arith))
    (room_for _ _ 1 c.self.invariant c.self.view_is (omega (arith, c.requires.room))) c.if-sent-lt3.false

pub store_lanes-requires-clause-fits : goal.store_lanes-requires-clause-fits
store_lanes-requires-clause-fits c =
    let p = c.self.invariant.putting in
    subst (λ (k : ℕ).
    length (whole_words c.self.inside.seat.me.0.written ++ top_lanes c.with_next-self-inside.result 4)
    ≤ c.self.inside.seat.me.0.head + k)
    (sym p.room)
    (full_fits _ _ _ _ p c.with_next-self-inside.result c.args.x
    (c.with_next-self-inside.ensures (c.self.inside.sent % 4) (omega arith))
    (room_for _ _ 1 c.self.invariant c.self.view_is (omega (arith, c.requires.room))) c.if-sent-lt3.false)

pub invariant_of-self-2 : goal.invariant_of-self-2
invariant_of-self-2 c =
    let p = c.self.invariant.putting in
    record {
      table = search rules;
      key = search rules;
      words = search rules;
      small = search rules;
      at = c.place_after-self-inside.ensures;
      bare = search rules;
      head = c.self.invariant.head ∙ sym (ap (λ (v : View). v.head) c.store_lanes.ensures.stored);
      shown = c.self.invariant.shown ∙ sym (ap (λ (v : View). length v.pushed) c.store_lanes.ensures.stored);
      putting = subst (IsPutting c.self.inside.capacity (c.self.inside.sent + 1) c.with_next-self-inside.result)
          (sym c.store_lanes.ensures.stored)
          (after_store _ _ _ _ p c.with_next-self-inside.result c.args.x
          (c.with_next-self-inside.ensures (c.self.inside.sent % 4) (omega arith))
          (room_for _ _ 1 c.self.invariant c.self.view_is (omega (arith, c.requires.room))) c.if-sent-lt3.false);
    }
