use Rattle.std.proofs.Common.{rules, arith, sym, ap, subst, ◌∙◌, ◌/◌, length, ℕ}
use Rattle.std.proofs.lemmas.Grind.{common_steps}
use Rattle.std.specs.List.Sorted.{IsNonDecreasing}
use Rattle.word_ring.specs.declared.table.View.{View}
use Rattle.word_ring.specs.Ends.{PutterState}
use Rattle.word_ring.specs.Plays.{with_all_pushed}
use Rattle.word_ring.specs.PutterParts.{IsPutting, sent_of}
use Rattle.word_ring.specs.Rule.{place}
use Rattle.word_ring.proofs.Keeps.{stores_tail}
use Rattle.word_ring.proofs.Putting.{group, after_push, pushed_same}
use Rattle.word_ring.proofs.putter.Putter.push.Goals as goal

pub store_lanes-requires-clause-at : goal.store_lanes-requires-clause-at
store_lanes-requires-clause-at c =
    let p = c.self.invariant.putting in
    c.self.invariant.at
    ∙ (ap (λ (z : ℕ). place z (c.self.inside.sent / 4)) (sym p.room)
    ∙ ap (place c.self.inside.seat.me.0.puts_within) (group _ _ _ _ p))

pub store-requires : goal.store-requires
store-requires c =
    let p = c.self.invariant.putting in
    let stored = c.store_lanes.ensures.stored in (
      search rules,
      search rules,
      stores_tail _ _ _ _ _ (ap (λ v. v.puts) stored ∙ p.puts) (p.count ∙ sym (ap (λ v. length v.written) stored)),
    )

pub invariant_of-self : goal.invariant_of-self
invariant_of-self c =
    let p = c.self.invariant.putting in
    let now = c.store.ensures.2.0 ∙ ap with_all_pushed c.store_lanes.ensures.stored in
    record {
      table = search rules;
      key = search rules;
      words = search rules;
      small = search rules;
      at = search rules;
      bare = search rules;
      head = c.self.invariant.head ∙ sym (ap (λ v. v.head) now);
      shown = p.count ∙ sym (ap (λ v. length v.pushed) now);
      putting = subst (IsPutting c.self.inside.capacity c.self.inside.sent c.self.inside.word) (sym now)
          (after_push _ _ _ _ p);
    }

pub returns-clause-same : goal.returns-clause-same
returns-clause-same c =
    let p = c.self.invariant.putting in
    let now = c.store.ensures.2.0 ∙ ap with_all_pushed c.store_lanes.ensures.stored in
    let same = ap (sent_of c.self.inside.sent c.self.inside.word) now ∙ pushed_same _ _ _ _ p in
    let ring = c.store.ensures.0 ∙ c.store_lanes.ensures.same.0 in
    (λ i. record {
      ring = ring i;
      capacity = c.self.inside.capacity;
      sent = same i;
      pushed = ap (λ v. v.pushed) now i;
      heads = ap (λ v. v.heads) now i;
      floor = ap (λ v. v.head) now i;
    })
    ∙ ap (λ (s : PutterState ℕ). record s { pushed = s.sent }) c.self.view_is

pub returns-clause-ordered : goal.returns-clause-ordered
returns-clause-ordered c =
    let p = c.self.invariant.putting in
    let now = c.store.ensures.2.0 ∙ ap with_all_pushed c.store_lanes.ensures.stored in
    subst (λ (v : View). IsNonDecreasing v.heads) (sym now) p.rise

pub returns-then-self-sent-clause-same : goal.returns-then-self-sent-clause-same
returns-then-self-sent-clause-same c = grind (arith, common_steps) steps 300000
