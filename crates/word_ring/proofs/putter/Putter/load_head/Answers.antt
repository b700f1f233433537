use Rattle.std.proofs.Common.{rules, sym, ap, subst, ◌∙◌, length}
use Rattle.std.specs.List.Sorted.{IsNonDecreasing}
use Rattle.word_ring.specs.declared.table.View.{View}
use Rattle.word_ring.specs.PutterParts.{IsPutting}
use Rattle.word_ring.proofs.Keeps.{loads_head}
use Rattle.word_ring.proofs.Putting.{after_load}
use Rattle.word_ring.proofs.putter.Putter.load_head.Goals as goal

pub load-head-requires : goal.load-head-requires
load-head-requires c = (search rules, search rules, loads_head _ _ _ _ c.self.invariant.putting.puts)

pub invariant_of-self : goal.invariant_of-self
invariant_of-self c = record {
  table = search rules;
  key = search rules;
  words = search rules;
  small = search rules;
  at = search rules;
  bare = search rules;
  shown = c.self.invariant.shown ∙ sym (ap (λ (v : View). length v.pushed) c.load-head.ensures.2.0);
  head = search rules;
  putting = subst (IsPutting c.self.inside.capacity c.self.inside.sent c.self.inside.word) (sym c.load-head.ensures.2.0)
      (after_load _ _ _ _ c.self.invariant.putting c.load-head.result c.load-head.ensures.2.2);
}

pub returns-clause-ordered : goal.returns-clause-ordered
returns-clause-ordered c =
    let p = after_load _ _ _ _ c.self.invariant.putting c.load-head.result c.load-head.ensures.2.2 in
    subst (λ (v : View). IsNonDecreasing v.heads) (sym c.load-head.ensures.2.0) p.rise
