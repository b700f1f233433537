use Rattle.std.proofs.Common.{rules, sym, ap, subst, ◌∙◌, ◌≡◌, ◌%◌, ◌+◌, length, ℕ}
use Rattle.word_ring.specs.declared.table.View.{View}
use Rattle.word_ring.specs.PutterParts.{IsPutting}
use Rattle.word_ring.proofs.Putting.{room_for, after_word}
use Rattle.word_ring.proofs.putter.Putter.put_word.Goals as goal

pub invariant_of-self : goal.invariant_of-self
invariant_of-self c =
    let full : c.self.inside.sent % 4 ≡ 0 =
    ap (λ (k : ℕ). k % 4) (c.self.invariant.putting.count ∙ ap (λ s. length s.sent) c.self.view_is) ∙ c.requires.full in
    record {
      table = search rules;
      key = search rules;
      words = search rules;
      small = search rules;
      at = search rules;
      bare = search rules;
      head = c.self.invariant.head ∙ sym (ap (λ (v : View). v.head) c.store_lanes.ensures.stored);
      shown = c.self.invariant.shown ∙ sym (ap (λ (v : View). length v.pushed) c.store_lanes.ensures.stored);
      putting = subst (IsPutting c.self.inside.capacity (c.self.inside.sent + 4) c.self.inside.word)
          (sym c.store_lanes.ensures.stored)
          (after_word _ _ _ _ c.self.invariant.putting c.args.word full
          (room_for _ _ 4 c.self.invariant c.self.view_is c.requires.room));
    }
