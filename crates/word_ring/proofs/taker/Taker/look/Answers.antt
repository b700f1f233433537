use Rattle.std.proofs.Common.{rules, sym, subst}
use Rattle.word_ring.specs.TakerParts.{IsTaking}
use Rattle.word_ring.proofs.Keeps.{loads_tail}
use Rattle.word_ring.proofs.Taking.{after_look, begins_seen}
use Rattle.word_ring.proofs.taker.Taker.look.Goals as goal

pub load-tail-requires : goal.load-tail-requires
load-tail-requires c = (search rules, search rules, loads_tail _ _ _ _ c.self.invariant.taking.takes)

pub invariant_of-self : goal.invariant_of-self
invariant_of-self c =
    let in_self = c.self.inside in
    record {
      table = search rules;
      key = search rules;
      words = search rules;
      small = search rules;
      slot = c.self.invariant.slot;
      holds = search rules;
      tail = search rules;
      ended = search rules;
      taking = subst (IsTaking in_self.capacity in_self.taken in_self.taken in_self.word in_self.start in_self.at)
          (sym c.load-tail.ensures.2.0)
          (after_look _ _ _ _ _ _ _ c.self.invariant.taking c.load-tail.result (search rules) c.load-tail.ensures.2.5);
    }

pub returns-clause-begins : goal.returns-clause-begins
returns-clause-begins c = begins_seen _ _ c.self.invariant c.self.view_is
