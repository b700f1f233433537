use Rattle.std.proofs.Common.{rules, ◌≡◌, ℕ, ◌+◌, ◌/◌, replicate, List, [], ◌∷◌, ◌++◌, ap}
use mathlib.Core.List.{IsPrefix}
use Rattle.word_ring.specs.PutterParts.{sent_of}
use Rattle.word_ring.specs.Rule.{Slot}
use Rattle.word_ring.proofs.Joining.{parts}
use Rattle.word_ring.proofs.Keeps.{begins}
use Rattle.word_ring.proofs.PastSlot.{takes_slot}
use Rattle.word_ring.proofs.new.ring.Goals as goal

pub new-requires : goal.new-requires
new-requires c =
    let words : c.as_slice.result.now ≡ replicate (c.args.n / 4 + 4) 0 = search rules in
    let slots : (xs : Slot) × (c.push.new.self.items ≡ xs ∷ []) = search rules in
    rw (words, slots.1) (begins c.args.n slots.0)

pub load-requires : goal.load-requires
load-requires c = (search rules, search rules, takes_slot _ _ _ _ (search rules) (search rules))

pub split_seat-other-requires : goal.split_seat-other-requires
split_seat-other-requires c = (search rules, search rules, parts _ _ _ (search rules) (search rules) (search rules))

-- nothing begins each list
nothing_begins : (xs ys : List ℕ) → xs ≡ [] → IsPrefix xs ys
nothing_begins xs ys none = (ys, ap (λ (zs : List ℕ). zs ++ ys) none)

pub invariant_of-putter : goal.invariant_of-putter
invariant_of-putter c =
    let v = c.split_seat-other.result.me.0 in
    let written : v.written ≡ [] = search rules in
    let pushed : v.pushed ≡ [] = search rules in
    record {
      table = search rules;
      key = search rules;
      words = search rules;
      small = search rules;
      at = search rules;
      bare = search rules;
      shown = search rules;
      head = search rules;
      putting = record {
        puts = search rules;
        alone = search rules;
        still = search rules;
        room = search rules;
        begins = nothing_begins v.written (sent_of 0 0 v) written;
        pushed = nothing_begins v.pushed (sent_of 0 0 v) pushed;
        count = search rules;
        fits = search rules;
        rise = search rules;
        most = search rules;
      };
    }
