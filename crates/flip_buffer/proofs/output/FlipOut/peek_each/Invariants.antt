use Rattle.std.proofs.Common.{◌≡◌, ◌-◌, ◌++◌, List, length}
use Rattle.tty_base.specs.declared.characters.Flagged.{Flagged}
use Rattle.flip_buffer.proofs.output.FlipOut.peek_each.Given as goal

abbrev pub invariant-loop : goal.invariant-loop
invariant-loop l =
    (xs : List Flagged)
    × (length xs ≡ l.counter)
    × (l.out ≡ record { items = l.initial.out.items ++ xs; spare = l.initial.out.spare - l.counter })
    × (l.self ≡ record l.initial.self { peeked = l.initial.self.peeked ++ xs })
