use Rattle.std.proofs.Common.{◌≡◌, ◌+◌, ◌*◌, ◌++◌, take}
use Rattle.tty_base.specs.Characters.{good_characters}
use Rattle.tty_base.proofs.lists.Chars.add_any_good.Given as goal

abbrev pub invariant-loop-k : goal.invariant-loop-k
invariant-loop-k l = record {
  items : l.self.items ≡ l.fn.self.items ++ good_characters (take (4 * l.k) l.bytes);
  spare : l.self.spare + 4 * l.k ≡ l.fn.self.spare;
}

abbrev pub invariant-loop-at : goal.invariant-loop-at
invariant-loop-at l = record {
  items : l.self.items ≡ l.fn.self.items ++ good_characters (take l.at l.bytes);
  spare : l.self.spare + l.at ≡ l.fn.self.spare;
}
