use Rattle.std.proofs.Common.{◌≡◌, ◌+◌, ◌++◌, take}
use Rattle.tty_base.proofs.lists.Chars.append.Given as goal

abbrev pub invariant-loop-c : goal.invariant-loop-c
invariant-loop-c l = record {
  items : l.self.items ≡ l.fn.self.items ++ take l.c-index l.chars;
  spare : l.self.spare + l.c-index ≡ l.fn.self.spare;
}
