use Rattle.std.proofs.Common.{◌≡◌, ◌++◌, take}
use Rattle.n_tty.proofs.storing.add_all.Given as goal

abbrev pub invariant-loop-byte : goal.invariant-loop-byte
invariant-loop-byte l = l.edit ≡ l.fn.edit ++ take l.byte-index l.bytes
