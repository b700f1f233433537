use Rattle.std.proofs.Common.{◌≡◌, ◌*◌, ◌++◌, take}
use Rattle.flip_buffer.specs.Packed.{with_flag}
use Rattle.flip_buffer.proofs.input.FlipIn.put_run.Given as goal

abbrev pub invariant-loop-k : goal.invariant-loop-k
invariant-loop-k l = l.self ≡ record l.fn.self { sent = l.fn.self.sent ++ with_flag l.flag (take (4 * l.k) l.bytes) }

abbrev pub invariant-loop-at : goal.invariant-loop-at
invariant-loop-at l = l.self ≡ record l.fn.self { sent = l.fn.self.sent ++ with_flag l.flag (take l.at l.bytes) }
