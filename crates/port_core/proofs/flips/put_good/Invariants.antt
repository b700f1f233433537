use Rattle.std.proofs.Common.{◌≡◌, take}
use Rattle.tty_base.specs.Characters.{good_characters}
use Rattle.port_core.specs.Given.{with_put}
use Rattle.port_core.proofs.flips.put_good.Given as goal

abbrev pub invariant-loop-byte : goal.invariant-loop-byte
invariant-loop-byte l = l.putter ≡ with_put l.initial.putter (good_characters (take l.byte-index l.bytes))
