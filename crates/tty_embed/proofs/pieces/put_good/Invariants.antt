use Rattle.std.proofs.Common.{◌≡◌, length, map, take}
use Rattle.tty_embed.specs.Embedded.{good}
use Rattle.tty_embed.proofs.pieces.put_good.Given as goal

abbrev pub invariant-loop-i : goal.invariant-loop-i
invariant-loop-i l =
    record {
      same : length l.place ≡ length l.initial.place;
      made : take l.i l.place ≡ map good (take l.i l.bytes);
    }
