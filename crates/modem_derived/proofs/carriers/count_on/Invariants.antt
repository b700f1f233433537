use Rattle.std.proofs.Common.{◌≡◌, ◌+◌, drop, length}
use Rattle.modem_derived.specs.Blocks.{items_of_port}
use Rattle.modem_derived.proofs.carriers.count_on.Given as goal

abbrev pub invariant-loop-item : goal.invariant-loop-item
invariant-loop-item l =
    l.count + length (items_of_port l.port (drop l.item-index l.pins)) ≡ length (items_of_port l.port l.pins)
