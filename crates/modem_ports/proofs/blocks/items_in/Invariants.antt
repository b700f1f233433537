use Rattle.std.proofs.Common.{◌≡◌, ◌++◌, [], map, drop, slice_index_or}
use Rattle.modem_derived.specs.Blocks.{items_of_port, pins_of}
use Rattle.modem_ports.proofs.blocks.items_in.Given as goal

abbrev pub invariant-loop-item : goal.invariant-loop-item
invariant-loop-item l =
    l.items.items ++ items_of_port l.port (drop l.item-index l.item-items)
    ≡ items_of_port l.port (slice_index_or (map pins_of l.parts) l.k [])
