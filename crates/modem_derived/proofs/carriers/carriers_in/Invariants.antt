use Rattle.std.proofs.Common.{◌≡◌, length, map}
use Rattle.std.specs.List.{range_with_len}
use Rattle.modem_text.specs.Sessions.{carrier_block}
use Rattle.modem_derived.specs.Blocks.{block_of_further, items_of_port}
use Rattle.modem_derived.proofs.carriers.carriers_in.Given as goal

abbrev pub invariant-loop-port : goal.invariant-loop-port
invariant-loop-port l =
    map block_of_further l.blocks.items
    ≡ map (λ p. carrier_block (length (items_of_port p l.pins)) p) (range_with_len 0 l.port)
