use Rattle.std.proofs.Common.{◌∙◌, ◌++◌, ◌∷◌, [], ℕ, sym, map, ap, length, arith}
use Rattle.std.proofs.lemmas.List.{map-append}
use Rattle.std.proofs.lemmas.List.FromFn.{map-range_with_len_more}
use Rattle.passed_calls.specs.Blocks.{Block}
use Rattle.modem_text.specs.Sessions.{carrier_block}
use Rattle.modem_derived.specs.Blocks.{block_of_further, items_of_port}
use Rattle.modem_derived.proofs.carriers.carriers_in.Goals as goal

pub loop-port-preserved : goal.loop-port-preserved
loop-port-preserved c =
    let at = c.loop-port in
    let f : ℕ → Block = λ p. carrier_block (length (items_of_port p c.args.pins.now)) p in
    ap (map block_of_further) c.in_ok-push.ensures.items
    ∙ (map-append block_of_further at.blocks.items (c.in_ok-block.block ∷ [])
    ∙ ((λ i. at.invariant i ++ c.in_ok-block.ensures i ∷ []) ∙ sym
    (map-range_with_len_more f 0 at.port at.port (omega arith))))
