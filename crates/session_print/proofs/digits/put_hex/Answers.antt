use Rattle.std.proofs.Common.{string_bytes, ap, ◌∙◌, ◌++◌}
use Rattle.hex.specs.Hex.{encode_lower}
use Rattle.session_print.proofs.Pieces.{hex_more, hex_all}
use Rattle.session_print.proofs.digits.put_hex.Goals as goal

pub loop-rest-preserved : goal.loop-rest-preserved
loop-rest-preserved c =
    hex_more _ (string_bytes c.loop-rest.text) (string_bytes c.put_piece.new.text) c.loop-rest.rest.now
    c.split_at.result.0.now c.split_at.result.1.now _
    c.split_at.ensures.front c.split_at.ensures.back c.in_ok-put_piece.ensures c.loop-rest.invariant

pub returns : goal.returns
returns c =
    hex_all _ (string_bytes c.loop-rest.text) c.loop-rest.rest.now (cc) c.loop-rest.invariant
    ∙ ap (λ text. text ++ encode_lower c.args.bytes.now) c.reserve.ensures.bytes
