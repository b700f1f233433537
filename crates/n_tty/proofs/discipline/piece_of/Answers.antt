use Rattle.std.proofs.Common.{◌≡◌, length, min, take, ap, ◌∙◌, arith}
use Rattle.std.proofs.lemmas.List.{take_min}
use Rattle.n_tty.proofs.discipline.piece_of.Goals as goal

pub returns : goal.returns
returns c =
    let short : c.min.result ≡ min 64 (length c.args.bytes.now) = omega (arith, c.min.ensures) in
    ap (λ n. take n c.args.bytes.now) short ∙ take_min 64 c.args.bytes.now
