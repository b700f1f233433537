use Rattle.std.proofs.Common.{length, ap, ◌∙◌, arith}
use Rattle.n_tty.specs.Posting.{all_posted_bytes}
use Rattle.n_tty.proofs.BoundLemmas.{echo_posted-le}
use Rattle.n_tty.proofs.discipline.NTty.echo.Goals as goal

pub echo_bytes-requires-clause-spare : goal.echo_bytes-requires-clause-spare
echo_bytes-requires-clause-spare c =
    let modes = c.args.modes.now in
    let text =
    ap (λ bytes. length (all_posted_bytes modes c.self.inside.out bytes)) (c.as_slice.ensures.value ∙ c.echo.ensures) in
    omega (arith, text, echo_posted-le modes c.self.inside.out c.args.event c.requires.event, c.requires.room)
