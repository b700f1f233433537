use Rattle.std.proofs.Common.{ap, sym, ◌∙◌, arith}
use Rattle.n_tty.proofs.ErasedLemmas.{width_in, gone-width-le}
use Rattle.n_tty.proofs.discipline.NTty.erase.Goals as goal

pub echo-requires-clause-event : goal.echo-requires-clause-event
echo-requires-clause-event c =
    omega (
      arith,
      ap width_in (sym c.in-Some.is ∙ c.erase.ensures.gone),
      gone-width-le c.args.modes.now c.self.inside.start c.self.inside.edit,
    )
