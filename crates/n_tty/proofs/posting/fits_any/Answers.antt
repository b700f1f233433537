use Rattle.std.proofs.Common.{sym, ◌∙◌}
use Rattle.n_tty.proofs.WritingLemmas.{flowing_fits}
use Rattle.n_tty.proofs.posting.fits_any.Goals as goal

pub returns-then-not-halted : goal.returns-then-not-halted
returns-then-not-halted c =
    flowing_fits c.args.modes.now c.args.out.now c.args.wire.now c.args.bytes.now c.in-len1-up.len_at_least
    (sym c.halted.ensures.value ∙ c.if-not-halted.true)
