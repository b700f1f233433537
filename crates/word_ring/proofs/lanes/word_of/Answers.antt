use Rattle.std.proofs.Common.{rules, ◌∙◌}
use Rattle.word_ring.proofs.Packing.{four_items, lay_four}
use Rattle.word_ring.proofs.lanes.word_of.Goals as goal

pub returns : goal.returns
returns c = rw (c.from.ensures, c.from-2.ensures, c.from-3.ensures, c.from-4.ensures)
    (lay_four _ _ _ _ c.element_fits.fits c.element_fits2.fits c.element_fits3.fits c.element_fits4.fits
    ∙ four_items c.args.xs (search rules))
