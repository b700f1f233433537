use Rattle.std.proofs.Common.{refl, sym, ◌∙◌, arith}
use Rattle.tty_modes.proofs.FourBytes.{four_more, last_four}
use Rattle.tty_modes.proofs.texts.are_fours_same.Goals as goal

pub loop-place-preserved : goal.loop-place-preserved
loop-place-preserved c = four_more c.loop-place.place c.args.word.now c.args.text.now c.loop-place.invariant
    (sym c.is_same_at.ensures ∙ c.if-not-is_same_at.false)

pub returns : goal.returns
returns c = last_four _ c.loop-place.place c.args.word.now c.args.text.now c.is_same_at-2.result c.requires.same refl
    c.requires.some (omega (arith, c.loop-place-test.false)) c.loop-place.invariant c.is_same_at-2.ensures
