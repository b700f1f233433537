use Rattle.std.proofs.Common.{arith, ap, subst, ℕ, List}
use Rattle.std.proofs.lemmas.Grind.{common_steps}
use mathlib.Core.List.{IsPrefix}
use Rattle.tty_base.specs.declared.characters.Flagged.{Flagged}
use Rattle.word_ring.specs.Ends.{AreReleased}
use Rattle.flip_buffer.proofs.Characters.{chars_begin}
use Rattle.flip_buffer.proofs.output.FlipOut.end.Goals as goal

pub returns-clause-compared : goal.returns-clause-compared
returns-clause-compared c =
    let taken = ap (λ s. s.taken) c.self.view_is in
    let sent = ap (λ s. s.sent) c.putter.view_is in
    subst (λ (z : List Flagged × List Flagged). IsPrefix z.0 z.1) (λ i. (taken i, sent i))
    (chars_begin _ _ c.finish.ensures.compared)

pub returns-clause-heads : goal.returns-clause-heads
returns-clause-heads c =
    let released = ap (λ s. s.released) c.self.view_is in
    let heads = ap (λ s. s.heads) c.putter.view_is in
    subst (λ (z : List ℕ × List ℕ). AreReleased z.0 z.1) (λ i. (released i, heads i)) c.finish.ensures.heads

pub returns-clause-sent : goal.returns-clause-sent
returns-clause-sent c = grind (arith, common_steps) steps 500000
