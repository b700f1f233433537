use Rattle.std.proofs.Common.{ap, sym, subst, ◌∙◌, ◌≤◌, ℕ, List, length, All}
use Rattle.std.proofs.lemmas.List.{length-map}
use Rattle.tty_base.specs.declared.characters.Flagged.{Flagged}
use Rattle.word_ring.specs.Ends.{IsOneWithin, AreReleased}
use Rattle.flip_buffer.specs.Packed.{char_of}
use Rattle.flip_buffer.proofs.Characters.{chars_within}
use Rattle.flip_buffer.proofs.output.FlipOut.meet.Goals as goal

pub returns-clause-compared : goal.returns-clause-compared
returns-clause-compared c =
    let taken = ap (λ s. s.taken) c.self.view_is in
    let pushed = ap (λ s. s.pushed) c.note.view_is in
    subst (λ (z : List Flagged × List Flagged). IsOneWithin z.0 z.1) (λ i. (taken i, pushed i))
    (chars_within _ _ c.meet.ensures.compared)

pub returns-clause-heads : goal.returns-clause-heads
returns-clause-heads c =
    let released = ap (λ s. s.released) c.self.view_is in
    let taken = sym (length-map c.self.inside.taker.taken char_of) ∙ ap (λ s. length s.taken) c.self.view_is in
    let heads = ap (λ s. s.heads) c.note.view_is in
    let told = c.meet.ensures.heads in (
      subst (λ (z : List ℕ × List ℕ). AreReleased z.0 z.1) (λ i. (released i, heads i)) told.0,
      subst (λ (z : ℕ × List ℕ). All (λ h. h ≤ z.0) z.1) (λ i. (taken i, heads i)) told.1,
    )
