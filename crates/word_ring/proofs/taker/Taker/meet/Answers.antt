use Rattle.std.proofs.Common.{rules, arith, ap, subst, ◌∙◌, ℕ, ◌≤◌, List, length, All}
use Rattle.std.proofs.lemmas.Grind.{common_steps}
use Rattle.word_ring.specs.Ends.{AreReleased}
use Rattle.word_ring.proofs.Joining.{meets}
use Rattle.word_ring.proofs.Keeps.{compares}
use Rattle.word_ring.proofs.taker.Taker.meet.Goals as goal

pub join_seat-requires : goal.join_seat-requires
join_seat-requires c = (search rules, search rules, search rules, search rules, meets _ _ _ _ _)

pub load-self-inside-requires : goal.load-self-inside-requires
load-self-inside-requires c = (
  search rules,
  search rules,
  compares _ _ _ _ (ap (λ m. m.0.takes) c.join_seat.ensures.2 ∙ c.self.invariant.taking.takes),
)

pub returns-clause-heads : goal.returns-clause-heads
returns-clause-heads c =
    let met = c.join_seat.ensures.2 in
    let released = ap (λ m. m.0.released) met ∙ ap (λ s. s.released) c.self.view_is in
    let taken = ap (λ m. m.0.taken) met ∙ ap (λ s. s.taken) c.self.view_is in
    let heads = ap (λ m. m.0.noted_heads) met ∙ ap (λ s. s.heads) c.note.view_is in (
      subst (λ (z : List ℕ × List ℕ). AreReleased z.0 z.1) (λ i. (released i, heads i)) c.load-self-inside.ensures.2.2,
      subst (λ (z : List ℕ × List ℕ). All (λ h. h ≤ length z.0) z.1) (λ i. (taken i, heads i))
          c.load-self-inside.ensures.2.3,
    )

pub invariant_of-self : goal.invariant_of-self
invariant_of-self c = grind (arith, common_steps) steps 1000000
