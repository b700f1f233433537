use Rattle.std.proofs.Common.{◌≡◌, ◌∙◌, ◌++◌, ◌∷◌, [], ℕ, List, take, ap, sym, subst, arith}
use Rattle.std.proofs.lemmas.List.{take_all}
use mathlib.Core.List.{IsPrefix}
use Rattle.word_ring.proofs.Beginnings.{begins_itself}
use Rattle.flip_buffer.proofs.Characters.{took, none_left}
use Rattle.flip_buffer.proofs.output.FlipOut.drop_all.Goals as goal

pub returns-clause-shown : goal.returns-clause-shown
returns-clause-shown c =
    let old = c.args.self.now in
    let new = c.release.new.self in
    let tail = c.look.new.self.floor in
    let peeked = c.loop.invariant.same in
    let released = c.release.ensures.same in
    let t = took c.loop.self (take c.min-shown.result c.loop.self.peeked) in
    let tails : new.tails ≡ old.tails ++ tail ∷ [] =
    ap (λ s. s.tails) released ∙ (t.tails ∙ (ap (λ s. s.tails) peeked ∙ ap (λ s. s.tails) c.look.ensures.same)) in
    let floor : new.floor ≡ tail = ap (λ s. s.floor) released ∙ (t.floor ∙ ap (λ s. s.floor) peeked) in
    let count = c.look.ensures.count in
    let most = c.look.ensures.most in (
      tail,
      record {
        looked = subst (λ (z : List ℕ). IsPrefix (old.tails ++ tail ∷ []) z) (sym tails)
            (begins_itself (old.tails ++ tail ∷ []));
        rises = c.look.ensures.rises;
        floor = omega arith;
        least = omega arith;
        most = omega arith;
        ended = c.look.ensures.ended;
      },
      omega (arith, c.min-shown.ensures),
    )

pub returns-clause-peeked : goal.returns-clause-peeked
returns-clause-peeked c =
    let peeked = c.loop.self.peeked in
    let n = c.min-shown.result in
    ap (λ s. s.peeked) c.release.ensures.same
    ∙ none_left c.loop.self (take n peeked) (take_all n peeked (omega (arith, c.loop.invariant.count)))
