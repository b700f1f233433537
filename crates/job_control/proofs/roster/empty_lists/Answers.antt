use Rattle.std.proofs.Common.{◌≡◌, ◌∙◌, ◌++◌, ◌∷◌, [], ◌+◌, ℕ, List, ap, arith, map, replicate}
use Rattle.std.proofs.lemmas.List.{map-append, replicate_more}
use Rattle.job_control.proofs.roster.empty_lists.Goals as goal

-- one more that is empty
one_more : {X Y : Type 0} (f : X → List Y) (new old : List X) (x : X) (n : ℕ)
    → new ≡ old ++ x ∷ []
    → f x ≡ []
    → map f old ≡ replicate n []
    → map f new ≡ replicate (n + 1) []
one_more f new old x n is empty before =
    ap (λ xs. map f xs) is
    ∙ map-append f old (x ∷ [])
    ∙ ap (λ ys. map f old ++ ys ∷ []) empty
    ∙ ap (λ lists. lists ++ [] ∷ []) before
    ∙ replicate_more n []

pub loop-preserved : goal.loop-preserved
loop-preserved c = one_more (λ list. list.items) c.push.new.self.items c.loop.lists.items c.new.result c.loop.counter
    c.in_ok-push.ensures.items c.new.ensures.items c.loop.invariant

pub returns : goal.returns
returns c =
    let all : c.loop.counter ≡ c.args.count = omega (arith, c.loop-test.false, c.loop.auto.counter-end) in
    c.loop.invariant ∙ ap (λ n. replicate n []) all
