use Rattle.std.proofs.Common.{◌≢◌, ◌≤◌, ◌++◌, subst, ap, ◌∙◌, arith}
use Rattle.std.specs.List.{AllByRecursion}
use Rattle.char_lanes.specs.Runs.{IsInBounds}
use Rattle.char_lanes.proofs.Lanes.{all_in, numbers_are}
use Rattle.char_lanes.proofs.push_eight.Goals as goal

abbrev are_in : (c : goal.In-Ok) → AllByRecursion (IsInBounds c.args.first c.args.last c.args.without.now) c.args.eight
are_in c =
    let is = c.numbers_of-numbers.ensures in
    all_in c.args.first c.args.last c.args.without.now c.args.eight (omega (arith, c.ranges.last.fits))
    (subst (λ ns. AllByRecursion (λ n. c.args.first ≤ n) ns) is (c.are_in.ensures.low c.if-not-are_in.false))
    (subst (λ ns. AllByRecursion (λ n. n ≤ c.args.last) ns) is (c.are_in.ensures.high c.if-not-are_in.false))
    (subst (λ ns. AllByRecursion (λ x. AllByRecursion (λ n. n ≢ x) ns) c.args.without.now) is
    (c.are_in.ensures.none c.if-not-are_in.false))

pub returns-clause-run : goal.returns-clause-run
returns-clause-run c ok = are_in c

pub returns-clause-items : goal.returns-clause-items
returns-clause-items c ok =
    c.in-Ok.ensures.items
    ∙ ap (λ bytes. c.args.bytes.now.items ++ bytes)
    (
    c.as_slice.ensures ∙ c.bytes_of.ensures ∙ c.numbers_of-numbers.ensures
    ∙ numbers_are c.args.first c.args.last c.args.without.now c.args.eight (are_in c)
    )
