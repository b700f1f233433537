use Rattle.std.proofs.Common.{◌==◌, ◌<◌, Option, ℕ, length, ap, sym, arith, ◌∙◌}
use Rattle.std.specs.Prelude.{not, unwrap_or}
use Rattle.passed_calls.proofs.Positions.{position_within}
use Rattle.passed_calls.proofs.counts.count_in.Goals as goal

pub returns-in-None-clause-count : goal.returns-in-None-clause-count
returns-in-None-clause-count g c =
    ap (λ (r : Option ℕ). unwrap_or r (length c.args.placed.now)) (sym c.in-None.is ∙ c.first_beside.ensures)

pub returns-in-Some-clause-count : goal.returns-in-Some-clause-count
returns-in-Some-clause-count g c =
    ap (λ (r : Option ℕ). unwrap_or r (length c.args.placed.now)) (sym c.in-Some.is ∙ c.first_beside.ensures)

pub returns-in-Some-clause-within : goal.returns-in-Some-clause-within
returns-in-Some-clause-within g c =
    let before : c.in-Some.count < length c.args.placed.now =
    position_within (λ o. not (o.script == c.args.script)) c.args.placed.now c.in-Some.count
    (sym c.first_beside.ensures ∙ c.in-Some.is) in
    omega (arith, before)
