use Rattle.std.proofs.Common.{◌≡◌, ◌+◌, ◌-◌, ◌/◌, ◌<◌, ◌≤◌, ℕ, sym, ap, subst, ◌∙◌, arith}
use Rattle.word_ring.specs.Rule.{place}
use Rattle.word_ring.proofs.Standing.{place_next, place_round}
use Rattle.word_ring.proofs.steps.place_of_next.Goals as goal

pub returns-then-at-capacity : goal.returns-then-at-capacity
returns-then-at-capacity c =
    let group = (c.args.next - 1) / 4 in
    let some = c.requires.1 in
    let on : group + 1 ≡ c.args.next / 4 = omega (arith, c.requires.2) in
    let inner : place c.args.capacity group < c.args.capacity / 4 + 3 =
    subst (λ (k : ℕ). k < c.args.capacity / 4 + 3) c.requires.3 (omega (arith, c.if-at-capacity.true)) in
    ap (λ (k : ℕ). k + 1) c.requires.3 ∙ (sym (place_next c.args.capacity group inner) ∙ ap (place c.args.capacity) on)

pub returns-else-at-capacity : goal.returns-else-at-capacity
returns-else-at-capacity c =
    let group = (c.args.next - 1) / 4 in
    let some = c.requires.1 in
    let on : group + 1 ≡ c.args.next / 4 = omega (arith, c.requires.2) in
    let last : c.args.capacity / 4 + 3 ≤ place c.args.capacity group =
    subst (λ (k : ℕ). c.args.capacity / 4 + 3 ≤ k) c.requires.3 (omega (arith, c.if-at-capacity.false)) in
    sym (place_round c.args.capacity group last) ∙ ap (place c.args.capacity) on
