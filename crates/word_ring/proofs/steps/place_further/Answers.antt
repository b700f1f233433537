use Rattle.std.proofs.Common.{◌≡◌, ◌+◌, ◌-◌, ◌/◌, ◌<◌, ◌≤◌, ℕ, sym, ap, subst, ◌∙◌, arith}
use Rattle.word_ring.specs.Rule.{place}
use Rattle.word_ring.proofs.Standing.{place_on, place_on_round}
use Rattle.word_ring.proofs.steps.place_further.Goals as goal

pub returns-then-further-words : goal.returns-then-further-words
returns-then-further-words c =
    let group = c.args.sent / 4 in
    let d = c.args.next / 4 - group in
    let on : group + d ≡ c.args.next / 4 = omega (arith, c.requires.order) in
    let inner : place c.args.capacity group + d < c.args.capacity / 4 + 4 =
    subst (λ (k : ℕ). k + d < c.args.capacity / 4 + 4) c.requires.at (omega (arith, c.if-further-words.true)) in
    ap (λ (k : ℕ). k + d) c.requires.at ∙ (sym (place_on c.args.capacity group d inner) ∙ ap (place c.args.capacity) on)

pub returns-else-further-words : goal.returns-else-further-words
returns-else-further-words c =
    let group = c.args.sent / 4 in
    let d = c.args.next / 4 - group in
    let on : group + d ≡ c.args.next / 4 = omega (arith, c.requires.order) in
    let few : d ≤ c.args.capacity / 4 + 2 = omega (arith, c.requires.order) in
    let last : c.args.capacity / 4 + 4 ≤ place c.args.capacity group + d =
    subst (λ (k : ℕ). c.args.capacity / 4 + 4 ≤ k + d) c.requires.at (omega (arith, c.if-further-words.false)) in
    ap (λ (k : ℕ). k + d - (c.args.capacity / 4 + 2)) c.requires.at
    ∙ (sym (place_on_round c.args.capacity group d few last) ∙ ap (place c.args.capacity) on)
