use Rattle.std.proofs.Common.{rules, arith, refl, ap, subst, ◌∙◌, ◌+◌, ℕ, List}
use mathlib.Core.List.{IsPrefix}
use Rattle.word_ring.proofs.Keeps.{stores_head}
use Rattle.word_ring.proofs.Taking.{begins_seen, peeked_within, released_taker, released_state, taken_begins}
use Rattle.word_ring.proofs.taker.Taker.release.Goals as goal

pub overflow_add-head : goal.overflow_add-head
overflow_add-head c =
    let t = c.self.invariant.taking in
    let within = peeked_within _ _ c.args.n c.self.invariant c.self.view_is c.requires in
    let shown = t.some (omega (arith, c.if-n-eq0.false)) in
    omega (arith, t.peeked, t.fits)

pub store-requires : goal.store-requires
store-requires c =
    let t = c.self.invariant.taking in
    let count = t.count in
    let enough = t.peeked in
    let within = peeked_within _ _ c.args.n c.self.invariant c.self.view_is c.requires in (
      search rules,
      search rules,
      stores_head _ _ _ _ _ t.takes (omega arith) (omega arith),
    )

pub place_of_head-self-inside-requires : goal.place_of_head-self-inside-requires
place_of_head-self-inside-requires c =
    let within = peeked_within _ _ c.args.n c.self.invariant c.self.view_is c.requires in (
      c.self.invariant.small,
      omega (arith, c.if-n-eq0.false),
      c.self.invariant.taking.at_is (omega (arith, c.if-n-eq0.false)),
    )

pub invariant_of-self : goal.invariant_of-self
invariant_of-self c =
    let within = peeked_within _ _ c.args.n c.self.invariant c.self.view_is c.requires in
    released_taker _ _ c.args.n c.self.invariant (omega (arith, c.if-n-eq0.false)) within c.store.ensures.0
    c.store.ensures.2.1 c.store.ensures.2.0 refl c.place_of_head-self-inside.ensures

pub returns-clause-same : goal.returns-clause-same
returns-clause-same c =
    let within = peeked_within _ _ c.args.n c.self.invariant c.self.view_is c.requires in
    let head = c.self.inside.taken + c.args.n in
    let new = record c.self.inside {
      seat = c.store.new.seat;
      taken = head;
      next = head;
      start = c.place_of_head-self-inside.result;
    } in
    released_state c.self.inside new c.args.n c.self.invariant (omega (arith, c.if-n-eq0.false)) within
    c.store.ensures.0 c.store.ensures.2.1 c.store.ensures.2.0 refl _ c.self.view_is

pub returns-clause-begins : goal.returns-clause-begins
returns-clause-begins c = λ is.
    let inner = invariant_of-self c in
    let stored = c.store.ensures.2.0 in
    let puts = ap (λ v. v.puts) stored ∙ (ap (λ s. s.ended) c.self.view_is ∙ is) in
    let sent = ap (λ v. v.pushed) stored ∙ ap (λ s. s.sent) c.self.view_is in
    subst (λ (z : List ℕ). IsPrefix c.store.new.seat.me.0.taken z) sent (taken_begins _ _ _ _ _ _ _ inner.taking puts)

pub returns-then-n-eq0-clause-begins : goal.returns-then-n-eq0-clause-begins
returns-then-n-eq0-clause-begins c = begins_seen _ _ c.self.invariant c.self.view_is
