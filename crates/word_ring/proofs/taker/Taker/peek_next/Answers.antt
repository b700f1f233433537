use Rattle.std.proofs.Common.{rules, arith, refl, sym, ap, subst, ◌∙◌, ℕ, ◌<◌, ◌++◌, ◌∷◌, []}
use Rattle.word_ring.proofs.Taking.{more_shown, ReadsOne, reads_there, reads_loaded}
use Rattle.word_ring.proofs.Taking.{word_within, loads_next, still_taker, peeks_some}
use Rattle.word_ring.proofs.taker.Taker.peek_next.Goals as goal
use Rattle.word_ring.proofs.taker.Taker.peek_next.Goals.{in-Some, in_default}

pub load-self-inside-requires : goal.load-self-inside-requires
load-self-inside-requires c =
    let t = c.self.inside in
    let at = c.in-Some.ensures.load in
    let more : t.next < t.seat.me.0.tail =
    omega (arith, more_shown _ _ 1 c.self.invariant c.self.view_is (omega (arith, c.requires))) in (
      search rules,
      (let board = ap (λ z. z.shared.table_id.words) c.deref.ensures in
          omega (arith, word_within t c.self.invariant at.1 more _ at.0, board)),
      loads_next t c.self.invariant at.1 more _ at.0 _ _ _,
    )

-- both ways
reads : (c : goal.After-lane_of) → ReadsOne c.self.inside c.match-place_to_load.self-inside
reads c =
    let t = c.self.inside in
    let more : t.next < t.seat.me.0.tail =
    omega (arith, more_shown _ _ 1 c.self.invariant c.self.view_is (omega (arith, c.requires))) in
    elim c.match-place_to_load.branch [
      | in-Some w ↦
          let at = w.in-Some.ensures.load in
          let loaded = w.load-self-inside.ensures in
          subst (ReadsOne t) (sym w.self-inside-is)
          (reads_loaded _ _ c.self.invariant refl at.0 loaded.0 loaded.2 at.1 more)
      | in_default w ↦
          let there = c.place_to_load.ensures.there (search rules) in
          subst (ReadsOne t) (sym w.self-inside-is) (reads_there t c.self.invariant there.0 there.1 more)
    ]

pub invariant_of-self : goal.invariant_of-self
invariant_of-self c = still_taker _ _ _ _ (reads c) c.self.invariant

pub returns : goal.returns
returns c =
    peeks_some _ _ _ _ (reads c) _ c.self.view_is
    ∙ ap (λ (x : ℕ). record c.args.self.now { peeked = c.args.self.now.peeked ++ x ∷ [] }) (sym c.lane_of.ensures)
