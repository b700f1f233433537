use Rattle.std.proofs.Common.{rules, arith, refl, ap, ◌<◌, inr}
use Rattle.word_ring.specs.Lanes.{lanes}
use Rattle.word_ring.proofs.Taking.{begins_word, more_shown, HasRead, reads_first}
use Rattle.word_ring.proofs.Taking.{word_within, loads_next, still_taker, peeks_some}
use Rattle.word_ring.proofs.taker.Taker.peek_word.Goals as goal

pub load-word-requires : goal.load-word-requires
load-word-requires c =
    let t = c.self.inside in
    let whole = begins_word _ _ c.self.invariant c.self.view_is c.requires.begins in
    let more : t.next < t.seat.me.0.tail =
    omega (arith, more_shown _ _ 4 c.self.invariant c.self.view_is c.requires.shown) in
    let at = c.place_of_word-at.ensures in (
      search rules,
      (let board = ap (λ z. z.shared.table_id.words) c.deref.ensures in
          omega (arith, word_within t c.self.invariant (inr whole) more _ at, board)),
      loads_next t c.self.invariant (inr whole) more _ at _ _ _,
    )

reads : (c : goal.After-self-3-1)
    → HasRead c.self.inside
    record c.self.inside { seat = c.load-word.new.seat; word = c.load-word.result; at = c.place_of_word-at.result } 4
    (lanes c.load-word.result 4)
reads c =
    let whole = begins_word _ _ c.self.invariant c.self.view_is c.requires.begins in
    let loaded = c.load-word.ensures in
    reads_first _ _ c.self.invariant refl c.place_of_word-at.ensures loaded.0 loaded.2 4 whole (omega arith)
    (omega arith) (more_shown _ _ 4 c.self.invariant c.self.view_is c.requires.shown)

pub invariant_of-self : goal.invariant_of-self
invariant_of-self c = still_taker _ _ _ _ (reads c) c.self.invariant

pub returns : goal.returns
returns c = peeks_some _ _ _ _ (reads c) _ c.self.view_is
