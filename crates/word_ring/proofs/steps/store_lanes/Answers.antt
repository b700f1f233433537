use Rattle.std.proofs.Common.{rules, arith, subst, ap, ◌∙◌, ◌≡◌, ℕ, List, ◌≤◌, ◌+◌, ◌++◌, length}
use mathlib.Core.List.{IsPrefix}
use Rattle.word_ring.specs.Lanes.{lanes, top_lanes, whole_words}
use Rattle.word_ring.proofs.Keeps.{stores_lanes}
use Rattle.word_ring.proofs.Packing.{top_all}
use Rattle.word_ring.proofs.steps.store_lanes.Goals as goal

pub store-requires : goal.store-requires
store-requires c =
    let v = c.args.seat.now.me.0 in
    let all : top_lanes c.args.word c.args.count ≡ lanes c.args.word 4 =
    ap (top_lanes c.args.word) c.in-4.is ∙ top_all c.args.word in (
      search rules,
      search rules,
      stores_lanes _ _ _ _ _ c.args.word 4 c.requires.seat.1 c.requires.at c.requires.words.0 (omega arith)
          (subst (λ (z : List ℕ). IsPrefix v.written (whole_words v.written ++ z)) all c.requires.begins)
          (subst (λ (z : List ℕ). length (whole_words v.written ++ z) ≤ v.head + v.puts_within) all c.requires.fits),
    )
