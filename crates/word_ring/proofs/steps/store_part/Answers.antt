use Rattle.std.proofs.Common.{rules, arith, subst, ◌≡◌, ℕ, ◌≤◌, ◌+◌, ◌/◌, ◌++◌, length}
use mathlib.Core.List.{IsPrefix}
use Rattle.word_ring.specs.Lanes.{LANE, THREE_LANES, TWO_LANES, top_lanes, whole_words}
use Rattle.word_ring.proofs.Keeps.{stores_lanes}
use Rattle.word_ring.proofs.steps.store_part.Goals as goal

pub store-requires : goal.store-requires
store-requires c = let v = c.args.seat.now.me.0 in (
  search rules,
  search rules,
  stores_lanes _ _ _ _ _ (c.args.word / THREE_LANES) 1 c.requires.seat.1 c.requires.at c.requires.words.0
      (omega arith)
      (subst (λ (k : ℕ). IsPrefix v.written (whole_words v.written ++ top_lanes c.args.word k))
      c.in-1.is c.requires.begins)
      (subst (λ (k : ℕ). length (whole_words v.written ++ top_lanes c.args.word k) ≤ v.head + v.puts_within)
      c.in-1.is c.requires.fits),
)

pub store-requires-in-2 : goal.store-requires-in-2
store-requires-in-2 c = let v = c.args.seat.now.me.0 in (
  search rules,
  search rules,
  stores_lanes _ _ _ _ _ (c.args.word / TWO_LANES) 2 c.requires.seat.1 c.requires.at c.requires.words.0 (omega arith)
      (subst (λ (k : ℕ). IsPrefix v.written (whole_words v.written ++ top_lanes c.args.word k))
      c.in-2.is c.requires.begins)
      (subst (λ (k : ℕ). length (whole_words v.written ++ top_lanes c.args.word k) ≤ v.head + v.puts_within)
      c.in-2.is c.requires.fits),
)

pub store-requires-in_default : goal.store-requires-in_default
store-requires-in_default c =
    let v = c.args.seat.now.me.0 in
    let is : c.args.count ≡ 3 = omega arith in (
      search rules,
      search rules,
      stores_lanes _ _ _ _ _ (c.args.word / LANE) 3 c.requires.seat.1 c.requires.at c.requires.words.0 (omega arith)
          (subst (λ (k : ℕ). IsPrefix v.written (whole_words v.written ++ top_lanes c.args.word k))
          is c.requires.begins)
          (subst (λ (k : ℕ). length (whole_words v.written ++ top_lanes c.args.word k) ≤ v.head + v.puts_within)
          is c.requires.fits),
    )
