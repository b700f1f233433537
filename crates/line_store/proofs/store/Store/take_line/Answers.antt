use Rattle.std.proofs.Common.{◌≡◌, ◌∙◌, ◌+◌, ◌-◌, ◌++◌, ℕ, List, length, min, ap, arith}
use Rattle.tty_base.specs.Contents.{Contents}
use Rattle.line_store.specs.Unread.{first_piece, read_size}
use Rattle.line_store.proofs.PieceLemmas as pieces
use Rattle.line_store.proofs.store.Store.take_line.Goals as goal

abbrev contents : List ℕ → ℕ → Contents ℕ
contents items spare = record { items = items; spare = spare }

pub move_front-requires-clause-within : goal.move_front-requires-clause-within
move_front-requires-clause-within c = omega (
  arith,
  ap length (pieces.bytes_in _ _ _ _ c.self.invariant c.self.view_is),
  c.min-count.ensures,
  c.first_len.ensures.within,
)

pub shorten_first-requires-clause-some : goal.shorten_first-requires-clause-some
shorten_first-requires-clause-some c =
    omega (arith, pieces.ends_in _ _ _ _ c.self.invariant c.self.view_is, c.requires.complete)

pub shorten_first-requires-clause-within : goal.shorten_first-requires-clause-within
shorten_first-requires-clause-within c =
    let is : c.min-count.result ≡ min (read_size c.args.n) (length (first_piece c.args.self.now)) =
    omega (arith, c.min.ensures, c.min-count.ensures, c.first_len.ensures.len) in
    pieces.front_within _ _ _ _ c.self.invariant c.self.view_is (read_size c.args.n)
    c.min-count.result is c.requires.complete

pub invariant_of-self : goal.invariant_of-self
invariant_of-self c =
    let is : c.min-count.result ≡ min (read_size c.args.n) (length (first_piece c.args.self.now)) =
    omega (arith, c.min.ensures, c.min-count.ensures, c.first_len.ensures.len) in
    pieces.store_left _ _ _ _ c.self.invariant c.self.view_is (read_size c.args.n) c.min-count.result is
    c.requires.complete _ _ c.shorten_first.ensures c.move_front.ensures.rest

pub returns-clause-line : goal.returns-clause-line
returns-clause-line c =
    let is : c.min-count.result ≡ min (read_size c.args.n) (length (first_piece c.args.self.now)) =
    omega (arith, c.min.ensures, c.min-count.ensures, c.first_len.ensures.len) in
    c.move_front.ensures.front
    ∙ ap (λ front. contents (c.args.out.now.items ++ front) (c.args.out.now.spare - c.min-count.result))
    (pieces.front_of_line _ _ _ _ c.self.invariant c.self.view_is (read_size c.args.n) c.min-count.result is)

pub returns-clause-left : goal.returns-clause-left
returns-clause-left c =
    let is : c.min-count.result ≡ min (read_size c.args.n) (length (first_piece c.args.self.now)) =
    omega (arith, c.min.ensures, c.min-count.ensures, c.first_len.ensures.len) in
    pieces.left _ _ _ _ c.self.invariant c.self.view_is (read_size c.args.n) c.min-count.result is c.requires.complete
    _ _ c.shorten_first.ensures c.move_front.ensures.rest
