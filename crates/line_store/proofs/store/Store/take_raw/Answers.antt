use Rattle.std.proofs.Common.{◌≡◌, ◌∙◌, ◌+◌, ◌-◌, ◌++◌, ℕ, List, length, min, take, ap, arith}
use Rattle.std.proofs.lemmas.List.{length-take}
use Rattle.tty_base.specs.Contents.{Contents}
use Rattle.line_store.specs.Unread.{bytes_of, read_size}
use Rattle.line_store.proofs.PieceLemmas as pieces
use Rattle.line_store.proofs.store.Store.take_raw.Goals as goal

abbrev contents : List ℕ → ℕ → Contents ℕ
contents items spare = record { items = items; spare = spare }

pub move_front-requires-clause-room : goal.move_front-requires-clause-room
move_front-requires-clause-room c =
    omega (
      arith,
      length-take (read_size c.args.n) (bytes_of c.args.self.now),
      ap length (pieces.bytes_in _ _ _ _ c.self.invariant c.self.view_is),
      c.min.ensures,
      c.min-count.ensures,
      c.len.ensures.len,
      c.requires.room,
    )

pub overflow_sub-self : goal.overflow_sub-self
overflow_sub-self c =
    let is : c.min-count.result ≡ min (read_size c.args.n) (length c.self.inside.bytes) =
    omega (arith, c.min.ensures, c.min-count.ensures, c.len.ensures.len) in
    pieces.plain_within _ _ _ _ c.self.invariant c.self.view_is (read_size c.args.n)
    c.min-count.result is c.requires.plain

pub invariant_of-self : goal.invariant_of-self
invariant_of-self c =
    let is : c.min-count.result ≡ min (read_size c.args.n) (length c.self.inside.bytes) =
    omega (arith, c.min.ensures, c.min-count.ensures, c.len.ensures.len) in
    pieces.plain_store _ _ _ _ c.self.invariant c.self.view_is (read_size c.args.n) c.min-count.result
    is c.requires.plain _ c.move_front.ensures.rest

pub returns-clause-count : goal.returns-clause-count
returns-clause-count c =
    omega (
      arith,
      length-take (read_size c.args.n) (bytes_of c.args.self.now),
      ap length (pieces.bytes_in _ _ _ _ c.self.invariant c.self.view_is),
      c.min.ensures,
      c.min-count.ensures,
      c.len.ensures.len,
    )

pub returns-clause-bytes : goal.returns-clause-bytes
returns-clause-bytes c =
    let is : c.min-count.result ≡ min (read_size c.args.n) (length c.self.inside.bytes) =
    omega (arith, c.min.ensures, c.min-count.ensures, c.len.ensures.len) in
    c.move_front.ensures.front
    ∙ ap (λ front. contents (c.args.out.now.items ++ front) (c.args.out.now.spare - c.min-count.result))
    (pieces.plain_front _ _ _ _ c.self.invariant c.self.view_is (read_size c.args.n)
    c.min-count.result is c.requires.plain)

pub returns-clause-left : goal.returns-clause-left
returns-clause-left c =
    let is : c.min-count.result ≡ min (read_size c.args.n) (length c.self.inside.bytes) =
    omega (arith, c.min.ensures, c.min-count.ensures, c.len.ensures.len) in
    pieces.plain_left _ _ _ _ c.self.invariant c.self.view_is (read_size c.args.n) c.min-count.result
    is c.requires.plain _ c.move_front.ensures.rest
