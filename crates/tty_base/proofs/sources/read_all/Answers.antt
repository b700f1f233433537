use Rattle.std.proofs.Common.{rules, arith, ◌≡◌, ◌≤◌, ◌++◌, length, take, drop, ap, ◌∙◌, sym, subst, ℕ, List, IfSome}
use Rattle.std.proofs.lemmas.Grind.{common_steps}
use Rattle.tty_base.specs.declared.sources.TakeFault.TheVariants.{TooLong}
use Rattle.tty_base.proofs.Told.{IsReadOf, read_front, read_whole, length_more, rest_of_all, no_more_than, Ok≢Err}
use Rattle.tty_base.proofs.sources.read_all.Goals as goal

pub loop-most-preserved : goal.loop-most-preserved
loop-most-preserved g c =
    let left = g.S.Source.left in
    let k = c.in_ok-count.count in
    let fits : k ≤ length c.read.new.buf = search rules in
    let added : c.append.new.self.items
    ≡ c.loop-most.text.items ++ take k (c.read.new.buf ++ drop c.if-room-lt-PIECE.most c.loop-most.piece) =
    ap (λ v. v.items) c.append.ensures
    ∙ ap (λ xs. xs ++ take k (c.read.new.buf ++ drop c.if-room-lt-PIECE.most c.loop-most.piece))
    c.in_ok-reserve.ensures.items in
    record {
      count = omega arith;
      short = omega
          (arith, length_more c.loop-most.text.items c.append.new.self.items _ k added, c.loop-most.invariant.short);
      read = read_front (left c.args.source.now) (left c.loop-most.source) (left c.read.new.self) c.loop-most.text.items
          c.read.new.buf (drop c.if-room-lt-PIECE.most c.loop-most.piece) c.append.new.self.items k fits
          added c.loop-most.invariant.read c.in_ok-count.ensures.gives;
    }

pub returns-then-count-eq0-clause-whole : goal.returns-then-count-eq0-clause-whole
returns-then-count-eq0-clause-whole g c =
    let left = g.S.Source.left in
    let none : c.in_ok-count.count ≡ 0 = search rules in
    let read = subst
    (λ (xs : List ℕ). IfSome (left c.args.source.now) (λ bytes. IsReadOf xs bytes (left c.loop-most.source)))
    (sym c.in_ok-reserve.ensures.items) c.loop-most.invariant.read in
    read_whole (left c.args.source.now) (left c.loop-most.source) (left c.read.new.self) c.reserve.new.self.items
    c.read.new.buf c.in_ok-count.count none read (c.in_ok-count.ensures.end none (search rules))
    c.in_ok-count.ensures.gives

pub returns-then-count-eq0-clause-too_long : goal.returns-then-count-eq0-clause-too_long
returns-then-count-eq0-clause-too_long g c =
    let fits : length c.reserve.new.self.items ≤ c.args.limit =
    omega (arith, ap (λ (xs : List ℕ). length xs) c.in_ok-reserve.ensures.items, c.loop-most.invariant.short) in
    no_more_than (g.S.Source.left c.args.source.now) (g.S.Source.left c.read.new.self) c.reserve.new.self.items
    c.args.limit (Ok≢Err c.reserve.new.self TooLong) fits (returns-then-count-eq0-clause-whole g c)

pub returns-then-count-eq0-clause-rest : goal.returns-then-count-eq0-clause-rest
returns-then-count-eq0-clause-rest g c = rest_of_all (g.S.Source.left c.args.source.now)
    (g.S.Source.left c.read.new.self) c.reserve.new.self.items (returns-then-count-eq0-clause-whole g c)

pub returns-then-count-room-clause-too_long : goal.returns-then-count-room-clause-too_long
returns-then-count-room-clause-too_long g c = grind (arith, common_steps) steps 2000000

pub loop-most-smaller : goal.loop-most-smaller
loop-most-smaller g c = grind (arith, common_steps) steps 500000
