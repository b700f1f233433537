use Rattle.std.proofs.Common.{◌≡◌, ◌+◌, List, [], ◌∷◌, ◌++◌, map, sym, ap, subst, ◌∙◌, arith}
use Rattle.std.proofs.lemmas.List.{map-append}
use Rattle.tty_base.specs.declared.lines.LineStep.{LineStep}
use Rattle.session_gen.specs.Draws.{rx, high_byte}
use Rattle.session_gen.proofs.DrawLemmas.{IsBegun, IsBegun-none, IsBegun-more}
use Rattle.session_gen.proofs.draws.draw_line.Goals as goal

pub loop-init : goal.loop-init
loop-init c =
    let items : c.reserve.new.self.items ≡ [] = c.in_ok-reserve.ensures.items
    ∙ ap (λ b. b.items) c.new-bytes.ensures in (
      omega (arith, c.in_ok-reserve.ensures.ok),
      λ seed first e. subst (λ xs. IsBegun seed first 0 c.args.number.now (map rx xs)) (sym items)
          (IsBegun-none seed first c.args.number.now e),
    )

pub loop-preserved : goal.loop-preserved
loop-preserved c =
    let items : map rx c.add.new.self.items ≡ map rx c.loop.bytes.items ++ rx (high_byte c.draw.new.number) ∷ [] =
    ap (λ b. map rx b.items) c.add.ensures
    ∙ map-append rx c.loop.bytes.items (c.draw.result ∷ [])
    ∙ ap (λ byte. map rx c.loop.bytes.items ++ rx byte ∷ []) c.draw.ensures.byte in (
      omega (arith, c.loop.invariant.0, ap (λ b. b.spare) c.add.ensures),
      λ seed first e.
          subst (λ (xs : List LineStep). IsBegun seed first (c.loop.counter + 1) c.draw.new.number xs) (sym items)
          (IsBegun-more seed first c.loop.counter c.loop.number c.draw.new.number (map rx c.loop.bytes.items)
          (c.loop.invariant.1 seed first e) c.draw.ensures.after),
    )
