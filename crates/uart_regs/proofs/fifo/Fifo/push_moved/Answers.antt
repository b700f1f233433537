use Rattle.std.proofs.Common.{◌≡◌, ◌∷◌, [], ◌++◌, ◌-◌, List, ap, sym, ◌∙◌, arith, length}
use Rattle.tty_base.specs.declared.characters.Flagged.{Flagged}
use Rattle.uart_regs.specs.Row.{row, IsRow}
use Rattle.uart_regs.proofs.Rows.{row-add, row-moved, length-row}
use Rattle.uart_regs.proofs.fifo.Fifo.push_moved.Goals as goal

pub returns : goal.returns
returns c =
    let f = c.self.inside in
    let i = c.self.invariant in
    let few : f.end - f.front ≡ length c.args.self.now =
    sym (length-row f.places f.front f.end i) ∙ ap length c.self.view_is in
    let moved : IsRow c.rotate_left.new.self 0 (f.end - f.front) =
    record { in_order = omega arith; within = omega (arith, i.within); size = c.rotate_left.ensures.len ∙ i.size } in
    row-add c.rotate_left.new.self 0 (f.end - f.front) c.args.c moved (omega (arith, few, c.requires))
    ∙ ap (λ (l : List Flagged). l ++ c.args.c ∷ [])
    (ap (λ (l : List Flagged). row l 0 (f.end - f.front)) c.rotate_left.ensures.after
    ∙ row-moved f.places f.front f.end i
    ∙ c.self.view_is)
