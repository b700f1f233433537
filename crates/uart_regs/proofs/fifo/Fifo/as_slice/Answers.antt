use Rattle.std.proofs.Common.{◌≡◌, ◌+◌, ◌-◌, sym, ap, ◌∙◌, arith}
use Rattle.std.proofs.lemmas.List.{drop-take}
use Rattle.uart_regs.specs.Row.{row}
use Rattle.uart_regs.proofs.fifo.Fifo.as_slice.Goals as goal

pub returns : goal.returns
returns c =
    let f = c.self.inside in
    let parts : f.front + (f.end - f.front) ≡ f.end = omega (arith, c.self.invariant.in_order) in
    sym (drop-take f.front (f.end - f.front) f.places) ∙ ap (row f.places f.front) parts ∙ c.self.view_is
