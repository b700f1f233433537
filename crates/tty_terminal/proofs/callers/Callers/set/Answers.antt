use Rattle.std.proofs.Common.{◌<◌, ◌∙◌, length, ap, arith}
use mir.Val.{bool_byte}
use Rattle.tty_terminal.specs.Terminals.{is_over, is_resting, has_begun}
use Rattle.tty_terminal.proofs.CountLemmas.{counted, counted_anew}
use Rattle.tty_terminal.proofs.callers.Callers.set.Goals as goal

pub overflow_sub-self : goal.overflow_sub-self
overflow_sub-self c =
    let cs = c.self.inside.states.items in
    let lt : c.args.caller < length cs = omega (arith, c.requires, ap length c.self.view_is) in
    counted is_over cs _ _ _ _ lt c.index.ensures c.from.ensures c.self.invariant.over

pub overflow_sub-self-2 : goal.overflow_sub-self-2
overflow_sub-self-2 c =
    let cs = c.self.inside.states.items in
    let lt : c.args.caller < length cs = omega (arith, c.requires, ap length c.self.view_is) in
    counted is_resting cs _ _ _ _ lt c.index.ensures (c.from-3.ensures ∙ ap bool_byte c.rests.ensures) c.self.invariant.resting

pub overflow_sub-self-3 : goal.overflow_sub-self-3
overflow_sub-self-3 c =
    let cs = c.self.inside.states.items in
    let lt : c.args.caller < length cs = omega (arith, c.requires, ap length c.self.view_is) in
    counted has_begun cs _ _ _ _ lt c.index.ensures (c.from-5.ensures ∙ ap bool_byte c.began.ensures) c.self.invariant.begun

pub invariant_of-self : goal.invariant_of-self
invariant_of-self c =
    let cs = c.self.inside.states.items in
    let lt : c.args.caller < length cs = omega (arith, c.requires, ap length c.self.view_is) in
    let at = c.index.ensures in
    let i = c.self.invariant in
    record {
      over = counted_anew is_over cs _ _ _ _ _ _ lt at c.from.ensures c.from-2.ensures i.over;
      resting = counted_anew is_resting cs _ _ _ _ _ _ lt at (c.from-3.ensures ∙ ap bool_byte c.rests.ensures)
          (c.from-4.ensures ∙ ap bool_byte c.rests-2.ensures) i.resting;
      begun = counted_anew has_begun cs _ _ _ _ _ _ lt at (c.from-5.ensures ∙ ap bool_byte c.began.ensures)
          (c.from-6.ensures ∙ ap bool_byte c.began-2.ensures) i.begun;
    }
