use Rattle.std.proofs.Common.{◌<◌, ◌/◌, ap, arith, length}
use Rattle.std.proofs.lemmas.Result.{on_ok_weaker}
use Rattle.session_print.specs.Sizes.{STEPS}
use Rattle.session_print.proofs.Stretches.{stretch_noted, row_longer}
use Rattle.session_print.proofs.places.note_on.Goals as goal

pub loop-alloc-preserved : goal.loop-alloc-preserved
loop-alloc-preserved c =
    row_longer c.args.row.now.items c.loop-alloc.row.items c.push.new.self.items
    (record { first = c.args.place; count = 0; list = c.new.result }) c.in_ok-push.ensures.items
    (ap (λ list. record { first = c.args.place; count = 0; list = list }) c.new.ensures.items) c.loop-alloc.invariant

pub returns : goal.returns
returns c =
    let row = c.loop-alloc.row.items in
    let within : c.args.step / STEPS < length row = omega (arith, c.loop-alloc-test.false, c.len.ensures) in
    on_ok_weaker c.note.result
    (stretch_noted c.args.row.now.items row c.index_mut.result.now c.note.new.self c.args.step c.args.place
    within c.loop-alloc.invariant c.index_mut.ensures.value) c.note.ensures
