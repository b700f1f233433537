use Rattle.std.proofs.Common.{◌<◌, arith, length}
use Rattle.std.proofs.lemmas.Result.{on_ok_weaker}
use Rattle.session_print.specs.Printing.{stretches_of}
use Rattle.session_print.proofs.Stretches.{caller_noted}
use Rattle.session_print.proofs.places.Places.note.Goals as goal

pub returns : goal.returns
returns c =
    let rows = c.loop-self.self.rows.items in
    let within : c.args.turn.caller < length rows = omega (arith, c.loop-self-test.false, c.len.ensures) in
    on_ok_weaker c.note_on.result
    (caller_noted (λ row. stretches_of row.items) c.args.self.now.rows.items rows c.index_mut.result.now
    c.note_on.new.row c.args.turn.caller c.args.turn.step c.args.place
    within c.loop-self.invariant c.index_mut.ensures.value) c.note_on.ensures
