use Rattle.std.proofs.lemmas.Result.{on_ok_weaker}
use Rattle.derived_session.proofs.Noting.{note_one}
use Rattle.derived_session.proofs.slots.note.Goals as goal

pub returns : goal.returns
returns c =
    on_ok_weaker c.note_step.result
    (note_one c.args.slots.now.items c.reach_caller.new.slots.items c.args.one c.index_mut.result.now
    c.note_step.new.steps c.in_ok-reach_caller.ensures.room c.in_ok-reach_caller.ensures.same c.index_mut.ensures.value)
    c.note_step.ensures
