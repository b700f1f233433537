use Rattle.std.proofs.Common.{rules, ap, ◌∙◌, ◌++◌}
use Rattle.derived_session.specs.declared.slots.StepSlot.{StepSlot}
use Rattle.derived_session.specs.Slots.{hangup_list}
use Rattle.derived_session.proofs.Walking.{hangups_more, hangups_done}
use Rattle.derived_session.proofs.calls.hangups_passed.Goals as goal

pub loop-preserved : goal.loop-preserved
loop-preserved c =
    let old = c.loop.made.items in
    let more = hangups_more c.args.slots.now old c.add_hangup.new.made.items _ c.loop.step c.in_ok-step.step
    c.args.first c.args.count c.loop.counter c.loop-test.true
    (c.in_ok-add_hangup.ensures ∙ ap (λ (s : StepSlot). old ++ hangup_list s.hangup) c.slot_in.ensures)
    (search rules) c.loop.invariant.calls c.loop.invariant.at_step in
    record { calls = more.0; at_step = more.1 }

pub returns : goal.returns
returns c =
    let done = hangups_done c.args.slots.now c.loop.made.items _ c.loop.step c.args.first c.args.count c.loop.counter
    c.loop-test.false c.loop.invariant.calls c.loop.invariant.at_step in
    record { calls = done.0; next = done.1 }
