use Rattle.std.proofs.Common.{rules, refl, ap, ◌∙◌, ◌++◌}
use Rattle.tty_calls.specs.Plain.{call_of}
use Rattle.derived_session.specs.declared.slots.StepSlot.{StepSlot}
use Rattle.derived_session.specs.Slots.{hangup_list}
use Rattle.derived_session.proofs.Walking.{further_on, plain_on}
use Rattle.derived_session.proofs.calls.pass_next.Goals as goal

pub returns-in_ok-place-in-Some : goal.returns-in_ok-place-in-Some
returns-in_ok-place-in-Some g c =
    let old = c.args.made.now.items in
    further_on c.args.calls.now.items c.args.placed.now c.args.at c.args.slots.now old c.add_hangup.new.made.items
    c.in-Some.place _ (search rules)
    (c.in_ok-add_hangup-in-Some.ensures ∙ ap (λ (s : StepSlot). old ++ hangup_list s.hangup) c.slot_in-slot.ensures)
    (search rules) refl refl (search rules)

pub returns-in_ok-place-in-None : goal.returns-in_ok-place-in-None
returns-in_ok-place-in-None g c =
    let old = c.args.made.now.items in
    plain_on c.args.calls.now.items c.args.placed.now c.args.at c.args.slots.now old c.add_call.new.made.items
    (call_of c.at.result) _ c.requires (search rules) c.at.ensures
    (search rules)
    (search rules) refl refl (search rules)
