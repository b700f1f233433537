use Rattle.std.proofs.Common.{◌≡◌, inl, inr, length, refl, ap, subst, ◌∙◌}
use Rattle.tty_calls.specs.declared.answers.Denied.{Denied}
use Rattle.tty_calls.specs.declared.answers.Denied.TheVariants.{Full}
use Rattle.port_core.specs.Ports.{PortValue, Denies}
use Rattle.port_core.specs.Phases.{HangsUp}
use Rattle.port_core.specs.Flips.{after_meeting}
use Rattle.play_base.specs.Phases.{IsLeftOf}
use Rattle.play_base.specs.Scenes.{HasAnyOrder}
use Rattle.play_base.proofs.OrderLemmas.{scene_in}
use Rattle.play_base.proofs.PortLemmas.{full_played, full_at_end, hung_played, hung_ends, full_ends, ends_in_order}
use Rattle.play_base.proofs.ports.hang_up.Goals as goal

pub returns-in-Ok-clause-played : goal.returns-in-Ok-clause-played
returns-in-Ok-clause-played c s at_end =
    let v = c.args.port in
    hung_played s v (after_meeting v.flip c.args.putter) c.args.putter c.meet.new.putter c.last_hangup.new.self
    c.args.line c.left_of.result.0 c.left_of.result.1 at_end c.known.ensures.port
    (ap (λ p. p.sent) c.meet.ensures.putter.putter)
    (subst (λ (x : PortValue). HangsUp x c.last_hangup.new.self c.meet.new.putter)
    c.meet.ensures.port c.in-Ok.ensures.ok)
    c.left_of.ensures

pub returns-in-Ok-clause-ends : goal.returns-in-Ok-clause-ends
returns-in-Ok-clause-ends c s of_scene past =
    let v = c.args.port in
    hung_ends s v (after_meeting v.flip c.args.putter) c.meet.new.putter c.last_hangup.new.self c.args.line
    c.left_of.result.0 c.left_of.result.1 of_scene c.known.ensures.port past
    (subst (λ (x : PortValue). HangsUp x c.last_hangup.new.self c.meet.new.putter)
    c.meet.ensures.port c.in-Ok.ensures.ok)
    c.left_of.ensures

pub returns-in-Ok-clause-in_order : goal.returns-in-Ok-clause-in_order
returns-in-Ok-clause-in_order c s of_scene past see_all =
    let v = c.args.port in
    ends_in_order s v.journal c.args.line.report.overruns.items c.left_of.result.0 of_scene.turns see_all
    (hung_ends s v (after_meeting v.flip c.args.putter) c.meet.new.putter c.last_hangup.new.self c.args.line
    c.left_of.result.0 c.left_of.result.1 (scene_in HasAnyOrder s v of_scene tt) c.known.ensures.port past
    (subst (λ (x : PortValue). HangsUp x c.last_hangup.new.self c.meet.new.putter)
    c.meet.ensures.port c.in-Ok.ensures.ok)
    c.left_of.ensures)

pub returns-in-Err-Full-clause-played : goal.returns-in-Err-Full-clause-played
returns-in-Err-Full-clause-played c s at_end =
    let v = c.args.port in
    let denied : Denies Full c.meet.new.self c.last_hangup.new.self =
    subst (λ (d : Denied). Denies d c.meet.new.self c.last_hangup.new.self)
    c.in-Err-Full.field-0-is c.in-Err-Full.ensures.err in
    let full : length v.journal ≡ v.limit =
    subst (λ (x : PortValue). length x.journal ≡ x.limit) c.meet.ensures.port denied.0 in
    full_played s v (after_meeting v.flip c.args.putter) c.args.putter c.args.line c.left_of-in-Err-Full.result.0
    c.left_of-in-Err-Full.result.1 at_end.port_of
    (full_at_end s v c.args.putter c.args.line at_end full) c.meet.ensures.putter.begins refl refl
    (subst (λ (x : PortValue). IsLeftOf x c.args.line c.left_of-in-Err-Full.result.0 c.left_of-in-Err-Full.result.1)
    (denied.1 ∙ c.meet.ensures.port) c.left_of-in-Err-Full.ensures)

pub returns-in-Err-Full-clause-ends : goal.returns-in-Err-Full-clause-ends
returns-in-Err-Full-clause-ends c s of_scene past =
    let v = c.args.port in
    let denied : Denies Full c.meet.new.self c.last_hangup.new.self =
    subst (λ (d : Denied). Denies d c.meet.new.self c.last_hangup.new.self)
    c.in-Err-Full.field-0-is c.in-Err-Full.ensures.err in
    full_ends s v.journal c.last_hangup.new.self c.args.line c.left_of-in-Err-Full.result.0
    c.left_of-in-Err-Full.result.1 (ap (λ (x : PortValue). x.journal) (denied.1 ∙ c.meet.ensures.port))
    c.left_of-in-Err-Full.ensures

pub returns-in-Err-Full-clause-in_order : goal.returns-in-Err-Full-clause-in_order
returns-in-Err-Full-clause-in_order c s of_scene past see_all =
    let v = c.args.port in
    let denied : Denies Full c.meet.new.self c.last_hangup.new.self =
    subst (λ (d : Denied). Denies d c.meet.new.self c.last_hangup.new.self)
    c.in-Err-Full.field-0-is c.in-Err-Full.ensures.err in
    ends_in_order s v.journal c.args.line.report.overruns.items c.left_of-in-Err-Full.result.0 of_scene.turns see_all
    (full_ends s v.journal c.last_hangup.new.self c.args.line c.left_of-in-Err-Full.result.0
    c.left_of-in-Err-Full.result.1 (ap (λ (x : PortValue). x.journal) (denied.1 ∙ c.meet.ensures.port))
    c.left_of-in-Err-Full.ensures)

pub returns-in-Ok-clause-journal : goal.returns-in-Ok-clause-journal
returns-in-Ok-clause-journal c =
    let hung : HangsUp (record c.args.port { flip = after_meeting c.args.port.flip c.args.putter })
    c.last_hangup.new.self c.meet.new.putter =
    subst (λ (x : PortValue). HangsUp x c.last_hangup.new.self c.meet.new.putter)
    c.meet.ensures.port c.in-Ok.ensures.ok in
    inr (hung.dropped, c.left_of.ensures.journal ∙ ap (λ (x : PortValue). x.journal) hung.appends.appended)

pub returns-in-Err-Full-clause-journal : goal.returns-in-Err-Full-clause-journal
returns-in-Err-Full-clause-journal c =
    let denied : Denies Full c.meet.new.self c.last_hangup.new.self =
    subst (λ (d : Denied). Denies d c.meet.new.self c.last_hangup.new.self)
    c.in-Err-Full.field-0-is c.in-Err-Full.ensures.err in
    inl (c.left_of-in-Err-Full.ensures.journal ∙ ap (λ (x : PortValue). x.journal) (denied.1 ∙ c.meet.ensures.port))
