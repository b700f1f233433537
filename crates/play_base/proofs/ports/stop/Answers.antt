use Rattle.std.proofs.Common.{refl, subst, ap, ◌∙◌}
use Rattle.port_core.specs.Ports.{PortValue}
use Rattle.port_core.specs.Flips.{after_meeting}
use Rattle.play_base.specs.Phases.{IsLeftOf}
use Rattle.play_base.proofs.PortLemmas.{full_played}
use Rattle.play_base.proofs.ports.stop.Goals as goal

pub returns-clause-played : goal.returns-clause-played
returns-clause-played c s of full =
    full_played s c.args.port (after_meeting c.args.port.flip c.args.putter) c.args.putter c.args.line
    c.left_of.result.0 c.left_of.result.1 of full c.meet.ensures.putter.begins refl refl
    (subst (λ (v : PortValue). IsLeftOf v c.args.line c.left_of.result.0 c.left_of.result.1)
    c.meet.ensures.port c.left_of.ensures)

pub returns-clause-journal : goal.returns-clause-journal
returns-clause-journal c = c.left_of.ensures.journal ∙ ap (λ (v : PortValue). v.journal) c.meet.ensures.port
