use Rattle.std.proofs.Common.{IsTrue, All, [], subst}
use Rattle.std.proofs.lemmas.List.Elements.{All-head}
use Rattle.tty_base.specs.declared.lines.LineStep.{LineStep}
use Rattle.tty_base.specs.Lines.{is_step}
use Rattle.line_steps.specs.declared.LinePart.{LinePart}
use Rattle.line_steps.specs.Steps.{steps_of as steps_of_part}
use Rattle.one_thread.specs.LineInside.{line_at, StandsBefore}
use Rattle.one_thread.proofs.line.play_part.Goals as goal

pub play_step-requires-clause-good : goal.play_step-requires-clause-good
play_step-requires-clause-good g c =
    All-head (λ (s : LineStep). IsTrue (is_step s)) c.in-One.step []
    (subst (λ (p : LinePart). All (λ (s : LineStep). IsTrue (is_step s)) (steps_of_part p)) c.in-One.is c.requires.good)

pub play_step-requires-clause-stands : goal.play_step-requires-clause-stands
play_step-requires-clause-stands g c =
    subst (λ (p : LinePart). StandsBefore (steps_of_part p)
    (line_at c.args.port.now c.args.putter.now c.args.line.now) c.args.run) c.in-One.is c.requires.stands
