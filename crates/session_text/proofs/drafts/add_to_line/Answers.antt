use Rattle.session_text.specs.Meaning.{steps_in}
use Rattle.session_text.proofs.Lists.{line_added}
use Rattle.session_text.proofs.drafts.add_to_line.Goals as goal

pub returns-in_ok-add_steps : goal.returns-in_ok-add_steps
returns-in_ok-add_steps c =
    line_added (λ steps. steps.items) c.args.lines.now c.args.port c.index-lines-place.result c.add_steps.new.line
    (steps_in c.args.verb c.args.arguments.now) c.if-place-lines.true
    c.in_ok-add_steps.ensures
