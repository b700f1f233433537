use Rattle.std.proofs.Common.{sym, ◌∙◌}
use Rattle.tty_calls.specs.Plain.{call_of}
use Rattle.tty_terminal.proofs.QuestionLemmas.{outcome_drops}
use Rattle.tty_terminal.proofs.terminals.Terminal.drops_from.Goals as goal

pub returns : goal.returns
returns c =
    c.drops_by_call.ensures ∙ sym (outcome_drops c.args.self.now.terminal c.args.state.now (call_of c.args.call.now))
