use Rattle.std.proofs.Common.{◌∙◌, ap}
use Rattle.std.specs.Prelude.{slice_index_or}
use Rattle.tty_calls.specs.Plain.{call_of}
use Rattle.tty_terminal.specs.declared.callers.CallerState.{CallerState}
use Rattle.tty_terminal.specs.Terminals.{idle_caller}
use Rattle.tty_terminal.specs.Calls.{outcome}
use Rattle.tty_terminal.specs.Meeting.{InRoom, drops_of}
use Rattle.tty_terminal.proofs.terminals.Terminal.drops.Goals as goal

pub returns : goal.returns
returns c =
    let t = c.args.self.now.terminal in
    let there = ap (λ (v : InRoom). slice_index_or v.terminal.callers c.args.caller idle_caller) c.self.view_is in
    c.drops_from.ensures
    ∙ ap (λ (s : CallerState). drops_of (outcome t s (call_of c.args.call.now))) (c.get-state.ensures ∙ there)
