use Rattle.std.proofs.Common.{sym, ◌∙◌, ap}
use Rattle.std.specs.Prelude.{slice_index_or}
use Rattle.tty_calls.specs.Plain.{call_of}
use Rattle.tty_terminal.specs.declared.callers.CallerState.{CallerState}
use Rattle.tty_terminal.specs.Terminals.{idle_caller, caller_at}
use Rattle.tty_terminal.specs.Calls.{outcome}
use Rattle.tty_terminal.specs.Questions.{call_waits}
use Rattle.tty_terminal.specs.Meeting.{InRoom}
use Rattle.tty_terminal.proofs.QuestionLemmas.{outcome_waits, must_wait_is}
use Rattle.tty_terminal.proofs.terminals.Terminal.must_wait.Goals as goal

pub returns : goal.returns
returns c =
    let t = c.args.self.now.terminal in
    let s = caller_at t c.args.caller in
    let there = ap (λ (v : InRoom). slice_index_or v.terminal.callers c.args.caller idle_caller) c.self.view_is in
    let stands = ap (λ (x : CallerState). call_waits t x (call_of c.args.call.now)) (c.get-state.ensures ∙ there) in
    let value = c.waits_by_call.ensures ∙ (stands ∙ sym (outcome_waits t s (call_of c.args.call.now))) in
    record { value = value; fact = must_wait_is c.waits_by_call.result (outcome t s (call_of c.args.call.now)) value }
