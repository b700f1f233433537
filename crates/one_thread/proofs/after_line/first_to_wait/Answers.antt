use Rattle.std.proofs.Common.{refl, sym, ap, ◌∙◌, is_some, arith}
use Rattle.tty_terminal.specs.declared.callers.CallerState.{CallerState}
use Rattle.legal_runs.specs.Order.{is_waiting}
use Rattle.one_thread.proofs.Ranks.{found_at, not_at, none_at}
use Rattle.one_thread.proofs.after_line.first_to_wait.Goals as goal

pub loop-place-init : goal.loop-place-init
loop-place-init c = λ other. refl

pub returns-then-is_some : goal.returns-then-is_some
returns-then-is_some c = found_at (is_waiting c.args.port.now.terminal) c.args.roles.now c.loop-place.place _
    c.loop-place-test.true
    (sym (ap (λ (s : CallerState). is_some s.waits) c.caller.ensures) ∙ (sym c.is_some.ensures ∙ c.if-is_some.true))
    c.loop-place.invariant

pub loop-place-preserved : goal.loop-place-preserved
loop-place-preserved c = not_at (is_waiting c.args.port.now.terminal) c.args.roles.now c.loop-place.place _
    c.loop-place-test.true
    (sym (ap (λ (s : CallerState). is_some s.waits) c.caller.ensures) ∙ (sym c.is_some.ensures ∙ c.if-is_some.false))
    c.loop-place.invariant

pub returns : goal.returns
returns c = none_at (is_waiting c.args.port.now.terminal) c.args.roles.now c.loop-place.place (omega arith)
    c.loop-place.invariant
