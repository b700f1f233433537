use Rattle.std.proofs.Common.{refl, ◌∙◌, sym, arith}
use Rattle.port_core.specs.Ports.{call_in}
use Rattle.legal_runs.specs.Order.{can_go_on}
use Rattle.one_thread.proofs.Ranks.{found_at, not_at, none_at}
use Rattle.one_thread.proofs.after_line.first_to_go_on.Goals as goal

pub loop-place-init : goal.loop-place-init
loop-place-init c = λ other. refl

pub returns-then-goes_on : goal.returns-then-goes_on
returns-then-goes_on c =
    found_at (can_go_on (call_in c.args.port.now.kept) c.args.port.now.terminal) c.args.roles.now c.loop-place.place _
    c.loop-place-test.true (sym c.goes_on.ensures ∙ c.if-goes_on.true) c.loop-place.invariant

pub loop-place-preserved : goal.loop-place-preserved
loop-place-preserved c =
    not_at (can_go_on (call_in c.args.port.now.kept) c.args.port.now.terminal) c.args.roles.now c.loop-place.place _
    c.loop-place-test.true (sym c.goes_on.ensures ∙ c.if-goes_on.false) c.loop-place.invariant

pub returns : goal.returns
returns c = none_at (can_go_on (call_in c.args.port.now.kept) c.args.port.now.terminal) c.args.roles.now
    c.loop-place.place (omega arith) c.loop-place.invariant
