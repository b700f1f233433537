use Rattle.std.proofs.Common.{arith, ◌∙◌, ap, sym}
use Rattle.handle_table.specs.Handles.{is_live}
use Rattle.live_handles.proofs.HandleNumbers.{first_live, none_live, not_yet}
use Rattle.live_handles.proofs.least_live.Goals as goal

pub loop-h-init : goal.loop-h-init
loop-h-init c k lt = absurd (omega (arith, lt))

pub returns-then-is_live : goal.returns-then-is_live
returns-then-is_live c =
    sym (first_live c.args.port.now c.loop-h.h c.known.ensures.port c.loop-h-test.true
    (ap is_live (sym c.handle.ensures) ∙ (sym c.is_live.ensures ∙ c.if-is_live.true)) c.loop-h.invariant)

pub loop-h-preserved : goal.loop-h-preserved
loop-h-preserved c =
    not_yet c.args.port.now c.loop-h.h
    (ap is_live (sym c.handle.ensures) ∙ (sym c.is_live.ensures ∙ c.if-is_live.false)) c.loop-h.invariant

pub returns : goal.returns
returns c = sym (none_live c.args.port.now c.loop-h.h c.known.ensures.port
    (omega (arith, c.loop-h-test.false)) c.loop-h.invariant)
