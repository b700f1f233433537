use Rattle.std.proofs.Common.{[], map, ap, ◌∙◌, arith}
use Rattle.tty_calls.specs.Sessions.{script_of}
use Rattle.session_gen.specs.Generated.{caller_script, opening_calls}
use Rattle.session_gen.proofs.ListLemmas.{map-more}
use Rattle.session_gen.proofs.phases.first_phase.Goals as goal

pub loop-port-preserved : goal.loop-port-preserved
loop-port-preserved c = (
  omega (arith, c.loop-port.invariant.0, ap (λ b. b.spare) c.add.ensures),
  omega (arith, c.loop-port.invariant.1, ap (λ b. b.spare) c.add-in-loop-port.ensures),
  ap (λ b. map (λ line. line.items) b.items) c.add.ensures
      ∙ map-more (λ line. line.items) (λ _. []) 0 c.loop-port.port c.loop-port.port c.loop-port.lines.items c.new.result
      (omega arith) c.loop-port.invariant.2 (ap (λ b. b.items) c.new.ensures),
  ap (λ b. map script_of b.items) c.add-in-loop-port.ensures
      ∙ map-more script_of (λ port. caller_script port opening_calls) 0
      c.loop-port.port c.loop-port.port c.loop-port.callers.items
      c.script.result (omega arith) c.loop-port.invariant.3
      (c.script.ensures ∙ ap (caller_script c.loop-port.port) c.in_ok-calls_to_open.ensures),
)
