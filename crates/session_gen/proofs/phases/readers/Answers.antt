use Rattle.std.proofs.Common.{map, ap, ◌∙◌, arith}
use Rattle.tty_calls.specs.Sessions.{script_of}
use Rattle.session_gen.specs.Generated.{caller_script, reading_calls}
use Rattle.session_gen.proofs.ListLemmas.{map-more}
use Rattle.session_gen.proofs.phases.readers.Goals as goal

pub loop-port-preserved : goal.loop-port-preserved
loop-port-preserved c = (
  omega (arith, c.loop-port.invariant.0, ap (λ b. b.spare) c.add.ensures),
  ap (λ b. map script_of b.items) c.add.ensures
      ∙ map-more script_of (λ port. caller_script port (reading_calls c.args.number c.args.phase port))
      0 c.loop-port.port c.loop-port.port
      c.loop-port.callers.items c.script.result (omega arith) c.loop-port.invariant.1
      (c.script.ensures ∙ ap (caller_script c.loop-port.port) c.in_ok-calls_to_read.ensures),
)
