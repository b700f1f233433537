use Rattle.std.proofs.Common.{sym, ◌∙◌}
use Rattle.tty_calls.specs.Sessions.{session_of}
use Rattle.journal_check.proofs.TurnLemmas.{opened_turns, skipped_turns}
use Rattle.journal_check.proofs.turns.open_phase.Goals as goal
use Rattle.journal_check.proofs.turns.open_phase.Goals.{then-from-port+in_ok-open_script, else-from-port}

pub loop-place-preserved : goal.loop-place-preserved
loop-place-preserved c =
    elim c.if-from-port.branch [
      | then-from-port+in_ok-open_script w ↦
          opened_turns c.args.port (session_of c.args.session.now) c.args.phase c.loop-place.place c.loop-place.turns
          c.if-from-port.turns c.args.names.now c.scripts_of-scripts.result.now c.index-scripts-place.result
          c.scripts_of-scripts.ensures c.index-scripts-place.is c.loop-place-test.true
          (sym c.from.ensures ∙ w.if-from-port.true) c.requires.names (w.turns-is ∙ w.in_ok-open_script.ensures)
          c.loop-place.invariant
      | else-from-port w ↦
          skipped_turns c.args.port (session_of c.args.session.now) c.args.phase c.loop-place.place c.loop-place.turns
          c.if-from-port.turns c.scripts_of-scripts.result.now c.index-scripts-place.result
          c.scripts_of-scripts.ensures c.index-scripts-place.is c.loop-place-test.true
          (λ is. w.if-from-port.false (c.from.ensures ∙ is)) w.turns-is c.loop-place.invariant
    ]
