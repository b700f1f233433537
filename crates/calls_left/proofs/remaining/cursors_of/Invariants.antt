use Rattle.calls_left.proofs.Mixed.{HasCursors}
use Rattle.calls_left.proofs.remaining.cursors_of.Given as goal

abbrev pub invariant-loop-place : goal.invariant-loop-place
invariant-loop-place g l = HasCursors l.port l.scripts l.placed l.cursors.items l.place l.first
