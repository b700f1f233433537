use Rattle.std.proofs.Common.{take}
use Rattle.tty_calls.specs.Sessions.{session_of}
use Rattle.legal_runs.specs.Legal.{phase_at}
use Rattle.journal_check.specs.Scripts.{AreTurnsAmong}
use Rattle.journal_check.proofs.turns.open_phase.Given as goal

abbrev pub invariant-loop-place : goal.invariant-loop-place
invariant-loop-place l =
    AreTurnsAmong l.port (session_of l.session) l.phase (take l.place (phase_at (session_of l.session) l.phase).callers)
    l.turns
