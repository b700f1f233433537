use Rattle.tty_calls.specs.Sessions.{session_of}
use Rattle.journal_check.proofs.CheckLemmas.{SoFar}
use Rattle.journal_check.proofs.checking.check.Given as goal

abbrev pub invariant-loop-port : goal.invariant-loop-port
invariant-loop-port l = SoFar (session_of l.session) l.runs l.port l.account
