use Rattle.tty_calls.specs.Sessions.{session_of}
use Rattle.journal_check.specs.Receipts.{HasReceived}
use Rattle.journal_check.proofs.lines.received_on.Given as goal

abbrev pub invariant-loop-phase : goal.invariant-loop-phase
invariant-loop-phase l = HasReceived l.port (session_of l.session) l.overruns l.phase l.line l.chars l.received l.next
