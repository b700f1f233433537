use Rattle.std.proofs.Common.{take}
use Rattle.tty_calls.specs.Sessions.{session_of}
use Rattle.journal_check.specs.Replaying.{Follows}
use Rattle.journal_check.proofs.judging.first_wrong_of.Given as goal

abbrev pub invariant-loop-place : goal.invariant-loop-place
invariant-loop-place l = Follows l.port (session_of l.session) (take l.place l.journal.items) l.replay
