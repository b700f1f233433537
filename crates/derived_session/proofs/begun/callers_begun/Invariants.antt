use Rattle.std.proofs.Common.{drop}
use Rattle.derived_session.proofs.Beginning.{AreBegun}
use Rattle.derived_session.proofs.begun.callers_begun.Given as goal

abbrev pub invariant-loop-place : goal.invariant-loop-place
invariant-loop-place l = AreBegun l.callers l.journal.items l.begun.items (drop l.place l.journal.items)
