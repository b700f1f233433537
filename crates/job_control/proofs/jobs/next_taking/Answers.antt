use Rattle.std.proofs.Common.{refl, length}
use Rattle.job_control.proofs.Marks.{marks_before_next, marks_cleared, cleared_past}
use Rattle.job_control.proofs.jobs.next_taking.Goals as goal

pub returns-then-taken-lt18446744073709551615-clause-none : goal.returns-then-taken-lt18446744073709551615-clause-none
returns-then-taken-lt18446744073709551615-clause-none c =
    marks_before_next c.args.marks.now c.args.taken (length c.args.marks.now) refl c.requires

pub returns-clause-none : goal.returns-clause-none
returns-clause-none c = marks_cleared _ (length c.args.marks.now) c.clear.auto.marks c.clear.ensures

pub returns-clause-past : goal.returns-clause-past
returns-clause-past c = cleared_past _ c.clear.ensures
