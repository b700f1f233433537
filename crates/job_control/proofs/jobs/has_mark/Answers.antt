use Rattle.std.proofs.Common.{◌∙◌, sym}
use Rattle.job_control.proofs.Marks.{mark_at}
use Rattle.job_control.proofs.jobs.has_mark.Goals as goal

pub returns : goal.returns
returns c = c.was_marked.ensures ∙ sym (mark_at c.args.marks.now c.args.taken c.args.place)
