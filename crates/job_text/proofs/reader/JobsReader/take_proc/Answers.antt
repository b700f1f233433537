use Rattle.std.proofs.Common.{sym, ◌∙◌}
use Rattle.job_text.proofs.Tables.{not_stood}
use Rattle.job_text.proofs.reader.JobsReader.take_proc.Goals as goal

pub add-requires-clause-first : goal.add-requires-clause-first
add-requires-clause-first c = not_stood _ _ (sym c.has_stood.ensures ∙ c.if-has_stood.false)
