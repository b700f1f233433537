use Rattle.std.proofs.Common.{rules}
use Rattle.job_text.proofs.reader.has_stood.Goals as goal

pub returns-then-proc : goal.returns-then-proc
returns-then-proc c = search rules steps 300000

pub returns-else-proc : goal.returns-else-proc
returns-else-proc c = search rules steps 300000

pub returns-then-is_some : goal.returns-then-is_some
returns-then-is_some c = search rules steps 300000
