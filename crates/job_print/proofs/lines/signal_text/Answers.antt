use Rattle.std.proofs.Common.{rules}
use Rattle.job_print.proofs.lines.signal_text.Goals as goal

pub returns-in-Ttin : goal.returns-in-Ttin
returns-in-Ttin c = search rules steps 100000
