use Rattle.std.proofs.Common.{rules}
use Rattle.one_thread.proofs.after_line.rest.Goals as goal

pub returns-else-stand-eq0 : goal.returns-else-stand-eq0
returns-else-stand-eq0 c = search rules steps 100000
