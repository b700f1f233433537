use Rattle.std.proofs.Common.{rules}
use Rattle.check_text.proofs.callers.Callers.number.Goals as goal

pub returns : goal.returns
returns c = search rules steps 300000
