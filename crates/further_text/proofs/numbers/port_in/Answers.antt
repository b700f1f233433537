use Rattle.std.proofs.Common.{rules}
use Rattle.further_text.proofs.numbers.port_in.Goals as goal

pub returns-then-number-from : goal.returns-then-number-from
returns-then-number-from c = search rules steps 100000
