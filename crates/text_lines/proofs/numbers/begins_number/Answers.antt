use Rattle.std.proofs.Common.{rules}
use Rattle.text_lines.proofs.numbers.begins_number.Goals as goal

pub returns-else-ne : goal.returns-else-ne
returns-else-ne c = search rules steps 100000
