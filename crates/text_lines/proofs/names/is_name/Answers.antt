use Rattle.std.proofs.Common.{rules}
use Rattle.text_lines.proofs.names.is_name.Goals as goal

pub returns-then-are_name_bytes : goal.returns-then-are_name_bytes
returns-then-are_name_bytes c = search rules steps 100000
