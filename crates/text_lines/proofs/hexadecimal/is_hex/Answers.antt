use Rattle.std.proofs.Common.{rules}
use Rattle.text_lines.proofs.hexadecimal.is_hex.Goals as goal

pub returns-then-word-eq0 : goal.returns-then-word-eq0
returns-then-word-eq0 c = search rules steps 100000
