use Rattle.std.proofs.Common.{rules}
use Rattle.text_lines.proofs.lines.word_at.Goals as goal

pub loop-init : goal.loop-init
loop-init c = search rules steps 100000
