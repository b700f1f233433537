use Rattle.text_lines.proofs.Finds.{first_blank}
use Rattle.text_lines.proofs.lines.first_blank.Goals as goal

pub returns : goal.returns
returns c = first_blank c.args.line.now c.memchr3.result c.memchr3.ensures
