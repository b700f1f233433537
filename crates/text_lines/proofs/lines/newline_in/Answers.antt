use Rattle.text_lines.proofs.Finds.{first_place}
use Rattle.text_lines.proofs.lines.newline_in.Goals as goal

pub returns : goal.returns
returns c = first_place _ c.args.text.now c.memchr.result c.memchr.ensures
