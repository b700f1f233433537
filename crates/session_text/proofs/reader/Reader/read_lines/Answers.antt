use Rattle.std.proofs.Common.{rules}
use Rattle.session_text.proofs.reader.Reader.read_lines.Goals as goal

pub loop-line-preserved : goal.loop-line-preserved
loop-line-preserved c = search rules steps 1000000

pub returns-in_err-read_line : goal.returns-in_err-read_line
returns-in_err-read_line c = search rules steps 1000000
