use Rattle.std.proofs.Common.{rules}
use Rattle.further_text.proofs.reader.BaseReader.spend.Goals as goal

pub returns : goal.returns
returns c = search rules steps 1000000
