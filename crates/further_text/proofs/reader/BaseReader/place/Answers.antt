use Rattle.std.proofs.Common.{rules}
use Rattle.further_text.proofs.reader.BaseReader.place.Goals as goal

pub returns : goal.returns
returns c = search rules steps 100000
