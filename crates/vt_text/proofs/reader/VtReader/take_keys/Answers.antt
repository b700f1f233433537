use Rattle.std.proofs.Common.{rules}
use Rattle.vt_text.proofs.reader.VtReader.take_keys.Goals as goal

pub returns : goal.returns
returns c = search rules steps 1000000
