use Rattle.std.proofs.Common.{rules}
use Rattle.vt_text.proofs.reader.VtReader.read_keys.Goals as goal

pub returns-in_ok-take_keys-in-None : goal.returns-in_ok-take_keys-in-None
returns-in_ok-take_keys-in-None c = search rules steps 1000000
