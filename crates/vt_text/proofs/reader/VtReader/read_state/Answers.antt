use Rattle.std.proofs.Common.{rules}
use Rattle.vt_text.proofs.reader.VtReader.read_state.Goals as goal

pub returns-in_ok-take_call-in-None : goal.returns-in_ok-take_call-in-None
returns-in_ok-take_call-in-None c = search rules steps 1000000
