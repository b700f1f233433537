use Rattle.std.proofs.Common.{rules}
use Rattle.session_text.proofs.reader.Reader.is_ended.Goals as goal

pub returns-in_default : goal.returns-in_default
returns-in_default c = search rules steps 100000
