use Rattle.std.proofs.Common.{rules}
use Rattle.session_text.proofs.verbs.in_version.Goals as goal

pub returns : goal.returns
returns c = search rules steps 300000
