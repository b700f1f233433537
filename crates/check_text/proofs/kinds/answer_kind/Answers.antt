use Rattle.std.proofs.Common.{rules}
use Rattle.check_text.proofs.kinds.answer_kind.Goals as goal

pub returns-in-Write : goal.returns-in-Write
returns-in-Write c = search rules steps 100000
