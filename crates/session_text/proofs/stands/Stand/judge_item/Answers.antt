use Rattle.std.proofs.Common.{rules}
use Rattle.session_text.proofs.stands.Stand.judge_item.Goals as goal

pub returns-in-Some : goal.returns-in-Some
returns-in-Some c = search rules steps 100000
