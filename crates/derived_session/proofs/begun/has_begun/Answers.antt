use Rattle.std.proofs.Common.{rules}
use Rattle.derived_session.proofs.begun.has_begun.Goals as goal

pub returns-in-Answer : goal.returns-in-Answer
returns-in-Answer c = search rules steps 100000
