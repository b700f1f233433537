use Rattle.std.proofs.Common.{rules}
use Rattle.derived_session.proofs.calls.further_place.Goals as goal

pub returns-then-at-place : goal.returns-then-at-place
returns-then-at-place c = search rules steps 300000
